use Rattle.std.proofs.Common.{Ok, Err, refl}
use Rattle.rel_model.specs.Worker.{Stands, set_of}
use Rattle.run_model.specs.Due.{saved}
use Rattle.run_model.specs.declared.outcome.Outcome.TheVariants.{TooLong}
use Rattle.run_model.specs.Files.{bits_count}
use Rattle.run_model.specs.Limits.{save_limit}
use Rattle.rv_sessions.specs.declared.form.Form.TheVariants.{File}
use Rattle.rv_sessions.proofs.Shown.{within_due, write_due}
use Rattle.rv_sessions.proofs.Valuing.{shown_over}
use Rattle.rv_sessions.proofs.value.filed_on.Goals as goal

pub write_k2-requires : goal.write_k2-requires
write_k2-requires g c = c.in-Ok.ensures.came.0

pub returns-in-Err : goal.returns-in-Err
returns-in-Err g c = let s = c.in-Err.ensures in record { came = s.came saved; keeps = s.keeps; room = s.room }

pub returns-in-Ok-write_k2 : goal.returns-in-Ok-write_k2
returns-in-Ok-write_k2 g c =
    let r = set_of (g.E.Core.worker c.value_on.new.engine) c.in-Ok.rel in
    let m = c.in-Ok-write_k2.ensures in
    shown_over Stands set_of File (Ok c.in-Ok-write_k2.bytes.items) c.in-Ok.ensures m.keeps m.room
    (within_due save_limit (bits_count r) (TooLong (bits_count r)) r m.within, m.text)

pub returns-in-Err-write_k2 : goal.returns-in-Err-write_k2
returns-in-Err-write_k2 g c =
    let r = set_of (g.E.Core.worker c.value_on.new.engine) c.in-Ok.rel in
    let m = c.in-Err-write_k2.ensures in
    shown_over Stands set_of File (Err c.write_outcome.result) c.in-Ok.ensures m.keeps m.room
    (write_due (bits_count r) r (saved r) c.write_outcome.result c.in-Err-write_k2.refused refl m.over
    c.write_outcome.ensures)
