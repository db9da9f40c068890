use Rattle.std.proofs.Common.{Ok, refl}
use Rattle.run_model.specs.Due.{Value}
use Rattle.rel_slices.specs.Thin.{value_of}
use Rattle.rel_values.specs.Values.{Fits}
use Rattle.rv_sessions.specs.declared.form.Form.TheVariants.{Count}
use Rattle.rv_sessions.proofs.Valuing.{shown_over, lacked_over}
use Rattle.rv_sessions.proofs.value.counted_on.Goals as goal

pub count-requires : goal.count-requires
count-requires g c = c.in-Ok.ensures.came.0.stands

pub returns-in-Err : goal.returns-in-Err
returns-in-Err g c = let s = c.in-Err.ensures in record { came = s.came Value; keeps = s.keeps; room = s.room }

pub returns-in-Ok-number_line : goal.returns-in-Ok-number_line
returns-in-Ok-number_line g c =
    let r = value_of (g.E.Core.worker c.any_value_on.new.engine) c.in-Ok.value in
    shown_over Fits value_of Count (Ok c.in-Ok-number_line.text.items) c.in-Ok.ensures c.count.ensures.keeps
    c.count.ensures.room (refl, c.in-Ok-number_line.ensures r c.in-Ok-count.ensures.value)

pub returns-in-Err-number_line : goal.returns-in-Err-number_line
returns-in-Err-number_line g c =
    lacked_over Fits value_of Count c.in-Ok.ensures c.count.ensures.keeps c.count.ensures.room

pub returns-in-Err-count : goal.returns-in-Err-count
returns-in-Err-count g c =
    lacked_over Fits value_of Count c.in-Ok.ensures c.count.ensures.keeps c.count.ensures.room
