use Rattle.std.proofs.Common.{Result, Ok, sym, ap, subst}
use Rattle.lang_model.specs.declared.syntax.Item.TheVariants.{Command as COMMAND}
use Rattle.lang_model.specs.declared.syntax.Command.TheVariants.{LoadAll as LOAD_ALL}
use Rattle.rel_model.specs.declared.NoMemory.{NoMemory as LACK}
use Rattle.rv_eval.specs.Names.{HasSizes}
use Rattle.rv_sessions.specs.declared.told.Told.{Told}
use Rattle.rv_sessions.specs.Acting.{DidItem}
use Rattle.rv_sessions.proofs.Acting.{through_nothing}
use Rattle.rv_sessions.proofs.Loads.{all_item, read_lacks, read_refused, all_given}
use Rattle.rv_sessions.proofs.loading.loaded_all.Goals as goal

pub returns-in-Err : goal.returns-in-Err
returns-in-Err g c input script snaps there stood =
    let a = c.args in
    let w = g.E.Core.worker in
    let r = c.in-Err.ensures in
    read_refused (all_item g.E.Core.least input script a.file.now a.bytes.now there) a.task.now.by.session a.task.now.by.command (w a.seat.now.engine) (w c.read_all.new.engine)
    a.seat.now.pass snaps stood r.keeps (r.room a.file.now) c.in-Err.kind r.read c.not_read.result c.not_read.ensures

pub returns-in-Ok-assign_all_turn : goal.returns-in-Ok-assign_all_turn
returns-in-Ok-assign_all_turn g c input script snaps there stood =
    let a = c.args in
    let w = g.E.Core.worker in
    let r = c.in-Ok.ensures in
    let x = all_item g.E.Core.least input script a.file.now a.bytes.now there in
    let e = c.assign_all_turn.new.seat.engine in
    let sizes : HasSizes (w e) = record { rows = g.met.E.Core.row_size e; cols = g.met.E.Core.col_size e } in
    let P : Result Told LACK → Type 0 = λ y. DidItem g.E.Core.least input script a.task.now.by.session a.task.now.by.command (COMMAND (LOAD_ALL a.file.now)) (w a.seat.now.engine)
    (w e) a.seat.now.pass c.assign_all_turn.new.seat.pass snaps snaps y in
    subst P (sym (ap (λ y. Ok y) c.done.ensures))
    (all_given x a.task.now.by.session a.task.now.by.command (w a.seat.now.engine) (w c.read_all.new.engine) (w e) a.seat.now.pass c.assign_all_turn.new.seat.pass snaps stood r.keeps (r.room a.file.now)
    sizes c.in-Ok.list.items r.read.0 r.read.1 c.in-Ok-assign_all_turn.ensures.assigned)

pub returns-in-Err-assign_all_turn : goal.returns-in-Err-assign_all_turn
returns-in-Err-assign_all_turn g c input script snaps there stood =
    let a = c.args in
    let w = g.E.Core.worker in
    let r = c.in-Ok.ensures in
    let t = c.in-Err-assign_all_turn.ensures.assigned in
    read_lacks (all_item g.E.Core.least input script a.file.now a.bytes.now there) a.task.now.by.session a.task.now.by.command (w a.seat.now.engine) (w c.read_all.new.engine)
    a.seat.now.pass snaps stood r.keeps (r.room a.file.now) (w c.assign_all_turn.new.seat.engine) c.assign_all_turn.new.seat.pass (through_nothing t.1) t.1.stays.keeps t.1.stays.made
