use Rattle.std.proofs.Common.{Result, Ok, refl, sym, ap, subst}
use Rattle.lang_model.specs.declared.syntax.Item.TheVariants.{Command as COMMAND}
use Rattle.lang_model.specs.declared.syntax.Command.TheVariants.{Load as LOAD}
use Rattle.rel_model.specs.declared.NoMemory.{NoMemory as LACK}
use Rattle.rv_sessions.specs.declared.told.Told.{Told}
use Rattle.rv_sessions.specs.Acting.{DidItem}
use Rattle.rv_sessions.proofs.Acting.{through_nothing}
use Rattle.rv_sessions.proofs.Loads.{load_lacks, load_item, read_lacks, read_refused, read_given}
use Rattle.rv_sessions.proofs.loading.loaded.Goals as goal

pub returns-in_default : goal.returns-in_default
returns-in_default g c input script snaps there stood =
    let a = c.args in
    load_lacks g.E.Core.least input script a.task.now.by.session a.task.now.by.command (g.E.Core.worker a.seat.now.engine) a.seat.now.pass snaps stood a.name.now a.file.now

pub returns-in-Err : goal.returns-in-Err
returns-in-Err g c input script snaps there stood =
    let a = c.args in
    let w = g.E.Core.worker in
    let r = c.in-Err.ensures in
    read_refused (load_item g.E.Core.least input script a.name.now a.file.now a.bytes.now there) a.task.now.by.session a.task.now.by.command (w a.seat.now.engine) (w c.read_one.new.engine)
    a.seat.now.pass snaps stood r.keeps (r.room a.file.now) c.in-Err.kind r.read c.not_read.result c.not_read.ensures

pub returns-in-Ok-assign_turn : goal.returns-in-Ok-assign_turn
returns-in-Ok-assign_turn g c input script snaps there stood =
    let a = c.args in
    let w = g.E.Core.worker in
    let r = c.in-Ok-read_one.ensures in
    let x = load_item g.E.Core.least input script a.name.now a.file.now a.bytes.now there in
    let P : Result Told LACK → Type 0 = λ y. DidItem g.E.Core.least input script a.task.now.by.session a.task.now.by.command (COMMAND (LOAD a.name.now a.file.now)) (w a.seat.now.engine)
    (w c.assign_turn.new.seat.engine) a.seat.now.pass c.assign_turn.new.seat.pass snaps snaps y in
    subst P (sym (ap (λ y. Ok y) c.done.ensures))
    (read_given x a.task.now.by.session a.task.now.by.command (w a.seat.now.engine) (w c.read_one.new.engine) a.seat.now.pass snaps stood r.keeps (r.room a.file.now)
    (w c.assign_turn.new.seat.engine) c.assign_turn.new.seat.pass a.name.now c.in-Ok.own c.in-Ok-read_one.rel c.in-Ok.ensures
    refl (λ v. refl) (λ numbers v. refl) (λ v. refl) r.read c.in-Ok-assign_turn.ensures.assigned)

pub returns-in-Err-assign_turn : goal.returns-in-Err-assign_turn
returns-in-Err-assign_turn g c input script snaps there stood =
    let a = c.args in
    let w = g.E.Core.worker in
    let r = c.in-Ok-read_one.ensures in
    let t = c.in-Err-assign_turn.ensures.assigned in
    read_lacks (load_item g.E.Core.least input script a.name.now a.file.now a.bytes.now there) a.task.now.by.session a.task.now.by.command (w a.seat.now.engine) (w c.read_one.new.engine)
    a.seat.now.pass snaps stood r.keeps (r.room a.file.now) (w c.assign_turn.new.seat.engine) c.assign_turn.new.seat.pass (through_nothing t.1) t.1.stays.keeps t.1.stays.made
