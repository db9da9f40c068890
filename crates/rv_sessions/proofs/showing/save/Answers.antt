use Rattle.std.proofs.Common.{refl}
use Rattle.run_model.specs.Due.{saved}
use Rattle.rv_sessions.specs.declared.form.Form.TheVariants.{File}
use Rattle.rv_sessions.proofs.Acting.{unread_did}
use Rattle.rv_sessions.proofs.Telling.{plain, untouched, shown_not_done, save_ok, save_err}
use Rattle.rv_sessions.proofs.showing.save.Goals as goal

pub returns-in_default : goal.returns-in_default
returns-in_default g c input snaps item i stood v =
    let a = c.args in
    let w = g.E.Core.worker a.seat.now.engine in
    unread_did g.E.Core.least input a.task.now.checked.now a.task.now.by.session a.task.now.by.command item a.expr.now saved w w a.seat.now.pass a.seat.now.pass snaps v.reading stood
    (untouched w a.seat.now.pass)

pub refused-requires : goal.refused-requires
refused-requires g c =
    let a = c.args in
    let w = g.E.Core.worker in
    let p = plain a.task.now.turns in
    shown_not_done g.E.Core.least File p a.task.now.checked.now a.task.now.by.session a.task.now.by.command a.expr.now (w a.seat.now.engine)
    (w c.shown_in_turn.new.seat.engine) a.seat.now.pass c.shown_in_turn.new.seat.pass c.in-Err.outcome (c.in-Err.ensures p refl)

pub returns : goal.returns
returns g c input snaps item i stood v =
    let a = c.args in
    let w = g.E.Core.worker in
    save_ok g.E.Core.least File input a.task.now.checked.now a.task.now.by.session a.task.now.by.command item a.expr.now (w a.seat.now.engine)
    (w c.shown_in_turn.new.seat.engine) a.seat.now.pass c.shown_in_turn.new.seat.pass snaps a.file.now c.in-Ok.name c.in-Ok-shown_in_turn.bytes.items
    c.in-Ok.ensures v stood (c.in-Ok-shown_in_turn.ensures input i)

pub returns-in-Err : goal.returns-in-Err
returns-in-Err g c input snaps item i stood v =
    let a = c.args in
    let w = g.E.Core.worker in
    save_err g.E.Core.least File input a.task.now.checked.now a.task.now.by.session a.task.now.by.command item a.expr.now (w a.seat.now.engine)
    (w c.shown_in_turn.new.seat.engine) a.seat.now.pass c.shown_in_turn.new.seat.pass snaps a.file.now c.in-Err.outcome c.refused.result
    v stood (c.in-Err.ensures input i) c.refused.ensures
