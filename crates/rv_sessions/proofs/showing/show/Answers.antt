use Rattle.std.proofs.Common.{refl}
use Rattle.rv_sessions.proofs.Telling.{plain, shown_not_done, show_ok, show_err}
use Rattle.rv_sessions.proofs.showing.show.Goals as goal

pub refused-requires : goal.refused-requires
refused-requires g c =
    let a = c.args in
    let w = g.E.Core.worker in
    let p = plain a.task.now.turns in
    shown_not_done g.E.Core.least a.form p a.task.now.checked.now a.task.now.by.session a.task.now.by.command a.expr.now (w a.seat.now.engine)
    (w c.shown_in_turn.new.seat.engine) a.seat.now.pass c.shown_in_turn.new.seat.pass c.in-Err.outcome (c.in-Err.ensures p refl)

pub returns-in-Ok : goal.returns-in-Ok
returns-in-Ok g c input snaps item i stood v =
    let a = c.args in
    let w = g.E.Core.worker in
    show_ok g.E.Core.least a.form input a.task.now.checked.now a.task.now.by.session a.task.now.by.command item a.expr.now (w a.seat.now.engine)
    (w c.shown_in_turn.new.seat.engine) a.seat.now.pass c.shown_in_turn.new.seat.pass snaps c.in-Ok.body.items v stood (c.in-Ok.ensures input i)

pub returns-in-Err : goal.returns-in-Err
returns-in-Err g c input snaps item i stood v =
    let a = c.args in
    let w = g.E.Core.worker in
    show_err g.E.Core.least a.form input a.task.now.checked.now a.task.now.by.session a.task.now.by.command item a.expr.now (w a.seat.now.engine)
    (w c.shown_in_turn.new.seat.engine) a.seat.now.pass c.shown_in_turn.new.seat.pass snaps c.in-Err.outcome c.refused.result
    v stood (c.in-Err.ensures input i) c.refused.ensures
