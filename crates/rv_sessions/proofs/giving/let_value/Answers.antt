use Rattle.std.proofs.Common.{Result, Ok, refl, sym, ap, subst}
use Rattle.rel_model.proofs.Workers.{keeps_stands}
use Rattle.rel_model.specs.declared.NoMemory.{NoMemory as LACK}
use Rattle.rv_sessions.specs.declared.told.Told.{Told}
use Rattle.rv_sessions.specs.Acting.{DidItem}
use Rattle.rv_sessions.proofs.Telling.{plain, untouched}
use Rattle.rv_sessions.proofs.Items.{let_item}
use Rattle.rv_sessions.proofs.Acting.{unread_did}
use Rattle.rv_sessions.proofs.Assigning.{value_stands, let_ok, let_err, value_not_done, let_refused}
use Rattle.run_model.specs.Due.{Value}
use Rattle.lang_model.specs.declared.syntax.Item.TheVariants.{Command as COMMAND}
use Rattle.lang_model.specs.declared.syntax.Command.TheVariants.{Let as LET}
use Rattle.rv_sessions.proofs.giving.let_value.Goals as goal

pub returns-in_default : goal.returns-in_default
returns-in_default g c input snaps i stood =
    let a = c.args in
    let w = g.E.Core.worker a.seat.now.engine in
    unread_did g.E.Core.least input a.task.now.checked.now a.task.now.by.session a.task.now.by.command (COMMAND (LET a.name.now a.expr.now)) a.expr.now Value w w
    a.seat.now.pass a.seat.now.pass snaps (let_item a.name.now a.expr.now) stood (untouched w a.seat.now.pass)

pub assign_turn-requires-clause-stands : goal.assign_turn-requires-clause-stands
assign_turn-requires-clause-stands g c =
    let a = c.args in
    let w = g.E.Core.worker in
    let p = plain a.task.now.turns in
    value_stands g.E.Core.least p a.task.now.checked.now a.task.now.by.session a.task.now.by.command a.expr.now (w a.seat.now.engine) (w c.value_in_turn.new.seat.engine)
    a.seat.now.pass c.value_in_turn.new.seat.pass c.in-Ok-value_in_turn.rel (c.in-Ok-value_in_turn.ensures.value p refl)

pub refused-requires : goal.refused-requires
refused-requires g c =
    let a = c.args in
    let w = g.E.Core.worker in
    let p = plain a.task.now.turns in
    value_not_done g.E.Core.least p a.task.now.checked.now a.task.now.by.session a.task.now.by.command a.expr.now (w a.seat.now.engine) (w c.value_in_turn.new.seat.engine)
    a.seat.now.pass c.value_in_turn.new.seat.pass c.in-Err.outcome (c.in-Err.ensures.value p refl)

pub returns-in-Err : goal.returns-in-Err
returns-in-Err g c input snaps i stood =
    let a = c.args in
    let w = g.E.Core.worker in
    let_refused g.E.Core.least input a.task.now.checked.now a.task.now.by.session a.task.now.by.command a.name.now a.expr.now (w a.seat.now.engine) (w c.value_in_turn.new.seat.engine)
    a.seat.now.pass c.value_in_turn.new.seat.pass snaps stood c.in-Err.outcome c.refused.result (c.in-Err.ensures.value input i) c.refused.ensures

pub returns-in-Ok-assign_turn : goal.returns-in-Ok-assign_turn
returns-in-Ok-assign_turn g c input snaps i stood =
    let a = c.args in
    let w = g.E.Core.worker in
    let n = w c.assign_turn.new.seat.engine in
    let r = c.in-Ok-value_in_turn.rel in
    let v = c.in-Ok-value_in_turn.ensures.value input i in
    let t = c.in-Ok-assign_turn.ensures.assigned in
    let st = value_stands g.E.Core.least input a.task.now.checked.now a.task.now.by.session a.task.now.by.command a.expr.now (w a.seat.now.engine) (w c.value_in_turn.new.seat.engine)
    a.seat.now.pass c.value_in_turn.new.seat.pass r v in
    let stays = keeps_stands (w c.value_in_turn.new.seat.engine) n r t.1.stays.keeps st in
    let P : Result Told LACK → Type 0 = λ x. DidItem g.E.Core.least input a.task.now.checked.now a.task.now.by.session a.task.now.by.command (COMMAND (LET a.name.now a.expr.now)) (w a.seat.now.engine) n
    a.seat.now.pass c.assign_turn.new.seat.pass snaps snaps x in
    subst P (sym (ap (λ x. Ok x) c.done.ensures))
    (let_ok g.E.Core.least input a.task.now.checked.now a.task.now.by.session a.task.now.by.command a.name.now a.expr.now (w a.seat.now.engine) (w c.value_in_turn.new.seat.engine) n
    a.seat.now.pass c.value_in_turn.new.seat.pass c.assign_turn.new.seat.pass snaps r stood v c.in-Ok.own c.in-Ok.ensures t
    (g.met.E.Core.row_size c.assign_turn.new.seat.engine r stays) (g.met.E.Core.col_size c.assign_turn.new.seat.engine r stays))

pub returns-in-Err-assign_turn : goal.returns-in-Err-assign_turn
returns-in-Err-assign_turn g c input snaps i stood =
    let a = c.args in
    let w = g.E.Core.worker in
    let_err g.E.Core.least input a.task.now.checked.now a.task.now.by.session a.task.now.by.command a.name.now a.expr.now (w a.seat.now.engine) (w c.value_in_turn.new.seat.engine)
    (w c.assign_turn.new.seat.engine) a.seat.now.pass c.value_in_turn.new.seat.pass c.assign_turn.new.seat.pass snaps c.in-Ok-value_in_turn.rel stood
    (c.in-Ok-value_in_turn.ensures.value input i) c.in-Err-assign_turn.ensures.assigned
