use Rattle.std.proofs.Common.{◌∙◌, Err, sym, ap, subst}
use Rattle.rv_sessions.specs.Turning.{DropTurn}
use Rattle.lang_model.specs.declared.syntax.Item.TheVariants.{Command as COMMAND}
use Rattle.lang_model.specs.declared.syntax.Command.TheVariants.{Remove as DROP}
use Rattle.rv_sessions.specs.Doing.{Did}
use Rattle.rv_sessions.specs.Telling.{text_of, saved_by}
use Rattle.rv_sessions.proofs.Asking.{drop_done, drop_unknown, drop_lacks}
use Rattle.rv_sessions.proofs.dropping.drop_name.Goals as goal

pub returns-in-Ok : goal.returns-in-Ok
returns-in-Ok g c input script snaps stood =
    let a = c.args in
    let w = g.E.Core.worker in
    subst (λ z. Did g.E.Core.least input script a.task.now.by.session a.task.now.by.command (COMMAND (DROP a.at a.name.now)) (w a.seat.now.engine)
    (w c.drop_turn.new.seat.engine) a.seat.now.pass c.drop_turn.new.seat.pass snaps snaps z.outcome (text_of z.reply) (saved_by z.save)) (sym c.done.ensures)
    (drop_done g.E.Core.least input script a.task.now.by.session a.task.now.by.command a.at a.name.now (w a.seat.now.engine) (w c.drop_turn.new.seat.engine)
    a.seat.now.pass c.drop_turn.new.seat.pass snaps stood c.in-Ok.ensures.dropped)

pub returns-in-Err-NoMemory : goal.returns-in-Err-NoMemory
returns-in-Err-NoMemory g c input script snaps stood =
    let a = c.args in
    let w = g.E.Core.worker in
    drop_lacks g.E.Core.least input script a.task.now.by.session a.task.now.by.command a.at a.name.now (w a.seat.now.engine) (w c.drop_turn.new.seat.engine)
    a.seat.now.pass c.drop_turn.new.seat.pass snaps stood (subst (DropTurn a.task.now.by.session a.task.now.by.command a.name.now (w a.seat.now.engine) (w c.drop_turn.new.seat.engine) a.seat.now.pass c.drop_turn.new.seat.pass) (c.in-Err-NoMemory.is ∙ ap (λ x. Err x) c.in-Err-NoMemory.field-0-is) c.drop_turn.ensures.dropped)

pub returns-in-Err-Unknown : goal.returns-in-Err-Unknown
returns-in-Err-Unknown g c input script snaps stood =
    let a = c.args in
    let w = g.E.Core.worker in
    drop_unknown g.E.Core.least input script a.task.now.by.session a.task.now.by.command a.at a.name.now (w a.seat.now.engine) (w c.drop_turn.new.seat.engine)
    a.seat.now.pass c.drop_turn.new.seat.pass snaps stood c.in-Err-Unknown.name c.refused.result (subst (DropTurn a.task.now.by.session a.task.now.by.command a.name.now (w a.seat.now.engine) (w c.drop_turn.new.seat.engine) a.seat.now.pass c.drop_turn.new.seat.pass) (c.in-Err-Unknown.is ∙ ap (λ x. Err x) c.in-Err-Unknown.field-0-is) c.drop_turn.ensures.dropped) c.refused.ensures
