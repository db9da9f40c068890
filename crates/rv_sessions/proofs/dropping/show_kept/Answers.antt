use Rattle.std.proofs.Common.{◌∙◌, Some, sym, ap, subst}
use Rattle.run_model.specs.Due.{printed}
use Rattle.lang_model.specs.Eval.{evaluated}
use Rattle.rv_eval.specs.Names.{state_of}
use Rattle.rv_workspace.specs.Books.{AllNamesStand}
use Rattle.rv_sessions.proofs.Looking.{snap_stands}
use Rattle.rv_sessions.proofs.Telling.{stopped_not_done}
use Rattle.rv_sessions.proofs.Asking.{at_shown, at_stopped}
use Rattle.rv_sessions.proofs.dropping.show_kept.Goals as goal

pub shown_on-requires : goal.shown_on-requires
shown_on-requires g c =
    let a = c.args in
    let w = g.E.Core.worker a.engine.now in
    record {
      standing = snap_stands w c.as_slice.result.now (subst (AllNamesStand w) (sym c.as_slice.ensures.value) c.requires.stood);
    }

pub returns-in-Ok : goal.returns-in-Ok
returns-in-Ok g c input pass snaps at name i stood there =
    let a = c.args in
    let w = g.E.Core.worker in
    let s = c.in-Ok.ensures in
    at_shown g.E.Core.least input a.task.now.checked.now a.task.now.by.session a.task.now.by.command at name a.expr.now (w a.engine.now) pass snaps stood (w c.shown_on.new.engine)
    c.as_slice.result.now (there ∙ ap Some (sym c.as_slice.ensures.value)) s.keeps a.task.now.turns i c.in-Ok.body.items s.came s.room

pub refused-requires : goal.refused-requires
refused-requires g c =
    let a = c.args in
    let w = g.E.Core.worker in
    stopped_not_done (w a.engine.now) (w c.shown_on.new.engine) a.expr.now a.task.now.turns (evaluated a.task.now.checked.now (state_of (w a.engine.now) c.as_slice.result.now) a.expr.now a.task.now.turns)
    printed c.in-Err.outcome c.in-Err.ensures.came

pub returns-in-Err : goal.returns-in-Err
returns-in-Err g c input pass snaps at name i stood there =
    let a = c.args in
    let w = g.E.Core.worker in
    let s = c.in-Err.ensures in
    at_stopped g.E.Core.least input a.task.now.checked.now a.task.now.by.session a.task.now.by.command at name a.expr.now (w a.engine.now) pass snaps stood (w c.shown_on.new.engine)
    c.as_slice.result.now (there ∙ ap Some (sym c.as_slice.ensures.value)) s.keeps a.task.now.turns i c.in-Err.outcome c.refused.result s.came s.room c.refused.ensures
