use Rattle.std.proofs.Common.{◌∙◌}
use Rattle.lang_model.specs.Trees.{tree_of}
use Rattle.lang_model.specs.Rewriting.{steps_of}
use Rattle.lang_model.specs.Eval.{early_fault}
use Rattle.rv_eval.specs.Names.{HasSizes, state_of}
use Rattle.rv_sessions.proofs.Acting.{not_read}
use Rattle.rv_sessions.proofs.Explaining.{explained_not_done, explain_unread, explain_done, explain_refused}
use Rattle.rv_sessions.specs.Standing.{first_names}
use Rattle.rv_sessions.proofs.Looking.{wanted_stand}
use Rattle.rv_sessions.proofs.Telling.{untouched}
use Rattle.rv_sessions.proofs.explain.explained.Goals as goal

pub returns-in_default : goal.returns-in_default
returns-in_default g c input snaps stood =
    let a = c.args in
    let w = g.E.Core.worker a.seat.now.engine in
    explain_unread g.E.Core.least input a.task.now.checked.now a.task.now.by.session a.task.now.by.command a.expr.now w w a.seat.now.pass a.seat.now.pass snaps stood (untouched w a.seat.now.pass)

pub returns-in-Err : goal.returns-in-Err
returns-in-Err g c input snaps stood =
    let a = c.args in
    let w = g.E.Core.worker in
    explain_unread g.E.Core.least input a.task.now.checked.now a.task.now.by.session a.task.now.by.command a.expr.now (w a.seat.now.engine) (w c.read_turn.new.seat.engine) a.seat.now.pass
    c.read_turn.new.seat.pass snaps stood (not_read c.in-Err.ensures.read.1)

pub returns-in-Ok-explained_on : goal.returns-in-Ok-explained_on
returns-in-Ok-explained_on g c input snaps stood =
    let a = c.args in
    let w = g.E.Core.worker in
    let new = w c.read_turn.new.seat.engine in
    let r = c.in-Ok-read_turn.ensures.read in
    let ws = c.as_slice.result.now in
    let names = c.as_slice-2.result.now in
    let n = c.as_slice-2.ensures.value ∙ r.2 in
    let sizes : HasSizes new = record { rows = g.met.E.Core.row_size c.read_turn.new.seat.engine; cols = g.met.E.Core.col_size c.read_turn.new.seat.engine } in
    explain_done g.E.Core.least input a.task.now.checked.now a.task.now.by.session a.task.now.by.command a.expr.now (w a.seat.now.engine) new a.seat.now.pass c.read_turn.new.seat.pass snaps stood
    r.0 r.1 ws names (c.as_slice.ensures.value ∙ c.in-Ok.ensures) n c.in-Ok-explained_on.body.items
    (c.in-Ok-explained_on.ensures new sizes (wanted_stand new ws (first_names a.seat.now.pass) r.0 names r.1.first_stand r.1.stand n))

pub refused-requires : goal.refused-requires
refused-requires g c =
    let a = c.args in
    let new = g.E.Core.worker c.read_turn.new.seat.engine in
    let r = c.in-Ok-read_turn.ensures.read in
    let ws = c.as_slice.result.now in
    let names = c.as_slice-2.result.now in
    let sizes : HasSizes new = record { rows = g.met.E.Core.row_size c.read_turn.new.seat.engine; cols = g.met.E.Core.col_size c.read_turn.new.seat.engine } in
    explained_not_done (early_fault a.task.now.checked.now (state_of new names) a.expr.now) (steps_of (tree_of a.expr.now)) c.in-Err-explained_on.outcome
    (c.in-Err-explained_on.ensures new sizes (wanted_stand new ws (first_names a.seat.now.pass) r.0 names r.1.first_stand r.1.stand (c.as_slice-2.ensures.value ∙ r.2)))

pub returns : goal.returns
returns g c input snaps stood =
    let a = c.args in
    let w = g.E.Core.worker in
    let new = w c.read_turn.new.seat.engine in
    let r = c.in-Ok-read_turn.ensures.read in
    let ws = c.as_slice.result.now in
    let names = c.as_slice-2.result.now in
    let n = c.as_slice-2.ensures.value ∙ r.2 in
    let sizes : HasSizes new = record { rows = g.met.E.Core.row_size c.read_turn.new.seat.engine; cols = g.met.E.Core.col_size c.read_turn.new.seat.engine } in
    explain_refused g.E.Core.least input a.task.now.checked.now a.task.now.by.session a.task.now.by.command a.expr.now (w a.seat.now.engine) new a.seat.now.pass c.read_turn.new.seat.pass snaps stood
    r.0 r.1 ws names (c.as_slice.ensures.value ∙ c.in-Ok.ensures) n c.in-Err-explained_on.outcome c.refused.result
    (c.in-Err-explained_on.ensures new sizes (wanted_stand new ws (first_names a.seat.now.pass) r.0 names r.1.first_stand r.1.stand n)) c.refused.ensures
