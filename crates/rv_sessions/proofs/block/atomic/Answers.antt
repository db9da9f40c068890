use Rattle.std.proofs.Common.{◌∙◌, Ok, Err, sym, ap, subst}
use Rattle.run_model.specs.Blocks.{block_reads}
use Rattle.run_model.specs.Due.{Values}
use Rattle.rv_eval.specs.Names.{HasSizes}
use Rattle.lang_model.specs.declared.syntax.Command.TheVariants.{Atomic as ATOMIC}
use Rattle.lang_model.specs.declared.syntax.Item.TheVariants.{Command as COMMAND}
use Rattle.rv_sessions.specs.Acting.{DidItem}
use Rattle.rv_sessions.specs.Blocking.{gifts_in}
use Rattle.rv_sessions.specs.Standing.{first_names, first_versions}
use Rattle.rv_sessions.specs.Turning.{versions_in, CommitTurn}
use Rattle.rv_sessions.proofs.Committing.{block_unread, read_lacks, stopped_there, values_there, room_there, block_stopped, commit_done, commit_refused}
use Rattle.rv_sessions.proofs.FoldingTurns.{through_none}
use Rattle.rv_sessions.proofs.Looking.{wanted_stand}
use Rattle.rv_sessions.proofs.Telling.{untouched}
use Rattle.rv_sessions.proofs.block.atomic.Goals as goal

pub returns-in_default : goal.returns-in_default
returns-in_default g c input snaps i stood =
    let a = c.args in
    let w = g.E.Core.worker in
    let old = w a.seat.now.engine in
    block_unread g.E.Core.least input a.task.now.checked.now a.task.now.by.session a.task.now.by.command a.lets.now old a.seat.now.pass snaps stood old a.seat.now.pass (untouched old a.seat.now.pass)

pub returns-in-Err : goal.returns-in-Err
returns-in-Err g c input snaps i stood =
    let a = c.args in
    let w = g.E.Core.worker in
    let old = w a.seat.now.engine in
    read_lacks g.E.Core.least input a.task.now.checked.now a.task.now.by.session a.task.now.by.command a.lets.now old (w c.block_turn.new.seat.engine) a.seat.now.pass c.block_turn.new.seat.pass snaps
    c.in-Ok.reads.items c.in-Err.lack stood c.in-Err.ensures.read

pub block_values-requires : goal.block_values-requires
block_values-requires g c =
    let r = c.in-Ok-block_turn.ensures.read in
    record {
      standing = wanted_stand (g.E.Core.worker c.block_turn.new.seat.engine) c.in-Ok.reads.items (first_names c.args.seat.now.pass) r.0 c.in-Ok-block_turn.view.names.items
          r.1.first_stand r.1.stand r.2;
    }

pub returns-in-Err-block_values : goal.returns-in-Err-block_values
returns-in-Err-block_values g c input snaps i stood =
    let a = c.args in
    let w = g.E.Core.worker in
    let old = w a.seat.now.engine in
    let mid = w c.block_turn.new.seat.engine in
    let end = w c.block_values.new.engine in
    let r = c.in-Ok-block_turn.ensures.read in
    let lets = a.lets.now in
    let view = c.in-Ok-block_turn.view in
    let slice = c.as_slice-2.result.now in
    let slice_is = c.as_slice-2.ensures.value in
    let reads_are = c.in-Ok.ensures ∙ ap block_reads (c.as_slice.ensures.value ∙ sym slice_is) in
    block_stopped g.E.Core.least input a.task.now.checked.now a.task.now.by.session a.task.now.by.command lets old a.seat.now.pass snaps stood mid c.block_turn.new.seat.pass r.0 r.1
    end c.block_turn.new.seat.pass (through_none c.block_turn.new.seat.pass) c.block_values.ensures.keeps
    (room_there input a.task.now.checked.now lets.items slice a.task.now.turns c.in-Ok.reads.items view.names.items (first_names a.seat.now.pass) r.0 mid end r.1.first_stand r.1.stand slice_is reads_are r.2 c.block_values.ensures.keeps i g.E.Core.least c.block_values.ensures.room)
    c.in-Err-block_values.outcome c.refused.result
    (stopped_there input a.task.now.checked.now lets.items slice a.task.now.turns c.in-Ok.reads.items view.names.items (first_names a.seat.now.pass) r.0 mid end r.1.first_stand r.1.stand slice_is reads_are r.2 c.block_values.ensures.keeps i c.in-Err-block_values.outcome c.in-Err-block_values.ensures.came) c.refused.ensures

pub returns-in-Ok-commit_turn : goal.returns-in-Ok-commit_turn
returns-in-Ok-commit_turn g c input snaps i stood =
    let a = c.args in
    let w = g.E.Core.worker in
    let old = w a.seat.now.engine in
    let mid = w c.block_turn.new.seat.engine in
    let end = w c.block_values.new.engine in
    let r = c.in-Ok-block_turn.ensures.read in
    let lets = a.lets.now in
    let view = c.in-Ok-block_turn.view in
    let slice = c.as_slice-2.result.now in
    let slice_is = c.as_slice-2.ensures.value in
    let reads_are = c.in-Ok.ensures ∙ ap block_reads (c.as_slice.ensures.value ∙ sym slice_is) in
    let new = w c.commit_turn.new.seat.engine in
    let list = c.in-Ok-block_values.list.items in
    let due = values_there input a.task.now.checked.now lets.items slice a.task.now.turns c.in-Ok.reads.items view.names.items (first_names a.seat.now.pass) r.0 mid end r.1.first_stand r.1.stand slice_is reads_are r.2 c.block_values.ensures.keeps i (Values (gifts_in end list)) c.in-Ok-block_values.ensures.came.1 in
    let room = room_there input a.task.now.checked.now lets.items slice a.task.now.turns c.in-Ok.reads.items view.names.items (first_names a.seat.now.pass) r.0 mid end r.1.first_stand r.1.stand slice_is reads_are r.2 c.block_values.ensures.keeps i g.E.Core.least c.block_values.ensures.room in
    let versions = c.as_slice-3.ensures.value ∙ r.3 ∙ ap (versions_in (first_versions a.seat.now.pass) r.0) (reads_are ∙ ap block_reads slice_is) in
    let sizes : HasSizes new = record { rows = g.met.E.Core.row_size c.commit_turn.new.seat.engine; cols = g.met.E.Core.col_size c.commit_turn.new.seat.engine } in
    subst (λ x. DidItem g.E.Core.least input a.task.now.checked.now a.task.now.by.session a.task.now.by.command (COMMAND (ATOMIC lets)) old new a.seat.now.pass c.commit_turn.new.seat.pass snaps snaps (Ok x)) (sym c.done.ensures)
    (commit_done g.E.Core.least input a.task.now.checked.now a.task.now.by.session a.task.now.by.command lets old a.seat.now.pass snaps stood mid c.block_turn.new.seat.pass r.0 r.1
    end new c.commit_turn.new.seat.pass list c.block_values.ensures.keeps room c.in-Ok-block_values.ensures.came.0 due sizes
    (subst (λ vs. CommitTurn a.task.now.by.session a.task.now.by.command vs list end new c.block_turn.new.seat.pass c.commit_turn.new.seat.pass (Ok tt)) versions c.in-Ok-commit_turn.ensures.committed))

pub returns : goal.returns
returns g c input snaps i stood =
    let a = c.args in
    let w = g.E.Core.worker in
    let old = w a.seat.now.engine in
    let mid = w c.block_turn.new.seat.engine in
    let end = w c.block_values.new.engine in
    let r = c.in-Ok-block_turn.ensures.read in
    let lets = a.lets.now in
    let view = c.in-Ok-block_turn.view in
    let slice = c.as_slice-2.result.now in
    let slice_is = c.as_slice-2.ensures.value in
    let reads_are = c.in-Ok.ensures ∙ ap block_reads (c.as_slice.ensures.value ∙ sym slice_is) in
    let new = w c.commit_turn.new.seat.engine in
    let list = c.in-Ok-block_values.list.items in
    let due = values_there input a.task.now.checked.now lets.items slice a.task.now.turns c.in-Ok.reads.items view.names.items (first_names a.seat.now.pass) r.0 mid end r.1.first_stand r.1.stand slice_is reads_are r.2 c.block_values.ensures.keeps i (Values (gifts_in end list)) c.in-Ok-block_values.ensures.came.1 in
    let room = room_there input a.task.now.checked.now lets.items slice a.task.now.turns c.in-Ok.reads.items view.names.items (first_names a.seat.now.pass) r.0 mid end r.1.first_stand r.1.stand slice_is reads_are r.2 c.block_values.ensures.keeps i g.E.Core.least c.block_values.ensures.room in
    let versions = c.as_slice-3.ensures.value ∙ r.3 ∙ ap (versions_in (first_versions a.seat.now.pass) r.0) (reads_are ∙ ap block_reads slice_is) in
    commit_refused g.E.Core.least input a.task.now.checked.now a.task.now.by.session a.task.now.by.command lets old a.seat.now.pass snaps stood mid c.block_turn.new.seat.pass r.0 r.1
    end new c.commit_turn.new.seat.pass list c.block_values.ensures.keeps room c.in-Ok-block_values.ensures.came.0 due c.in-Err-commit_turn.why c.not_committed.result
    (subst (λ vs. CommitTurn a.task.now.by.session a.task.now.by.command vs list end new c.block_turn.new.seat.pass c.commit_turn.new.seat.pass (Err c.in-Err-commit_turn.why)) versions c.in-Err-commit_turn.ensures.committed)
    c.not_committed.ensures
