use Rattle.std.proofs.Common.{◌∙◌, ◌∷◌, [], inl, inr, Some, ap}
use Rattle.run_model.specs.Carried.{First, carried_from}
use Rattle.rv_workspace.specs.Entering.{read_of}
use Rattle.rv_workspace.specs.Picking.{picked}
use Rattle.rv_sessions.specs.Standing.{first_versions}
use Rattle.rv_sessions.proofs.Turning.{learnt, first_is, first_learnt, start_back, read_begins, took, with_nothing, versions-read}
use Rattle.rv_sessions.proofs.turns.block_turn.Goals as goal

pub put-requires-clause-start : goal.put-requires-clause-start
put-requires-clause-start g c =
    let t = c.take-taken in
    let r = c.read-view in
    start_back t.result.history t.result.first r.new.self.first t.new.pass c.args.seat.now.pass t.ensures.takes t.ensures.start r.ensures.first

pub put-requires-clause-begins : goal.put-requires-clause-begins
put-requires-clause-begins g c =
    let t = c.take-taken in
    let r = c.read-view in
    read_begins c.args.task.now.by.session c.args.task.now.by.command r.result t.result.history r.new.self.history t.new.pass c.args.seat.now.pass
    t.ensures.takes r.ensures.entered r.ensures.as_before

pub returns-in-Ok-versions : goal.returns-in-Ok-versions
returns-in-Ok-versions g c =
    let t = c.take-taken in
    let r = c.read-view in
    let w = g.E.Core.worker in
    let s = c.args.task.now.by.session in
    let k = c.args.task.now.by.command in
    let log = t.result.history in
    let is = first_is t.result.first c.args.seat.now.pass t.ensures.start in
    record {
      read = (
        log,
        took (w c.args.seat.now.engine) (w r.new.mine) c.args.seat.now.pass t.new.pass c.put.new.pass log r.new.self.history (read_of s k ∷ []) c.requires.seated.ready.idle
            t.ensures.takes t.ensures.begins c.put.ensures c.in-Ok.ensures.entered
            (learnt (w t.result.archive) (w c.args.seat.now.engine) (w r.new.mine) log c.history.ensures.book.stand r.ensures.mine)
            (first_learnt (w t.result.archive) (w c.args.seat.now.engine) (w r.new.mine) t.result.first c.args.seat.now.pass t.ensures.start c.history.ensures.book.first_stand r.ensures.mine) r.ensures.mine.stays,
        c.in-Ok.ensures.names ∙ ap (λ ws. picked (Some ws) (carried_from t.result.first.names log)) c.as_slice.ensures.value
            ∙ ap (λ (f : First). picked (Some c.args.reads.items) (carried_from f.names log)) is,
        c.in-Ok-versions.ensures ∙ versions-read s k (first_versions c.args.seat.now.pass) r.new.self.first.versions log r.new.self.history c.args.reads.items
            (ap (λ (f : First). f.versions) (r.ensures.first ∙ is)) c.in-Ok.ensures.entered,
      );
    }

pub returns-in-Err-versions : goal.returns-in-Err-versions
returns-in-Err-versions g c =
    let t = c.take-taken in
    let r = c.read-view in
    let w = g.E.Core.worker in
    let log = t.result.history in
    record {
      read = (
        log,
        inl (took (w c.args.seat.now.engine) (w r.new.mine) c.args.seat.now.pass t.new.pass c.put.new.pass log r.new.self.history
            (read_of c.args.task.now.by.session c.args.task.now.by.command ∷ []) c.requires.seated.ready.idle t.ensures.takes t.ensures.begins c.put.ensures c.in-Ok.ensures.entered
            (learnt (w t.result.archive) (w c.args.seat.now.engine) (w r.new.mine) log c.history.ensures.book.stand r.ensures.mine)
            (first_learnt (w t.result.archive) (w c.args.seat.now.engine) (w r.new.mine) t.result.first c.args.seat.now.pass t.ensures.start c.history.ensures.book.first_stand r.ensures.mine) r.ensures.mine.stays),
      );
    }

pub returns-in-Err : goal.returns-in-Err
returns-in-Err g c =
    let t = c.take-taken in
    let r = c.read-view in
    let w = g.E.Core.worker in
    let log = t.result.history in
    record {
      read = (
        log,
        inr (took (w c.args.seat.now.engine) (w r.new.mine) c.args.seat.now.pass t.new.pass c.put.new.pass log r.new.self.history [] c.requires.seated.ready.idle
            t.ensures.takes t.ensures.begins c.put.ensures (with_nothing log r.new.self.history c.in-Err.ensures.as_before)
            (learnt (w t.result.archive) (w c.args.seat.now.engine) (w r.new.mine) log c.history.ensures.book.stand r.ensures.mine)
            (first_learnt (w t.result.archive) (w c.args.seat.now.engine) (w r.new.mine) t.result.first c.args.seat.now.pass t.ensures.start c.history.ensures.book.first_stand r.ensures.mine) r.ensures.mine.stays),
      );
    }
