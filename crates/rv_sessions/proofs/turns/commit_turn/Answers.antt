use Rattle.std.proofs.Common.{subst}
use Rattle.run_model.specs.Carried.{First}
use Rattle.rv_workspace.specs.Committing.{IsCommitAnswer, change_since, commit_entries}
use Rattle.rv_sessions.proofs.Turning.{learnt, first_is, first_learnt, start_back, commit_begins, took}
use Rattle.rv_sessions.proofs.turns.commit_turn.Goals as goal

pub put-requires-clause-start : goal.put-requires-clause-start
put-requires-clause-start g c =
    let t = c.take-taken in
    let r = c.commit-committed in
    start_back t.result.history t.result.first r.new.self.first t.new.pass c.args.seat.now.pass t.ensures.takes t.ensures.start r.ensures.first

pub put-requires-clause-begins : goal.put-requires-clause-begins
put-requires-clause-begins g c =
    let t = c.take-taken in
    let r = c.commit-committed in
    commit_begins c.args.task.now.by.session c.args.task.now.by.command c.args.list.items r.result t.result.history r.new.self.history t.new.pass c.args.seat.now.pass
    t.ensures.takes r.ensures.entered

pub returns : goal.returns
returns g c =
    let t = c.take-taken in
    let r = c.commit-committed in
    let w = g.E.Core.worker in
    let log = t.result.history in
    record {
      committed = (
        log,
        took (w c.args.seat.now.engine) (w r.new.mine) c.args.seat.now.pass t.new.pass c.put.new.pass log r.new.self.history
            (commit_entries c.args.task.now.by.session c.args.task.now.by.command c.args.list.items r.result) c.requires.seated.ready.idle t.ensures.takes t.ensures.begins
            c.put.ensures r.ensures.entered
            (learnt (w t.result.archive) (w c.args.seat.now.engine) (w r.new.mine) log c.history.ensures.book.stand r.ensures.mine)
            (first_learnt (w t.result.archive) (w c.args.seat.now.engine) (w r.new.mine) t.result.first c.args.seat.now.pass t.ensures.start c.history.ensures.book.first_stand r.ensures.mine) r.ensures.mine.stays,
        subst (λ (f : First). IsCommitAnswer (change_since f.versions c.args.reads.now log) r.result) (first_is t.result.first c.args.seat.now.pass t.ensures.start) r.ensures.answer,
      );
    }
