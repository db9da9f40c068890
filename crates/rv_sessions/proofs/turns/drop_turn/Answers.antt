use Rattle.std.proofs.Common.{◌∙◌, ◌++◌, ap, subst}
use Rattle.run_model.specs.Names.{lookup}
use Rattle.run_model.specs.Carried.{First, carried_from}
use Rattle.rv_workspace.specs.Entering.{drop_entries, IsDropAnswer}
use Rattle.rv_sessions.proofs.Turning.{learnt, first_is, first_learnt, start_back, begins_back, took}
use Rattle.rv_sessions.proofs.turns.drop_turn.Goals as goal

pub put-requires-clause-start : goal.put-requires-clause-start
put-requires-clause-start g c =
    let t = c.take-taken in
    let d = c.drop_name-dropped in
    start_back t.result.history t.result.first d.new.self.first t.new.pass c.args.seat.now.pass t.ensures.takes t.ensures.start (d.ensures.first ∙ c.teach.ensures.first)

pub put-requires-clause-begins : goal.put-requires-clause-begins
put-requires-clause-begins g c =
    let t = c.take-taken in
    let d = c.drop_name-dropped in
    begins_back t.result.history d.new.self.history (drop_entries c.args.task.now.by.session c.args.task.now.by.command c.args.name.now d.result) t.new.pass c.args.seat.now.pass
    t.ensures.takes (d.ensures.entered ∙ ap (λ z. z ++ drop_entries c.args.task.now.by.session c.args.task.now.by.command c.args.name.now d.result) c.teach.ensures.history)

pub returns : goal.returns
returns g c =
    let t = c.take-taken in
    let d = c.drop_name-dropped in
    let w = g.E.Core.worker in
    let n = c.args.name.now in
    let puts = drop_entries c.args.task.now.by.session c.args.task.now.by.command n d.result in
    record {
      dropped = (
        t.result.history,
        took (w c.args.seat.now.engine) (w c.teach.new.mine) c.args.seat.now.pass t.new.pass c.put.new.pass t.result.history d.new.self.history puts
            c.requires.seated.ready.idle t.ensures.takes t.ensures.begins c.put.ensures
            (d.ensures.entered ∙ ap (λ z. z ++ puts) c.teach.ensures.history)
            (learnt (w t.result.archive) (w c.args.seat.now.engine) (w c.teach.new.mine) t.result.history c.history.ensures.book.stand c.teach.ensures.mine)
            (first_learnt (w t.result.archive) (w c.args.seat.now.engine) (w c.teach.new.mine) t.result.first c.args.seat.now.pass t.ensures.start c.history.ensures.book.first_stand c.teach.ensures.mine)
            c.teach.ensures.mine.stays,
        subst (λ (f : First). IsDropAnswer (lookup (carried_from f.names t.result.history) n) n d.result)
            (c.teach.ensures.first ∙ first_is t.result.first c.args.seat.now.pass t.ensures.start)
            (subst (λ h. IsDropAnswer (lookup (carried_from c.teach.new.self.first.names h) n) n d.result) c.teach.ensures.history d.ensures.answer),
      );
    }
