use Rattle.rv_sessions.proofs.Turning.{learnt, first_is, first_learnt, start_back, read_begins, read_took}
use Rattle.rv_sessions.proofs.turns.read_turn.Goals as goal

pub put-requires-clause-start : goal.put-requires-clause-start
put-requires-clause-start g c =
    let t = c.take-taken in
    let r = c.read-view in
    start_back t.result.history t.result.first r.new.self.first t.new.pass c.args.seat.now.pass t.ensures.takes t.ensures.start r.ensures.first

pub put-requires-clause-begins : goal.put-requires-clause-begins
put-requires-clause-begins g c =
    let t = c.take-taken in
    let r = c.read-view in
    read_begins c.args.task.now.by.session c.args.task.now.by.command r.result t.result.history r.new.self.history t.new.pass c.args.seat.now.pass
    t.ensures.takes r.ensures.entered r.ensures.as_before

pub returns : goal.returns
returns g c =
    let t = c.take-taken in
    let r = c.read-view in
    let w = g.E.Core.worker in
    record {
      read = read_took c.args.task.now.by.session c.args.task.now.by.command _ (w c.args.seat.now.engine) (w r.new.mine) c.args.seat.now.pass t.new.pass c.put.new.pass
          t.result.history r.new.self.history r.result t.result.first (first_is t.result.first c.args.seat.now.pass t.ensures.start) c.requires.seated.ready.idle t.ensures.takes t.ensures.begins c.put.ensures
          r.ensures.entered r.ensures.as_before r.ensures.names
          (learnt (w t.result.archive) (w c.args.seat.now.engine) (w r.new.mine) t.result.history c.history.ensures.book.stand r.ensures.mine)
          (first_learnt (w t.result.archive) (w c.args.seat.now.engine) (w r.new.mine) t.result.first c.args.seat.now.pass t.ensures.start c.history.ensures.book.first_stand r.ensures.mine)
          r.ensures.mine.stays;
    }
