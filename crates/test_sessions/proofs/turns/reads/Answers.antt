use Rattle.rv_sessions.proofs.Turning.{start_back, read_begins}
use Rattle.test_sessions.proofs.turns.reads.Goals as goal

pub put-requires-clause-begins : goal.put-requires-clause-begins
put-requires-clause-begins g c =
    let t = c.take-taken in
    let r = c.read-view in
    read_begins c.args.session c.args.command r.result t.result.history r.new.self.history t.new.pass c.args.pass.now
    t.ensures.takes r.ensures.entered r.ensures.as_before

pub put-requires-clause-start : goal.put-requires-clause-start
put-requires-clause-start g c =
    let t = c.take-taken in
    let r = c.read-view in
    start_back t.result.history t.result.first r.new.self.first t.new.pass c.args.pass.now t.ensures.takes t.ensures.start r.ensures.first
