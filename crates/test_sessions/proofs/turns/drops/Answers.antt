use Rattle.rv_workspace.specs.Entering.{drop_entries}
use Rattle.rv_sessions.proofs.Turning.{start_back, begins_back}
use Rattle.test_sessions.proofs.turns.drops.Goals as goal

pub put-requires-clause-begins : goal.put-requires-clause-begins
put-requires-clause-begins g c =
    let t = c.take-taken in
    let d = c.drop_name-dropped in
    begins_back t.result.history d.new.self.history (drop_entries c.args.session c.args.command c.name_x-name.result d.result) t.new.pass c.args.pass.now
    t.ensures.takes d.ensures.entered

pub put-requires-clause-start : goal.put-requires-clause-start
put-requires-clause-start g c =
    let t = c.take-taken in
    let r = c.drop_name-dropped in
    start_back t.result.history t.result.first r.new.self.first t.new.pass c.args.pass.now t.ensures.takes t.ensures.start r.ensures.first
