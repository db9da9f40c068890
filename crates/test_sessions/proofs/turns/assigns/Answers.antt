use Rattle.std.proofs.Common.{◌∷◌, []}
use Rattle.rv_workspace.specs.Entering.{assign_of}
use Rattle.rv_sessions.proofs.Turning.{start_back, put_begins}
use Rattle.test_sessions.proofs.turns.assigns.Goals as goal

pub put-requires-clause-begins : goal.put-requires-clause-begins
put-requires-clause-begins g c =
    let t = c.take-taken in
    let r = c.assign-assigned in
    put_begins (assign_of c.args.session c.args.command (c.name_x-name.result, c.args.rel) ∷ []) r.result t.result.history r.new.self.history t.new.pass c.args.pass.now
    t.ensures.takes r.ensures.entered r.ensures.as_before

pub put-requires-clause-start : goal.put-requires-clause-start
put-requires-clause-start g c =
    let t = c.take-taken in
    let r = c.assign-assigned in
    start_back t.result.history t.result.first r.new.self.first t.new.pass c.args.pass.now t.ensures.takes t.ensures.start r.ensures.first
