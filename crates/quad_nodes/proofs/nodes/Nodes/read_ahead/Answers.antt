use Rattle.std.proofs.Common.{◌<◌, ◌-◌, suc, arith}
use Rattle.rel_model.specs.Trees.{bottom_height}
use Rattle.rel_model.specs.Equations.{depth_of}
use Rattle.rel_model.proofs.QuadLaws.{known, known_after}
use Rattle.quad_nodes.proofs.Halving.{halves_stand}
use Rattle.quad_nodes.proofs.nodes.Nodes.read_ahead.Goals as goal

pub halves-requires : goal.halves-requires
halves-requires c =
    let e = c.bottom-bottom.ensures.height in
    let f = c.if-q-bottom.true in
    let over : bottom_height < c.args.q.height = omega (arith, e, f) in
    let h = halves_stand c.args.self.now c.halves-north.new.self c.args.q c.halves-north.result.0 c.halves-north.result.1 c.requires.stands over c.halves-north.ensures.halves in
    known c.halves-north.new.self.view (suc (depth_of (c.args.q.height - 1))) c.halves-north.result.0 h.first

pub halves-requires-then-q-bottom : goal.halves-requires-then-q-bottom
halves-requires-then-q-bottom c =
    let e = c.bottom-bottom.ensures.height in
    let f = c.if-q-bottom.true in
    let over : bottom_height < c.args.q.height = omega (arith, e, f) in
    let h = halves_stand c.args.self.now c.halves-north.new.self c.args.q c.halves-north.result.0 c.halves-north.result.1 c.requires.stands over c.halves-north.ensures.halves in
    known_after 0 c.halves-north.new.self c.halves.new.self (suc (depth_of (c.args.q.height - 1))) c.halves-north.result.1 c.halves.ensures.reads.keeps h.second
