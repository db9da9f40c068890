use Rattle.std.proofs.Common.{◌-◌}
use Rattle.rel_model.specs.Equations.{depth_of}
use Rattle.rel_model.proofs.QuadLaws.{known, known_after}
use Rattle.std.proofs.Common.{suc}
use Rattle.quad_nodes.proofs.Halving.{halves_stand, quarters_are}
use Rattle.quad_nodes.proofs.nodes.Nodes.quarters.Goals as goal

pub halves-nw-requires : goal.halves-nw-requires
halves-nw-requires c =
    let h = halves_stand c.args.self.now c.halves-north.new.self c.args.q c.halves-north.result.0 c.halves-north.result.1 c.requires.stands c.requires.over c.halves-north.ensures.halves in
    known c.halves-north.new.self.view (suc (depth_of (c.args.q.height - 1))) c.halves-north.result.0 h.first

pub halves-sw-requires : goal.halves-sw-requires
halves-sw-requires c =
    let h = halves_stand c.args.self.now c.halves-north.new.self c.args.q c.halves-north.result.0 c.halves-north.result.1 c.requires.stands c.requires.over c.halves-north.ensures.halves in
    known_after 0 c.halves-north.new.self c.halves-nw.new.self (suc (depth_of (c.args.q.height - 1))) c.halves-north.result.1 c.halves-nw.ensures.reads.keeps h.second

pub returns-clause-quarters : goal.returns-clause-quarters
returns-clause-quarters c =
    quarters_are c.args.self.now c.halves-north.new.self c.halves-nw.new.self c.halves-sw.new.self c.args.q c.halves-north.result.0 c.halves-north.result.1
    c.halves-nw.result.0 c.halves-nw.result.1 c.halves-sw.result.0 c.halves-sw.result.1 c.requires.stands c.requires.over c.halves-north.ensures.reads c.halves-nw.ensures.reads c.halves-sw.ensures.reads
    c.halves-north.ensures.halves c.halves-nw.ensures.halves c.halves-sw.ensures.halves
