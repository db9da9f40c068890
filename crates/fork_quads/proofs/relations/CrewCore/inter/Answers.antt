use Rattle.fork_quads.proofs.Crewing.{stands_root, one_level}
use Rattle.fork_quads.proofs.Joining.{inter_other}
use Rattle.fork_quads.proofs.Operating.{inter_lifts, lifted}
use Rattle.fork_quads.proofs.relations.CrewCore.inter.Goals as goal

pub compute-quad-requires-clause-a_stands : goal.compute-quad-requires-clause-a_stands
compute-quad-requires-clause-a_stands g c = stands_root c.args.self.now c.self.inside.nodes c.args.r c.root_of.result c.self.view_is c.requires.left c.root_of.ensures

pub compute-quad-requires-clause-b_stands : goal.compute-quad-requires-clause-b_stands
compute-quad-requires-clause-b_stands g c = stands_root c.args.self.now c.self.inside.nodes c.args.s c.root_of-2.result c.self.view_is c.requires.right c.root_of-2.ensures

pub compute-quad-requires-clause-one_height : goal.compute-quad-requires-clause-one_height
compute-quad-requires-clause-one_height g c = one_level c.args.r c.args.s c.root_of.result c.root_of-2.result c.requires.rows c.requires.cols c.root_of.ensures c.root_of-2.ensures

pub returns : goal.returns
returns g c =
    let e = c.compute-quad.ensures in
    let x = lifted c.compute-quad.result c.named.result inter_lifts c.self.view_is c.requires.left c.requires.right c.requires.rows c.requires.cols c.root_of.ensures c.root_of-2.ensures e.value (e.stood inter_other) e.keeps e.misses c.named.ensures in
    record { value = x.gives; stood = x.stood; keeps = x.keeps; room = x.room; tree = x.tree; cause = x.cause }
