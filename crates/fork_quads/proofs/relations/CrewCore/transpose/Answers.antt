use Rattle.fork_quads.proofs.Crewing.{stands_root, root_room, root_tree}
use Rattle.fork_quads.proofs.Joining.{transpose_other, none_stands}
use Rattle.fork_quads.proofs.Operating.{transposed}
use Rattle.fork_quads.proofs.relations.CrewCore.transpose.Goals as goal

pub compute-quad-requires-clause-a_stands : goal.compute-quad-requires-clause-a_stands
compute-quad-requires-clause-a_stands g c = stands_root c.args.self.now c.self.inside.nodes c.args.r c.root_of-root.result c.self.view_is c.requires c.root_of-root.ensures

pub compute-quad-requires-clause-b_stands : goal.compute-quad-requires-clause-b_stands
compute-quad-requires-clause-b_stands g c = none_stands c.args.self.now c.self.inside.nodes c.args.r c.root_of-root.result c.self.view_is c.requires c.root_of-root.ensures

pub returns : goal.returns
returns g c =
    let e = c.compute-quad.ensures in
    let x = transposed c.compute-quad.result c.named.result c.self.view_is c.requires c.root_of-root.ensures e.value (e.stood transpose_other) e.keeps e.misses c.named.ensures in
    let room = root_room c.args.self.now c.self.inside.nodes c.compute-quad.new.nodes c.args.r c.root_of-root.result c.self.view_is c.root_of-root.ensures e.keeps in
    let tree = root_tree c.args.self.now c.self.inside.nodes c.compute-quad.new.nodes c.args.r c.root_of-root.result c.self.view_is c.root_of-root.ensures e.keeps in
    record { value = x.gives; stood = x.stood; keeps = x.keeps; room = room; tree = tree; cause = x.cause }
