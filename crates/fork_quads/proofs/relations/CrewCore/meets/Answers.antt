use Rattle.fork_quads.proofs.Crewing.{stands_root, one_level, keeps_reading}
use Rattle.fork_quads.proofs.Operating.{meets_decides}
use Rattle.fork_quads.proofs.relations.CrewCore.meets.Goals as goal

pub quads_meet-requires : goal.quads_meet-requires
quads_meet-requires g c =
    record {
      a_stands = stands_root c.args.self.now c.self.inside.nodes c.args.r c.root_of.result c.self.view_is c.requires.left c.root_of.ensures;
      b_stands = stands_root c.args.self.now c.self.inside.nodes c.args.s c.root_of-2.result c.self.view_is c.requires.right c.root_of-2.ensures;
      one_height = one_level c.args.r c.args.s c.root_of.result c.root_of-2.result c.requires.rows c.requires.cols c.root_of.ensures c.root_of-2.ensures;
    }

pub returns-clause-value : goal.returns-clause-value
returns-clause-value g c =
    meets_decides c.args.self.now c.self.inside.nodes c.args.r c.args.s c.root_of.result c.root_of-2.result c.quads_meet.result c.self.view_is c.requires.left c.requires.right
    c.requires.rows c.requires.cols c.root_of.ensures c.root_of-2.ensures c.quads_meet.ensures.value

pub returns-clause-keeps : goal.returns-clause-keeps
returns-clause-keeps g c = keeps_reading c.args.self.now c.self.inside.nodes c.quads_meet.new.nodes c.self.view_is c.quads_meet.ensures.reads
