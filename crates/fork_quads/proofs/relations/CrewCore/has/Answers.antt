use Rattle.fork_quads.proofs.Crewing.{stands_root, keeps_reading}
use Rattle.fork_quads.proofs.Operating.{cell_in, has_value}
use Rattle.fork_quads.proofs.relations.CrewCore.has.Goals as goal

pub has-requires-clause-stands : goal.has-requires-clause-stands
has-requires-clause-stands g c = stands_root c.args.self.now c.self.inside.nodes c.args.r c.root_of.result c.self.view_is c.requires.standing c.root_of.ensures

pub has-requires-clause-row : goal.has-requires-clause-row
has-requires-clause-row g c = (cell_in c.args.self.now c.args.r c.root_of.result c.args.i c.args.j c.requires.standing c.root_of.ensures c.requires.row c.requires.col).0

pub has-requires-clause-col : goal.has-requires-clause-col
has-requires-clause-col g c = (cell_in c.args.self.now c.args.r c.root_of.result c.args.i c.args.j c.requires.standing c.root_of.ensures c.requires.row c.requires.col).1

pub returns-clause-value : goal.returns-clause-value
returns-clause-value g c = has_value c.args.self.now c.self.inside.nodes c.args.r c.root_of.result c.args.i c.args.j c.has.result c.self.view_is c.requires.standing c.root_of.ensures c.has.ensures.value

pub returns-clause-keeps : goal.returns-clause-keeps
returns-clause-keeps g c = keeps_reading c.args.self.now c.self.inside.nodes c.has.new.self c.self.view_is c.has.ensures.reads
