use Rattle.std.proofs.Common.{refl}
use Rattle.rel_model.specs.Cells.{block_cells, bits_cells}
use Rattle.rel_model.specs.Trees.{bottom_height}
use Rattle.fork_quads.proofs.Crewing.{keeps_counting}
use Rattle.fork_quads.proofs.Quartering.{told_gives, told_found}
use Rattle.fork_quads.proofs.squares.CrewQuads.block.Goals as goal

pub returns-clause-value : goal.returns-clause-value
unfolding bottom_height
returns-clause-value g c = told_gives c.block.new.self 3 (block_cells c.args.bits) (bits_cells 8 c.args.bits) c.block.result c.told.result c.block.ensures.keeps.after refl c.block.ensures.value c.told.ensures

pub returns-clause-stood : goal.returns-clause-stood
unfolding bottom_height
returns-clause-stood g c = told_found c.args.self.now c.self.inside.nodes c.block.new.self 3 (block_cells c.args.bits) (bits_cells 8 c.args.bits) c.block.result c.told.result c.self.view_is c.block.ensures.keeps.before refl c.block.ensures.stood c.told.ensures

pub returns-clause-keeps : goal.returns-clause-keeps
returns-clause-keeps g c = keeps_counting 1 c.args.self.now c.self.inside.nodes c.block.new.self c.block.result c.self.view_is c.block.ensures.keeps c.block.ensures.counts
