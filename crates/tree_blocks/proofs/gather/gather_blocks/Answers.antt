use Rattle.std.proofs.Common.{◌-◌, refl, arith}
use Rattle.rel_model.specs.Trees.{bottom_height}
use Rattle.tree_blocks.specs.Order.{blocks_count, square_cells}
use Rattle.tree_blocks.proofs.Counting.{count_most, under_top}
use Rattle.tree_blocks.proofs.Naming.{one_stood}
use Rattle.tree_blocks.proofs.gather.gather_blocks.Goals as goal

pub gather_level-requires-clause-high : goal.gather_level-requires-clause-high
gather_level-requires-clause-high c = under_top c.args.height c.requires.high

pub gather_level-requires-clause-room : goal.gather_level-requires-clause-room
gather_level-requires-clause-room c = let x = count_most c.args.height (blocks_count (c.args.height - bottom_height)) c.requires.high refl in omega (arith, x)

pub gather_level-requires-clause-blocks : goal.gather_level-requires-clause-blocks
gather_level-requires-clause-blocks c = let x = c.requires.blocks in omega (arith, x)

pub returns-clause-stood : goal.returns-clause-stood
returns-clause-stood c =
    one_stood c.args.nodes.now c.gather_level.new.nodes c.args.height (square_cells (c.args.height - bottom_height) c.args.blocks.now) c.gather_level.new.names _ c.in_ok-gather_level.ensures.value c.in_ok-gather_level.ensures.stood
