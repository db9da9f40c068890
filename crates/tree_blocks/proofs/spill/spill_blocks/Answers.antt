use Rattle.std.proofs.Common.{length}
use Rattle.tree_blocks.proofs.Counting.{count_most}
use Rattle.tree_blocks.proofs.spill.spill_blocks.Goals as goal

pub spill_level-requires-clause-room : goal.spill_level-requires-clause-room
spill_level-requires-clause-room c = count_most c.args.q.height (length c.args.out.now) c.requires.high c.requires.len
