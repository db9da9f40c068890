use Rattle.std.proofs.Common.{arith}
use Rattle.std.proofs.lemmas.Grind.{common_steps}
use Rattle.rel_plain.proofs.Filling.{grid_more}
use Rattle.rel_plain.proofs.grid.full_pairs.Goals as goal

pub rows-preserved : goal.rows-preserved
rows-preserved c = grind (arith, common_steps, grid_more)
