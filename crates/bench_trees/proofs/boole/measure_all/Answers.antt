use Rattle.std.proofs.Common.{arith}
use Rattle.rel_model.specs.Trees.{bottom_height, top_height}
use Rattle.bench_trees.proofs.boole.measure_all.Goals as goal

pub square_of-requires-clause-low : goal.square_of-requires-clause-low
unfolding bottom_height
square_of-requires-clause-low g c = omega arith

pub square_of-requires-clause-high : goal.square_of-requires-clause-high
unfolding top_height
square_of-requires-clause-high g c = omega arith
