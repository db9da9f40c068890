use Rattle.std.proofs.Common.{arith}
use Rattle.rel_model.specs.Trees.{bottom_height, top_height}
use Rattle.bench_trees.proofs.products.run.Goals as goal

pub measure_both-requires-clause-not_low : goal.measure_both-requires-clause-not_low
unfolding bottom_height
measure_both-requires-clause-not_low c = omega arith

pub measure_both-requires-clause-not_high : goal.measure_both-requires-clause-not_high
unfolding top_height
measure_both-requires-clause-not_high c = omega arith
