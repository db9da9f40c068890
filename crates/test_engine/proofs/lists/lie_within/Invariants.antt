use Rattle.std.proofs.Common.{◌<◌, ℕ, get_or}
use Rattle.test_engine.proofs.lists.lie_within.Given as goal

abbrev pub invariant-pairs : goal.invariant-pairs
invariant-pairs l = (k : ℕ) → k < l.pair-index → ((get_or l.pairs k (0, 0)).0 < l.shape.rows) × ((get_or l.pairs k (0, 0)).1 < l.shape.cols)
