use Rattle.std.proofs.Common.{◌≡◌, ◌%◌}
use Rattle.rel_model.specs.Words.{home_sum}
use Rattle.pair_table.proofs.home.home_of.Given as goal

-- the remainder stays
abbrev pub invariant-folds : goal.invariant-folds
invariant-folds l = l.rest % l.places ≡ home_sum l.word % l.places

abbrev pub decreases-folds : goal.decreases-folds
decreases-folds l = l.rest

abbrev pub invariant-rounds : goal.invariant-rounds
invariant-rounds l = l.rest % l.places ≡ home_sum l.word % l.places

abbrev pub decreases-rounds : goal.decreases-rounds
decreases-rounds l = l.rest
