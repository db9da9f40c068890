-- What the helpers of the tests keep.
use Rattle.rel_model.specs.Words.{Extends}
use Rattle.rel_model.specs.Quads.{Keeper, IsKeeper}

-- everything that was seen stays seen
pub record Stays (old new : Keeper) : Type 0 where
  pub before : IsKeeper old
  pub after : IsKeeper new
  pub seen : Extends old.view.words new.view.words
