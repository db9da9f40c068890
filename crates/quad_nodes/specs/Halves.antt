-- Names of pairs: what is read from a name, and what is interned; rectangles side by side.
use Rattle.std.specs.Prelude.{◌≡◌, ℕ, suc, true}
use Rattle.rel_model.specs.Cells.{Cells}
use Rattle.rel_model.specs.Trees.{cells, stands, paired}
use Rattle.rel_model.specs.Views.{IsSet}
use Rattle.rel_model.specs.Quads.{Keeper}

-- two names stand at a depth, and the pairing of their sets is the set of a name at the next depth
pub record AreHalves (old new : Keeper) (depth name left right : ℕ) : Type 0 where
  pub first : stands new.view.words depth left ≡ true
  pub second : stands new.view.words depth right ≡ true
  pub means : cells old.view.words (suc depth) name ≡ paired depth (cells new.view.words depth left)
      (cells new.view.words depth right)

-- a name has the pairing of the sets of two names, at each depth at which both stand
abbrev pub IsPaired : Keeper → Keeper → ℕ → ℕ → ℕ → Type 0
IsPaired old new left right name = (depth : ℕ) (f g : Cells) → IsSet old.view depth left f
    → IsSet old.view depth right g → IsSet new.view (suc depth) name (paired depth f g)
