-- Names that are given values, and that get back what they had before.
use Rattle.std.specs.Prelude.{◌≡◌, ℕ, List, [], ◌∷◌, Option, Some, None}
use Rattle.run_model.specs.Names.{Names, lookup, set, remove}

module _ {V : Type 0} where
  -- these names have these values, given one after another; if a name occurs twice, its last place counts
  abbrev pub set_all : List (List ℕ × V) → Names V → Names V
  set_all [] names = names
  set_all (gift ∷ gifts) names = set_all gifts (set gift.0 gift.1 names)

  -- a name has again what it had: a value, or nothing
  abbrev pub restored : List ℕ → Option V → Names V → Names V
  restored name None names = remove name names
  restored name (Some v) names = set name v names

  -- from the first names to the last, each name of a journal was given a value, and the journal has what it had before
  abbrev pub Led : List (List ℕ × Option V) → Names V → Names V → Type 0
  Led [] first last = last ≡ first
  Led (note ∷ notes) first last = (v : V) × (note.1 ≡ lookup first note.0) × Led notes (set note.0 v first) last
