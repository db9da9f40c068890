-- When two trees are equal up to places: what rewriting tests, and what a reader means by it.
use Rattle.std.specs.Prelude.{◌≡◌, ◌↔◌, true}
use Rattle.lang_model.specs.Trees.{Tree, SameTrees}
use Rattle.lang_model.specs.Rewriting.{same_tree}

-- the test by which rewriting compares operands holds if and only if the trees without their places are equal
abbrev pub SameExceptPlaces : Type 0
SameExceptPlaces = (t u : Tree) → (same_tree t u ≡ true) ↔ SameTrees t u
