-- The relation whose pairs are listed.
use Rattle.std.specs.Prelude.{ℕ, List}
use Rattle.rel_model.specs.Relation.{Relation}

-- the relation of these sizes with these pairs
abbrev pub with_pairs : ℕ → ℕ → List (ℕ × ℕ) → Relation
with_pairs rows cols pairs = record { rows = rows; cols = cols; pairs = pairs }
