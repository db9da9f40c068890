-- A relation by its sizes and the list of pairs that is kept.
use Rattle.std.proofs.Common.{ℕ, List}
use Rattle.rel_model.specs.Relation.{Relation}

-- these sizes and these pairs
abbrev pub stored : ℕ → ℕ → List (ℕ × ℕ) → Relation
stored m n ps = record { rows = m; cols = n; pairs = ps }
