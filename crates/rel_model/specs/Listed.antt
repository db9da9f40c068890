-- Listed pairs.
use Rattle.std.specs.Prelude.{◌==◌, ◌&&◌, ◌<◌, ℕ, Bool, List}
use Rattle.std.specs.List.{list_any, AllByRecursion}

-- all pairs lie within the sizes
abbrev pub AreWithin : ℕ → ℕ → List (ℕ × ℕ) → Type 0
AreWithin rows cols = AllByRecursion (λ p. (p.0 < rows) × (p.1 < cols))

-- whether the pair (i, j) is among them
abbrev pub is_among : List (ℕ × ℕ) → ℕ → ℕ → Bool
is_among pairs i j = list_any (λ p. (p.0 == i) && (p.1 == j)) pairs
