-- Listed pairs.
use Rattle.std.specs.Prelude.{◌≡◌, ◌||◌, ◌<◌, ℕ, Bool, List}
use Rattle.rel_model.specs.Listed.{is_among}

-- within the sizes, they are the pairs that pass
abbrev pub IsListed : ℕ → ℕ → List (ℕ × ℕ) → (ℕ → ℕ → Bool) → Type 0
IsListed rows cols pairs test = (i j : ℕ) → i < rows → j < cols → is_among pairs i j ≡ test i j

-- within the sizes, the pairs that pass joined the old ones
abbrev pub Extends : ℕ → ℕ → List (ℕ × ℕ) → List (ℕ × ℕ) → (ℕ → ℕ → Bool) → Type 0
Extends rows cols old new test = IsListed rows cols new (λ i j. is_among old i j || test i j)
