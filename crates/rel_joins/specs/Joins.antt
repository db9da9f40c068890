-- Pairs of two lists that are joined where the first ends and the second begins.
use Rattle.std.specs.Prelude.{◌≡◌, ◌==◌, ◌<◌, ◌≤◌, ◌^◌, ◌&&◌, ◌||◌, ℕ, Bool, List, length}
use Rattle.std.specs.List.{list_any, AllByRecursion}
use Rattle.rel_model.specs.Listed.{is_among}

-- how many pairs are joined at most
abbrev pub joined_limit : ℕ
joined_limit = 2 ^ 22

-- whether some pair of the first list begins at i, and the second list leads on from its end to k
abbrev pub leads : List (ℕ × ℕ) → List (ℕ × ℕ) → ℕ → ℕ → Bool
leads left right i k = list_any (λ p. (p.0 == i) && is_among right p.1 k) left

-- a list has exactly the pairs that two lists lead to
abbrev pub AreJoined : List (ℕ × ℕ) → List (ℕ × ℕ) → List (ℕ × ℕ) → Type 0
AreJoined left right joined = (i k : ℕ) → is_among joined i k ≡ leads left right i k

-- some pairs of the first list are joined, and those at the end of it are left
pub record Joining (middle : ℕ) (left right rest joined : List (ℕ × ℕ)) : Type 0 where
  pub among : (i k : ℕ) → (is_among joined i k || leads rest right i k) ≡ leads left right i k
  pub ends : AllByRecursion (λ p. p.1 < middle) rest
  pub few : length joined ≤ joined_limit
