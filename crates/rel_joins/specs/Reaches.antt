-- Pairs that walks along a list of pairs join.
use Rattle.std.specs.Prelude.{◌≡◌, ◌==◌, ◌<◌, ◌≤◌, ◌&&◌, ◌||◌, ℕ, Bool, true, List, length, get_or}
use Rattle.rel_model.specs.Relation.{Relation, has}
use Rattle.rel_model.specs.Listed.{is_among}
use Rattle.rel_model.specs.Closures.{transitive_closure}
use Rattle.rel_joins.specs.Joins.{joined_limit}

-- the relation of n elements with these pairs
abbrev pub square_of : ℕ → List (ℕ × ℕ) → Relation
square_of n pairs = record { rows = n; cols = n; pairs = pairs }

-- a list has exactly the pairs of the transitive closure of n elements with the given pairs
abbrev pub AreClosed : ℕ → List (ℕ × ℕ) → List (ℕ × ℕ) → Type 0
AreClosed n pairs closed = (i k : ℕ) → is_among closed i k ≡ has (transitive_closure (square_of n pairs)) i k

-- to a list were added, for one i, the pairs (i, k) whose k passes a test; its places stay
pub record Adds (i : ℕ) (test : ℕ → Bool) (old new : List (ℕ × ℕ)) : Type 0 where
  pub among : (x y : ℕ) → is_among new x y ≡ (is_among old x y || ((x == i) && test y))
  pub kept : (s : ℕ) → s < length old → get_or new s (0, 0) ≡ get_or old s (0, 0)
  pub longer : length old ≤ length new
  pub few : length old ≤ joined_limit → length new ≤ joined_limit

-- Each listed pair is in the closure; the pairs of the first rows are listed, and for each (x, j) at the first places
-- and each pair (j, y) also (x, y).
pub record Closing (n : ℕ) (pairs : List (ℕ × ℕ)) (begun places : ℕ) (listed : List (ℕ × ℕ)) : Type 0 where
  pub sound : (x y : ℕ) → is_among listed x y ≡ true → has (transitive_closure (square_of n pairs)) x y ≡ true
  pub begins : (x y : ℕ) → x < begun → is_among pairs x y ≡ true → is_among listed x y ≡ true
  pub goes_on : (s y : ℕ) → s < places → is_among pairs (get_or listed s (0, 0)).1 y ≡ true
      → is_among listed (get_or listed s (0, 0)).0 y ≡ true
  pub few : length listed ≤ joined_limit
