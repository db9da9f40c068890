-- Lists of uses, each a depth and a name, in which each use comes after those of the names in its word.
use Rattle.std.specs.Prelude.{◌≡◌, ◌≢◌, ◌<◌, ◌⊎◌, ◌&&◌, nat_eq, zero, suc, ℕ, Bool, true, List, length, take, slice_index, slice_index_or}
use Rattle.std.specs.List.{list_any, flat_map}
use Rattle.rel_model.specs.declared.Rel.{Rel}
use Rattle.rel_model.specs.Trees.{first_of, second_of}
use Rattle.rel_model.specs.Roots.{tree_height}
use Rattle.rel_model.specs.Equations.{depth_of}
use Rattle.rel_model.specs.Uses.{Use, uses_from, uses_of, same_use}

-- whether two uses are equal
abbrev pub same_key : ℕ × ℕ → ℕ × ℕ → Bool
same_key a b = nat_eq a.0 b.0 && nat_eq a.1 b.1

-- whether a use is in a list
abbrev pub has_key : List (ℕ × ℕ) → ℕ → ℕ → Bool
has_key keys k n = list_any (same_key (k, n)) keys

-- whether a use is among others
abbrev pub has_use : List Use → ℕ → ℕ → Bool
has_use uses k n = list_any (same_use (record { depth = k; name = n })) uses

-- a name is 0, or its use at a depth is in the list
abbrev pub IsListed : List (ℕ × ℕ) → ℕ → ℕ → Type 0
IsListed keys k n = (n ≡ 0) ⊎ (has_key keys k n ≡ true)

-- the names in a word above depth 0 are listed
abbrev pub HasKids : List ℕ → List (ℕ × ℕ) → ℕ → ℕ → Type 0
HasKids words keys zero n = Unit {0}
HasKids words keys (suc k) n =
    IsListed keys k (first_of (slice_index words n)) × IsListed keys k (second_of (slice_index words n))

-- each use is that of a stored name, and comes after those of the names in its word
abbrev pub IsClosed : List ℕ → List (ℕ × ℕ) → Type 0
IsClosed words keys = (i : ℕ) (d : ℕ × ℕ) → i < length keys
    → (slice_index words (slice_index_or keys i d).1 ≢ 0)
    × HasKids words (take i keys) (slice_index_or keys i d).0 (slice_index_or keys i d).1

-- what was listed stays listed
abbrev pub KeepsKeys : List (ℕ × ℕ) → List (ℕ × ℕ) → Type 0
KeepsKeys old new = (k n : ℕ) → has_key old k n ≡ true → has_key new k n ≡ true

-- what is listed now was listed before, or is reached from a name at a depth
abbrev pub AddsFrom : List ℕ → ℕ → ℕ → List (ℕ × ℕ) → List (ℕ × ℕ) → Type 0
AddsFrom words depth name old new = (k n : ℕ) → has_key new k n ≡ true
    → (has_key old k n ≡ true) ⊎ (has_use (uses_from words depth name) k n ≡ true)

-- how a walk from a name at a depth extends a list: the name is listed, and everything else was listed before or is
-- reached from it
pub record Walked (words : List ℕ) (depth name : ℕ) (old new : List (ℕ × ℕ)) : Type 0 where
  pub closed : IsClosed words new
  pub kept : KeepsKeys old new
  pub adds : AddsFrom words depth name old new
  pub listed : IsListed new depth name

-- how the walks from the names in its word extend it
pub record WalkedKids (words : List ℕ) (depth name : ℕ) (old new : List (ℕ × ℕ)) : Type 0 where
  pub closed : IsClosed words new
  pub kept : KeepsKeys old new
  pub adds : AddsFrom words depth name old new
  pub kids : HasKids words new depth name

-- the depth of the root of a relation
abbrev pub root_depth : Rel → ℕ
root_depth rel = depth_of (tree_height rel.rows rel.cols)

-- the roots of the first relations are listed
abbrev pub HasRoots : List (ℕ × ℕ) → List Rel → ℕ → Type 0
HasRoots keys rels count = (k : ℕ) (d : Rel) → k < count
    → IsListed keys (root_depth (slice_index_or rels k d)) (slice_index_or rels k d).root

-- a list has the uses that the first relations reach, and none that no relation reaches
pub record WalkedSome (words : List ℕ) (rels : List Rel) (count : ℕ) (keys : List (ℕ × ℕ)) : Type 0 where
  pub closed : IsClosed words keys
  pub roots : HasRoots keys rels count
  pub only : (k n : ℕ) → has_key keys k n ≡ true → has_use (flat_map (uses_of words) rels) k n ≡ true
