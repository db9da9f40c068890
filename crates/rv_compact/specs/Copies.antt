-- Copies of trees in other words.
use Rattle.std.specs.Prelude.{◌≡◌, ◌≢◌, ◌<◌, ◌≤◌, ◌+◌, ◌⊎◌, zero, suc, ℕ, List, length, slice_index, slice_index_or}
use Rattle.rel_model.specs.declared.Rel.{Rel}
use Rattle.rel_model.specs.Trees.{first_of, second_of}
use Rattle.rel_model.specs.Words.{Extends, IsSound, stored_count}
use Rattle.rv_compact.specs.Walks.{root_depth}

-- name m of the new words is a copy of name n of the old ones at a depth: both are 0, or both are stored and their
-- words are the same block, or pairs of copies
abbrev pub IsCopy : List ℕ → List ℕ → ℕ → ℕ → ℕ → Type 0
IsCopy old new zero n m =
    ((n ≡ 0) × (m ≡ 0)) ⊎ ((slice_index old n ≢ 0) × (slice_index new m ≡ slice_index old n))
IsCopy old new (suc k) n m = ((n ≡ 0) × (m ≡ 0)) ⊎ ((slice_index old n ≢ 0) × (slice_index new m ≢ 0)
    × IsCopy old new k (first_of (slice_index old n)) (first_of (slice_index new m))
    × IsCopy old new k (second_of (slice_index old n)) (second_of (slice_index new m)))

-- the new name of a name: 0 for 0, and otherwise that of its use in the list
abbrev pub IsNamed : List (ℕ × ℕ) → List ℕ → ℕ → ℕ → ℕ → Type 0
IsNamed keys names k n m = ((n ≡ 0) × (m ≡ 0)) ⊎ ((i : ℕ) × (i < length names) × (i < length keys)
    × ((d : ℕ × ℕ) → ((slice_index_or keys i d).0 ≡ k) × ((slice_index_or keys i d).1 ≡ n)) × (slice_index names i ≡ m))

-- the word of a copy: the block, or the pair of the new names
abbrev pub IsNewWord : List ℕ → List (ℕ × ℕ) → List ℕ → ℕ → ℕ → ℕ → Type 0
IsNewWord old keys names zero n w = w ≡ slice_index old n
IsNewWord old keys names (suc k) n w = IsNamed keys names k (first_of (slice_index old n)) (first_of w)
    × IsNamed keys names k (second_of (slice_index old n)) (second_of w)

-- the new words have copies of as many uses as there are new names, and nothing else
pub record AreCopies (old : List ℕ) (keys : List (ℕ × ℕ)) (new names : List ℕ) : Type 0 where
  pub sound : IsSound new
  pub few : stored_count new ≤ length names
  pub copies : (i : ℕ) (d : ℕ × ℕ) → i < length names
      → IsCopy old new (slice_index_or keys i d).0 (slice_index_or keys i d).1 (slice_index names i)
  pub named : (m : ℕ) → slice_index new m ≢ 0 → (i : ℕ) × (i < length names) × (slice_index names i ≡ m)

-- a word is placed: its name is a place that holds it, what stood stays, and no other place is taken
pub record Places (old new : List ℕ) (word name : ℕ) : Type 0 where
  pub seen : Extends old new
  pub sound : IsSound new
  pub few : stored_count new ≤ stored_count old + 1
  pub low : 2 ≤ name
  pub there : slice_index new name ≡ word
  pub only : (m : ℕ) → slice_index new m ≢ 0 → (slice_index old m ≢ 0) ⊎ (m ≡ name)

-- relations with the new names of the roots of others
abbrev pub AreNamed : List (ℕ × ℕ) → List ℕ → List Rel → List Rel → ℕ → Type 0
AreNamed keys names rels moved count = (k : ℕ) (d : Rel) → k < count
    → ((slice_index_or moved k d).rows ≡ (slice_index_or rels k d).rows)
    × ((slice_index_or moved k d).cols ≡ (slice_index_or rels k d).cols)
    × IsNamed keys names (root_depth (slice_index_or rels k d)) (slice_index_or rels k d).root
    (slice_index_or moved k d).root
