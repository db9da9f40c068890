-- Words of a table that were compacted: they keep the relations, and nothing that these do not reach.
use Rattle.std.specs.Prelude.{◌≡◌, ◌≢◌, ◌↔◌, ◌<◌, ◌≤◌, ◌+◌, ◌-◌, ◌^◌, ℕ, true, List, length, take, slice_index, slice_index_or}
use Rattle.rel_model.specs.declared.Rel.{Rel}
use Rattle.rel_model.specs.Words.{least_bits, most_bits, stored_count}
use Rattle.rel_model.specs.Equations.{IsSoundTable, memo_slots}
use Rattle.rel_model.specs.Roots.{stands_in, relation_in}
use Rattle.rel_model.specs.Uses.{is_reached, uses_count}
use Rattle.rv_compact.specs.declared.compacting.CompactRefused.{CompactRefused}
use Rattle.rv_compact.specs.declared.compacting.CompactRefused.TheVariants.{Full, NoMemory}

-- how many node words a table has, whose last words are the memo words
abbrev pub node_count : List ℕ → ℕ
node_count words = length words - memo_slots

-- the node words of a table
abbrev pub nodes_of : List ℕ → List ℕ
nodes_of words = take (node_count words) words

-- how many nodes a table has room for
abbrev pub node_room : List ℕ → ℕ
node_room words = node_count words - 2

-- sound words of a table
pub record IsTable (words : List ℕ) : Type 0 where
  pub bits : ℕ
  pub low : least_bits ≤ bits
  pub high : bits ≤ most_bits
  pub sound : IsSoundTable bits words

-- each relation stands in the node words
abbrev pub AllStand : List ℕ → List Rel → Type 0
AllStand nodes rels = (k : ℕ) (d : Rel) → k < length rels → stands_in nodes (slice_index_or rels k d) ≡ true

-- a relation has the sizes and the set that another one has in other node words
pub record IsMoved (old new : List ℕ) (before after : Rel) : Type 0 where
  pub same_rows : after.rows ≡ before.rows
  pub same_cols : after.cols ≡ before.cols
  pub same_set : relation_in new after ≡ relation_in old before

-- words that keep the relations of others, with other roots, and store exactly the nodes that these reach
pub record IsCompacted (words : List ℕ) (rels : List Rel) (new : List ℕ) (moved : List Rel) : Type 0 where
  -- there are as many words as before
  pub same_length : length new ≡ length words
  -- they are sound words of a table of the same size
  pub sound : (bits : ℕ) → length words ≡ 2 ^ bits + memo_slots → IsSoundTable bits new
  -- all memo words are 0
  pub no_memo : (slot : ℕ) → slice_index new (node_count words + slot) ≡ 0
  -- each relation is replaced by one with its sizes and its set
  pub as_many : length moved ≡ length rels
  pub each : (k : ℕ) (d : Rel) → k < length rels
      → IsMoved (nodes_of words) (nodes_of new) (slice_index_or rels k d) (slice_index_or moved k d)
  -- the nodes are those that the moved relations reach
  pub reached : (n : ℕ) → (slice_index (nodes_of new) n ≢ 0) ↔ (is_reached (nodes_of new) moved n ≡ true)
  -- there are at most as many as the uses that the relations reach in the old words
  pub few : stored_count (nodes_of new) ≤ uses_count (nodes_of words) rels

-- why relations are not moved: they reach this many uses, more than there is room for; or memory ran out
abbrev pub HasCause : List ℕ → List Rel → CompactRefused → Type 0
HasCause words rels (Full uses) = (uses ≡ uses_count (nodes_of words) rels) × (node_room words < uses)
HasCause words rels NoMemory = Unit {0}
