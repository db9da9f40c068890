-- What callers see of a table and of a seat, and what each call on them promises.
use Rattle.std.specs.Prelude.{◌≡◌, ◌≢◌, ◌⊎◌, ◌<◌, ◌≤◌, ◌+◌, ◌-◌, ◌^◌, min, ℕ, true, List, slice_index, length, Result, IfOk, IsOk, IsErr, Option, Some, None}
use base.Stored.{Gv}
use Rattle.rel_model.specs.Cells.{Cells}
use Rattle.rel_model.specs.Trees.{cells, stands}
use Rattle.rel_model.specs.Words.{least_bits, most_bits, Extends, IsDistinct, IsFull, IsFullOfOthers, stored_count}
use Rattle.rel_model.specs.Equations.{IsMemo, IsSoundTable, node_words}

-- an opaque table identity; only equality can be tested
abbrev pub House : Type 0
House = Gv

-- a table of 2 ^ bits node words, with at most this many seats
pub record Table : Type 0 where
  pub house : House
  pub bits : ℕ
  pub seats : ℕ

-- what a seat knows
pub record View : Type 0 where
  -- the table that the seat belongs to
  pub house : House
  -- the words that it has seen, each at its place; 0 at every other place
  pub words : List ℕ
  -- how many words it placed
  pub made : ℕ
  -- how many seats may still be split off
  pub spare : ℕ
  -- the slot of its last memo step, with the word loaded or stored there; none before the first
  pub last : Option (ℕ × ℕ)
  -- how often it was refused a place, counted up to 2 ^ 64 - 1
  pub refused : ℕ

-- the seat belongs to this table, whose size is within the limits, its names are canonical, and it was refused a place
-- only if it saw that every place is taken
pub record IsOf (seat : View) (table : Table) : Type 0 where
  pub one_house : seat.house ≡ table.house
  pub size : length seat.words ≡ 2 ^ table.bits
  pub low : least_bits ≤ table.bits
  pub high : table.bits ≤ most_bits
  pub canonical : IsDistinct seat.words
  pub counted : seat.refused < 2 ^ 64
  pub full : seat.refused ≢ 0 → IsFull seat.words

-- name 0, or a name whose word was seen
abbrev pub IsKnown : View → ℕ → Type 0
IsKnown v n = (n ≡ 0) ⊎ (slice_index v.words n ≢ 0)

-- a name stands at a depth, with this set
pub record IsSet (v : View) (depth name : ℕ) (f : Cells) : Type 0 where
  pub standing : stands v.words depth name ≡ true
  pub means : cells v.words depth name ≡ f

-- a call keeps what was seen, the table and the spare seats
pub record Keeps (old new : View) : Type 0 where
  pub seen : Extends old.words new.words
  pub house : new.house ≡ old.house
  pub spare : new.spare ≡ old.spare

-- a call that places no word keeps the counts of words made and of refusals, and the last memo step too
pub record Reads (old new : View) : Type 0 where
  pub keeps : Keeps old new
  pub made : new.made ≡ old.made
  pub last : new.last ≡ old.last
  pub refused : new.refused ≡ old.refused

-- a table with no word, and its first seat
pub record IsFresh (bits seats : ℕ) (made : Table × View) : Type 0 where
  pub bits_are : made.0.bits ≡ bits
  pub seats_are : made.0.seats ≡ seats
  pub of : IsOf made.1 made.0
  pub vacant : (n : ℕ) → slice_index made.1.words n ≡ 0
  pub none_made : made.1.made ≡ 0
  pub spare_is : made.1.spare + 1 ≡ seats
  pub no_load : made.1.last ≡ None
  pub none_refused : made.1.refused ≡ 0

-- a call placed its word, which stood nowhere in the view before, and counts one more as made
pub record IsPlacedNow {E : Type 0} (old new : View) (word : ℕ) (result : Result ℕ E) : Type 0 where
  pub more : new.made ≡ old.made + 1
  pub absent : (n : ℕ) → slice_index old.words n ≢ word
  pub answered : IsOk result

-- one refusal more; the count saturates
abbrev pub one_more_refusal : ℕ → ℕ
one_more_refusal n = min (n + 1) (2 ^ 64 - 1)

-- a word is interned: the answer is its one name; there is no answer if and only if every place holds another word, and
-- this alone counts as a refusal; nothing was made unless the word was placed
pub record Interns {E : Type 0} (old new : View) (word : ℕ) (result : Result ℕ E) : Type 0 where
  pub named : IfOk result (λ n. (2 ≤ n) × (slice_index new.words n ≡ word))
  pub missed : IsErr result → IsFullOfOthers new.words word
  pub only_full : IsFullOfOthers new.words word → IsErr result
  pub granted : IsOk result → new.refused ≡ old.refused
  pub refused : IsErr result → new.refused ≡ one_more_refusal old.refused
  pub made : (new.made ≡ old.made) ⊎ IsPlacedNow old new word result
  pub keeps : Keeps old new
  pub last : new.last ≡ old.last

-- a memo word is loaded: it is 0 or a true equation at home in its slot, and the load is the last memo step
pub record Loads (slot word : ℕ) (old new : View) : Type 0 where
  pub holds : word ≢ 0 → IsMemo new.words slot word
  pub keeps : Keeps old new
  pub made : new.made ≡ old.made
  pub refused : new.refused ≡ old.refused
  pub last : new.last ≡ Some (slot, word)

-- a second seat is split off: both know the same, and the second has made nothing and was refused nothing
pub record Splits (spare : ℕ) (old new second : View) : Type 0 where
  pub seen : Extends old.words new.words
  pub words : second.words ≡ new.words
  pub house : new.house ≡ old.house
  pub second_house : second.house ≡ old.house
  pub made : new.made ≡ old.made
  pub second_made : second.made ≡ 0
  pub spares : new.spare + spare + 1 ≡ old.spare
  pub second_spare : second.spare ≡ spare
  pub last : new.last ≡ old.last
  pub second_last : second.last ≡ old.last
  pub refused : new.refused ≡ old.refused
  pub second_refused : second.refused ≡ 0

-- two seats become one, which knows what either knew and counts the refusals of both (the count saturates)
pub record Joins (old other new : View) : Type 0 where
  pub seen : Extends old.words new.words
  pub also_seen : Extends other.words new.words
  pub house : new.house ≡ old.house
  pub made : new.made ≡ old.made + other.made
  pub spares : new.spare ≡ old.spare + other.spare + 1
  pub last : new.last ≡ old.last
  pub refused : new.refused ≡ min (old.refused + other.refused) (2 ^ 64 - 1)

-- the words at the end: they are sound, hold all that the seat has seen, and store as many nodes as the seat made
pub record IsClosed (bits : ℕ) (seat : View) (words : List ℕ) : Type 0 where
  pub sound : IsSoundTable bits words
  pub holds : Extends seat.words (node_words bits words)
  pub counted : stored_count (node_words bits words) ≡ seat.made
