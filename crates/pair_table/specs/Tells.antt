-- What each kind of step adds to the view of the seat that takes it.
use Rattle.std.specs.Prelude.{◌≡◌, ◌≢◌, ◌⊎◌, ◌<◌, ◌≤◌, ◌+◌, ◌-◌, ◌%◌, ◌^◌, ℕ, slice_index, length, Result, IfOk, IsOk, IsErr, Some}
use Rattle.atomic_table.specs.Table.{Me, Step}
use Rattle.rel_model.specs.Words.{Extends, IsDistinct, IsFullOfOthers, home_sum}
use Rattle.rel_model.specs.Equations.{IsMemo}
use Rattle.pair_table.specs.declared.rule.Known.{Known}
use Rattle.pair_table.specs.Probe.{Passed}

-- any step keeps what was seen, and leaves names canonical
pub record Steps (old new : Known) : Type 0 where
  pub seen : Extends old.words new.words
  pub canonical : IsDistinct new.words
  pub parts : new.parts ≡ old.parts

-- a load of a node word: this word is seen now, and so are the words of a seat that was joined before
pub record SeesWord (place found : ℕ) (old new : Known) : Type 0 where
  pub steps : Steps old new
  pub told : Extends old.told new.words
  pub few : new.parts < 2 ^ 32
  pub there : slice_index new.words place ≡ found
  pub made : new.made ≡ old.made
  pub last : new.last ≡ old.last

-- a compare-exchange of a node word from 0: if 0 was found, the seat's word was placed, which stood nowhere in the view
-- before; otherwise the word that was found is seen
pub record TriesWord (place word found : ℕ) (old new : Known) : Type 0 where
  pub steps : Steps old new
  pub lost : found ≢ 0 → (slice_index new.words place ≡ found) × (new.made ≡ old.made)
  pub won : found ≡ 0 → (slice_index new.words place ≡ word) × (new.made ≡ old.made + 1)
  pub absent : found ≡ 0 → (n : ℕ) → slice_index old.words n ≢ word
  pub last : new.last ≡ old.last

-- a step that notes how many spare seats will be cut off
pub record NotesCut (spare : ℕ) (old new : Known) : Type 0 where
  pub steps : Steps old new
  pub cut : new.cut ≡ spare
  pub made : new.made ≡ old.made
  pub last : new.last ≡ old.last

-- a load of a memo word: it is 0 or a true equation in the view after it, and it is the last memo step
pub record SeesMemo (slot found : ℕ) (old new : Known) : Type 0 where
  pub steps : Steps old new
  pub made : new.made ≡ old.made
  pub holds : found ≢ 0 → IsMemo new.words slot found
  pub last : new.last ≡ Some (slot, found)

-- a store of a memo word, which is the last memo step
pub record StoresMemo (slot word : ℕ) (old new : Known) : Type 0 where
  pub steps : Steps old new
  pub made : new.made ≡ old.made
  pub last : new.last ≡ Some (slot, word)

-- ---- the same for a step of the base crate, which leaves the seat's slots unchanged
-- a load of the node word named by the step
abbrev pub load_tells : {S : Type 0} → Step S → Me S Known → ℕ → Me S Known → Type 0
load_tells s m found n = SeesWord s.word found m.0 n.0 × (n.1 ≡ m.1)

-- a compare-exchange of a node word, whose second operand is the word to be placed
abbrev pub place_tells : {S : Type 0} → Step S → Me S Known → ℕ → Me S Known → Type 0
place_tells s m found n = TriesWord s.word s.second found m.0 n.0 × (n.1 ≡ m.1)

-- a compare-exchange of a number by itself, which is the first operand
abbrev pub cut_tells : {S : Type 0} → Step S → Me S Known → ℕ → Me S Known → Type 0
cut_tells s m found n = NotesCut s.first m.0 n.0 × (n.1 ≡ m.1)

-- a load of a memo word; its slot is the place of the word minus the number of node words, which is the length of the
-- view
abbrev pub memo_load_tells : {S : Type 0} → Step S → Me S Known → ℕ → Me S Known → Type 0
memo_load_tells s m found n = SeesMemo (s.word - length m.0.words) found m.0 n.0 × (n.1 ≡ m.1)

-- a store of a memo word; its slot is computed likewise, and the first operand is the word to be stored
abbrev pub memo_store_tells : {S : Type 0} → Step S → Me S Known → ℕ → Me S Known → Type 0
memo_store_tells s m found n = StoresMemo (s.word - length m.0.words) s.first m.0 n.0 × (n.1 ≡ m.1)

-- ---- what a call of several steps adds
-- on the way from a word's home, in a call that began with the view `old`
pub record IsUnderWay (old now : Known) (word step place count : ℕ) : Type 0 where
  pub steps : Steps old now
  pub made : now.made ≡ old.made
  pub last : now.last ≡ old.last
  pub counted : length now.words ≡ count + 2
  pub here : place ≡ (home_sum word + step) % count
  pub passed : Passed now.words word step

-- a call placed its word, which stood nowhere in the view before
pub record PlacedIt {E : Type 0} (old new : Known) (word : ℕ) (result : Result ℕ E) : Type 0 where
  pub more : new.made ≡ old.made + 1
  pub absent : (n : ℕ) → slice_index old.words n ≢ word
  pub answered : IsOk result

-- a word is interned
pub record InternsFor {E : Type 0} (old new : Known) (word : ℕ) (result : Result ℕ E) : Type 0 where
  pub named : IfOk result (λ n. (2 ≤ n) × (slice_index new.words n ≡ word))
  pub missed : IsErr result → IsFullOfOthers new.words word
  pub made : (new.made ≡ old.made) ⊎ PlacedIt old new word result
  pub steps : Steps old new
  pub last : new.last ≡ old.last

-- what a seat is after spare seats were cut off
pub record IsLeft (spare : ℕ) (old new : Known) : Type 0 where
  pub seen : Extends old.words new.words
  pub canonical : IsDistinct new.words
  pub parts : new.parts + (spare + 1) ≡ old.parts
  pub made : new.made ≡ old.made
  pub last : new.last ≡ old.last

-- what the second seat is
pub record IsRight (spare : ℕ) (first second : Known) : Type 0 where
  pub words : second.words ≡ first.words
  pub parts : second.parts ≡ spare + 1
  pub made : second.made ≡ 0
  pub last : second.last ≡ first.last

-- two views as one
pub record IsBoth (v w new : Known) : Type 0 where
  pub seen : Extends v.words new.words
  pub also_seen : Extends w.words new.words
  pub canonical : IsDistinct new.words
  pub parts : new.parts ≡ v.parts + w.parts
  pub few : new.parts < 2 ^ 32
  pub made : new.made ≡ v.made + w.made
  pub last : new.last ≡ v.last
