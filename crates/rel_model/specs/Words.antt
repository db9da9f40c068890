-- The node words of a table. A name is a place in a list of words; 0 means no word. Places 0 and 1 stay vacant.
use Rattle.std.specs.Prelude.{◌≡◌, ◌≢◌, ◌<◌, ◌≤◌, ◌+◌, ◌-◌, ◌*◌, ◌%◌, ◌^◌, ℕ, List, [], ◌∷◌, ◌==◌, if◌then◌else◌, slice_index, length}
use Rattle.rel_model.specs.Trees.{first_of, second_of}

-- the least number of bits of a table; a table of b bits has 2 ^ b node words
abbrev pub least_bits : ℕ
least_bits = 10

-- the greatest number of bits
abbrev pub most_bits : ℕ
most_bits = 24

-- the factor by which the first half of a word is multiplied for its hash value
abbrev pub first_factor : ℕ
first_factor = 2654435761

-- the factor of the second half
abbrev pub second_factor : ℕ
second_factor = 2246822519

-- each word that is not 0 is kept, and the number of places stays
pub record Extends (old new : List ℕ) : Type 0 where
  pub same_length : length new ≡ length old
  pub kept : (n : ℕ) → slice_index old n ≢ 0 → slice_index new n ≡ slice_index old n

-- what makes names canonical: places 0 and 1 are vacant, no word stands at two places, and each word fits in 64 bits
pub record IsDistinct (words : List ℕ) : Type 0 where
  pub none_at_0 : slice_index words 0 ≡ 0
  pub none_at_1 : slice_index words 1 ≡ 0
  pub one_place : (m n : ℕ) → slice_index words m ≢ 0 → slice_index words m ≡ slice_index words n → m ≡ n
  pub fits : (n : ℕ) → slice_index words n < 2 ^ 64

-- the hash value of a word, whose remainder by the number of places from 2 on is its home
abbrev pub home_sum : ℕ → ℕ
home_sum word = (first_of word * first_factor + second_of word * second_factor) % 2 ^ 64

-- the place t steps after a word's home; after the last place comes place 2
abbrev pub place_at : ℕ → ℕ → ℕ → ℕ
place_at size word t = 2 + (home_sum word + t) % (size - 2)

-- a place reached from a word's home over taken places (linear probing)
pub record IsReached (words : List ℕ) (word n : ℕ) : Type 0 where
  pub steps : ℕ
  pub here : n ≡ place_at (length words) word steps
  pub before : (s : ℕ) → s < steps → slice_index words (place_at (length words) word s) ≢ 0

-- sound node words: names are canonical, and each word is reached from its home
pub record IsSound (words : List ℕ) : Type 0 where
  pub distinct : IsDistinct words
  pub reached : (n : ℕ) → slice_index words n ≢ 0 → IsReached words (slice_index words n) n

-- every place from 2 on holds another word
abbrev pub IsFullOfOthers : List ℕ → ℕ → Type 0
IsFullOfOthers words word = (n : ℕ) → 2 ≤ n → n < length words
    → (slice_index words n ≢ 0) × (slice_index words n ≢ word)

-- every place from 2 on is taken
abbrev pub IsFull : List ℕ → Type 0
IsFull words = (n : ℕ) → 2 ≤ n → n < length words → slice_index words n ≢ 0

-- how many places are taken
abbrev pub stored_count : List ℕ → ℕ
stored_count [] = 0
stored_count (w ∷ ws) = (if w == 0 then 0 else 1) + stored_count ws
