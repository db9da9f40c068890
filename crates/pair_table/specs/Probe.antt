-- The probe sequence of a word from its home on.
use Rattle.std.specs.Prelude.{◌≡◌, ◌≢◌, ◌<◌, ◌≤◌, ℕ, List, slice_index, length}
use Rattle.rel_model.specs.Words.{place_at}

-- the first t places from a word's home on hold other words
abbrev pub Passed : List ℕ → ℕ → ℕ → Type 0
Passed words word t = (s : ℕ) → s < t → (slice_index words (place_at (length words) word s) ≢ 0)
    × (slice_index words (place_at (length words) word s) ≢ word)

-- a place after places that all hold other words, so that the word may be placed there if it is vacant
pub record IsNext (words : List ℕ) (word n : ℕ) : Type 0 where
  pub low : 2 ≤ n
  pub high : n < length words
  pub steps : ℕ
  pub here : n ≡ place_at (length words) word steps
  pub passed : Passed words word steps

-- one vacant place got a word, and all other places are unchanged
pub record IsPlaced (old new : List ℕ) (n word : ℕ) : Type 0 where
  pub same_length : length new ≡ length old
  pub there : slice_index new n ≡ word
  pub others : (m : ℕ) → m ≢ n → slice_index new m ≡ slice_index old m
  pub vacant : slice_index old n ≡ 0
