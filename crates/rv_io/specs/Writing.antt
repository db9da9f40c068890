-- What the sink has taken of a text that is not written whole.
use Rattle.std.specs.Prelude.{◌≡◌, ◌≤◌, ◌<◌, ◌++◌, ℕ, List, length, take, Option, Some, None, Result, MatchResult}
use Rattle.std.specs.Io.KnownBytes.{Appends}

-- the bytes that a sink reports are those that it reported before, followed by these; a sink that reports now did so
-- before
abbrev pub Grows : Option (List ℕ) → Option (List ℕ) → List ℕ → Type 0
Grows old None bytes = Unit {0}
Grows None (Some now) bytes = ⊥
Grows (Some before) (Some now) bytes = now ≡ before ++ bytes

-- a write took the bytes that it answers for, and none if it failed
abbrev pub TakesIn : {E : Type 0} → Option (List ℕ) → Option (List ℕ) → Result ℕ E → List ℕ → Type 0
TakesIn old new result bytes = MatchResult result (λ n. Grows old new (take n bytes)) (λ _. new ≡ old)

-- the sink took exactly the first `sent` bytes, which are not all
pub record HasSent (old new : Option (List ℕ)) (bytes : List ℕ) (sent : ℕ) : Type 0 where
  -- some bytes were not sent
  pub part : sent < length bytes
  -- the bytes that the sink took
  pub taken : Grows old new (take sent bytes)

-- at most one piece from the front of the bytes was passed on
pub record HasPassed (old new : Option (List ℕ)) (bytes : List ℕ) : Type 0 where
  -- how many bytes
  pub count : ℕ
  -- no more than there are
  pub within : count ≤ length bytes
  -- they were passed once
  pub once : Appends old new (take count bytes)
