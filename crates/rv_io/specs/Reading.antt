-- The result of reading a whole file, why it may be refused, and how much of the file was taken.
use Rattle.std.specs.Prelude.{◌≡◌, ◌<◌, ◌≤◌, ◌+◌, ◌⊎◌, ℕ, List, ◌++◌, length, Option, Some, Result, Ok, Err, IfSome}
use Rattle.std.specs.Io.KnownBytes.{IsAtEnd, Consumes}
use Rattle.rv_io.specs.Outside.{Files, Told, Rose, IsOver, IsSpent}
use Rattle.rv_io.specs.declared.reading.ReadError.{ReadError}
use Rattle.rv_io.specs.declared.reading.ReadError.TheVariants.{Fault, TooLong, NoMemory}

-- why a file was not read: the shelf failed, or the file is too long, or memory ran out, about which nothing is said
abbrev pub RefusesFile : Told → Told → List ℕ → ℕ → ReadError → Type 0
RefusesFile old new name limit Fault = Rose old.faults new.faults
RefusesFile old new name limit (TooLong given) = (given ≡ limit) × IsOver old.files name limit
RefusesFile old new name limit NoMemory = Unit {0}

-- the count of faults of the shelf rose if and only if the answer is a fault; it stayed if a file was read, was too
-- long, or memory ran out
abbrev pub CountsFault : {T : Type 0} → ℕ → ℕ → Result T ReadError → Type 0
CountsFault before now (Ok v) = now ≡ before
CountsFault before now (Err Fault) = Rose before now
CountsFault before now (Err (TooLong given)) = now ≡ before
CountsFault before now (Err NoMemory) = now ≡ before

-- bytes were taken from the front of the file of this name, as many as the condition says, and the rest is left; if the
-- files are reported
abbrev pub HasTaken : Option Files → Option (List ℕ) → List ℕ → (ℕ → Type 0) → Type 0
HasTaken files rest name as_many = IfSome files (λ fs. (taken : List ℕ) × (left : List ℕ)
    × (fs name ≡ Some (taken ++ left)) × (rest ≡ Some left) × as_many (length taken))

-- how much of the file was taken: all of it; after a fault, at most `limit` bytes, or nothing is left; `limit + 1`
-- bytes of a file that is too long; and if memory ran out, at least one and at most `limit` bytes, so that a file
-- without bytes needs none
abbrev pub StopsIn : {T : Type 0} → Result T ReadError → Option Files → Option (List ℕ) → List ℕ → ℕ → Type 0
StopsIn (Ok bytes) files rest name limit = IsSpent files rest
StopsIn (Err Fault) files rest name limit = IsSpent files rest ⊎ HasTaken files rest name (λ n. n ≤ limit)
StopsIn (Err (TooLong given)) files rest name limit = HasTaken files rest name (λ n. n ≡ limit + 1)
StopsIn (Err NoMemory) files rest name limit = HasTaken files rest name (λ n. (0 < n) × (n ≤ limit))

-- the next n bytes were read and appended to those before; none only at the end
pub record ReadsOn (old new : Option (List ℕ)) (before after : List ℕ) (n : ℕ) : Type 0 where
  pub taken : List ℕ
  pub added : after ≡ before ++ taken
  pub count : length taken ≡ n
  pub consumed : Consumes old new taken
  pub end : n ≡ 0 → IsAtEnd new

-- these are all bytes that were left, within the limit
pub record ReadsToEnd (old new : Option (List ℕ)) (bytes : List ℕ) (limit : ℕ) : Type 0 where
  pub consumed : Consumes old new bytes
  pub end : IsAtEnd new
  pub within : length bytes ≤ limit

-- bytes were taken from what was left, as many as the condition says
pub record TakesOn (old new : Option (List ℕ)) (as_many : ℕ → Type 0) : Type 0 where
  pub taken : List ℕ
  pub consumed : Consumes old new taken
  pub count : as_many (length taken)

-- why no more was read, after this many bytes, and how many were taken: if memory ran out, at least one byte was read
abbrev pub RefusesMore : Told → Told → ℕ → ℕ → ReadError → Type 0
RefusesMore old new before limit Fault = Rose old.faults new.faults
    × TakesOn old.rest new.rest (λ n. before + n ≤ limit)
RefusesMore old new before limit (TooLong given) = (given ≡ limit)
    × TakesOn old.rest new.rest (λ n. before + n ≡ limit + 1)
RefusesMore old new before limit NoMemory = TakesOn old.rest new.rest (λ n. (0 < before + n) × (before + n ≤ limit))
