-- What a shelf reports of its files, what a call of a shelf or a sink changes, and why it may fail.
use Rattle.std.specs.Prelude.{◌≡◌, ◌≢◌, ◌≤◌, ◌<◌, ◌+◌, ◌-◌, ◌^◌, min, Bool, IsTrue, ℕ, List, [], length, Option, Some, None, Result, OnErr, IfOk, IfSome}
use Rattle.std.specs.Io.KnownBytes.{IsAtEnd}

-- a map from names to the bytes of files
abbrev pub Files : Type 0
Files = List ℕ → Option (List ℕ)

-- what a shelf reports of itself
pub record Told : Type 0 where
  -- the files, if the shelf reports them
  pub files : Option Files
  -- the bytes that are left of the picked file, if the shelf reports them; none if no file is picked
  pub rest : Option (List ℕ)
  -- how many picks and reads failed
  pub faults : ℕ
  -- how many puts failed
  pub put_faults : ℕ
  -- whether a name may be picked
  pub may_pick : List ℕ → Bool

-- what each pick and each read leaves unchanged
pub record Leaves (old new : Told) : Type 0 where
  -- the files are as they were
  pub files : new.files ≡ old.files
  -- the count of failed puts is as it was
  pub put_faults : new.put_faults ≡ old.put_faults
  -- each name that could be picked still can
  pub may_pick : (name : List ℕ) → IsTrue (old.may_pick name) → IsTrue (new.may_pick name)
  -- the count of failed picks and reads did not fall
  pub faults : old.faults ≤ new.faults

-- what each put leaves unchanged for readers
pub record KeepsReading (old new : Told) : Type 0 where
  -- what is left to read is as it was
  pub rest : new.rest ≡ old.rest
  -- the count of failed picks and reads is as it was
  pub faults : new.faults ≡ old.faults
  -- each name that could be picked still can
  pub may_pick : (name : List ℕ) → IsTrue (old.may_pick name) → IsTrue (new.may_pick name)

-- all files except the one of this name are as they were; files that are reported after a put were reported before it
abbrev pub KeepsOthers : Option Files → Option Files → List ℕ → Type 0
KeepsOthers old None name = Unit {0}
KeepsOthers None (Some files) name = ⊥
KeepsOthers (Some before) (Some files) name = (other : List ℕ) → other ≢ name → files other ≡ before other

-- the maximum of a count of faults
abbrev pub last_count : ℕ
last_count = 2 ^ 64 - 1

-- a count rose, or is at its maximum
abbrev pub Rose : ℕ → ℕ → Type 0
Rose before now = min (before + 1) last_count ≤ now

-- a call failed only if this count rose, or is at its maximum
abbrev pub HasCause : {T E : Type 0} → ℕ → ℕ → Result T E → Type 0
HasCause before now result = OnErr result (Rose before now)

-- what is left to read is the whole file of this name, if the files are reported
abbrev pub IsPicked : Option Files → Option (List ℕ) → List ℕ → Type 0
IsPicked files rest name = IfSome files (λ fs. (bytes : List ℕ) × (fs name ≡ Some bytes) × (rest ≡ Some bytes))

-- nothing is left to read; a shelf that reports its files reports this too
abbrev pub IsSpent : Option Files → Option (List ℕ) → Type 0
IsSpent None rest = IsAtEnd rest
IsSpent (Some fs) rest = rest ≡ Some []

-- the file of this name has exactly these bytes, if the files are reported
abbrev pub IsFile : Option Files → List ℕ → List ℕ → Type 0
IsFile files name bytes = IfSome files (λ fs. fs name ≡ Some bytes)

-- the file of this name is longer than the limit, if the files are reported
abbrev pub IsOver : Option Files → List ℕ → ℕ → Type 0
IsOver files name limit = IfSome files (λ fs. (bytes : List ℕ) × (fs name ≡ Some bytes) × (limit < length bytes))

-- a write took at least one byte, and at most all
pub record TakesSome {E : Type 0} (result : Result ℕ E) (bytes : List ℕ) : Type 0 where
  -- at least one byte
  pub one : IfOk result (λ n. 0 < n)
  -- at most all
  pub within : IfOk result (λ n. n ≤ length bytes)
