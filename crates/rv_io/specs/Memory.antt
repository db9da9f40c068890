-- What a shelf and a sink in memory hold, and which of their calls fail.
use Rattle.std.specs.Prelude.{◌≡◌, ◌+◌, ℕ, Bool, List, [], ◌∷◌, Option, Some, None, cond, nat_eq, min, IsTrue, Result, IsErr, is_ok}
use Rattle.std.specs.List.{list_any}
use Rattle.std.specs.declared.string.String.{String}
use Rattle.std.specs.String.{string_bytes}
use Rattle.std.specs.declared.vec.Vec.{Vec}
use Rattle.std.specs.declared.alloc.Global.{Global}
use Rattle.rv_io.specs.declared.calls.Calls.{Calls}
use Rattle.rv_io.specs.Outside.{last_count}
use lib.Pointwise.{pointwise}

-- a file in memory: its name and its bytes
abbrev pub File : Type 0
File = String Global × Vec ℕ Global

-- whether a file has this name
abbrev pub has_name : List ℕ → File → Bool
has_name name file = pointwise nat_eq (string_bytes file.0) name

-- the bytes of the first file of this name, if there is one
abbrev pub file_at : List File → List ℕ → Option (List ℕ)
file_at [] name = None
file_at (file ∷ files) name = cond (has_name name file) (Some file.1.items) (file_at files name)

-- the count after one more; it saturates
abbrev pub one_more : ℕ → ℕ
one_more count = min (count + 1) last_count

-- whether the number of a call is among these
abbrev pub is_listed : List ℕ → ℕ → Bool
is_listed failing call = list_any (λ number. nat_eq number call) failing

-- a call has a number; it fails if its number is listed; calls and failed calls are counted
pub record IsCounted {T E : Type 0} (result : Result T E) (old new : Calls) : Type 0 where
  -- the same calls are listed as before
  pub failing : new.failing ≡ old.failing
  -- the next call has the next number
  pub number : new.count ≡ one_more old.count
  -- a call that is listed fails
  pub listed : IsTrue (is_listed old.failing.items old.count) → IsErr result
  -- the count of faults rises by one if the call failed, and stays otherwise
  pub faults : new.faults ≡ cond (is_ok result) old.faults (one_more old.faults)

-- a put has a number like every call; it fails if its number is listed; failed puts are counted separately
pub record IsPutCounted {T E : Type 0} (result : Result T E) (old new : Calls) (before now : ℕ) : Type 0 where
  -- the same calls are listed as before
  pub failing : new.failing ≡ old.failing
  -- the next call has the next number
  pub number : new.count ≡ one_more old.count
  -- a call that is listed fails
  pub listed : IsTrue (is_listed old.failing.items old.count) → IsErr result
  -- the count of failed picks and reads stays
  pub faults : new.faults ≡ old.faults
  -- the count of failed puts rises by one if the call failed, and stays otherwise
  pub put_faults : now ≡ cond (is_ok result) before (one_more before)
