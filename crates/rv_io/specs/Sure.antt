-- What a shelf and a sink that never fail keep in room reserved before, and what they report of it.
use Rattle.std.specs.Prelude.{◌≡◌, ◌≤◌, ◌+◌, ◌-◌, ℕ, Bool, true, cond, nat_lt, List, [], ◌∷◌, length, take, drop, nat_eq, max, Option, Some, None}
use Rattle.std.specs.List.{AllByRecursion}
use Rattle.rv_io.specs.Outside.{Files}
use Rattle.rv_io.specs.declared.kept.Place.{Place}
use lib.Pointwise.{pointwise}

-- what is reported: nothing if something was lost
abbrev pub told_unless : {T : Type 0} → Bool → T → Option T
told_unless lost told = cond lost None (Some told)

-- whether something is lost after a call: something was lost before, or the call takes more room than was left
abbrev pub lost_after : Bool → ℕ → ℕ → Bool
lost_after lost left taken = cond lost true (nat_lt left taken)

-- the bytes from one number to another
abbrev pub between : List ℕ → ℕ → ℕ → List ℕ
between bytes from to = take (to - from) (drop from bytes)

-- the name of a kept file
abbrev pub name_in : List ℕ → Place → List ℕ
name_in bytes place = between bytes place.name place.content

-- the content of a kept file
abbrev pub content_in : List ℕ → Place → List ℕ
content_in bytes place = between bytes place.content place.end

-- whether a kept file has this name
abbrev pub is_named : List ℕ → List ℕ → Place → Bool
is_named bytes name place = pointwise nat_eq (name_in bytes place) name

-- the content of the first kept file of this name, if there is one
abbrev pub kept_at : List ℕ → List Place → List ℕ → Option (List ℕ)
kept_at bytes [] name = None
kept_at bytes (place ∷ places) name = cond (is_named bytes name place) (Some (content_in bytes place))
    (kept_at bytes places name)

-- a kept file lies within the bytes, its content after its name
abbrev pub IsWithin : List ℕ → Place → Type 0
IsWithin bytes place = (place.name ≤ place.content) × (place.content ≤ place.end) × (place.end ≤ length bytes)

-- each kept file lies within the bytes
abbrev pub AreWithin : List ℕ → List Place → Type 0
AreWithin bytes = AllByRecursion (IsWithin bytes)

-- these files with another one in front
abbrev pub with_first : List ℕ → List ℕ → Files → Files
with_first name content files other = cond (pointwise nat_eq name other) (Some content) (files other)

-- how much room a put takes: its name and its bytes, and one if both are empty
abbrev pub cost_of : List ℕ → List ℕ → ℕ
cost_of name bytes = max 1 (length name + length bytes)

-- a file was placed within the bytes, with this name and this content
pub record IsPlaced (name content bytes : List ℕ) (place : Place) : Type 0 where
  pub within : IsWithin bytes place
  pub named : name_in bytes place ≡ name
  pub holds : content_in bytes place ≡ content
