-- What never changes of a kept value: the house that it belongs to, and what it began with.
use Rattle.std.specs.Prelude.{Option, Some, None}
use base.Stored.{coded_ℕ}
use Rattle.turn_book.specs.Views.{House, Start, no_start}

-- house and start of a value, together
pub record Origin : Type 0 where
  pub house : House
  pub start : Start

module _ {S : Type 0} where
  -- house and start of this value
  abbrev pub origin_of : (S → House) → (S → Start) → S → Origin
  origin_of house start x = record { house = house x; start = start x }

  -- the house of the value with which the book was made, as known to each pass that was not joined to another
  abbrev pub house_in : (S → House) → Option S → House
  house_in house None = coded_ℕ.code 0
  house_in house (Some first) = house first

  -- the start of that value
  abbrev pub start_in : (S → Start) → Option S → Start
  start_in start None = no_start
  start_in start (Some first) = start first
