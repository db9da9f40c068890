-- Splitting a worker off, and joining two into one.
use Rattle.std.specs.Prelude.{◌≡◌, ◌<◌, ◌+◌, ◌-◌, ◌^◌, min, ℕ}
use Rattle.rel_model.specs.declared.Rel.{Rel}
use Rattle.rel_model.specs.declared.Quad.{Quad}
use Rattle.rel_model.specs.Worker.{Worker, Stands, HasQuad, Keeps}

-- everything that stood in the first stands in the second, with the same sets
pub record Holds (old new : Worker) : Type 0 where
  pub same : (r : Rel) → Stands old r → new.relation r ≡ old.relation r
  pub same_quads : (q : Quad) → HasQuad old q → new.quad q ≡ old.quad q

-- both work on one table
abbrev pub Kin : Worker → Worker → Type 0
Kin a b = a.house ≡ b.house

-- a second worker is split off: everything that stood stands in both; the second has missed and made nothing and has
-- `spare` spare workers; the first loses these and one more
pub record SplitsWorker (spare : ℕ) (old new second : Worker) : Type 0 where
  pub holds : Holds old new
  pub second_holds : Holds old second
  pub house : new.house ≡ old.house
  pub second_house : second.house ≡ old.house
  pub misses : new.misses ≡ old.misses
  pub counted : old.misses < 2 ^ 64
  pub second_misses : second.misses ≡ 0
  pub made : new.made ≡ old.made
  pub second_made : second.made ≡ 0
  pub spares : new.spare + spare + 1 ≡ old.spare
  pub second_spare : second.spare ≡ spare

-- two workers become one: everything stands that stood in either; misses add up (saturating), nodes made add up, and
-- the spare workers are those of both and one more
pub record JoinsWorker (old other new : Worker) : Type 0 where
  pub holds : Holds old new
  pub other_holds : Holds other new
  pub house : new.house ≡ old.house
  pub misses : new.misses ≡ min (old.misses + other.misses) (2 ^ 64 - 1)
  pub counted : old.misses < 2 ^ 64
  pub made : new.made ≡ old.made + other.made
  pub spares : new.spare ≡ old.spare + other.spare + 1

-- everything that stood stands with the same sets, and the table and all counts are unchanged
pub record Stays (old new : Worker) : Type 0 where
  pub keeps : Keeps old new
  pub misses : new.misses ≡ old.misses
  pub made : new.made ≡ old.made

-- everything that stood in another worker stands here too, with the same sets
pub record Learns (old other new : Worker) : Type 0 where
  pub stays : Stays old new
  pub other_holds : Holds other new
