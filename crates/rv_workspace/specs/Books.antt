-- What a book holds.
use Rattle.std.specs.Prelude.{◌≡◌, ◌<◌, ◌^◌, ℕ, List, Some, All}
use Rattle.std.specs.List.{AllByRecursion}
use Rattle.rel_model.specs.declared.Rel.{Rel}
use Rattle.rel_model.specs.Worker.{Worker, Stands}
use Rattle.run_model.specs.declared.event.Event.{Event}
use Rattle.run_model.specs.Names.{lookup}
use Rattle.run_model.specs.Carried.{Carried, First, carried_from}
use Rattle.run_model.specs.Versions.{Versions, noted, version_behind, versions_after}
use Rattle.run_model.specs.Sessions.{rel_of}

-- the relation of an event stands in a worker, if it carries one
abbrev pub EventStands : Worker → Event → Type 0
EventStands w e = AllByRecursion (Stands w) (rel_of e.act)

-- the relations of all events do
abbrev pub HistoryStands : Worker → List Event → Type 0
HistoryStands w events = All (EventStands w) events

-- the relations of all names stand in a worker
abbrev pub NamesStand : Worker → Carried → Type 0
NamesStand w names = (name : List ℕ) (r : Rel) → lookup names name ≡ Some r → Stands w r

-- the same, entry by entry
abbrev pub AllNamesStand : Worker → Carried → Type 0
AllNamesStand w = AllByRecursion (λ entry. Stands w entry.1)

-- the relations of all names stand in another worker, with the sets that they have in the archive
abbrev pub StandAlike : Worker → Worker → Carried → Type 0
StandAlike archive w names =
    (name : List ℕ) (r : Rel) → lookup names name ≡ Some r → Stands w r × (w.relation r ≡ archive.relation r)

-- no version exceeds 2^63 - 1
abbrev pub AreFew : Versions → Type 0
AreFew versions = (name : List ℕ) → noted versions name < 2 ^ 63

-- names and versions are those left by a history that began with the first ones, and none of the first versions exceeds
-- 2^63 - 1
pub record AreLeft (names : Carried) (versions : Versions) (first : First) (history : List Event) : Type 0 where
  pub names_left : names ≡ carried_from first.names history
  pub versions_left : versions ≡ versions_after first.versions history
  pub few : AreFew first.versions

-- a book: the names and versions with which it began, what has happened to its names since, and the worker that keeps
-- their relations
pub record Held (E : Type 0) : Type 0 where
  pub history : List Event
  pub archive : E
  pub first : First

module _ {E : Type 0} where
  -- the names of a book: those left by its history, which began with its first names, with the relations that its
  -- events carry
  abbrev pub names_of : Held E → Carried
  names_of book = carried_from book.first.names book.history

  -- the versions of a book: the first ones, plus one for each event of its history that changed the name
  abbrev pub versions_of : Held E → List ℕ → ℕ
  versions_of book = version_behind book.first.versions book.history

-- the relations of its first names and of its history stand in its archive, which has one spare worker and has made
-- nothing
pub record IsBook {E : Type 0} (worker : E → Worker) (book : Held E) : Type 0 where
  pub stand : HistoryStands (worker book.archive) book.history
  pub first_stand : AllNamesStand (worker book.archive) book.first.names
  pub spare : (worker book.archive).spare ≡ 1
  pub made : (worker book.archive).made ≡ 0
