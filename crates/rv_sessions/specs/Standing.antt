-- Which relations stand in a session's worker: those of the names with which the book began, of the logs that it took,
-- of its own events, and of its snapshots.
use Rattle.std.specs.Prelude.{List}
use Rattle.std.specs.List.{AllByRecursion}
use Rattle.rel_model.specs.Worker.{Worker, set_of}
use Rattle.run_model.specs.Names.{Names}
use Rattle.run_model.specs.declared.event.Event.{Event}
use Rattle.run_model.specs.Versions.{Versions}
use Rattle.run_model.specs.Carried.{Carried, carried_from, valued}
use Rattle.run_model.specs.Due.{Workspace}
use Rattle.run_model.specs.Steps.{Snapshots}
use Rattle.run_model.specs.Turns.{Turn}
use Rattle.turn_book.specs.Views.{View as PASS}
use Rattle.rv_workspace.specs.Books.{EventStands, HistoryStands, AllNamesStand}
use Rattle.rv_workspace.specs.Starts.{first_of}
use Rattle.std.specs.Prelude.{map}

-- the names with which the book of a pass began
abbrev pub first_names : PASS → Carried
first_names pass = (first_of pass.start).names

-- their versions
abbrev pub first_versions : PASS → Versions
first_versions pass = (first_of pass.start).versions

-- the relations of names after a log that a pass took, given those with which its book began
abbrev pub carried_by : PASS → List Event → Carried
carried_by pass log = carried_from (first_names pass) log

-- the relations of the names with which a book began, of the log that a turn took, and of the turn's own events, stand
-- in a worker
pub record TurnStands (w : Worker) (first : Carried) (t : Turn) : Type 0 where
  pub first_stand : AllNamesStand w first
  pub log : HistoryStands w t.took
  pub own : AllByRecursion (EventStands w) t.put

-- the same for all turns
abbrev pub TurnsStand : Worker → Carried → List Turn → Type 0
TurnsStand w first = AllByRecursion (TurnStands w first)

-- snapshots as a session keeps them: names with the relations that all names had
abbrev pub Kept : Type 0
Kept = Names Carried

-- the relations of all snapshots stand
abbrev pub KeptStand : Worker → Kept → Type 0
KeptStand w = AllByRecursion (λ entry. AllNamesStand w entry.1)

-- the workspace that carried relations mean in a worker
abbrev pub meant : Worker → Carried → Workspace
meant w = valued (set_of w)

-- the snapshots that kept ones mean in a worker
abbrev pub meant_all : Worker → Kept → Snapshots
meant_all w = map (λ entry. (entry.0, meant w entry.1))
