-- What each kind of turn of a command does.
use Rattle.std.specs.Prelude.{◌≡◌, ◌++◌, ◌⊎◌, ℕ, List, [], ◌∷◌, map, Option, Some, Result, Ok, Err}
use Rattle.rel_model.specs.declared.NoMemory.{NoMemory}
use Rattle.rel_model.specs.declared.Rel.{Rel}
use Rattle.rel_model.specs.Seats.{Stays}
use Rattle.rel_model.specs.Worker.{Worker}
use Rattle.run_model.specs.declared.event.Event.{Event}
use Rattle.run_model.specs.Names.{lookup}
use Rattle.run_model.specs.Versions.{Versions, version_behind}
use Rattle.run_model.specs.Turns.{BeginsLog}
use Rattle.turn_book.specs.Views.{View as PASS, IsKept}
use Rattle.rv_workspace.specs.declared.reading.View.{View}
use Rattle.rv_workspace.specs.declared.refused.DropRefused.{DropRefused}
use Rattle.rv_workspace.specs.declared.refused.CommitRefused.{CommitRefused}
use Rattle.rv_workspace.specs.Books.{HistoryStands, AllNamesStand}
use Rattle.rv_workspace.specs.Entering.{read_of, assign_of, assigns, drop_entries, IsDropAnswer}
use Rattle.rv_workspace.specs.Committing.{change_since, commit_entries, IsCommitAnswer}
use Rattle.rv_workspace.specs.Picking.{picked}
use Rattle.rv_sessions.specs.declared.turns.BlockView.{BlockView}
use Rattle.rv_sessions.specs.Standing.{first_names, first_versions, carried_by}

-- a turn took this log, whose relations then stand in the worker, as do those of the first names, and appended these
-- events
pub record TookTurn (old new : Worker) (before after : PASS) (log puts : List Event) : Type 0 where
  pub begins : BeginsLog before.seen log
  pub seen : after.seen ≡ log ++ puts
  pub mine : after.mine ≡ before.mine ++ puts
  pub kept : IsKept before after
  pub stand : HistoryStands new log
  pub first_stand : AllNamesStand new (first_names before)
  pub stays : Stays old new

-- a read: the wanted names in the log that was taken; or memory ran out, and nothing was put
abbrev pub ReadTurn : ℕ → ℕ → Option (List (List ℕ)) → Worker → Worker → PASS → PASS → Result View NoMemory → Type 0
ReadTurn s c wanted old new before after (Ok view) =
    (log : List Event) × TookTurn old new before after log (read_of s c ∷ [])
    × (view.names.items ≡ picked wanted (carried_by before log))
ReadTurn s c wanted old new before after (Err refused) = (log : List Event) × TookTurn old new before after log []

-- the names of a block with their versions after a log, given the first versions
abbrev pub versions_in : Versions → List Event → List (List ℕ) → List (List ℕ × ℕ)
versions_in first log = map (λ name. (name, version_behind first log name))

-- the read of a block: its names, and the versions of those that it reads; or memory ran out, and no more than the read
-- was put
abbrev pub BlockTurn : ℕ → ℕ → List (List ℕ) → Worker → Worker → PASS → PASS → Result BlockView NoMemory → Type 0
BlockTurn s c reads old new before after (Ok view) =
    (log : List Event) × TookTurn old new before after log (read_of s c ∷ [])
    × (view.names.items ≡ picked (Some reads) (carried_by before log))
    × (view.versions.items ≡ versions_in (first_versions before) log reads)
BlockTurn s c reads old new before after (Err refused) =
    (log : List Event)
    × (TookTurn old new before after log (read_of s c ∷ []) ⊎ TookTurn old new before after log [])

-- a commit: all assignments if no name that was read has another version, and otherwise a read; or memory ran out, and
-- nothing was put
abbrev pub CommitTurn : ℕ → ℕ → List (List ℕ × ℕ) → List (List ℕ × Rel) → Worker → Worker → PASS → PASS
    → Result (Unit {0}) CommitRefused → Type 0
CommitTurn s c reads list old new before after result =
    (log : List Event) × TookTurn old new before after log (commit_entries s c list result)
    × IsCommitAnswer (change_since (first_versions before) reads log) result

-- either these events were put, or memory ran out and nothing was put
abbrev pub PutTurn : List Event → Worker → Worker → PASS → PASS → Result (Unit {0}) NoMemory → Type 0
PutTurn puts old new before after (Ok done) = (log : List Event) × TookTurn old new before after log puts
PutTurn puts old new before after (Err refused) = (log : List Event) × TookTurn old new before after log []

-- an assignment
abbrev pub AssignTurn : ℕ → ℕ → List ℕ → Rel → Worker → Worker → PASS → PASS → Result (Unit {0}) NoMemory → Type 0
AssignTurn s c name rel = PutTurn (assign_of s c (name, rel) ∷ [])

-- all assignments of a list
abbrev pub AssignAllTurn : ℕ → ℕ → List (List ℕ × Rel) → Worker → Worker → PASS → PASS → Result (Unit {0}) NoMemory
    → Type 0
AssignAllTurn s c list = PutTurn (assigns s c list)

-- a drop of a name: its removal, or a read if the name is unknown; or memory ran out, and nothing was put
abbrev pub DropTurn : ℕ → ℕ → List ℕ → Worker → Worker → PASS → PASS → Result (Unit {0}) DropRefused → Type 0
DropTurn s c name old new before after result =
    (log : List Event) × TookTurn old new before after log (drop_entries s c name result)
    × IsDropAnswer (lookup (carried_by before log) name) name result
