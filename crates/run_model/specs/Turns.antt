-- The turns of one session: each took a log that begins with everything the session had seen, and appended events: one
-- read, one removal, or all assignments of one command.
use Rattle.std.specs.Prelude.{◌≡◌, ◌==◌, ◌⊎◌, ℕ, Bool, true, false, cond, List, [], ◌∷◌, ◌++◌, Option, Some, None}
use Rattle.std.specs.List.{list_any, AllByRecursion}
use Rattle.rel_model.specs.declared.Rel.{Rel}
use Rattle.run_model.specs.declared.event.Event.{Event}
use Rattle.rel_model.specs.Relation.{Relation}
use Rattle.run_model.specs.Names.{no_names}
use Rattle.run_model.specs.Inputs.{Input}
use Rattle.run_model.specs.Due.{Workspace}
use Rattle.run_model.specs.Versions.{Change, Versions, noted, version, version_behind}
use Rattle.run_model.specs.States.{begun, replay, start, events_of, gifts_due, state_for}
use Rattle.run_model.specs.Carried.{Carried, First, SameTo, carried_from, valued, AllHaveDue}
use Rattle.run_model.specs.Legal.{is_assign, assigns, change_at, change_for}

-- the first log is a prefix of the second
abbrev pub BeginsLog : List Event → List Event → Type 0
BeginsLog xs ys = (rest : List Event) × (ys ≡ xs ++ rest)

-- a turn: the log that was taken, and the events that were appended
pub record Turn : Type 0 where
  pub took : List Event
  pub put : List Event

-- the events of turns, in order
abbrev pub puts_of : List Turn → List Event
puts_of [] = []
puts_of (t ∷ ts) = t.put ++ puts_of ts

-- turns of a session that had seen the old log before them, and has seen the new log after them
abbrev pub AreTurns : List Turn → List Event → List Event → Type 0
AreTurns [] old new = BeginsLog old new
AreTurns (t ∷ ts) old new = BeginsLog old t.took × AreTurns ts (t.took ++ t.put) new

-- there is one event
abbrev pub IsOne : List Event → Type 0
IsOne es = (e : Event) × (es ≡ e ∷ [])

-- a turn of session s appends events of one command: one event, or assignments
abbrev pub IsTurn : ℕ → Turn → Type 0
IsTurn s t =
    (c : ℕ) × AllByRecursion (λ e. (e.session ≡ s) × (e.command ≡ c)) t.put
    × (IsOne t.put ⊎ AllByRecursion (λ e. is_assign e.act ≡ true) t.put)

-- all assignments of a command are put in one turn: a later turn has none of a command that has assigned
abbrev pub AssignsOnce : List Turn → Type 0
AssignsOnce [] = Unit {0}
AssignsOnce (t ∷ ts) =
    AllByRecursion (λ e. is_assign e.act ≡ true → list_any (assigns e.session e.command) (puts_of ts) ≡ false) t.put
    × AssignsOnce ts

-- ---- what a command took
-- the log that command c took at its first turn, if it has one
abbrev pub taken : ℕ → List Turn → Option (List Event)
taken c [] = None
taken c (t ∷ ts) = cond (list_any (λ e. e.command == c) t.put) (Some t.took) (taken c ts)

-- the log before the second event of a command, given what its first turn took and put: if it put several events, the
-- log that it took, with the first of them; otherwise the log of its next turn
abbrev pub second_taken : List Event → List Event → Option (List Event) → Option (List Event)
second_taken took [] later = later
second_taken took (e ∷ []) later = later
second_taken took (e ∷ f ∷ es) later = Some (took ++ e ∷ [])

-- the log before the second event of command c, if it has one
abbrev pub taken_again : ℕ → List Turn → Option (List Event)
taken_again c [] = None
taken_again c (t ∷ ts) =
    cond (list_any (λ e. e.command == c) t.put) (second_taken t.took t.put (taken c ts)) (taken_again c ts)

-- the state of a log, with the values of its relations; empty if there is no log
abbrev pub state_of_log : Carried → (Rel → Relation) → Option (List Event) → Workspace
state_of_log first means None = no_names
state_of_log first means (Some log) = valued means (carried_from first log)

-- the state that command c took, with the values of its relations
abbrev pub state_taken : Carried → (Rel → Relation) → List Turn → ℕ → Workspace
state_taken first means ts c = state_of_log first means (taken c ts)

-- the log that a command took, or none
abbrev pub log_or_none : Option (List Event) → List Event
log_or_none None = []
log_or_none (Some log) = log

-- the first of these names whose version differed between command c's read and its commit
abbrev pub change_taken : Versions → List Turn → ℕ → List (List ℕ) → Option Change
change_taken versions ts c =
    change_at (version_behind versions (log_or_none (taken c ts))) (version_behind versions) (taken_again c ts)

-- ---- a batch in the history
-- The log of a batch after the events of earlier ones: its events belong to sessions of a kind, of which nothing was
-- noted before; its first names have the values of the state before, and its first versions are those before; and each
-- relation that it assigns has the value that is due.
pub record StandsBehind (input : Input) (kind : ℕ → Bool) (means : Rel → Relation) (first : First)
    (done log : List Event) : Type 0 where
  pub of_kind : AllByRecursion (λ e. kind e.session ≡ true) log
  pub same : SameTo kind (replay (gifts_due input) start done) (begun (valued means first.names))
  pub dues : AllHaveDue (gifts_due input) means (begun first.names) log
  pub versions : (name : List ℕ) → noted first.versions name ≡ version name done

-- a session's turns are in the closed log of its batch, which begins with everything the session saw, and whose events
-- of its number are exactly those of its turns
pub record TurnsInLog (s : ℕ) (ts : List Turn) (seen log : List Event) : Type 0 where
  pub turns : AreTurns ts [] seen
  pub own : AllByRecursion (IsTurn s) ts
  pub begins : BeginsLog seen log
  pub all : events_of s log ≡ puts_of ts

-- What a session took is the state of the history just before each command's first event.
abbrev pub TakenIsState : Type 0
TakenIsState =
    (input : Input) (kind : ℕ → Bool) (means : Rel → Relation) (first : First) (s : ℕ) (ts : List Turn)
    (done seen log later : List Event)
    → StandsBehind input kind means first done log → TurnsInLog s ts seen log
    → events_of s done ≡ [] → events_of s later ≡ []
    → (c : ℕ) → state_for input (done ++ (log ++ later)) s c ≡ state_taken first.names means ts c

-- What changed between the turns of a command is what changed between its events.
abbrev pub TakenIsChange : Type 0
TakenIsChange =
    (versions : Versions) (s : ℕ) (ts : List Turn) (done seen log later : List Event)
    → ((name : List ℕ) → noted versions name ≡ version name done) → TurnsInLog s ts seen log
    → events_of s done ≡ [] → events_of s later ≡ []
    → (c : ℕ) (names : List (List ℕ)) → change_for (done ++ (log ++ later)) s c names ≡ change_taken versions ts c names
