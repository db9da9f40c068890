-- What the calls of a book enter into its history.
use Rattle.std.specs.Prelude.{◌≡◌, ℕ, List, [], ◌∷◌, map, Option, None, IsSome, Result, Ok, Err}
use Rattle.rel_model.specs.declared.Rel.{Rel}
use Rattle.run_model.specs.declared.event.Event.{Event}
use Rattle.run_model.specs.declared.event.Act.TheVariants.{Read, Assign, Remove}
use Rattle.run_model.specs.Names.{remove}
use Rattle.run_model.specs.Carried.{Carried}
use Rattle.rv_workspace.specs.declared.refused.DropRefused.{DropRefused}
use Rattle.rv_workspace.specs.declared.refused.DropRefused.TheVariants.{Unknown, NoMemory}

-- the read of a command of a session
abbrev pub read_of : ℕ → ℕ → Event
read_of session command = record { session = session; command = command; act = Read }

-- the removal of a name by a command
abbrev pub removal : ℕ → ℕ → List ℕ → Event
removal session command name = record { session = session; command = command; act = Remove name }

-- an assignment by a command
abbrev pub assign_of : ℕ → ℕ → List ℕ × Rel → Event
assign_of session command gift = record { session = session; command = command; act = Assign gift.0 gift.1 }

-- the assignments of a command, one for each place of a list, in order
abbrev pub assigns : ℕ → ℕ → List (List ℕ × Rel) → List Event
assigns session command = map (assign_of session command)

-- a refused drop enters its read if the name is unknown, and nothing if memory ran out
abbrev pub refusal_entries : ℕ → ℕ → DropRefused → List Event
refusal_entries session command (Unknown name) = read_of session command ∷ []
refusal_entries session command NoMemory = []

-- a drop that is made enters the removal
abbrev pub drop_entries : ℕ → ℕ → List ℕ → Result (Unit {0}) DropRefused → List Event
drop_entries session command name (Ok done) = removal session command name ∷ []
drop_entries session command name (Err refused) = refusal_entries session command refused

-- a drop that is made removes the name, and a refused one changes no name
abbrev pub dropped : List ℕ → Result (Unit {0}) DropRefused → Carried → Carried
dropped name (Ok done) names = remove name names
dropped name (Err refused) names = names

-- a drop is refused for an unknown name only if the name has no relation
abbrev pub IsRefusal : Option Rel → List ℕ → DropRefused → Type 0
IsRefusal had name (Unknown told) = (told ≡ name) × (had ≡ None)
IsRefusal had name NoMemory = Unit {0}

-- a drop is made only if the name has a relation
abbrev pub IsDropAnswer : Option Rel → List ℕ → Result (Unit {0}) DropRefused → Type 0
IsDropAnswer had name (Ok done) = IsSome had
IsDropAnswer had name (Err refused) = IsRefusal had name refused
