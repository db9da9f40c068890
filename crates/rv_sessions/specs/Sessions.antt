-- What a session promises of its script, whatever the others do.
use Rattle.std.specs.Prelude.{◌≡◌, ◌≢◌, ◌⊎◌, ◌++◌, ℕ, List, [], ◌∷◌, Option, Some, None, Result, Ok, Err}
use Rattle.rel_model.specs.Worker.{Worker, set_of, MakesAtMost, MissesNothing}
use Rattle.lang_model.specs.declared.faults.ParseFault.{ParseFault}
use Rattle.lang_model.specs.declared.faults.ParseFault.TheVariants.{NoMemory as NO_MEMORY_TO_PARSE}
use Rattle.lang_model.specs.declared.faults.TypeFault.{TypeFault}
use Rattle.lang_model.specs.declared.faults.TypeFault.TheVariants.{NoMemory as NO_MEMORY_TO_CHECK}
use Rattle.lang_model.specs.declared.syntax.Script.{Script}
use Rattle.lang_model.specs.Checking.{flaw}
use Rattle.lang_model.specs.Spelling.{SpelledBy}
use Rattle.run_model.specs.declared.outcome.Outcome.{Outcome}
use Rattle.run_model.specs.declared.outcome.Outcome.TheVariants.{Parse, Ill, NoMemory}
use Rattle.run_model.specs.Inputs.{Input, Reading, NoScript, Flawed, Runs, IsReading}
use Rattle.run_model.specs.Page.{replies, refusals, saves_of}
use Rattle.run_model.specs.Cost.{cost_of_steps}
use Rattle.run_model.specs.Turns.{Turn, puts_of}
use Rattle.run_model.specs.Sessions.{RunsTurns, steps_taken}
use Rattle.turn_book.specs.Views.{View}
use Rattle.rv_workspace.specs.Starts.{first_of}
use Rattle.rv_sessions.specs.declared.transcript.Transcript.{Transcript}
use Rattle.run_model.specs.Filed.{saved_all}
use Rattle.rv_sessions.specs.Telling.{texts_of}
use Rattle.rv_sessions.specs.Standing.{first_names, TurnsStand}
use Rattle.rv_sessions.specs.Running.{nodes_in, RoseBy}

-- session s ran its script on a book that began like this: in turns of its own, whose relations all stand in its
-- worker; and replies, saves, nodes and misses are those of its steps on the states that these turns took
pub record RanScript (leaf : ℕ) (input : Input) (s : ℕ) (script : Script) (old new : Worker) (before after : View)
    (told : Transcript) : Type 0 where
  pub ts : List Turn
  pub runs : RunsTurns input (first_of before.start) (set_of new) s script told.outcomes.items ts before.seen
      after.seen
  pub mine : after.mine ≡ before.mine ++ puts_of ts
  pub stand : TurnsStand new (first_names before) ts
  pub text : texts_of told.replies.items ≡ replies input script s
      (steps_taken (first_names before) (set_of new) ts script told.outcomes.items)
  pub saved : saved_all told.saves.items ≡ saves_of input script
      (steps_taken (first_names before) (set_of new) ts script told.outcomes.items)
  pub room : MakesAtMost (cost_of_steps leaf input script
      (steps_taken (first_names before) (set_of new) ts script told.outcomes.items)) old new
  pub missed : RoseBy (nodes_in told.outcomes.items) old.misses new.misses

-- a session that took no turn, made no node and counted no miss
pub record DidNothing (old new : Worker) (before after : View) : Type 0 where
  pub seen : after.seen ≡ before.seen
  pub mine : after.mine ≡ before.mine
  pub made : MakesAtMost 0 old new
  pub misses : MissesNothing old new

-- a script that does not run: its one fault, the reply that reports it, and nothing else
pub record Refused (s : ℕ) (outcome : Outcome) (old new : Worker) (before after : View)
    (told : Transcript) : Type 0 where
  pub outcomes : told.outcomes.items ≡ outcome ∷ []
  pub text : texts_of told.replies.items ≡ refusals s (outcome ∷ [])
  pub saved : told.saves.items ≡ []
  pub nothing : DidNothing old new before after

-- what session s did, given the result of reading its bytes
abbrev pub DidReading : ℕ → Input → ℕ → Reading → Worker → Worker → View → View → Transcript → Type 0
DidReading leaf input s (NoScript fault) old new before after told = Refused s (Parse fault) old new before after told
DidReading leaf input s (Flawed fault) old new before after told = Refused s (Ill fault) old new before after told
DidReading leaf input s (Runs script) old new before after told =
    RanScript leaf input s script old new before after told

-- session s read its bytes, and did what follows from the result
pub record RanBytes (leaf : ℕ) (input : Input) (s : ℕ) (bytes : List ℕ) (old new : Worker) (before after : View)
    (told : Transcript) : Type 0 where
  pub reading : Reading
  pub reads : IsReading bytes reading
  pub did : DidReading leaf input s reading old new before after told

-- the outcome that reports why a script does not run
abbrev pub refusal_of : Reading → Option Outcome
refusal_of (NoScript fault) = Some (Parse fault)
refusal_of (Flawed fault) = Some (Ill fault)
refusal_of (Runs script) = None

-- the bytes were read: as a script without a flaw, or as something refused for this reason; or memory ran out
abbrev pub IsRead : List ℕ → Result Script Outcome → Type 0
IsRead bytes (Ok script) = SpelledBy bytes script × (flaw script ≡ None)
IsRead bytes (Err outcome) =
    (outcome ≡ NoMemory)
    ⊎ ((reading : Reading) × IsReading bytes reading × (refusal_of reading ≡ Some outcome))

-- a fault of bytes is reported as one, and running out of memory as itself
abbrev pub TellsFault : ParseFault → Outcome → Type 0
TellsFault fault outcome =
    ((fault ≡ NO_MEMORY_TO_PARSE) × (outcome ≡ NoMemory))
    ⊎ ((fault ≢ NO_MEMORY_TO_PARSE) × (outcome ≡ Parse fault))

-- the same for a flaw of a script
abbrev pub TellsFlaw : TypeFault → Outcome → Type 0
TellsFlaw flaw outcome =
    ((flaw ≡ NO_MEMORY_TO_CHECK) × (outcome ≡ NoMemory))
    ⊎ ((flaw ≢ NO_MEMORY_TO_CHECK) × (outcome ≡ Ill flaw))
