-- What the commands that take a value do, before it is shown.
use Rattle.std.specs.Prelude.{◌≡◌, ◌++◌, ◌⊎◌, ℕ, List, [], ◌∷◌, Result, Ok, Err, Option, None}
use Rattle.rel_model.specs.declared.NoMemory.{NoMemory}
use Rattle.rel_model.specs.declared.Rel.{Rel}
use Rattle.rel_model.specs.Relation.{Relation}
use Rattle.rel_model.specs.Seats.{Stays}
use Rattle.rel_model.specs.Worker.{Worker, Keeps, MakesAtMost}
use Rattle.lang_model.specs.declared.syntax.Expr.{Expr}
use Rattle.lang_model.specs.declared.syntax.Item.{Item}
use Rattle.lang_model.specs.declared.syntax.Script.{Script}
use Rattle.lang_model.specs.Eval.{Evaluated, IsCompound, evaluated}
use Rattle.run_model.specs.declared.event.Event.{Event}
use Rattle.run_model.specs.declared.outcome.Outcome.{Outcome}
use Rattle.run_model.specs.declared.outcome.Outcome.TheVariants.{NoMemory as NO_MEMORY}
use Rattle.run_model.specs.Names.{lookup}
use Rattle.run_model.specs.Inputs.{Input}
use Rattle.run_model.specs.Due.{Workspace, Due, due, due_of, gives}
use Rattle.run_model.specs.Steps.{snapped}
use Rattle.run_model.specs.Events.{Reads, reads_of, done_deeds}
use Rattle.run_model.specs.Outcomes.{MayLackNodes, MayLackMemory, IsNotEarly, lets_of}
use Rattle.run_model.specs.Page.{SavedFile, shown, saved_of}
use Rattle.run_model.specs.Cost.{cost_of, cost_of_item}
use Rattle.run_model.specs.Carried.{Carried, carried_from}
use Rattle.run_model.specs.Turns.{Turn}
use Rattle.run_model.specs.Texts.{prefix, refusal_text}
use Rattle.turn_book.specs.Views.{View as PASS}
use Rattle.rv_workspace.specs.Books.{HistoryStands, AllNamesStand}
use Rattle.rv_workspace.specs.Entering.{read_of}
use Rattle.rv_sessions.specs.declared.form.Form.{Form}
use Rattle.rv_sessions.specs.declared.told.Told.{Told}
use Rattle.rv_sessions.specs.Standing.{first_names, carried_by, Kept, meant}
use Rattle.rv_sessions.specs.Doing.{GoesThrough, Did}
use Rattle.rv_sessions.specs.Showing.{CameShown}
use Rattle.rv_sessions.specs.Telling.{text_of, saved_by}
use Rattle.rv_sessions.specs.Valuing.{CameTo}

-- one turn
abbrev pub turn_of : List Event → Event → Turn
turn_of log e = record { took = log; put = e ∷ [] }

-- ---- before an expression
-- memory ran out before anything was read
pub record WasNotRead (old new : Worker) (before after : PASS) : Type 0 where
  pub through : GoesThrough [] before after
  pub stays : Stays old new

-- a log was read, all of whose relations stand in the worker, as do those of the first names; and the worker kept
-- everything while it went on
pub record WasRead (s c : ℕ) (old new : Worker) (before after : PASS) (log : List Event) : Type 0 where
  pub through : GoesThrough (turn_of log (read_of s c) ∷ []) before after
  pub stand : HistoryStands new log
  pub first_stand : AllNamesStand new (first_names before)
  pub keeps : Keeps old new

-- the result of an expression on a log that was read, after a start at which names had these relations
abbrev pub on_log : Input → Script → Expr → Worker → Carried → List Event → Evaluated
on_log input script e w first log = evaluated script (lookup (meant w (carried_from first log))) e input.turns

-- an expression was shown on the log that its command read
pub record WasShown (leaf : ℕ) (form : Form) (input : Input) (script : Script) (s c : ℕ) (e : Expr) (old new : Worker)
    (before after : PASS) (log : List Event) (result : Result (List ℕ) Outcome) : Type 0 where
  pub read : WasRead s c old new before after log
  pub came : CameShown form old new e input.turns (on_log input script e new (first_names before) log) result
  pub room : MakesAtMost (cost_of leaf input script e (meant new (carried_by before log)))
      old new

-- either an expression was shown on the log that its command read, or memory ran out before anything was read
abbrev pub ShownInTurn : ℕ → Form → Input → Script → ℕ → ℕ → Expr → Worker → Worker → PASS → PASS
    → Result (List ℕ) Outcome → Type 0
ShownInTurn leaf form input script s c e old new before after result =
    (WasNotRead old new before after × (result ≡ Err NO_MEMORY))
    ⊎ ((log : List Event) × WasShown leaf form input script s c e old new before after log result)

-- ---- items that take a value
-- an item that reads, and needs the value of an expression for this purpose
pub record IsReadItem (item : Item) (e : Expr) (then : Relation → Due) : Type 0 where
  pub due_is : (input : Input) (script : Script) (state : Workspace) (snap : Option Workspace) →
      due input script item state snap ≡ due_of input script then e state
  pub cost_is : (leaf : ℕ) (input : Input) (script : Script) (state : Workspace) (snap : Option Workspace) (d : Due) →
      cost_of_item leaf input script item state snap d ≡ cost_of leaf input script e state
  pub nodes : (d : Due) → IsCompound e → IsNotEarly d → MayLackNodes item d
  pub late : (r : Relation) → IsNotEarly (then r)
  pub memory : MayLackMemory item
  pub reads : reads_of item ≡ Reads ∷ []

-- an item that shows or saves the value, and assigns nothing
pub record IsValueItem (item : Item) (e : Expr) (then : Relation → Due) (text : List ℕ → Relation → List ℕ)
    (files : Relation → List SavedFile) : Type 0 where
  pub reading : IsReadItem item e then
  pub done : (d : Due) → done_deeds item d ≡ Reads ∷ []
  pub none_given : (d : Due) → gives item d ≡ []
  pub shows : (numbers : List ℕ) (r : Relation) → shown numbers item r ≡ text numbers r
  pub saves : (r : Relation) → saved_of item r ≡ files r
  pub no_snapped : snapped item ≡ None
  pub no_block : lets_of item ≡ None

-- ---- what an item did
-- the item was done or refused, as it reports; or memory ran out
abbrev pub DidItem : ℕ → Input → Script → ℕ → ℕ → Item → Worker → Worker → PASS → PASS → Kept → Kept
    → Result Told NoMemory → Type 0
DidItem leaf input script s c item old new before after snaps left (Ok told) =
    Did leaf input script s c item old new before after snaps left told.outcome (text_of told.reply)
    (saved_by told.save)
DidItem leaf input script s c item old new before after snaps left (Err lack) =
    Did leaf input script s c item old new before after snaps left NO_MEMORY (prefix s c ++ refusal_text NO_MEMORY) []

-- ---- values
-- an expression had a value on the log that its command read
pub record WasValued (leaf : ℕ) (input : Input) (script : Script) (s c : ℕ) (e : Expr) (old new : Worker)
    (before after : PASS) (log : List Event) (result : Result Rel Outcome) : Type 0 where
  pub read : WasRead s c old new before after log
  pub came : CameTo old new e input.turns (on_log input script e new (first_names before) log) result
  pub room : MakesAtMost (cost_of leaf input script e (meant new (carried_by before log)))
      old new

-- either an expression had a value on the log that its command read, or memory ran out before anything was read
abbrev pub ValuedInTurn : ℕ → Input → Script → ℕ → ℕ → Expr → Worker → Worker → PASS → PASS → Result Rel Outcome
    → Type 0
ValuedInTurn leaf input script s c e old new before after result =
    (WasNotRead old new before after × (result ≡ Err NO_MEMORY))
    ⊎ ((log : List Event) × WasValued leaf input script s c e old new before after log result)
