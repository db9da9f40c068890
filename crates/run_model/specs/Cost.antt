-- How many nodes the commands of a run may make, by the height of the leaves of the workers that make them: for an
-- expression, the cost of its calm tree, with each turn of a loop counted; for a block, that of its expressions up to
-- the first that is refused; for a listed or loaded relation, what its pairs may take; and none if an early refusal is
-- due.
use Rattle.std.specs.Prelude.{◌==◌, ◌+◌, ◌-◌, cond, ℕ, List, [], ◌∷◌, length, Option, Some, None}
use Rattle.lang_model.specs.declared.rows.Row.{Row}
use Rattle.lang_model.specs.declared.syntax.Expr.{Expr}
use Rattle.lang_model.specs.declared.syntax.Command.{Command}
use Rattle.lang_model.specs.declared.syntax.Command.TheVariants.{
  Relation as RELATION,
  Let,
  Print as PRINT,
  List as LIST,
  Count,
  Typed,
  Remove as DROP,
  Snap,
  At,
  Load,
  Save,
  LoadAll,
  SaveAll,
  Atomic,
  Explain,
}
use Rattle.lang_model.specs.declared.syntax.Item.{Item}
use Rattle.lang_model.specs.declared.syntax.Item.TheVariants.{Function, Program, Command as COMMAND}
use Rattle.lang_model.specs.declared.syntax.Script.{Script}
use Rattle.run_model.specs.declared.event.Event.{Event}
use Rattle.run_model.specs.declared.outcome.Outcome.{Outcome}
use Rattle.rel_model.specs.Relation.{Relation}
use Rattle.rel_model.specs.Roots.{height_over}
use Rattle.rel_model.specs.Worker.{listed_room}
use Rattle.lang_model.specs.Eval.{evaluated, cost_of_value}
use Rattle.lang_model.specs.Blocks.{evaluated_block, cost_of_block}
use Rattle.run_model.specs.Names.{lookup}
use Rattle.run_model.specs.Inputs.{Input, Reading, NoScript, Flawed, Runs, batch_of}
use Rattle.run_model.specs.Due.{Workspace, Gifts, Due, Nothing, Value, Values, Bytes, Explained, Refused}
use Rattle.run_model.specs.Steps.{Step, due_at}
use Rattle.run_model.specs.Legal.{steps_in}

-- ---- listed pairs
-- how many pairs the rows list, repeats counted
abbrev pub listed_count : List Row → ℕ
listed_count [] = 0
listed_count (row ∷ rows) = length row.cols.items + listed_count rows

-- a relation of this many listed pairs, repeats counted: for each pair a leaf, and the three nodes of a corner at each
-- height above it
unfoldable pub listed_cost : ℕ → ℕ → ℕ → ℕ → ℕ
listed_cost leaf count rows cols = listed_room count (height_over leaf rows cols - leaf)

-- ---- commands
-- an expression on a workspace
abbrev pub cost_of : ℕ → Input → Script → Expr → Workspace → ℕ
cost_of leaf input script e state = cost_of_value leaf (evaluated script (lookup state) e input.turns)

-- an expression on a snapshot, if the snapshot exists
abbrev pub cost_on_snapshot : ℕ → Input → Script → Expr → Option Workspace → ℕ
cost_on_snapshot leaf input script e None = 0
cost_on_snapshot leaf input script e (Some snap) = cost_of leaf input script e snap

-- this many nodes if a value is due
abbrev pub where_value : Due → (Relation → ℕ) → ℕ
where_value Nothing cost = 0
where_value (Value r) cost = cost r
where_value (Values gifts) cost = 0
where_value (Bytes bytes) cost = 0
where_value (Explained steps) cost = 0
where_value (Refused when outcome) cost = 0

-- a relation with this many pairs, repeats counted
abbrev pub cost_of_pairs : ℕ → ℕ → Relation → ℕ
cost_of_pairs leaf count r = listed_cost leaf count r.rows r.cols

-- a relation that is loaded
abbrev pub cost_of_loaded : ℕ → Relation → ℕ
cost_of_loaded leaf r = cost_of_pairs leaf (length r.pairs) r

-- all relations that are loaded
abbrev pub cost_of_gifts : ℕ → Gifts → ℕ
cost_of_gifts leaf [] = 0
cost_of_gifts leaf (gift ∷ gifts) = cost_of_loaded leaf gift.1 + cost_of_gifts leaf gifts

-- this many nodes if values are due
abbrev pub where_values : Due → (Gifts → ℕ) → ℕ
where_values Nothing cost = 0
where_values (Value r) cost = 0
where_values (Values gifts) cost = cost gifts
where_values (Bytes bytes) cost = 0
where_values (Explained steps) cost = 0
where_values (Refused when outcome) cost = 0

-- a command, given what is due of it on a workspace, and the snapshot that it asks for
abbrev pub cost_of_command : ℕ → Input → Script → Command → Workspace → Option Workspace → Due → ℕ
cost_of_command leaf input script (RELATION name rows rows_at cols cols_at list) state snap d =
    where_value d (cost_of_pairs leaf (listed_count list.items))
cost_of_command leaf input script (Let name e) state snap d = cost_of leaf input script e state
cost_of_command leaf input script (PRINT e) state snap d = cost_of leaf input script e state
cost_of_command leaf input script (LIST e) state snap d = cost_of leaf input script e state
cost_of_command leaf input script (Count e) state snap d = cost_of leaf input script e state
cost_of_command leaf input script (Typed e) state snap d = cost_of leaf input script e state
cost_of_command leaf input script (DROP at name) state snap d = 0
cost_of_command leaf input script (Snap name) state snap d = 0
cost_of_command leaf input script (At at name e) state snap d = cost_on_snapshot leaf input script e snap
cost_of_command leaf input script (Load name file) state snap d = where_value d (cost_of_loaded leaf)
cost_of_command leaf input script (Save e file) state snap d = cost_of leaf input script e state
cost_of_command leaf input script (LoadAll file) state snap d = where_values d (cost_of_gifts leaf)
cost_of_command leaf input script (SaveAll file) state snap d = 0
cost_of_command leaf input script (Atomic lets) state snap d =
    cost_of_block leaf (evaluated_block script (lookup state) lets.items input.turns)
cost_of_command leaf input script (Explain e) state snap d = 0

-- an item: a definition costs nothing
abbrev pub cost_of_item : ℕ → Input → Script → Item → Workspace → Option Workspace → Due → ℕ
cost_of_item leaf input script (COMMAND command) state snap d = cost_of_command leaf input script command state snap d
cost_of_item leaf input script (Function at name params body) state snap d = 0
cost_of_item leaf input script (Program at name params decls body result) state snap d = 0

-- ---- runs
-- a step
unfoldable pub cost_of_step : ℕ → Input → Script → Step → ℕ
cost_of_step leaf input script step =
    cost_of_item leaf input script step.item step.state step.snap (due_at input script step)

-- the steps of a session
abbrev pub cost_of_steps : ℕ → Input → Script → List Step → ℕ
cost_of_steps leaf input script [] = 0
cost_of_steps leaf input script (step ∷ steps) = cost_of_step leaf input script step + cost_of_steps leaf input script
    steps

-- a session; a script that does not run costs nothing
abbrev pub cost_of_session : ℕ → Input → List Event → ℕ → Reading → List Outcome → ℕ
cost_of_session leaf input history s (NoScript fault) outcomes = 0
cost_of_session leaf input history s (Flawed fault) outcomes = 0
cost_of_session leaf input history s (Runs script) outcomes =
    cost_of_steps leaf input script (steps_in input history s script outcomes)

-- sessions from number s on
abbrev pub cost_of_sessions : ℕ → Input → List Event → ℕ → List Reading → List (List Outcome) → ℕ
cost_of_sessions leaf input history s (reading ∷ readings) (outcomes ∷ others) =
    cost_of_session leaf input history s reading outcomes + cost_of_sessions leaf input history (s + 1) readings others
cost_of_sessions leaf input history s [] others = 0
cost_of_sessions leaf input history s (reading ∷ readings) [] = 0

-- the sessions of batch b, among those from number s on
abbrev pub cost_in_batch : ℕ → Input → List Event → ℕ → ℕ → List Reading → List (List Outcome) → ℕ
cost_in_batch leaf input history b s (reading ∷ readings) (outcomes ∷ others) =
    cond (batch_of input.ends s == b) (cost_of_session leaf input history s reading outcomes) 0
    + cost_in_batch leaf input history b (s + 1) readings others
cost_in_batch leaf input history b s [] others = 0
cost_in_batch leaf input history b s (reading ∷ readings) [] = 0

-- a batch, by its number from 0 on
unfoldable pub cost_of_batch : ℕ → Input → List Event → List (List Outcome) → ℕ → ℕ
cost_of_batch leaf input history outcomes b = cost_in_batch leaf input history b 1 input.readings outcomes

-- a run
unfoldable pub cost_of_run : ℕ → Input → List Event → List (List Outcome) → ℕ
cost_of_run leaf input history outcomes = cost_of_sessions leaf input history 1 input.readings outcomes
