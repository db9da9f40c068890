-- The page of a run, and the files that it saves.
use Rattle.std.specs.Prelude.{◌+◌, ℕ, cond, List, [], ◌∷◌, ◌++◌, length, codes}
use Rattle.std.specs.List.{flat_map}
use Rattle.std.specs.Fmt.{decimal}
use Rattle.lang_model.specs.declared.syntax.Command.{Command}
use Rattle.lang_model.specs.declared.syntax.Command.TheVariants.{
  Relation as RELATION,
  Let,
  Print as PRINT,
  List as LIST,
  Count,
  Typed,
  Remove as DROP,
  Snap,
  At,
  Load,
  Save,
  LoadAll,
  SaveAll,
  Atomic,
  Explain,
}
use Rattle.lang_model.specs.declared.syntax.Item.{Item}
use Rattle.lang_model.specs.declared.syntax.Item.TheVariants.{Function, Program, Command as COMMAND}
use Rattle.lang_model.specs.declared.syntax.Script.{Script}
use Rattle.run_model.specs.declared.event.Event.{Event}
use Rattle.run_model.specs.declared.event.Act.{Act}
use Rattle.run_model.specs.declared.event.Act.TheVariants.{Read, Assign, Remove}
use Rattle.run_model.specs.declared.outcome.Outcome.{Outcome}
use Rattle.rel_model.specs.Relation.{Relation}
use Rattle.run_model.specs.Texts.{prefix, matrix, refusal_text}
use Rattle.run_model.specs.Inputs.{Input, Reading, NoScript, Flawed, Runs}
use Rattle.run_model.specs.Files.{k2}
use Rattle.run_model.specs.Due.{Due, Nothing, Value, Values, Bytes, Explained, Refused}
use Rattle.lang_model.specs.Printing.{printed_tree}
use Rattle.lang_model.specs.Rewriting.{Step as Rewritten}
use Rattle.run_model.specs.Steps.{Ending, Succeeds, Fails, Changes, LacksMemory, ending, Step, due_at}
use Rattle.run_model.specs.Legal.{steps_in}

-- a line feed
abbrev pub line_feed : List ℕ
line_feed = 10 ∷ []

-- ---- values
-- `M x N`
abbrev pub sizes_text : ℕ → ℕ → List ℕ
sizes_text rows cols = decimal rows ++ codes " x " ++ decimal cols

-- `I:J` of a pair, from 1
abbrev pub pair_text : ℕ × ℕ → List ℕ
pair_text p = decimal (p.0 + 1) ++ codes ":" ++ decimal (p.1 + 1) ++ line_feed

-- `M x N, pairs K`, and a line for each pair, by row and then by column
unfoldable pub listing : Relation → List ℕ
listing r =
    sizes_text r.rows r.cols ++ codes ", pairs " ++ decimal (length r.pairs) ++ line_feed ++ flat_map pair_text r.pairs

-- how many pairs there are
unfoldable pub count_text : Relation → List ℕ
count_text r = decimal (length r.pairs) ++ line_feed

-- `M x N`
unfoldable pub type_text : Relation → List ℕ
type_text r = sizes_text r.rows r.cols ++ line_feed

-- ---- replies
-- what a command shows of its value, after the numbers of its session and of itself
abbrev pub shown_by : List ℕ → Command → Relation → List ℕ
shown_by numbers (RELATION name rows rows_at cols cols_at list) r = []
shown_by numbers (Let name e) r = []
shown_by numbers (PRINT e) r = numbers ++ matrix r
shown_by numbers (LIST e) r = numbers ++ listing r
shown_by numbers (Count e) r = numbers ++ count_text r
shown_by numbers (Typed e) r = numbers ++ type_text r
shown_by numbers (DROP at name) r = []
shown_by numbers (Snap name) r = []
shown_by numbers (At at name e) r = numbers ++ matrix r
shown_by numbers (Load name file) r = []
shown_by numbers (Save e file) r = []
shown_by numbers (LoadAll file) r = []
shown_by numbers (SaveAll file) r = []
shown_by numbers (Atomic lets) r = []
shown_by numbers (Explain e) r = []

-- the same for items; a definition shows nothing
abbrev pub shown : List ℕ → Item → Relation → List ℕ
shown numbers (COMMAND command) r = shown_by numbers command r
shown numbers (Function at name params body) r = []
shown numbers (Program at name params decls body result) r = []

-- `RULE: BEFORE -> AFTER`
abbrev pub step_text : Rewritten → List ℕ
step_text step =
    decimal step.rule ++ codes ": " ++ printed_tree step.before ++ codes " -> " ++ printed_tree step.after ++ line_feed

-- `K steps`, and a line for each step of rewriting
unfoldable pub explanation : List Rewritten → List ℕ
explanation steps = decimal (length steps) ++ codes " steps" ++ line_feed ++ flat_map step_text steps

-- the reply to an item that is done: its value or its steps, if any are due
abbrev pub done_text : List ℕ → Item → Due → List ℕ
done_text numbers item Nothing = []
done_text numbers item (Value r) = shown numbers item r
done_text numbers item (Values gifts) = []
done_text numbers item (Bytes bytes) = []
done_text numbers item (Explained steps) = numbers ++ explanation steps
done_text numbers item (Refused when outcome) = []

-- the reply to an item with this ending
abbrev pub reply_at : Ending → List ℕ → Item → Due → Outcome → List ℕ
reply_at Succeeds numbers item d outcome = done_text numbers item d
reply_at Fails numbers item d outcome = numbers ++ refusal_text outcome
reply_at Changes numbers item d outcome = numbers ++ refusal_text outcome
reply_at LacksMemory numbers item d outcome = numbers ++ refusal_text outcome

-- the reply of command c of session s
unfoldable pub reply : ℕ → ℕ → Item → Due → Outcome → List ℕ
reply s c item d outcome = reply_at (ending outcome) (prefix s c) item d outcome

-- the replies of the steps of session s
unfoldable pub replies : Input → Script → ℕ → List Step → List ℕ
replies input script s = flat_map (λ step. reply s step.number step.item (due_at input script step) step.outcome)

-- the refusals of a script that does not run, with number 0
unfoldable pub refusals : ℕ → List Outcome → List ℕ
refusals s = flat_map (λ outcome. prefix s 0 ++ refusal_text outcome)

-- ---- the history
-- how an act is written
abbrev pub act_text : Act → List ℕ
act_text Read = codes "read"
act_text (Assign name rel) = codes "assign " ++ name ++ codes " " ++ sizes_text rel.rows rel.cols
act_text (Remove name) = codes "drop " ++ name

-- `S.C read`, `S.C assign N R x K`, `S.C drop N`
unfoldable pub event_line : Event → List ℕ
event_line e = decimal e.session ++ codes "." ++ decimal e.command ++ codes " " ++ act_text e.act ++ line_feed

-- ---- the page
-- the replies of a session
abbrev pub session_page : Input → List Event → ℕ → Reading → List Outcome → List ℕ
session_page input history s (NoScript fault) outcomes = refusals s outcomes
session_page input history s (Flawed fault) outcomes = refusals s outcomes
session_page input history s (Runs script) outcomes =
    replies input script s (steps_in input history s script outcomes)

-- the replies of sessions from number s on
abbrev pub sessions_page : Input → List Event → ℕ → List Reading → List (List Outcome) → List ℕ
sessions_page input history s (reading ∷ readings) (outcomes ∷ others) =
    session_page input history s reading outcomes ++ sessions_page input history (s + 1) readings others
sessions_page input history s [] others = []
sessions_page input history s (reading ∷ readings) [] = []

-- the page of a run: the replies by session and command, and, if the history is wanted, a line for each event
unfoldable pub page : Input → List Event → List (List Outcome) → List ℕ
page input history outcomes =
    sessions_page input history 1 input.readings outcomes ++ cond input.history (flat_map event_line history) []

-- ---- saves
-- a file written after the page
pub record SavedFile : Type 0 where
  pub name : List ℕ
  pub bytes : List ℕ

-- the file of a value; only a SAVE of an expression has one
abbrev pub saved_by : Command → Relation → List SavedFile
saved_by (RELATION name rows rows_at cols cols_at list) r = []
saved_by (Let name e) r = []
saved_by (PRINT e) r = []
saved_by (LIST e) r = []
saved_by (Count e) r = []
saved_by (Typed e) r = []
saved_by (DROP at name) r = []
saved_by (Snap name) r = []
saved_by (At at name e) r = []
saved_by (Load name file) r = []
saved_by (Save e file) r = record { name = file; bytes = k2 r } ∷ []
saved_by (LoadAll file) r = []
saved_by (SaveAll file) r = []
saved_by (Atomic lets) r = []
saved_by (Explain e) r = []

-- the same for items
abbrev pub saved_of : Item → Relation → List SavedFile
saved_of (COMMAND command) r = saved_by command r
saved_of (Function at name params body) r = []
saved_of (Program at name params decls body result) r = []

-- the file of bytes; only a SAVE ALL has one
abbrev pub written_by : Command → List ℕ → List SavedFile
written_by (RELATION name rows rows_at cols cols_at list) bytes = []
written_by (Let name e) bytes = []
written_by (PRINT e) bytes = []
written_by (LIST e) bytes = []
written_by (Count e) bytes = []
written_by (Typed e) bytes = []
written_by (DROP at name) bytes = []
written_by (Snap name) bytes = []
written_by (At at name e) bytes = []
written_by (Load name file) bytes = []
written_by (Save e file) bytes = []
written_by (LoadAll file) bytes = []
written_by (SaveAll file) bytes = record { name = file; bytes = bytes } ∷ []
written_by (Atomic lets) bytes = []
written_by (Explain e) bytes = []

-- the same for items
abbrev pub written_of : Item → List ℕ → List SavedFile
written_of (COMMAND command) bytes = written_by command bytes
written_of (Function at name params body) bytes = []
written_of (Program at name params decls body result) bytes = []

-- the file of an item that is done
abbrev pub done_save : Item → Due → List SavedFile
done_save item Nothing = []
done_save item (Value r) = saved_of item r
done_save item (Values gifts) = []
done_save item (Bytes bytes) = written_of item bytes
done_save item (Explained steps) = []
done_save item (Refused when outcome) = []

-- the file of an item with this ending
abbrev pub save_at : Ending → Item → Due → List SavedFile
save_at Succeeds item d = done_save item d
save_at Fails item d = []
save_at Changes item d = []
save_at LacksMemory item d = []

-- the files of the steps of a session
unfoldable pub saves_of : Input → Script → List Step → List SavedFile
saves_of input script = flat_map (λ step. save_at (ending step.outcome) step.item (due_at input script step))

-- the files of a session; a script that does not run saves none
abbrev pub session_saves : Input → List Event → ℕ → Reading → List Outcome → List SavedFile
session_saves input history s (NoScript fault) outcomes = []
session_saves input history s (Flawed fault) outcomes = []
session_saves input history s (Runs script) outcomes =
    saves_of input script (steps_in input history s script outcomes)

-- the files of the sessions from number s on
abbrev pub sessions_saves : Input → List Event → ℕ → List Reading → List (List Outcome) → List SavedFile
sessions_saves input history s (reading ∷ readings) (outcomes ∷ others) =
    session_saves input history s reading outcomes ++ sessions_saves input history (s + 1) readings others
sessions_saves input history s [] others = []
sessions_saves input history s (reading ∷ readings) [] = []

-- the files of a run, by session and command
unfoldable pub saves : Input → List Event → List (List Outcome) → List SavedFile
saves input history outcomes = sessions_saves input history 1 input.readings outcomes
