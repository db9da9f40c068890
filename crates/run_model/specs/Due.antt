-- What is due of an item: that it is done, with or without a value, or a refusal.
use Rattle.std.specs.Prelude.{◌*◌, nat_lt, cond, ℕ, List, [], ◌∷◌, length, Option, Some, None}
use Rattle.lang_model.specs.declared.syntax.Place.{Place}
use Rattle.lang_model.specs.declared.rows.Column.{Column}
use Rattle.lang_model.specs.declared.rows.Row.{Row}
use Rattle.lang_model.specs.declared.syntax.Expr.{Expr}
use Rattle.lang_model.specs.declared.syntax.Command.{Command}
use Rattle.lang_model.specs.declared.syntax.Command.TheVariants.{
  Relation as RELATION,
  Let,
  Print as PRINT,
  List as LIST,
  Count,
  Typed,
  Remove as DROP,
  Snap,
  At,
  Load,
  Save,
  LoadAll,
  SaveAll,
  Atomic,
  Explain,
}
use Rattle.lang_model.specs.declared.syntax.Item.{Item}
use Rattle.lang_model.specs.declared.syntax.Item.TheVariants.{Function, Program, Command as COMMAND}
use Rattle.lang_model.specs.declared.syntax.Script.{Script}
use Rattle.lang_model.specs.declared.faults.TypeFault.TheVariants.{Unknown}
use Rattle.run_model.specs.declared.outcome.BadFile.{BadFile}
use Rattle.run_model.specs.declared.outcome.BadFile.TheVariants.{Missing}
use Rattle.run_model.specs.declared.outcome.Unit.TheVariants.{Cells, Pairs}
use Rattle.run_model.specs.declared.outcome.Outcome.{Outcome}
use Rattle.run_model.specs.declared.outcome.Outcome.TheVariants.{
  Done,
  Ill as ILL,
  Size as SIZE,
  Turns as TURNS,
  TooLarge,
  TooLong,
  NoFile,
  BadFile as BAD_FILE,
}
use Rattle.rel_model.specs.Relation.{Relation, relation_of, size_limit}
use Rattle.lang_model.specs.State.{lists}
use Rattle.lang_model.specs.Missing.{first_of_both}
use Rattle.lang_model.specs.Outcomes.{Refusal, Ill, Size, Turns, Answer, Got, Not}
use Rattle.lang_model.specs.Eval.{Evaluated, Ahead, Comes, evaluated, early_fault}
use Rattle.lang_model.specs.Blocks.{evaluated_block}
use Rattle.lang_model.specs.Trees.{tree_of}
use Rattle.lang_model.specs.Rewriting.{Step as Rewritten, steps_of}
use Rattle.lang_model.specs.declared.faults.TypeFault.{TypeFault}
use Rattle.lang_model.specs.declared.syntax.Let.{Let as BlockLet}
use Rattle.run_model.specs.Names.{Names, lookup}
use Rattle.run_model.specs.Inputs.{Input, file_named}
use Rattle.run_model.specs.Limits.{print_limit, list_limit, save_limit}
use Rattle.run_model.specs.Files.{k2_fault, k2_relation, bits_count}
use Rattle.run_model.specs.SharedFiles.{begins_shared, shared_fault, shared_relations, relation_named}
use Rattle.run_model.specs.SharedBytes.{shared_file}

-- the workspace: which relation each name has
abbrev pub Workspace : Type 0
Workspace = Names Relation

-- ---- what may be due
-- a refusal is early if nothing was computed before it, so that no node was asked for
pub data When : Type 0 where
  Early : When
  Late : When

-- names, each with the value that it is given
abbrev pub Gifts : Type 0
Gifts = List (List ℕ × Relation)

-- what is due of an item
pub data Due : Type 0 where
  -- that it is done, and shows nothing
  Nothing : Due
  -- that it is done with this value, which it shows, saves, or assigns to its name
  Value : Relation → Due
  -- that it is done and assigns these values to these names
  Values : Gifts → Due
  -- that it is done with these bytes, which it saves
  Bytes : List ℕ → Due
  -- that it is done and shows these steps of rewriting
  Explained : List Rewritten → Due
  -- that it is refused
  Refused : When → Outcome → Due

-- the outcome that is due
abbrev pub outcome_due : Due → Outcome
outcome_due Nothing = Done
outcome_due (Value r) = Done
outcome_due (Values gifts) = Done
outcome_due (Bytes bytes) = Done
outcome_due (Explained steps) = Done
outcome_due (Refused when outcome) = outcome

-- ---- limits
-- a value over a limit is refused, any other is due
abbrev pub within : ℕ → ℕ → Outcome → Relation → Due
within limit wanted outcome r = cond (nat_lt limit wanted) (Refused Late outcome) (Value r)

-- a value to be printed has no more cells than the limit
abbrev pub printed : Relation → Due
printed r = within print_limit (r.rows * r.cols) (TooLarge (r.rows * r.cols) Cells) r

-- a value to be listed has no more pairs
abbrev pub listed : Relation → Due
listed r = within list_limit (length r.pairs) (TooLarge (length r.pairs) Pairs) r

-- a value to be saved has no more bits
abbrev pub saved : Relation → Due
saved r = within save_limit (bits_count r) (TooLong (bits_count r)) r

-- ---- expressions
-- a refusal of the meaning as an outcome, with the limit that was exceeded
abbrev pub outcome_of : ℕ → Refusal → Outcome
outcome_of turns (Ill fault) = ILL fault
outcome_of turns (Size at wanted) = SIZE at wanted size_limit
outcome_of turns (Turns at) = TURNS at turns

-- what is due given the meaning: what its value is used for, or its refusal
abbrev pub due_of_answer : (Relation → Due) → ℕ → Answer Relation → Due
due_of_answer then turns (Got r left) = then r
due_of_answer then turns (Not why) = Refused Late (outcome_of turns why)

-- what is due given the result of an expression; a fault found before anything is computed is early
abbrev pub due_of_value : (Relation → Due) → ℕ → Evaluated → Due
due_of_value then turns (Ahead fault) = Refused Early (ILL fault)
due_of_value then turns (Comes came) = due_of_answer then turns came.answer

-- what is due of an expression on a workspace, given what its value is used for
abbrev pub due_of : Input → Script → (Relation → Due) → Expr → Workspace → Due
due_of input script then e state = due_of_value then input.turns (evaluated script (lookup state) e input.turns)

-- ---- listed relations
-- a number over its limit, with its place
abbrev pub over : Place → ℕ → ℕ → Option Outcome
over at wanted limit = cond (nat_lt limit wanted) (Some (SIZE at wanted limit)) None

-- the first column over the number of columns
abbrev pub columns_over : ℕ → List Column → Option Outcome
columns_over cols [] = None
columns_over cols (c ∷ cs) = first_of_both (over c.at c.col cols) (columns_over cols cs)

-- the first row over the number of rows, or column over the number of columns, in the order of the text
abbrev pub rows_over : ℕ → ℕ → List Row → Option Outcome
rows_over rows cols [] = None
rows_over rows cols (r ∷ rs) =
    first_of_both (over r.at r.row rows) (first_of_both (columns_over cols r.cols.items) (rows_over rows cols rs))

-- the first number of a listed relation over its limit, in the order of the text
unfoldable pub listing_over : ℕ → Place → ℕ → Place → List Row → Option Outcome
listing_over rows rows_at cols cols_at list =
    first_of_both (over rows_at rows size_limit)
    (first_of_both (over cols_at cols size_limit) (rows_over rows cols list))

-- a refusal if there is one, and otherwise a value
abbrev pub unless_over : Option Outcome → Relation → Due
unless_over (Some outcome) r = Refused Early outcome
unless_over None r = Value r

-- ---- files
-- either a file is not a relation file, or its relation is due
abbrev pub due_of_bytes : List ℕ → List ℕ → Option BadFile → Due
due_of_bytes file bytes (Some kind) = Refused Early (BAD_FILE file kind)
due_of_bytes file bytes None = Value (k2_relation bytes)

-- either no relation of a file has this name, or its relation is due
abbrev pub due_of_named : List ℕ → Option Relation → Due
due_of_named file None = Refused Early (BAD_FILE file Missing)
due_of_named file (Some r) = Value r

-- either a file is not a shared file, or the first relation of this name in it is due
abbrev pub due_of_shared : List ℕ → List ℕ → List ℕ → Option BadFile → Due
due_of_shared name file bytes (Some kind) = Refused Early (BAD_FILE file kind)
due_of_shared name file bytes None = due_of_named file (relation_named name (shared_relations bytes))

-- a file that begins like a shared file is read as one, and any other as a file of one relation
abbrev pub due_of_either : List ℕ → List ℕ → List ℕ → Due
due_of_either name file bytes =
    cond (begins_shared bytes) (due_of_shared name file bytes (shared_fault bytes))
    (due_of_bytes file bytes (k2_fault bytes))

-- either there is no file of this name, or its bytes determine what the name gets
abbrev pub due_of_file : List ℕ → List ℕ → Option (List ℕ) → Due
due_of_file name file None = Refused Early (NoFile file)
due_of_file name file (Some bytes) = due_of_either name file bytes

-- either a file is not a shared file, or all its relations are due
abbrev pub due_of_all : List ℕ → List ℕ → Option BadFile → Due
due_of_all file bytes (Some kind) = Refused Early (BAD_FILE file kind)
due_of_all file bytes None = Values (shared_relations bytes)

-- either there is no file of this name, or its bytes determine what is due
abbrev pub due_of_whole_file : List ℕ → Option (List ℕ) → Due
due_of_whole_file file None = Refused Early (NoFile file)
due_of_whole_file file (Some bytes) = due_of_all file bytes (shared_fault bytes)

-- how many bits the bytes of a file have
abbrev pub bits_in : List ℕ → ℕ
bits_in bytes = 8 * length bytes

-- the bytes of a shared file are due if they exceed no limit
abbrev pub saved_bytes : List ℕ → Due
saved_bytes bytes = cond (nat_lt save_limit (bits_in bytes)) (Refused Late (TooLong (bits_in bytes))) (Bytes bytes)

-- ---- names
-- a name that has a relation may be removed
abbrev pub due_of_drop : Place → List ℕ → Option Relation → Due
due_of_drop at name None = Refused Early (ILL (Unknown at name))
due_of_drop at name (Some r) = Nothing

-- an expression is printed on a snapshot, if the session has one of this name
abbrev pub due_on_snapshot : Input → Script → Place → List ℕ → Expr → Option Workspace → Due
due_on_snapshot input script at name e None = Refused Early (ILL (Unknown at name))
due_on_snapshot input script at name e (Some snap) = due_of input script printed e snap

-- ---- atomic blocks
-- a refusal that comes after other values is late
abbrev pub late : Due → Due
late Nothing = Nothing
late (Value r) = Value r
late (Values gifts) = Values gifts
late (Bytes bytes) = Bytes bytes
late (Explained steps) = Explained steps
late (Refused when outcome) = Refused Late outcome

-- a gift in front of those that are due
abbrev pub with_gift : List ℕ × Relation → Due → Due
with_gift gift Nothing = Nothing
with_gift gift (Value r) = Value r
with_gift gift (Values gifts) = Values (gift ∷ gifts)
with_gift gift (Bytes bytes) = Bytes bytes
with_gift gift (Explained steps) = Explained steps
with_gift gift (Refused when outcome) = Refused when outcome

-- an assignment, given what is due of it and what is due after its value
abbrev pub behind_let : List ℕ → Due → Due → Due
behind_let name rest (Value r) = with_gift (name, r) (late rest)
behind_let name rest (Refused when outcome) = Refused when outcome
behind_let name rest Nothing = Values []
behind_let name rest (Values gifts) = Values []
behind_let name rest (Bytes bytes) = Values []
behind_let name rest (Explained steps) = Values []

-- assignments, given the results of their expressions up to the first without a value: the first refusal, which is
-- early only for the first assignment, or all values
abbrev pub due_of_lets : ℕ → List BlockLet → List Evaluated → Due
due_of_lets turns (l ∷ ls) (v ∷ vs) = behind_let l.name (due_of_lets turns ls vs) (due_of_value Value turns v)
due_of_lets turns [] vs = Values []
due_of_lets turns (l ∷ ls) [] = Values []

-- the assignments of a block in order, each on the state left by the earlier ones
abbrev pub due_of_block : Input → Script → List BlockLet → Workspace → Due
due_of_block input script lets state =
    due_of_lets input.turns lets (evaluated_block script (lookup state) lets input.turns)

-- ---- rewriting
-- an expression with an early fault is refused; otherwise its steps are due
abbrev pub due_of_steps : Expr → Option TypeFault → Due
due_of_steps e (Some fault) = Refused Early (ILL fault)
due_of_steps e None = Explained (steps_of (tree_of e))

-- ---- items
-- what is due of a command on a workspace, given the snapshot that it names
unfoldable pub due_of_command : Input → Script → Command → Workspace → Option Workspace → Due
due_of_command input script (RELATION name rows rows_at cols cols_at list) state snap =
    unless_over (listing_over rows rows_at cols cols_at list.items) (relation_of rows cols (lists list.items))
due_of_command input script (Let name e) state snap = due_of input script Value e state
due_of_command input script (PRINT e) state snap = due_of input script printed e state
due_of_command input script (LIST e) state snap = due_of input script listed e state
due_of_command input script (Count e) state snap = due_of input script Value e state
due_of_command input script (Typed e) state snap = due_of input script Value e state
due_of_command input script (DROP at name) state snap = due_of_drop at name (lookup state name)
due_of_command input script (Snap name) state snap = Nothing
due_of_command input script (At at name e) state snap = due_on_snapshot input script at name e snap
due_of_command input script (Load name file) state snap = due_of_file name file (file_named input.files file)
due_of_command input script (Save e file) state snap = due_of input script saved e state
due_of_command input script (LoadAll file) state snap = due_of_whole_file file (file_named input.files file)
due_of_command input script (SaveAll file) state snap = saved_bytes (shared_file state)
due_of_command input script (Atomic lets) state snap = due_of_block input script lets.items state
due_of_command input script (Explain e) state snap = due_of_steps e (early_fault script (lookup state) e)

-- what is due of an item; a definition is just done
unfoldable pub due : Input → Script → Item → Workspace → Option Workspace → Due
due input script (COMMAND command) state snap = due_of_command input script command state snap
due input script (Function at name params body) state snap = Nothing
due input script (Program at name params decls body result) state snap = Nothing

-- ---- what a value is given to
-- a name gets a value, if one is due
abbrev pub given : List ℕ → Due → Gifts
given name Nothing = []
given name (Value r) = (name, r) ∷ []
given name (Values gifts) = []
given name (Bytes bytes) = []
given name (Explained steps) = []
given name (Refused when outcome) = []

-- names get the values that are due, if any
abbrev pub given_all : Due → Gifts
given_all Nothing = []
given_all (Value r) = []
given_all (Values gifts) = gifts
given_all (Bytes bytes) = []
given_all (Explained steps) = []
given_all (Refused when outcome) = []

-- the names to which a command assigns values, in order, each with its value
abbrev pub gives_of_command : Command → Due → Gifts
gives_of_command (RELATION name rows rows_at cols cols_at list) d = given name d
gives_of_command (Let name e) d = given name d
gives_of_command (PRINT e) d = []
gives_of_command (LIST e) d = []
gives_of_command (Count e) d = []
gives_of_command (Typed e) d = []
gives_of_command (DROP at name) d = []
gives_of_command (Snap name) d = []
gives_of_command (At at name e) d = []
gives_of_command (Load name file) d = given name d
gives_of_command (Save e file) d = []
gives_of_command (LoadAll file) d = given_all d
gives_of_command (SaveAll file) d = []
gives_of_command (Atomic lets) d = given_all d
gives_of_command (Explain e) d = []

-- the same for an item
abbrev pub gives : Item → Due → Gifts
gives (COMMAND command) d = gives_of_command command d
gives (Function at name params body) d = []
gives (Program at name params decls body result) d = []
