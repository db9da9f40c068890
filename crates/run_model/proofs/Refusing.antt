-- What is due is never want of memory, and a refusal that is due is one that an outcome tells as a failure.
use Rattle.std.proofs.Common.{◌≡◌, ◌*◌, nat_lt, length, ℕ, Bool, true, false, cond, List, [], ◌∷◌, Option, Some, None, refl}
use Rattle.lang_model.specs.declared.syntax.Place.{Place}
use Rattle.lang_model.specs.declared.rows.Column.{Column}
use Rattle.lang_model.specs.declared.rows.Row.{Row}
use Rattle.lang_model.specs.declared.syntax.Expr.{Expr}
use Rattle.lang_model.specs.declared.syntax.Command.TheVariants.{
  Relation as RELATION,
  Let,
  Print as PRINT,
  List as LIST,
  Count,
  Typed,
  Remove as DROP,
  Snap,
  At,
  Load,
  Save,
  LoadAll,
  SaveAll,
  Atomic,
  Explain,
}
use Rattle.lang_model.specs.declared.syntax.Item.{Item}
use Rattle.lang_model.specs.declared.syntax.Item.TheVariants.{Function, Program, Command as COMMAND}
use Rattle.lang_model.specs.declared.syntax.Script.{Script}
use Rattle.run_model.specs.declared.outcome.BadFile.{BadFile}
use Rattle.run_model.specs.declared.outcome.Unit.TheVariants.{Cells, Pairs}
use Rattle.run_model.specs.declared.outcome.Outcome.{Outcome}
use Rattle.run_model.specs.declared.outcome.Outcome.TheVariants.{Size as SIZE, TooLarge, TooLong}
use Rattle.rel_model.specs.Relation.{Relation, relation_of, size_limit}
use Rattle.lang_model.specs.State.{lists}
use Rattle.lang_model.specs.Missing.{first_of_both}
use Rattle.lang_model.specs.Outcomes.{Refusal, Ill, Size, Turns, Answer, Got, Not}
use Rattle.lang_model.specs.Eval.{Evaluated, Ahead, Comes, evaluated, early_fault}
use Rattle.lang_model.specs.Blocks.{evaluated_block}
use Rattle.lang_model.specs.declared.faults.TypeFault.{TypeFault}
use Rattle.run_model.specs.Names.{lookup}
use Rattle.run_model.specs.SharedFiles.{begins_shared, shared_fault, shared_relations, relation_named}
use Rattle.run_model.specs.SharedBytes.{shared_file}
use Rattle.lang_model.specs.declared.syntax.Let.{Let as BlockLet}
use Rattle.run_model.specs.Inputs.{Input, file_named}
use Rattle.run_model.specs.Files.{k2_fault, bits_count}
use Rattle.run_model.specs.Due.{
  Workspace,
  Due,
  Late,
  Nothing,
  Value,
  Values,
  Bytes,
  Explained,
  Refused,
  within,
  printed,
  listed,
  saved,
  outcome_of,
  due_of_answer,
  due_of_value,
  due_of,
  over,
  columns_over,
  rows_over,
  listing_over,
  unless_over,
  due_of_bytes,
  due_of_named,
  due_of_shared,
  due_of_file,
  due_of_all,
  due_of_whole_file,
  bits_in,
  saved_bytes,
  late,
  with_gift,
  behind_let,
  due_of_lets,
  due_of_steps,
  due_of_drop,
  due_on_snapshot,
  due_of_command,
  due,
}
use Rattle.run_model.specs.Limits.{print_limit, list_limit, save_limit}
use Rattle.run_model.specs.Steps.{Fails, ending}

-- a refusal that is due fails
abbrev pub FailsWell : Due → Type 0
FailsWell Nothing = Unit {0}
FailsWell (Value r) = Unit {0}
FailsWell (Values gifts) = Unit {0}
FailsWell (Bytes bytes) = Unit {0}
FailsWell (Explained steps) = Unit {0}
FailsWell (Refused when outcome) = ending outcome ≡ Fails

abbrev OverFails : Option Outcome → Type 0
OverFails None = Unit {0}
OverFails (Some outcome) = ending outcome ≡ Fails

passes_or_fails : (b : Bool) (outcome : Outcome) → ending outcome ≡ Fails → OverFails (cond b (Some outcome) None)
passes_or_fails true outcome h = h
passes_or_fails false outcome h = tt

over_fails : (at : Place) (wanted limit : ℕ) → OverFails (over at wanted limit)
over_fails at wanted limit = passes_or_fails (nat_lt limit wanted) (SIZE at wanted limit) refl

first_fails : (a b : Option Outcome) → OverFails a → OverFails b → OverFails (first_of_both a b)
first_fails None b h k = k
first_fails (Some o) b h k = h

columns_fail : (cols : ℕ) (cs : List Column) → OverFails (columns_over cols cs)
columns_fail cols [] = tt
columns_fail cols (c ∷ cs) =
    first_fails (over c.at c.col cols) (columns_over cols cs) (over_fails c.at c.col cols) (columns_fail cols cs)

rows_fail : (rows cols : ℕ) (rs : List Row) → OverFails (rows_over rows cols rs)
rows_fail rows cols [] = tt
rows_fail rows cols (r ∷ rs) =
    first_fails (over r.at r.row rows) (first_of_both (columns_over cols r.cols.items) (rows_over rows cols rs)) (over_fails r.at r.row rows)
    (first_fails (columns_over cols r.cols.items) (rows_over rows cols rs) (columns_fail cols r.cols.items) (rows_fail rows cols rs))

listing_fails : (rows : ℕ) (rows_at : Place) (cols : ℕ) (cols_at : Place) (list : List Row) →
    OverFails (listing_over rows rows_at cols cols_at list)
unfolding listing_over
listing_fails rows rows_at cols cols_at list =
    first_fails (over rows_at rows size_limit)
    (first_of_both (over cols_at cols size_limit) (rows_over rows cols list)) (over_fails rows_at rows size_limit)
    (first_fails (over cols_at cols size_limit) (rows_over rows cols list) (over_fails cols_at cols size_limit)
    (rows_fail rows cols list))

unless_fails : (o : Option Outcome) (r : Relation) → OverFails o → FailsWell (unless_over o r)
unless_fails None r h = tt
unless_fails (Some outcome) r h = h

one_fails : (b : Bool) (outcome : Outcome) (r : Relation) → ending outcome ≡ Fails →
    FailsWell (cond b (Refused Late outcome) (Value r))
one_fails true outcome r h = h
one_fails false outcome r h = tt

within_fails : (limit wanted : ℕ) (outcome : Outcome) (r : Relation) → ending outcome ≡ Fails →
    FailsWell (within limit wanted outcome r)
within_fails limit wanted outcome r h = one_fails (nat_lt limit wanted) outcome r h

meaning_fails : (turns : ℕ) (why : Refusal) → ending (outcome_of turns why) ≡ Fails
meaning_fails turns (Ill fault) = refl
meaning_fails turns (Size at wanted) = refl
meaning_fails turns (Turns at) = refl

answer_fails : (then : Relation → Due) (turns : ℕ) (a : Answer Relation) → ((r : Relation) → FailsWell (then r)) →
    FailsWell (due_of_answer then turns a)
answer_fails then turns (Got r left) h = h r
answer_fails then turns (Not why) h = meaning_fails turns why

value_fails : (then : Relation → Due) (turns : ℕ) (v : Evaluated) → ((r : Relation) → FailsWell (then r)) →
    FailsWell (due_of_value then turns v)
value_fails then turns (Ahead fault) h = refl
value_fails then turns (Comes came) h = answer_fails then turns came.answer h

printed_fails : (r : Relation) → FailsWell (printed r)
printed_fails r = within_fails print_limit (r.rows * r.cols) (TooLarge (r.rows * r.cols) Cells) r refl

listed_fails : (r : Relation) → FailsWell (listed r)
listed_fails r = within_fails list_limit (length r.pairs) (TooLarge (length r.pairs) Pairs) r refl

saved_fails : (r : Relation) → FailsWell (saved r)
saved_fails r = within_fails save_limit (bits_count r) (TooLong (bits_count r)) r refl

bytes_fail : (file bytes : List ℕ) (o : Option BadFile) → FailsWell (due_of_bytes file bytes o)
bytes_fail file bytes None = tt
bytes_fail file bytes (Some kind) = refl

named_fails : (file : List ℕ) (o : Option Relation) → FailsWell (due_of_named file o)
named_fails file None = refl
named_fails file (Some r) = tt

shared_fails : (name file bytes : List ℕ) (o : Option BadFile) → FailsWell (due_of_shared name file bytes o)
shared_fails name file bytes (Some kind) = refl
shared_fails name file bytes None = named_fails file (relation_named name (shared_relations bytes))

either_fails : (b : Bool) (d e : Due) → FailsWell d → FailsWell e → FailsWell (cond b d e)
either_fails true d e h k = h
either_fails false d e h k = k

file_fails : (name file : List ℕ) (o : Option (List ℕ)) → FailsWell (due_of_file name file o)
file_fails name file None = refl
file_fails name file (Some bytes) =
    either_fails (begins_shared bytes) (due_of_shared name file bytes (shared_fault bytes))
    (due_of_bytes file bytes (k2_fault bytes)) (shared_fails name file bytes (shared_fault bytes))
    (bytes_fail file bytes (k2_fault bytes))

all_fails : (file bytes : List ℕ) (o : Option BadFile) → FailsWell (due_of_all file bytes o)
all_fails file bytes (Some kind) = refl
all_fails file bytes None = tt

whole_fails : (file : List ℕ) (o : Option (List ℕ)) → FailsWell (due_of_whole_file file o)
whole_fails file None = refl
whole_fails file (Some bytes) = all_fails file bytes (shared_fault bytes)

saved_bytes_fail : (bytes : List ℕ) → FailsWell (saved_bytes bytes)
saved_bytes_fail bytes =
    either_fails (nat_lt save_limit (bits_in bytes)) (Refused Late (TooLong (bits_in bytes))) (Bytes bytes) refl tt

late_fails : (d : Due) → FailsWell d → FailsWell (late d)
late_fails Nothing h = tt
late_fails (Value r) h = tt
late_fails (Values gifts) h = tt
late_fails (Bytes bytes) h = tt
late_fails (Explained steps) h = tt
late_fails (Refused when outcome) h = h

gift_fails : (gift : List ℕ × Relation) (d : Due) → FailsWell d → FailsWell (with_gift gift d)
gift_fails gift Nothing h = tt
gift_fails gift (Value r) h = tt
gift_fails gift (Values gifts) h = tt
gift_fails gift (Bytes bytes) h = tt
gift_fails gift (Explained steps) h = tt
gift_fails gift (Refused when outcome) h = h

let_fails : (name : List ℕ) (rest d : Due) → FailsWell rest → FailsWell d → FailsWell (behind_let name rest d)
let_fails name rest (Value r) h k = gift_fails (name, r) (late rest) (late_fails rest h)
let_fails name rest (Refused when outcome) h k = k
let_fails name rest Nothing h k = tt
let_fails name rest (Values gifts) h k = tt
let_fails name rest (Bytes bytes) h k = tt
let_fails name rest (Explained steps) h k = tt

lets_fail : (turns : ℕ) (ls : List BlockLet) (vs : List Evaluated) → FailsWell (due_of_lets turns ls vs)
lets_fail turns [] vs = tt
lets_fail turns (l ∷ ls) [] = tt
lets_fail turns (l ∷ ls) (v ∷ vs) =
    let_fails l.name (due_of_lets turns ls vs) (due_of_value Value turns v) (lets_fail turns ls vs)
    (value_fails Value turns v (λ r. tt))

steps_fail : (e : Expr) (o : Option TypeFault) → FailsWell (due_of_steps e o)
steps_fail e (Some fault) = refl
steps_fail e None = tt

drop_fails : (at : Place) (name : List ℕ) (o : Option Relation) → FailsWell (due_of_drop at name o)
drop_fails at name None = refl
drop_fails at name (Some r) = tt

module _ (input : Input) (script : Script) where
  of_fails : (then : Relation → Due) (e : Expr) (s : Workspace) → ((r : Relation) → FailsWell (then r)) →
      FailsWell (due_of input script then e s)
  of_fails then e s h = value_fails then input.turns (evaluated script (lookup s) e input.turns) h

  snap_fails : (at : Place) (name : List ℕ) (e : Expr) (o : Option Workspace) →
      FailsWell (due_on_snapshot input script at name e o)
  snap_fails at name e None = refl
  snap_fails at name e (Some s) = of_fails printed e s printed_fails

  -- a refusal that is due of an item is a failure: case by case, each test that an item undergoes refuses with one
  pub due_fails_well : (item : Item) (s : Workspace) (snap : Option Workspace) → FailsWell (due input script item s snap)
  unfolding due due_of_command
  due_fails_well (COMMAND (RELATION name rows rows_at cols cols_at list)) s snap =
      unless_fails (listing_over rows rows_at cols cols_at list.items) (relation_of rows cols (lists list.items))
      (listing_fails rows rows_at cols cols_at list.items)
  due_fails_well (COMMAND (Let name e)) s snap = of_fails Value e s (λ r. tt)
  due_fails_well (COMMAND (PRINT e)) s snap = of_fails printed e s printed_fails
  due_fails_well (COMMAND (LIST e)) s snap = of_fails listed e s listed_fails
  due_fails_well (COMMAND (Count e)) s snap = of_fails Value e s (λ r. tt)
  due_fails_well (COMMAND (Typed e)) s snap = of_fails Value e s (λ r. tt)
  due_fails_well (COMMAND (DROP at name)) s snap = drop_fails at name (lookup s name)
  due_fails_well (COMMAND (Snap name)) s snap = tt
  due_fails_well (COMMAND (At at name e)) s snap = snap_fails at name e snap
  due_fails_well (COMMAND (Load name file)) s snap = file_fails name file (file_named input.files file)
  due_fails_well (COMMAND (Save e file)) s snap = of_fails saved e s saved_fails
  due_fails_well (COMMAND (LoadAll file)) s snap = whole_fails file (file_named input.files file)
  due_fails_well (COMMAND (SaveAll file)) s snap = saved_bytes_fail (shared_file s)
  due_fails_well (COMMAND (Atomic lets)) s snap =
      lets_fail input.turns lets.items (evaluated_block script (lookup s) lets.items input.turns)
  due_fails_well (COMMAND (Explain e)) s snap = steps_fail e (early_fault script (lookup s) e)
  due_fails_well (Function at name params body) s snap = tt
  due_fails_well (Program at name params decls body result) s snap = tt
