-- The items that read, and show or save what an expression comes to.
-- 1. All that the definitions say of an item is one record.
-- 2. From it, what is asked of an item that takes a value can be read off, whatever it does with the value.
-- 3. So each such item is one equation, which holds by definition.
use Rattle.std.proofs.Common.{◌≡◌, ℕ, Bool, true, false, cond, List, [], ◌∷◌, ◌++◌, Option, None, refl, ap}
use Rattle.rel_model.specs.Relation.{Relation}
use Rattle.lang_model.specs.declared.syntax.Expr.{Expr}
use Rattle.lang_model.specs.declared.syntax.Command.TheVariants.{Let as LET, Print as PRINT, List as LIST, Count as COUNT, Typed as TYPED, Save as SAVE}
use Rattle.lang_model.specs.declared.syntax.Item.{Item}
use Rattle.lang_model.specs.declared.syntax.Item.TheVariants.{Command as COMMAND}
use Rattle.lang_model.specs.declared.syntax.Let.{Let as BlockLet}
use Rattle.lang_model.specs.declared.syntax.Script.{Script}
use Rattle.lang_model.specs.Eval.{IsCompound}
use Rattle.run_model.specs.declared.outcome.Outcome.{Outcome}
use Rattle.run_model.specs.Cost.{cost_of, cost_of_item}
use Rattle.run_model.specs.Due.{Workspace, Due, Gifts, Late, Value, Refused, due, due_of, due_of_command, gives}
use Rattle.run_model.specs.Events.{Deed, Reads, reads_of, done_deeds}
use Rattle.run_model.specs.Inputs.{Input}
use Rattle.run_model.specs.Outcomes.{IsNotEarly, MayLackNodes, MayLackMemory, lets_of}
use Rattle.run_model.specs.Page.{SavedFile, shown, saved_of}
use Rattle.run_model.specs.Steps.{snapped}
use Rattle.rv_sessions.specs.declared.form.Form.{Form}
use Rattle.rv_sessions.specs.declared.form.Form.TheVariants.{Matrix, Listing, Count, Typed, File}
use Rattle.rv_sessions.specs.Showing.{wanted_in, bytes_in}
use Rattle.rv_sessions.specs.Acting.{IsReadItem, IsValueItem}

either_late : (b : Bool) (o : Outcome) (r : Relation) → IsNotEarly (cond b (Refused Late o) (Value r))
either_late true o r = tt
either_late false o r = tt

pub is_late : (form : Form) (r : Relation) → IsNotEarly (wanted_in form r)
is_late Matrix r = either_late _ _ r
is_late Listing r = either_late _ _ r
is_late Count r = tt
is_late Typed r = tt
is_late File r = either_late _ _ r

-- ---- 1
-- what the definitions say of an item
record Said : Type 0 where
  is_due : Input → Script → Workspace → Option Workspace → Due
  costs : ℕ → Input → Script → Workspace → Option Workspace → Due → ℕ
  reads : List Deed
  done : Due → List Deed
  given : Due → Gifts
  text : List ℕ → Relation → List ℕ
  files : Relation → List SavedFile
  kept : Option (List ℕ)
  lets : Option (List BlockLet)

abbrev said : Item → Said
said item = record {
  is_due = λ input script state snap. due input script item state snap;
  costs = λ leaf input script state snap d. cost_of_item leaf input script item state snap d;
  reads = reads_of item;
  done = λ d. done_deeds item d;
  given = λ d. gives item d;
  text = λ numbers r. shown numbers item r;
  files = λ r. saved_of item r;
  kept = snapped item;
  lets = lets_of item;
}

-- ---- 2
-- what they say of one that takes a value, and only shows or saves it
abbrev taking : Expr → (Relation → Due) → (List ℕ → Relation → List ℕ) → (Relation → List SavedFile) → Said
taking e then text files = record {
  is_due = λ input script state snap. due_of input script then e state;
  costs = λ leaf input script state snap d. cost_of leaf input script e state;
  reads = Reads ∷ [];
  done = λ d. Reads ∷ [];
  given = λ d. [];
  text = text;
  files = files;
  kept = None;
  lets = None;
}

value_item : (form : Form) (item : Item) (e : Expr) {text : List ℕ → Relation → List ℕ}
    {files : Relation → List SavedFile} → said item ≡ taking e (wanted_in form) text files →
    ((d : Due) → IsCompound e → IsNotEarly d → MayLackNodes item d) → MayLackMemory item →
    IsValueItem item e (wanted_in form) text files
value_item form item e h nodes memory = record {
  reading = record {
    due_is = λ input script state snap. ap (λ (s : Said). s.is_due input script state snap) h;
    cost_is = λ leaf input script state snap d. ap (λ (s : Said). s.costs leaf input script state snap d) h;
    nodes = nodes;
    late = is_late form;
    memory = memory;
    reads = ap (λ (s : Said). s.reads) h;
  };
  done = λ d. ap (λ (s : Said). s.done d) h;
  none_given = λ d. ap (λ (s : Said). s.given d) h;
  shows = λ numbers r. ap (λ (s : Said). s.text numbers r) h;
  saves = λ r. ap (λ (s : Said). s.files r) h;
  no_snapped = ap (λ (s : Said). s.kept) h;
  no_block = ap (λ (s : Said). s.lets) h;
}

-- ---- 3
-- PRINT shows the matrix of its value, behind the numbers
pub print_item : (e : Expr) → IsValueItem (COMMAND (PRINT e)) e (wanted_in Matrix)
    (λ numbers r. numbers ++ bytes_in Matrix r) (λ r. [])
unfolding due due_of_command
print_item e = value_item Matrix (COMMAND (PRINT e)) e refl (λ d k l. (k, l)) tt

-- LIST shows the pairs of its value
pub list_item : (e : Expr) → IsValueItem (COMMAND (LIST e)) e (wanted_in Listing)
    (λ numbers r. numbers ++ bytes_in Listing r) (λ r. [])
unfolding due due_of_command
list_item e = value_item Listing (COMMAND (LIST e)) e refl (λ d k l. (k, l)) tt

-- COUNT shows how many pairs its value has
pub count_item : (e : Expr) → IsValueItem (COMMAND (COUNT e)) e (wanted_in Count)
    (λ numbers r. numbers ++ bytes_in Count r) (λ r. [])
unfolding due due_of_command
count_item e = value_item Count (COMMAND (COUNT e)) e refl (λ d k l. (k, l)) tt

-- TYPE shows the sizes of its value
pub type_item : (e : Expr) → IsValueItem (COMMAND (TYPED e)) e (wanted_in Typed)
    (λ numbers r. numbers ++ bytes_in Typed r) (λ r. [])
unfolding due due_of_command
type_item e = value_item Typed (COMMAND (TYPED e)) e refl (λ d k l. (k, l)) tt

-- SAVE shows nothing, and saves the bytes of its value
pub save_item : (e : Expr) (file : List ℕ) → IsValueItem (COMMAND (SAVE e file)) e (wanted_in File) (λ numbers r. [])
    (λ r. record { name = file; bytes = bytes_in File r } ∷ [])
unfolding due due_of_command
save_item e file = value_item File (COMMAND (SAVE e file)) e refl (λ d k l. (k, l)) tt

-- LET reads in the same way
pub let_item : (name : List ℕ) (e : Expr) → IsReadItem (COMMAND (LET name e)) e Value
unfolding due due_of_command
let_item name e = record {
  due_is = λ input script state snap. refl;
  cost_is = λ leaf input script state snap d. refl;
  nodes = λ d k l. (k, l);
  late = λ r. tt;
  memory = tt;
  reads = refl;
}
