-- Early refusals and plain names cost nothing.
use Rattle.std.proofs.Common.{◌≡◌, ◌+◌, ◌*◌, nat_lt, ℕ, Bool, true, false, cond, List, [], ◌∷◌, length, Option, Some, None, refl, ap, inl, inr}
use Rattle.lang_model.specs.declared.syntax.Place.{Place}
use Rattle.lang_model.specs.declared.syntax.Expr.{Expr, Ref, Call', Base', Inject, Pair', Minus', Turned', Chain'}
use Rattle.lang_model.specs.declared.syntax.Command.{Command}
use Rattle.lang_model.specs.declared.syntax.Command.TheVariants.{
  Relation as RELATION,
  Let,
  Print as PRINT,
  List as LIST,
  Count,
  Typed,
  Remove as DROP,
  Snap,
  At,
  Load,
  Save,
  LoadAll,
  SaveAll,
  Atomic,
  Explain,
}
use Rattle.lang_model.specs.declared.syntax.Item.{Item}
use Rattle.lang_model.specs.declared.syntax.Item.TheVariants.{Function, Program, Command as COMMAND}
use Rattle.lang_model.specs.declared.syntax.Script.{Script}
use Rattle.run_model.specs.declared.outcome.Unit.TheVariants.{Cells, Pairs}
use Rattle.run_model.specs.declared.outcome.Outcome.{Outcome}
use Rattle.run_model.specs.declared.outcome.Outcome.TheVariants.{TooLarge, TooLong}
use Rattle.rel_model.specs.Relation.{Relation}
use Rattle.lang_model.specs.State.{State, assigned}
use Rattle.lang_model.specs.Rewriting.{calmed}
use Rattle.lang_model.specs.Missing.{missing}
use Rattle.lang_model.specs.Outcomes.{Answer, Got, Not, Came, with_turns}
use Rattle.lang_model.specs.Types.{Fits, Misfit, Typed as StaticType}
use Rattle.lang_model.specs.Shape.{static_type}
use Rattle.lang_model.specs.Mean.{named, meaning}
use Rattle.lang_model.specs.Eval.{Evaluated, Ahead, Comes, unless_missing, unless_misfit, at_cost_of, types_in, evaluated, cost_of_value, IsCompound}
use Rattle.lang_model.specs.Blocks.{after_answer, after_value, evaluated_block, cost_of_block}
use Rattle.run_model.specs.Names.{lookup}
use Rattle.run_model.specs.Blocks.{AnyCompound}
use Rattle.lang_model.specs.declared.syntax.Let.{Let as BlockLet}
use Rattle.lang_model.specs.declared.faults.TypeFault.{TypeFault}
use Rattle.run_model.specs.Inputs.{Input}
use Rattle.run_model.specs.Files.{bits_count}
use Rattle.run_model.specs.Due.{Late, Workspace, Gifts, Due, Nothing, Value, Values, Bytes, Explained, Refused, printed, listed, saved, due_of_answer, due_of_value, due_of, due_on_snapshot, late, with_gift, behind_let, due_of_lets, due_of_block, due_of_command, due}
use Rattle.run_model.specs.Limits.{print_limit, list_limit, save_limit}
use Rattle.run_model.specs.Outcomes.{WantsNodes}
use Rattle.run_model.specs.Cost.{cost_of, cost_on_snapshot, where_value, where_values, cost_of_command, cost_of_item}
use Rattle.run_model.specs.Laws.{IsEarly, FreeCommands}

-- where something is due early, no value is
no_value : (d : Due) (cost : Relation → ℕ) → IsEarly d → where_value d cost ≡ 0
no_value Nothing cost h = absurd h
no_value (Value r) cost h = absurd h
no_value (Values gifts) cost h = absurd h
no_value (Bytes bytes) cost h = absurd h
no_value (Explained steps) cost h = absurd h
no_value (Refused when outcome) cost h = refl

no_values : (d : Due) (cost : Gifts → ℕ) → IsEarly d → where_values d cost ≡ 0
no_values Nothing cost h = absurd h
no_values (Value r) cost h = absurd h
no_values (Values gifts) cost h = absurd h
no_values (Bytes bytes) cost h = absurd h
no_values (Explained steps) cost h = absurd h
no_values (Refused when outcome) cost h = refl

-- what stands behind a value is never early
late_late : (d : Due) → IsEarly (late d) → ⊥
late_late Nothing h = h
late_late (Value r) h = h
late_late (Values gifts) h = h
late_late (Bytes bytes) h = h
late_late (Explained steps) h = h
late_late (Refused when outcome) h = h

gift_late : (gift : List ℕ × Relation) (d : Due) → (IsEarly d → ⊥) → IsEarly (with_gift gift d) → ⊥
gift_late gift Nothing k h = h
gift_late gift (Value r) k h = h
gift_late gift (Values gifts) k h = h
gift_late gift (Bytes bytes) k h = h
gift_late gift (Explained steps) k h = h
gift_late gift (Refused when outcome) k h = k h

-- so a block that is refused early is so at its first assignment
early_let : (name : List ℕ) (rest d : Due) → IsEarly (behind_let name rest d) → IsEarly d
early_let name rest (Value r) h = absurd (gift_late (name, r) (late rest) (late_late rest) h)
early_let name rest (Refused when outcome) h = h
early_let name rest Nothing h = absurd h
early_let name rest (Values gifts) h = absurd h
early_let name rest (Bytes bytes) h = absurd h
early_let name rest (Explained steps) h = absurd h

-- what a value is for is never early
late_or_value : (b : Bool) (outcome : Outcome) (r : Relation) → IsEarly (cond b (Refused Late outcome) (Value r)) → ⊥
late_or_value true outcome r h = h
late_or_value false outcome r h = h

not_printed : (r : Relation) → IsEarly (printed r) → ⊥
not_printed r = late_or_value (nat_lt print_limit (r.rows * r.cols)) (TooLarge (r.rows * r.cols) Cells) r

not_listed : (r : Relation) → IsEarly (listed r) → ⊥
not_listed r = late_or_value (nat_lt list_limit (length r.pairs)) (TooLarge (length r.pairs) Pairs) r

not_saved : (r : Relation) → IsEarly (saved r) → ⊥
not_saved r = late_or_value (nat_lt save_limit (bits_count r)) (TooLong (bits_count r)) r

not_value : (r : Relation) → IsEarly (Value r) → ⊥
not_value r h = h

not_answer : (then : Relation → Due) (turns : ℕ) (a : Answer Relation) → ((r : Relation) → IsEarly (then r) → ⊥) → IsEarly (due_of_answer then turns a) → ⊥
not_answer then turns (Got r left) h k = h r k
not_answer then turns (Not why) h k = k

early_value : (then : Relation → Due) (turns : ℕ) (v : Evaluated) → ((r : Relation) → IsEarly (then r) → ⊥) → IsEarly (due_of_value then turns v) →
    (fault : TypeFault) × (v ≡ Ahead fault)
early_value then turns (Ahead fault) h k = (fault, refl)
early_value then turns (Comes came) h k = absurd (not_answer then turns came.answer h k)

-- a block that is refused early costs nothing
early_lets : (leaf turns : ℕ) (l : BlockLet) (ls : List BlockLet) (v : Evaluated) (more : Relation → List Evaluated) →
    IsEarly (due_of_lets turns (l ∷ ls) (after_value v more)) → cost_of_block leaf (after_value v more) ≡ 0
early_lets leaf turns l ls (Ahead fault) more k = refl
early_lets leaf turns l ls (Comes came) more k =
    absurd (not_answer Value turns came.answer not_value
    (early_let l.name (due_of_lets turns ls (after_answer came.answer more)) (due_of_answer Value turns came.answer) k))

-- a name costs nothing: its calm tree is itself
named_free : (leaf : ℕ) (at : Place) (name : List ℕ) (n : ℕ) (m : Option (Place × List ℕ)) (t : StaticType) (o : Option Relation) (c : Came Relation) →
    cost_of_value leaf (unless_missing m (unless_misfit t (at_cost_of (with_turns (named at name o) n) c))) ≡ 0
named_free leaf at name n (Some x) t o c = refl
named_free leaf at name n None (Misfit fault) o c = refl
named_free leaf at name n None (Fits shape) None c = refl
named_free leaf at name n None (Fits shape) (Some r) c = refl

name_free : (leaf : ℕ) (script : Script) (s : State) (at : Place) (name : List ℕ) (turns : ℕ) →
    cost_of_value leaf (evaluated script s (Ref at name) turns) ≡ 0
unfolding evaluated calmed
name_free leaf script s at name turns =
    named_free leaf at name turns (missing s (Ref at name)) (static_type script (types_in s) (Ref at name)) (s name)
    (meaning script s (Ref at name) turns)

plain_value : (leaf : ℕ) (script : Script) (e : Expr) (s : State) (turns : ℕ) → (IsCompound e → ⊥) →
    cost_of_value leaf (evaluated script s e turns) ≡ 0
plain_value leaf script (Ref at name) s turns h = name_free leaf script s at name turns
plain_value leaf script (Call' at name sh args) s turns h = absurd (h tt)
plain_value leaf script (Base' at base sh args) s turns h = absurd (h tt)
plain_value leaf script (Inject at base domain) s turns h = absurd (h tt)
plain_value leaf script (Pair' at p left q right) s turns h = absurd (h tt)
plain_value leaf script (Minus' at p of) s turns h = absurd (h tt)
plain_value leaf script (Turned' at p of times) s turns h = absurd (h tt)
plain_value leaf script (Chain' p first sh rest) s turns h = absurd (h tt)

-- a block of names costs nothing
free_after : (leaf : ℕ) (v : Evaluated) (more : Relation → List Evaluated) → cost_of_value leaf v ≡ 0 →
    ((r : Relation) → cost_of_block leaf (more r) ≡ 0) → cost_of_block leaf (after_value v more) ≡ 0
free_after leaf (Ahead fault) more h k = refl
free_after leaf (Comes came) more h k = λ i. h i + answered came.answer i
  where
    answered : (a : Answer Relation) → cost_of_block leaf (after_answer a more) ≡ 0
    answered (Got r left) = k r
    answered (Not why) = refl

plain_lets : (leaf : ℕ) (script : Script) (ls : List BlockLet) (s : State) (turns : ℕ) → (AnyCompound ls → ⊥) →
    cost_of_block leaf (evaluated_block script s ls turns) ≡ 0
plain_lets leaf script [] s turns h = refl
plain_lets leaf script (l ∷ ls) s turns h =
    free_after leaf (evaluated script s l.value turns) (λ r. evaluated_block script (assigned l.name r s) ls turns)
    (plain_value leaf script l.value s turns (λ c. h (inl c)))
    (λ r. plain_lets leaf script ls (assigned l.name r s) turns (λ c. h (inr c)))

module _ (leaf : ℕ) (input : Input) (script : Script) where
  early_of : (then : Relation → Due) (e : Expr) (s : Workspace) → ((r : Relation) → IsEarly (then r) → ⊥) → IsEarly (due_of input script then e s) →
      cost_of leaf input script e s ≡ 0
  early_of then e s h k =
      let f = early_value then input.turns (evaluated script (lookup s) e input.turns) h k in
      ap (cost_of_value leaf) f.1

  early_snap : (at : Place) (name : List ℕ) (e : Expr) (o : Option Workspace) → IsEarly (due_on_snapshot input script at name e o) →
      cost_on_snapshot leaf input script e o ≡ 0
  early_snap at name e None k = refl
  early_snap at name e (Some snap) k = early_of printed e snap not_printed k

  early_block : (ls : List BlockLet) (s : Workspace) → IsEarly (due_of_block input script ls s) →
      cost_of_block leaf (evaluated_block script (lookup s) ls input.turns) ≡ 0
  early_block [] s k = refl
  early_block (l ∷ ls) s k =
      early_lets leaf input.turns l ls (evaluated script (lookup s) l.value input.turns)
      (λ r. evaluated_block script (assigned l.name r (lookup s)) ls input.turns) k

  -- an item that is refused early costs nothing: case by case, the refusal stands ahead of every value
  early_free : (item : Item) (s : Workspace) (snap : Option Workspace) → IsEarly (due input script item s snap) →
      cost_of_item leaf input script item s snap (due input script item s snap) ≡ 0
  unfolding due due_of_command
  early_free (COMMAND (RELATION name rows rows_at cols cols_at list)) s snap k = no_value _ _ k
  early_free (COMMAND (Let name e)) s snap k = early_of Value e s not_value k
  early_free (COMMAND (PRINT e)) s snap k = early_of printed e s not_printed k
  early_free (COMMAND (LIST e)) s snap k = early_of listed e s not_listed k
  early_free (COMMAND (Count e)) s snap k = early_of Value e s not_value k
  early_free (COMMAND (Typed e)) s snap k = early_of Value e s not_value k
  early_free (COMMAND (DROP at name)) s snap k = refl
  early_free (COMMAND (Snap name)) s snap k = refl
  early_free (COMMAND (At at name e)) s snap k = early_snap at name e snap k
  early_free (COMMAND (Load name file)) s snap k = no_value _ _ k
  early_free (COMMAND (Save e file)) s snap k = early_of saved e s not_saved k
  early_free (COMMAND (LoadAll file)) s snap k = no_values _ _ k
  early_free (COMMAND (SaveAll file)) s snap k = refl
  early_free (COMMAND (Atomic lets)) s snap k = early_block lets.items s k
  early_free (COMMAND (Explain e)) s snap k = refl
  early_free (Function at name params body) s snap k = refl
  early_free (Program at name params decls body result) s snap k = refl

  plain_of : (e : Expr) (s : Workspace) → (IsCompound e → ⊥) → cost_of leaf input script e s ≡ 0
  plain_of e s h = plain_value leaf script e (lookup s) input.turns h

  plain_snap : (e : Expr) (o : Option Workspace) → (IsCompound e → ⊥) → cost_on_snapshot leaf input script e o ≡ 0
  plain_snap e None h = refl
  plain_snap e (Some snap) h = plain_of e snap h

  -- a command that wants no nodes costs nothing: its expressions are names, and a name is only looked up
  plain_free : (command : Command) (s : Workspace) (snap : Option Workspace) (d : Due) → (WantsNodes command → ⊥) →
      cost_of_command leaf input script command s snap d ≡ 0
  plain_free (RELATION name rows rows_at cols cols_at list) s snap d h = absurd (h tt)
  plain_free (Let name e) s snap d h = plain_of e s h
  plain_free (PRINT e) s snap d h = plain_of e s h
  plain_free (LIST e) s snap d h = plain_of e s h
  plain_free (Count e) s snap d h = plain_of e s h
  plain_free (Typed e) s snap d h = plain_of e s h
  plain_free (DROP at name) s snap d h = refl
  plain_free (Snap name) s snap d h = refl
  plain_free (At at name e) s snap d h = plain_snap e snap h
  plain_free (Load name file) s snap d h = absurd (h tt)
  plain_free (Save e file) s snap d h = plain_of e s h
  plain_free (LoadAll file) s snap d h = absurd (h tt)
  plain_free (SaveAll file) s snap d h = refl
  plain_free (Atomic lets) s snap d h = plain_lets leaf script lets.items (lookup s) input.turns h
  plain_free (Explain e) s snap d h = refl

pub free : FreeCommands
free = record { early = early_free; plain = plain_free }
