-- What is due of an item, and its cost, by the names that it takes: expressions see their names alone.
use Rattle.std.proofs.Common.{◌≡◌, ℕ, List, Option, Some, None, refl, ap}
use Rattle.lang_model.specs.declared.syntax.Place.{Place}
use Rattle.lang_model.specs.declared.syntax.Expr.{Expr}
use Rattle.lang_model.specs.declared.syntax.Command.TheVariants.{
  Relation as RELATION,
  Let,
  Print as PRINT,
  List as LIST,
  Count,
  Typed,
  Remove as DROP,
  Snap,
  At,
  Load,
  Save,
  LoadAll,
  SaveAll,
  Atomic,
  Explain,
}
use Rattle.lang_model.specs.declared.syntax.Item.{Item}
use Rattle.lang_model.specs.declared.syntax.Item.TheVariants.{Function, Program, Command as COMMAND}
use Rattle.lang_model.specs.declared.syntax.Script.{Script}
use Rattle.rel_model.specs.Relation.{Relation}
use Rattle.lang_model.specs.Eval.{names_in, AgreeOn}
use Rattle.lang_model.specs.Blocks.{names_read, cost_of_block}
use Rattle.lang_model.proofs.Seeing.{by_names}
use Rattle.lang_model.proofs.Blocking.{blocks_by_names}
use Rattle.run_model.specs.Names.{lookup}
use Rattle.run_model.specs.SharedBytes.{shared_file}
use Rattle.lang_model.specs.declared.syntax.Let.{Let as BlockLet}
use Rattle.run_model.specs.Inputs.{Input}
use Rattle.run_model.specs.Due.{
  Workspace,
  Due,
  Value,
  printed,
  listed,
  saved,
  due_of_value,
  due_of,
  due_of_drop,
  due_of_lets,
  due_of_block,
  due_of_steps,
  saved_bytes,
  due_on_snapshot,
  due_of_command,
  due,
}
use Rattle.run_model.specs.Cost.{cost_of, cost_on_snapshot, cost_of_item}
use Rattle.lang_model.specs.Eval.{cost_of_value}
use Rattle.run_model.specs.Laws.{LooksAlike, names_asked, SnapsAgree, DueByNames}

module _ (input : Input) (script : Script) where
  valued : (then : Relation → Due) (e : Expr) (s t : Workspace) → AgreeOn (lookup s) (lookup t) (names_in e) →
      due_of input script then e s ≡ due_of input script then e t
  valued then e s t h = ap (due_of_value then input.turns) (by_names.value script (lookup s) (lookup t) e input.turns h)

  costed : (leaf : ℕ) (e : Expr) (s t : Workspace) → AgreeOn (lookup s) (lookup t) (names_in e) →
      cost_of leaf input script e s ≡ cost_of leaf input script e t
  costed leaf e s t h = ap (cost_of_value leaf) (by_names.value script (lookup s) (lookup t) e input.turns h)

  snapped : (at : Place) (name : List ℕ) (e : Expr) (snap other : Option Workspace) → SnapsAgree snap other (names_in e) →
      due_on_snapshot input script at name e snap ≡ due_on_snapshot input script at name e other
  snapped at name e None None h = refl
  snapped at name e (Some s) (Some t) h = valued printed e s t h
  snapped at name e None (Some t) h = absurd h
  snapped at name e (Some s) None h = absurd h

  snap_costed : (leaf : ℕ) (e : Expr) (snap other : Option Workspace) → SnapsAgree snap other (names_in e) →
      cost_on_snapshot leaf input script e snap ≡ cost_on_snapshot leaf input script e other
  snap_costed leaf e None None h = refl
  snap_costed leaf e (Some s) (Some t) h = costed leaf e s t h
  snap_costed leaf e None (Some t) h = absurd h
  snap_costed leaf e (Some s) None h = absurd h

  -- what a block is due depends on what it reads
  pub block_due : (ls : List BlockLet) (s t : Workspace) → AgreeOn (lookup s) (lookup t) (names_read ls) →
      due_of_block input script ls s ≡ due_of_block input script ls t
  block_due ls s t h =
      ap (due_of_lets input.turns ls) (blocks_by_names script (lookup s) (lookup t) ls input.turns h)

  -- the same is due of an item on states that look alike to it: case by case, an expression or a block
  -- depends on its names alone
  pub same_due : (item : Item) (s t : Workspace) (snap other : Option Workspace) →
      LooksAlike item s t → SnapsAgree snap other (names_asked item) →
      due input script item s snap ≡ due input script item t other
  unfolding due due_of_command
  same_due (COMMAND (RELATION name rows rows_at cols cols_at list)) s t snap other h k = refl
  same_due (COMMAND (Let name e)) s t snap other h k = valued Value e s t h.0
  same_due (COMMAND (PRINT e)) s t snap other h k = valued printed e s t h.0
  same_due (COMMAND (LIST e)) s t snap other h k = valued listed e s t h.0
  same_due (COMMAND (Count e)) s t snap other h k = valued Value e s t h.0
  same_due (COMMAND (Typed e)) s t snap other h k = valued Value e s t h.0
  same_due (COMMAND (DROP at name)) s t snap other h k = ap (λ (o : Option Relation). due_of_drop at name o) h.0.0
  same_due (COMMAND (Snap name)) s t snap other h k = refl
  same_due (COMMAND (At at name e)) s t snap other h k = snapped at name e snap other k
  same_due (COMMAND (Load name file)) s t snap other h k = refl
  same_due (COMMAND (Save e file)) s t snap other h k = valued saved e s t h.0
  same_due (COMMAND (LoadAll file)) s t snap other h k = refl
  same_due (COMMAND (SaveAll file)) s t snap other h k = ap (λ state. saved_bytes (shared_file state)) h.1
  same_due (COMMAND (Atomic lets)) s t snap other h k = block_due lets.items s t h.0
  same_due (COMMAND (Explain e)) s t snap other h k =
      ap (due_of_steps e) (by_names.early script (lookup s) (lookup t) e h.0)
  same_due (Function at name params body) s t snap other h k = refl
  same_due (Program at name params decls body result) s t snap other h k = refl

  -- and it costs the same, case by case: so do an expression and a block where their names have the same relations
  same_cost : (leaf : ℕ) (item : Item) (s t : Workspace) (snap other : Option Workspace) →
      LooksAlike item s t → SnapsAgree snap other (names_asked item) →
      (d : Due) → cost_of_item leaf input script item s snap d ≡ cost_of_item leaf input script item t other d
  same_cost leaf (COMMAND (RELATION name rows rows_at cols cols_at list)) s t snap other h k d = refl
  same_cost leaf (COMMAND (Let name e)) s t snap other h k d = costed leaf e s t h.0
  same_cost leaf (COMMAND (PRINT e)) s t snap other h k d = costed leaf e s t h.0
  same_cost leaf (COMMAND (LIST e)) s t snap other h k d = costed leaf e s t h.0
  same_cost leaf (COMMAND (Count e)) s t snap other h k d = costed leaf e s t h.0
  same_cost leaf (COMMAND (Typed e)) s t snap other h k d = costed leaf e s t h.0
  same_cost leaf (COMMAND (DROP at name)) s t snap other h k d = refl
  same_cost leaf (COMMAND (Snap name)) s t snap other h k d = refl
  same_cost leaf (COMMAND (At at name e)) s t snap other h k d = snap_costed leaf e snap other k
  same_cost leaf (COMMAND (Load name file)) s t snap other h k d = refl
  same_cost leaf (COMMAND (Save e file)) s t snap other h k d = costed leaf e s t h.0
  same_cost leaf (COMMAND (LoadAll file)) s t snap other h k d = refl
  same_cost leaf (COMMAND (SaveAll file)) s t snap other h k d = refl
  same_cost leaf (COMMAND (Atomic lets)) s t snap other h k d =
      ap (cost_of_block leaf) (blocks_by_names script (lookup s) (lookup t) lets.items input.turns h.0)
  same_cost leaf (COMMAND (Explain e)) s t snap other h k d = refl
  same_cost leaf (Function at name params body) s t snap other h k d = refl
  same_cost leaf (Program at name params decls body result) s t snap other h k d = refl

pub due_by_names : DueByNames
due_by_names input script item s t snap other h k =
    (same_due input script item s t snap other h k, λ leaf. same_cost input script leaf item s t snap other h k)
