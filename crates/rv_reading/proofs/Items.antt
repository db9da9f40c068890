-- What is due of an item, what it costs and what may be wanting for it goes by trees alone: its own and those of the
-- script.
use Rattle.std.proofs.Common.{Bool, ◌&&◌, ◌||◌, ◌≡◌, ◌+◌, ◌==◌, ℕ, List, [], ◌∷◌, map, length, Option, Some, None, refl, ap, ◌∙◌}
use Rattle.std.specs.Prelude.{option_map}
use Rattle.std.specs.List.{list_any}
use Rattle.lang_model.specs.declared.syntax.Place.{Place}
use Rattle.lang_model.specs.declared.rows.Row.{Row}
use Rattle.lang_model.specs.declared.syntax.Expr.{Expr}
use Rattle.lang_model.specs.declared.syntax.Let.{Let as BlockLet}
use Rattle.lang_model.specs.declared.syntax.Command.{Command}
use Rattle.lang_model.specs.declared.syntax.Command.TheVariants.{Relation as RELATION, Let, Print as PRINT, List as LIST, Count, Typed, Remove as DROP, Snap, At, Load, Save, LoadAll, SaveAll, Atomic, Explain}
use Rattle.lang_model.specs.declared.syntax.Item.{Item}
use Rattle.lang_model.specs.declared.syntax.Item.TheVariants.{Function, Program, Command as COMMAND}
use Rattle.lang_model.specs.declared.syntax.Script.{Script}
use Rattle.lang_model.specs.declared.faults.TypeFault.{TypeFault}
use Rattle.lang_model.specs.declared.faults.TypeFault.TheVariants.{Unknown}
use Rattle.run_model.specs.declared.outcome.Outcome.{Outcome}
use Rattle.run_model.specs.declared.outcome.Outcome.TheVariants.{Ill as ILL}
use Rattle.rel_model.specs.Relation.{Relation, relation_of, size_limit}
use Rattle.lang_model.specs.Trees.{Tree, tree_of}
use Rattle.lang_model.specs.State.{lists}
use Rattle.lang_model.specs.Missing.{first_of_both}
use Rattle.lang_model.specs.Eval.{Evaluated, cost_of_value}
use Rattle.lang_model.specs.Blocks.{cost_of_block}
use Rattle.lang_model.specs.Rewriting.{steps_of}
use Rattle.run_model.specs.Names.{lookup}
use Rattle.run_model.specs.Inputs.{Input, RelationFile, file_named}
use Rattle.run_model.specs.Due.{Workspace, Due, Nothing, Value, Values, Explained, Refused, Early, printed, listed, saved, due_of_value, due_of, over, columns_over, rows_over, listing_over, unless_over, due_of_file, due_of_whole_file, saved_bytes, due_of_drop, due_on_snapshot, behind_let, due_of_lets, due_of_block, due_of_steps, due_of_command, due}
use Rattle.run_model.specs.SharedBytes.{shared_file}
use Rattle.run_model.specs.Cost.{listed_count, cost_of, cost_on_snapshot, where_value, cost_of_pairs, cost_of_loaded, cost_of_gifts, where_values, cost_of_item}
use Rattle.run_model.specs.Outcomes.{WantsNodes, IsNotEarly, MayLackNodes, MayLackMemory, lets_of}
use Rattle.rv_spell.specs.Plain.{RowTree, row_tree, LetTreeOf, let_tree, CommandTree, RelationTree, LetTree, PrintTree, ListTree, CountTree, TypedTree, RemoveTree, SnapTree, AtTree, LoadTree, SaveTree, LoadAllTree, SaveAllTree, AtomicTree, ExplainTree, command_tree, ItemTree, FunctionTree, ProgramTree, CommandItem, item_tree, script_tree}
use Rattle.rv_reading.proofs.Expressions.{IsCompoundTree, compound-tree}
use Rattle.rv_reading.proofs.Values.{value_by, value-tree, early_by, early-tree, values_by, values-tree, AnyCompoundTree, any-compound}

-- ---- listed relations
-- whether rows list a pair
abbrev pub lists_rows : List RowTree → ℕ → ℕ → Bool
lists_rows rows i j = list_any (λ r. (r.row == i + 1) && list_any (λ c. c.col == j + 1) r.cols) rows

lists-rows : (rows : List Row) (i j : ℕ) → lists rows i j ≡ lists_rows (map row_tree rows) i j
unfolding lists
lists-rows [] i j = refl
lists-rows (r ∷ rows) i j = ap (λ b. ((r.row == i + 1) && list_any (λ c. c.col == j + 1) r.cols.items) || b) (lists-rows rows i j)

-- the first number over its limit
abbrev pub over_in_rows : ℕ → ℕ → List RowTree → Option Outcome
over_in_rows rows cols [] = None
over_in_rows rows cols (r ∷ rs) =
    first_of_both (over r.at r.row rows) (first_of_both (columns_over cols r.cols) (over_in_rows rows cols rs))

over-rows : (rows cols : ℕ) (rs : List Row) → rows_over rows cols rs ≡ over_in_rows rows cols (map row_tree rs)
over-rows rows cols [] = refl
over-rows rows cols (r ∷ rs) =
    ap (λ o. first_of_both (over r.at r.row rows) (first_of_both (columns_over cols r.cols.items) o)) (over-rows rows cols rs)

abbrev pub over_in_listing : ℕ → Place → ℕ → Place → List RowTree → Option Outcome
over_in_listing rows rows_at cols cols_at list =
    first_of_both (over rows_at rows size_limit)
    (first_of_both (over cols_at cols size_limit) (over_in_rows rows cols list))

over-listing : (rows : ℕ) (rows_at : Place) (cols : ℕ) (cols_at : Place) (list : List Row)
    → listing_over rows rows_at cols cols_at list ≡ over_in_listing rows rows_at cols cols_at (map row_tree list)
unfolding listing_over
over-listing rows rows_at cols cols_at list =
    ap (λ o. first_of_both (over rows_at rows size_limit) (first_of_both (over cols_at cols size_limit) o)) (over-rows rows cols list)

-- how many pairs rows list
abbrev pub count_of_rows : List RowTree → ℕ
count_of_rows [] = 0
count_of_rows (r ∷ rs) = length r.cols + count_of_rows rs

count-rows : (rs : List Row) → listed_count rs ≡ count_of_rows (map row_tree rs)
count-rows [] = refl
count-rows (r ∷ rs) = ap (λ n. length r.cols.items + n) (count-rows rs)

-- ---- blocks
-- the assignments of a block that came to these values
abbrev pub due_of_let_trees : ℕ → List LetTreeOf → List Evaluated → Due
due_of_let_trees turns (l ∷ ls) (v ∷ vs) = behind_let l.name (due_of_let_trees turns ls vs) (due_of_value Value turns v)
due_of_let_trees turns [] vs = Values []
due_of_let_trees turns (l ∷ ls) [] = Values []

due-lets : (turns : ℕ) (ls : List BlockLet) (vs : List Evaluated) → due_of_lets turns ls vs ≡ due_of_let_trees turns (map let_tree ls) vs
due-lets turns (l ∷ ls) (v ∷ vs) = ap (λ d. behind_let l.name d (due_of_value Value turns v)) (due-lets turns ls vs)
due-lets turns [] [] = refl
due-lets turns [] (v ∷ vs) = refl
due-lets turns (l ∷ ls) [] = refl

-- the assignments of a block, and none of another item
abbrev pub lets_of_tree : ItemTree → Option (List LetTreeOf)
lets_of_tree (CommandItem (AtomicTree lets)) = Some lets
lets_of_tree _ = None

-- the assignments of a block, as trees, are those of the item's tree, case by case: no other item has any
pub lets-tree : (item : Item) → option_map (λ ls. map let_tree ls) (lets_of item) ≡ lets_of_tree (item_tree item)
lets-tree (COMMAND (RELATION name rows rows_at cols cols_at list)) = refl
lets-tree (COMMAND (Let name e)) = refl
lets-tree (COMMAND (PRINT e)) = refl
lets-tree (COMMAND (LIST e)) = refl
lets-tree (COMMAND (Count e)) = refl
lets-tree (COMMAND (Typed e)) = refl
lets-tree (COMMAND (DROP at name)) = refl
lets-tree (COMMAND (Snap name)) = refl
lets-tree (COMMAND (At at name e)) = refl
lets-tree (COMMAND (Load name file)) = refl
lets-tree (COMMAND (Save e file)) = refl
lets-tree (COMMAND (LoadAll file)) = refl
lets-tree (COMMAND (SaveAll file)) = refl
lets-tree (COMMAND (Atomic lets)) = refl
lets-tree (COMMAND (Explain e)) = refl
lets-tree (Function at name params body) = refl
lets-tree (Program at name params decls body result) = refl

-- ---- what may be wanting
-- a command that makes a relation or applies an operator
abbrev pub NodesTree : CommandTree → Type 0
NodesTree (RelationTree name rows rows_at cols cols_at list) = Unit {0}
NodesTree (LetTree name t) = IsCompoundTree t
NodesTree (PrintTree t) = IsCompoundTree t
NodesTree (ListTree t) = IsCompoundTree t
NodesTree (CountTree t) = IsCompoundTree t
NodesTree (TypedTree t) = IsCompoundTree t
NodesTree (RemoveTree at name) = ⊥
NodesTree (SnapTree name) = ⊥
NodesTree (AtTree at name t) = IsCompoundTree t
NodesTree (LoadTree name file) = Unit {0}
NodesTree (SaveTree t file) = IsCompoundTree t
NodesTree (LoadAllTree file) = Unit {0}
NodesTree (SaveAllTree file) = ⊥
NodesTree (AtomicTree lets) = AnyCompoundTree lets
NodesTree (ExplainTree t) = ⊥

-- a command wants nodes exactly if its tree does, case by case: an expression wants them if it is more than a name
nodes-tree : (c : Command) → WantsNodes c ≡ NodesTree (command_tree c)
nodes-tree (RELATION name rows rows_at cols cols_at list) = refl
nodes-tree (Let name e) = compound-tree e
nodes-tree (PRINT e) = compound-tree e
nodes-tree (LIST e) = compound-tree e
nodes-tree (Count e) = compound-tree e
nodes-tree (Typed e) = compound-tree e
nodes-tree (DROP at name) = refl
nodes-tree (Snap name) = refl
nodes-tree (At at name e) = compound-tree e
nodes-tree (Load name file) = refl
nodes-tree (Save e file) = compound-tree e
nodes-tree (LoadAll file) = refl
nodes-tree (SaveAll file) = refl
nodes-tree (Atomic lets) = any-compound lets.items
nodes-tree (Explain e) = refl

-- the table may have been full for an item of which this is due
abbrev pub LacksNodes : ItemTree → Due → Type 0
LacksNodes (CommandItem command) d = NodesTree command × IsNotEarly d
LacksNodes (FunctionTree at name params body) d = ⊥
LacksNodes (ProgramTree at name params decls body result) d = ⊥

pub lacks-nodes : (item : Item) (d : Due) → MayLackNodes item d ≡ LacksNodes (item_tree item) d
lacks-nodes (COMMAND command) d = ap (λ (w : Type 0). w × IsNotEarly d) (nodes-tree command)
lacks-nodes (Function at name params body) d = refl
lacks-nodes (Program at name params decls body result) d = refl

-- memory may have run out for an item
abbrev pub LacksRoom : ItemTree → Type 0
LacksRoom (CommandItem command) = Unit {0}
LacksRoom (FunctionTree at name params body) = ⊥
LacksRoom (ProgramTree at name params decls body result) = ⊥

-- memory may be wanting for an item exactly if it may be for its tree: for commands and not for definitions
pub lacks-room : (item : Item) → MayLackMemory item ≡ LacksRoom (item_tree item)
lacks-room (COMMAND command) = refl
lacks-room (Function at name params body) = refl
lacks-room (Program at name params decls body result) = refl

-- ---- what is due, and its cost
module _ (turns : ℕ) (files : List RelationFile) (items : List ItemTree) where
  -- what is due of an expression
  abbrev pub due_by : (Relation → Due) → Tree → Workspace → Due
  due_by then t state = due_of_value then turns (value_by items (lookup state) t turns)

  -- and on a snapshot
  abbrev pub due_by_snapshot : Place → List ℕ → Tree → Option Workspace → Due
  due_by_snapshot at name t None = Refused Early (ILL (Unknown at name))
  due_by_snapshot at name t (Some snap) = due_by printed t snap

  -- the steps of rewriting
  abbrev pub due_by_steps : Tree → Option TypeFault → Due
  due_by_steps t (Some fault) = Refused Early (ILL fault)
  due_by_steps t None = Explained (steps_of t)

  -- what is due of a command
  abbrev pub due_command : CommandTree → Workspace → Option Workspace → Due
  due_command (RelationTree name rows rows_at cols cols_at list) state snap =
      unless_over (over_in_listing rows rows_at cols cols_at list) (relation_of rows cols (lists_rows list))
  due_command (LetTree name t) state snap = due_by Value t state
  due_command (PrintTree t) state snap = due_by printed t state
  due_command (ListTree t) state snap = due_by listed t state
  due_command (CountTree t) state snap = due_by Value t state
  due_command (TypedTree t) state snap = due_by Value t state
  due_command (RemoveTree at name) state snap = due_of_drop at name (lookup state name)
  due_command (SnapTree name) state snap = Nothing
  due_command (AtTree at name t) state snap = due_by_snapshot at name t snap
  due_command (LoadTree name file) state snap = due_of_file name file (file_named files file)
  due_command (SaveTree t file) state snap = due_by saved t state
  due_command (LoadAllTree file) state snap = due_of_whole_file file (file_named files file)
  due_command (SaveAllTree file) state snap = saved_bytes (shared_file state)
  due_command (AtomicTree lets) state snap = due_of_let_trees turns lets (values_by items (lookup state) lets turns)
  due_command (ExplainTree t) state snap = due_by_steps t (early_by items (lookup state) t)

  -- what is due of an item
  abbrev pub due_tree : ItemTree → Workspace → Option Workspace → Due
  due_tree (CommandItem command) state snap = due_command command state snap
  due_tree (FunctionTree at name params body) state snap = Nothing
  due_tree (ProgramTree at name params decls body result) state snap = Nothing

  -- how many nodes an expression may make
  abbrev pub cost_by : ℕ → Tree → Workspace → ℕ
  cost_by leaf t state = cost_of_value leaf (value_by items (lookup state) t turns)

  -- and on a snapshot
  abbrev pub cost_by_snapshot : ℕ → Tree → Option Workspace → ℕ
  cost_by_snapshot leaf t None = 0
  cost_by_snapshot leaf t (Some snap) = cost_by leaf t snap

  -- how many nodes a command may make
  abbrev pub cost_command : ℕ → CommandTree → Workspace → Option Workspace → Due → ℕ
  cost_command leaf (RelationTree name rows rows_at cols cols_at list) state snap d =
      where_value d (cost_of_pairs leaf (count_of_rows list))
  cost_command leaf (LetTree name t) state snap d = cost_by leaf t state
  cost_command leaf (PrintTree t) state snap d = cost_by leaf t state
  cost_command leaf (ListTree t) state snap d = cost_by leaf t state
  cost_command leaf (CountTree t) state snap d = cost_by leaf t state
  cost_command leaf (TypedTree t) state snap d = cost_by leaf t state
  cost_command leaf (RemoveTree at name) state snap d = 0
  cost_command leaf (SnapTree name) state snap d = 0
  cost_command leaf (AtTree at name t) state snap d = cost_by_snapshot leaf t snap
  cost_command leaf (LoadTree name file) state snap d = where_value d (cost_of_loaded leaf)
  cost_command leaf (SaveTree t file) state snap d = cost_by leaf t state
  cost_command leaf (LoadAllTree file) state snap d = where_values d (cost_of_gifts leaf)
  cost_command leaf (SaveAllTree file) state snap d = 0
  cost_command leaf (AtomicTree lets) state snap d = cost_of_block leaf (values_by items (lookup state) lets turns)
  cost_command leaf (ExplainTree t) state snap d = 0

  -- how many an item may make
  abbrev pub cost_tree : ℕ → ItemTree → Workspace → Option Workspace → Due → ℕ
  cost_tree leaf (CommandItem command) state snap d = cost_command leaf command state snap d
  cost_tree leaf (FunctionTree at name params body) state snap d = 0
  cost_tree leaf (ProgramTree at name params decls body result) state snap d = 0

module _ (input : Input) (script : Script) where
  due-by : (then : Relation → Due) (e : Expr) (state : Workspace)
      → due_of input script then e state ≡ due_by input.turns input.files (script_tree script) then (tree_of e) state
  due-by then e state = ap (due_of_value then input.turns) (value-tree script (lookup state) e input.turns)

  due-snapshot : (at : Place) (name : List ℕ) (e : Expr) (snap : Option Workspace)
      → due_on_snapshot input script at name e snap ≡ due_by_snapshot input.turns input.files (script_tree script) at name (tree_of e) snap
  due-snapshot at name e None = refl
  due-snapshot at name e (Some snap) = due-by printed e snap

  due-steps : (e : Expr) (o : Option TypeFault) → due_of_steps e o ≡ due_by_steps input.turns input.files (script_tree script) (tree_of e) o
  due-steps e None = refl
  due-steps e (Some fault) = refl

  due-block : (ls : List BlockLet) (state : Workspace)
      → due_of_block input script ls state ≡ due_of_let_trees input.turns (map let_tree ls) (values_by (script_tree script) (lookup state) (map let_tree ls) input.turns)
  due-block ls state =
      due-lets input.turns ls _ ∙ ap (due_of_let_trees input.turns (map let_tree ls)) (values-tree script (lookup state) ls input.turns)

  -- what is due of an item is due of its tree, case by case: values, listed relations and steps of rewriting go by
  -- trees, and files and names are kept there
  pub due-tree : (item : Item) (state : Workspace) (snap : Option Workspace)
      → due input script item state snap ≡ due_tree input.turns input.files (script_tree script) (item_tree item) state snap
  unfolding due due_of_command
  due-tree (COMMAND (RELATION name rows rows_at cols cols_at list)) state snap = λ i.
      unless_over (over-listing rows rows_at cols cols_at list.items i) (relation_of rows cols (λ j k. lists-rows list.items j k i))
  due-tree (COMMAND (Let name e)) state snap = due-by Value e state
  due-tree (COMMAND (PRINT e)) state snap = due-by printed e state
  due-tree (COMMAND (LIST e)) state snap = due-by listed e state
  due-tree (COMMAND (Count e)) state snap = due-by Value e state
  due-tree (COMMAND (Typed e)) state snap = due-by Value e state
  due-tree (COMMAND (DROP at name)) state snap = refl
  due-tree (COMMAND (Snap name)) state snap = refl
  due-tree (COMMAND (At at name e)) state snap = due-snapshot at name e snap
  due-tree (COMMAND (Load name file)) state snap = refl
  due-tree (COMMAND (Save e file)) state snap = due-by saved e state
  due-tree (COMMAND (LoadAll file)) state snap = refl
  due-tree (COMMAND (SaveAll file)) state snap = refl
  due-tree (COMMAND (Atomic lets)) state snap = due-block lets.items state
  due-tree (COMMAND (Explain e)) state snap = due-steps e _ ∙ ap (due_by_steps input.turns input.files (script_tree script) (tree_of e)) (early-tree script (lookup state) e)
  due-tree (Function at name params body) state snap = refl
  due-tree (Program at name params decls body result) state snap = refl

  cost-by : (leaf : ℕ) (e : Expr) (state : Workspace)
      → cost_of leaf input script e state ≡ cost_by input.turns input.files (script_tree script) leaf (tree_of e) state
  cost-by leaf e state = ap (cost_of_value leaf) (value-tree script (lookup state) e input.turns)

  cost-snapshot : (leaf : ℕ) (e : Expr) (snap : Option Workspace)
      → cost_on_snapshot leaf input script e snap ≡ cost_by_snapshot input.turns input.files (script_tree script) leaf (tree_of e) snap
  cost-snapshot leaf e None = refl
  cost-snapshot leaf e (Some snap) = cost-by leaf e snap

  -- and it costs the same, case by case: values cost what those of their trees do, and a listed
  -- relation by the count of its pairs
  pub cost-tree : (leaf : ℕ) (item : Item) (state : Workspace) (snap : Option Workspace) (d : Due)
      → cost_of_item leaf input script item state snap d ≡ cost_tree input.turns input.files (script_tree script) leaf (item_tree item) state snap d
  cost-tree leaf (COMMAND (RELATION name rows rows_at cols cols_at list)) state snap d =
      ap (λ n. where_value d (cost_of_pairs leaf n)) (count-rows list.items)
  cost-tree leaf (COMMAND (Let name e)) state snap d = cost-by leaf e state
  cost-tree leaf (COMMAND (PRINT e)) state snap d = cost-by leaf e state
  cost-tree leaf (COMMAND (LIST e)) state snap d = cost-by leaf e state
  cost-tree leaf (COMMAND (Count e)) state snap d = cost-by leaf e state
  cost-tree leaf (COMMAND (Typed e)) state snap d = cost-by leaf e state
  cost-tree leaf (COMMAND (DROP at name)) state snap d = refl
  cost-tree leaf (COMMAND (Snap name)) state snap d = refl
  cost-tree leaf (COMMAND (At at name e)) state snap d = cost-snapshot leaf e snap
  cost-tree leaf (COMMAND (Load name file)) state snap d = refl
  cost-tree leaf (COMMAND (Save e file)) state snap d = cost-by leaf e state
  cost-tree leaf (COMMAND (LoadAll file)) state snap d = refl
  cost-tree leaf (COMMAND (SaveAll file)) state snap d = refl
  cost-tree leaf (COMMAND (Atomic lets)) state snap d = ap (cost_of_block leaf) (values-tree script (lookup state) lets.items input.turns)
  cost-tree leaf (COMMAND (Explain e)) state snap d = refl
  cost-tree leaf (Function at name params body) state snap d = refl
  cost-tree leaf (Program at name params decls body result) state snap d = refl
