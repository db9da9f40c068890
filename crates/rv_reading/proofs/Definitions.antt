-- What calls mean, and the first fault of a script, goes by the trees of its items alone.
-- 1. For each function of items one of trees that computes the same.
-- 2. Calls agree by induction on how many definitions may stand in one another; faults by induction on the items, each
--    behind the definitions that stand before it.
use Rattle.std.proofs.Common.{◌≡◌, ◌==◌, ◌+◌, ◌++◌, ℕ, zero, suc, Bool, true, false, cond, List, [], ◌∷◌, map, length, Option, Some, None, refl, ap, ◌∙◌}
use Rattle.std.specs.Prelude.{max, option_map}
use Rattle.lang_model.specs.declared.syntax.Place.{Place}
use Rattle.lang_model.specs.declared.syntax.Let.{Let as LetOf}
use Rattle.lang_model.specs.declared.syntax.Command.{Command}
use Rattle.lang_model.specs.declared.syntax.Command.TheVariants.{Relation as RELATION, Let, Print, List as LIST, Count, Typed as TYPED, Remove, Snap, At, Load, Save, LoadAll, SaveAll, Atomic, Explain}
use Rattle.lang_model.specs.declared.syntax.Item.{Item}
use Rattle.lang_model.specs.declared.syntax.Item.TheVariants.{Function, Program, Command as COMMAND}
use Rattle.lang_model.specs.declared.syntax.Script.{Script}
use Rattle.lang_model.specs.declared.faults.TypeFault.{TypeFault}
use Rattle.lang_model.specs.declared.faults.TypeFault.TheVariants.{Unknown, Arity, Rank}
use Rattle.lang_model.specs.declared.faults.StaticShape.{StaticShape}
use Rattle.rel_model.specs.Relation.{Relation}
use Rattle.rel_model.specs.Operators.{empty}
use Rattle.lang_model.specs.Tokens.{same_text}
use Rattle.lang_model.specs.Trees.{tree_of}
use Rattle.lang_model.specs.Defining.{defines}
use Rattle.lang_model.specs.Outcomes.{Ill, Came, got, refused, and_then}
use Rattle.lang_model.specs.Types.{known, Typed, Fits, Misfit}
use Rattle.lang_model.specs.Mean.{Calls, around_with, mean_tree, bound, item_named, body_of, takes_arguments, called, calls_within}
use Rattle.lang_model.specs.Shape.{passing, shape_tree, types_bound, around_types, type_of_body, type_of_called, types_of_calls}
use Rattle.lang_model.specs.Checking.{Known, Scope, no_name, head_faults, function_scope, program_scope, command_scope, decl_faults, rank_of, let_faults, command_faults, item_faults, known_with, items_faults, first_fault, flaw}
use Rattle.rv_spell.specs.Plain.{LetTreeOf, let_tree, CommandTree, LetTree, PrintTree, ListTree, CountTree, TypedTree, AtTree, SaveTree, AtomicTree, ExplainTree, command_tree, ItemTree, FunctionTree, ProgramTree, CommandItem, item_tree, script_tree}
use Rattle.rv_reading.proofs.Expressions.{tree_faults, faults-tree, called_tree, called-tree}
use Rattle.rv_reading.proofs.Statements.{run_trees, run-list, typed_trees, typed-list, assigned_trees, assigned-list, stmts_faults, faults-list, called_stmts, called-list}

-- ---- definitions by their names
-- whether an item defines this name
abbrev pub defines_tree : List ℕ → ItemTree → Bool
defines_tree name (FunctionTree at own params body) = same_text own name
defines_tree name (ProgramTree at own params decls body result) = same_text own name
defines_tree name (CommandItem command) = false

-- the first item that does
abbrev pub tree_named : List ItemTree → List ℕ → Option ItemTree
tree_named [] name = None
tree_named (item ∷ items) name = cond (defines_tree name item) (Some item) (tree_named items name)

defines-tree : (name : List ℕ) (item : Item) → defines name item ≡ defines_tree name (item_tree item)
defines-tree name (Function at own params body) = refl
defines-tree name (Program at own params decls body result) = refl
defines-tree name (COMMAND command) = refl

pick : (b : Bool) (item : Item) (rest : Option Item)
    → option_map item_tree (cond b (Some item) rest) ≡ cond b (Some (item_tree item)) (option_map item_tree rest)
pick true item rest = refl
pick false item rest = refl

named-tree : (items : List Item) (name : List ℕ) → option_map item_tree (item_named items name) ≡ tree_named (map item_tree items) name
named-tree [] name = refl
named-tree (item ∷ items) name =
    pick (defines name item) item (item_named items name)
    ∙ (λ i. cond (defines-tree name item i) (Some (item_tree item)) (named-tree items name i))

-- how many parameters a definition has
abbrev pub takes_tree : ItemTree → ℕ
takes_tree (FunctionTree at name params body) = length params
takes_tree (ProgramTree at name params decls body result) = length params
takes_tree (CommandItem command) = 0

-- an item takes as many arguments as its tree, which keeps the parameters
takes-tree : (item : Item) → takes_arguments item ≡ takes_tree (item_tree item)
takes-tree (Function at own params body) = refl
takes-tree (Program at own params decls body result) = refl
takes-tree (COMMAND command) = refl

-- ---- what calls mean
-- a definition with its parameters bound
abbrev pub body_of_tree : Calls → List Relation → ItemTree → ℕ → Came Relation
body_of_tree calls values (FunctionTree at name params body) n = mean_tree (around_with calls []) (bound params values) body n
body_of_tree calls values (ProgramTree at name params decls body result) n =
    and_then (run_trees (around_with calls decls) body (bound params values) n)
    (λ state m. mean_tree (around_with calls decls) state result m)
body_of_tree calls values (CommandItem command) n = got (empty 0 0) n

-- a call of a definition
abbrev pub call_of_tree : Calls → Place → List ℕ → Option ItemTree → List Relation → ℕ → Came Relation
call_of_tree calls at name None values n = refused (Ill (Unknown at name))
call_of_tree calls at name (Some item) values n =
    cond (takes_tree item == length values) (body_of_tree calls values item n)
    (refused (Ill (Arity at name (takes_tree item) (length values))))

-- what calls mean where at most so many definitions may stand in one another
abbrev pub calls_of_trees : List ItemTree → ℕ → Calls
calls_of_trees items zero at name values n = refused (Ill (Rank at name))
calls_of_trees items (suc rank) at name values n =
    call_of_tree (calls_of_trees items rank) at name (tree_named items name) values n

body-tree : (calls : Calls) (values : List Relation) (item : Item) (n : ℕ) → body_of calls values item n ≡ body_of_tree calls values (item_tree item) n
body-tree calls values (Function at name params body) n = refl
body-tree calls values (Program at name params decls body result) n = λ i.
    and_then (run-list (around_with calls decls.items) body.items (bound params.items values) n i)
    (λ state m. mean_tree (around_with calls decls.items) state (tree_of result) m)
body-tree calls values (COMMAND command) n = refl

call-tree : (calls : Calls) (at : Place) (name : List ℕ) (item : Option Item) (values : List Relation) (n : ℕ)
    → called calls at name item values n ≡ call_of_tree calls at name (option_map item_tree item) values n
call-tree calls at name None values n = refl
call-tree calls at name (Some item) values n = λ i.
    cond (takes-tree item i == length values) (body-tree calls values item n i)
    (refused (Ill (Arity at name (takes-tree item i) (length values))))

-- calls mean what the trees say, by induction on the rank: the definitions that stand in one another are one rank lower
pub calls-trees : (items : List Item) (rank : ℕ) → calls_within items rank ≡ calls_of_trees (map item_tree items) rank
calls-trees items zero = refl
calls-trees items (suc rank) = λ i at name values n.
    (call-tree (calls_within items rank) at name (item_named items name) values n
    ∙ (λ j. call_of_tree (calls-trees items rank j) at name (named-tree items name j) values n)) i

-- ---- what types calls have
-- what calls have as types
abbrev pub TypesOfCalls : Type 0
TypesOfCalls = Place → List ℕ → List StaticShape → Typed

-- that of a definition
abbrev pub type_of_tree : TypesOfCalls → List StaticShape → ItemTree → Typed
type_of_tree calls ss (FunctionTree at name params body) = shape_tree (around_types calls []) (types_bound params ss) body
type_of_tree calls ss (ProgramTree at name params decls body result) =
    passing (typed_trees (around_types calls decls) body (types_bound params ss))
    (λ types. shape_tree (around_types calls decls) types result)
type_of_tree calls ss (CommandItem command) = Fits (known 0 0)

-- that of a call
abbrev pub type_of_call : TypesOfCalls → Place → List ℕ → Option ItemTree → List StaticShape → Typed
type_of_call calls at name None ss = Misfit (Unknown at name)
type_of_call calls at name (Some item) ss =
    cond (takes_tree item == length ss) (type_of_tree calls ss item)
    (Misfit (Arity at name (takes_tree item) (length ss)))

-- those of calls where at most so many definitions may stand in one another
abbrev pub types_of_trees : List ItemTree → ℕ → TypesOfCalls
types_of_trees items zero at name ss = Misfit (Rank at name)
types_of_trees items (suc rank) at name ss = type_of_call (types_of_trees items rank) at name (tree_named items name) ss

type-tree : (calls : TypesOfCalls) (ss : List StaticShape) (item : Item) → type_of_body calls ss item ≡ type_of_tree calls ss (item_tree item)
type-tree calls ss (Function at name params body) = refl
type-tree calls ss (Program at name params decls body result) = λ i.
    passing (typed-list (around_types calls decls.items) body.items (types_bound params.items ss) i)
    (λ types. shape_tree (around_types calls decls.items) types (tree_of result))
type-tree calls ss (COMMAND command) = refl

type-call : (calls : TypesOfCalls) (at : Place) (name : List ℕ) (item : Option Item) (ss : List StaticShape)
    → type_of_called calls at name item ss ≡ type_of_call calls at name (option_map item_tree item) ss
type-call calls at name None ss = refl
type-call calls at name (Some item) ss = λ i.
    cond (takes-tree item i == length ss) (type-tree calls ss item i)
    (Misfit (Arity at name (takes-tree item i) (length ss)))

-- and calls have the types that the trees say, by the same induction
pub types-trees : (items : List Item) (rank : ℕ) → types_of_calls items rank ≡ types_of_trees (map item_tree items) rank
types-trees items zero = refl
types-trees items (suc rank) = λ i at name ss.
    (type-call (types_of_calls items rank) at name (item_named items name) ss
    ∙ (λ j. type_of_call (types-trees items rank j) at name (named-tree items name j) ss)) i

-- ---- faults
-- the rank of a definition
abbrev pub rank_of_tree : List Known → ItemTree → ℕ
rank_of_tree earlier (FunctionTree at name params body) = called_tree earlier body + 1
rank_of_tree earlier (ProgramTree at name params decls body result) =
    max (called_stmts earlier body) (called_tree earlier result) + 1
rank_of_tree earlier (CommandItem command) = 0

rank-tree : (earlier : List Known) (item : Item) → rank_of earlier item ≡ rank_of_tree earlier (item_tree item)
unfolding rank_of
rank-tree earlier (Function at name params body) = ap (λ n. n + 1) (called-tree earlier body)
rank-tree earlier (Program at name params decls body result) = λ i.
    max (called-list earlier body.items i) (called-tree earlier result i) + 1
rank-tree earlier (COMMAND command) = refl

-- those of the expressions of a block
abbrev pub lets_faults : Scope → List LetTreeOf → List TypeFault
lets_faults scope [] = []
lets_faults scope (l ∷ ls) = tree_faults scope no_name l.value ++ lets_faults scope ls

-- the faults of a block's assignments are those of their trees, one after another
lets-faults : (scope : Scope) (ls : List LetOf) → let_faults scope ls ≡ lets_faults scope (map let_tree ls)
lets-faults scope [] = refl
lets-faults scope (l ∷ ls) = λ i. faults-tree scope no_name l.value i ++ lets-faults scope ls i

-- those of a command
abbrev pub faults_of_command : List Known → CommandTree → List TypeFault
faults_of_command earlier (LetTree name t) = tree_faults (command_scope earlier) no_name t
faults_of_command earlier (PrintTree t) = tree_faults (command_scope earlier) no_name t
faults_of_command earlier (ListTree t) = tree_faults (command_scope earlier) no_name t
faults_of_command earlier (CountTree t) = tree_faults (command_scope earlier) no_name t
faults_of_command earlier (TypedTree t) = tree_faults (command_scope earlier) no_name t
faults_of_command earlier (AtTree at name t) = tree_faults (command_scope earlier) no_name t
faults_of_command earlier (SaveTree t file) = tree_faults (command_scope earlier) no_name t
faults_of_command earlier (AtomicTree lets) = lets_faults (command_scope earlier) lets
faults_of_command earlier (ExplainTree t) = tree_faults (command_scope earlier) no_name t
faults_of_command earlier _ = []

-- the faults of a command are those of its tree, case by case: an expression's go by its tree, and
-- without one there are none
faults-command : (earlier : List Known) (c : Command) → command_faults earlier c ≡ faults_of_command earlier (command_tree c)
unfolding command_faults
faults-command earlier (RELATION name rows rows_at cols cols_at list) = refl
faults-command earlier (Let name e) = faults-tree (command_scope earlier) no_name e
faults-command earlier (Print e) = faults-tree (command_scope earlier) no_name e
faults-command earlier (LIST e) = faults-tree (command_scope earlier) no_name e
faults-command earlier (Count e) = faults-tree (command_scope earlier) no_name e
faults-command earlier (TYPED e) = faults-tree (command_scope earlier) no_name e
faults-command earlier (Remove at name) = refl
faults-command earlier (Snap name) = refl
faults-command earlier (At at name e) = faults-tree (command_scope earlier) no_name e
faults-command earlier (Load name file) = refl
faults-command earlier (Save e file) = faults-tree (command_scope earlier) no_name e
faults-command earlier (LoadAll file) = refl
faults-command earlier (SaveAll file) = refl
faults-command earlier (Atomic lets) = lets-faults (command_scope earlier) lets.items
faults-command earlier (Explain e) = faults-tree (command_scope earlier) no_name e

-- those of an item behind earlier ones
abbrev pub faults_of_item : List Known → ItemTree → List TypeFault
faults_of_item earlier (FunctionTree at name params body) =
    head_faults earlier at name params (called_tree earlier body + 1)
    ++ tree_faults (function_scope earlier params) no_name body
faults_of_item earlier (ProgramTree at name params decls body result) =
    head_faults earlier at name params (max (called_stmts earlier body) (called_tree earlier result) + 1)
    ++ (decl_faults params params decls
    ++ (stmts_faults (program_scope earlier params decls) no_name body
    ++ tree_faults (program_scope earlier params decls) (assigned_trees no_name body) result))
faults_of_item earlier (CommandItem command) = faults_of_command earlier command

-- so are those of an item: a definition's head goes by its rank, and its body by statements and expressions
faults-item : (earlier : List Known) (item : Item) → item_faults earlier item ≡ faults_of_item earlier (item_tree item)
unfolding item_faults
faults-item earlier (Function at name params body) = λ i.
    head_faults earlier at name params.items (rank-tree earlier (Function at name params body) i)
    ++ faults-tree (function_scope earlier params.items) no_name body i
faults-item earlier (Program at name params decls body result) = λ i.
    head_faults earlier at name params.items (rank-tree earlier (Program at name params decls body result) i)
    ++ (decl_faults params.items params.items decls.items
    ++ (faults-list (program_scope earlier params.items decls.items) no_name body.items i
    ++ faults-tree (program_scope earlier params.items decls.items) (assigned-list no_name body.items i) result i))
faults-item earlier (COMMAND command) = faults-command earlier command

-- the definitions up to and with an item
abbrev pub known_with_tree : List Known → ItemTree → List Known
known_with_tree earlier (FunctionTree at name params body) =
    earlier ++ record { name = name; takes = length params; rank = called_tree earlier body + 1 } ∷ []
known_with_tree earlier (ProgramTree at name params decls body result) = earlier
    ++ record {
      name = name;
      takes = length params;
      rank = max (called_stmts earlier body) (called_tree earlier result) + 1;
    } ∷ []
known_with_tree earlier (CommandItem command) = earlier

-- the definitions that are known behind an item go by its tree, as its rank does
known-tree : (earlier : List Known) (item : Item) → known_with earlier item ≡ known_with_tree earlier (item_tree item)
unfolding known_with
known-tree earlier (Function at name params body) = λ i.
    earlier ++ record {
      name = name;
      takes = length params.items;
      rank = rank-tree earlier (Function at name params body) i;
    } ∷ []
known-tree earlier (Program at name params decls body result) = λ i.
    earlier ++ record {
      name = name;
      takes = length params.items;
      rank = rank-tree earlier (Program at name params decls body result) i;
    } ∷ []
known-tree earlier (COMMAND command) = refl

-- those of items behind earlier ones
abbrev pub faults_of_items : List Known → List ItemTree → List TypeFault
faults_of_items earlier [] = []
faults_of_items earlier (item ∷ items) = faults_of_item earlier item ++ faults_of_items (known_with_tree earlier item) items

faults-items : (earlier : List Known) (items : List Item) → items_faults earlier items ≡ faults_of_items earlier (map item_tree items)
faults-items earlier [] = refl
faults-items earlier (item ∷ items) = λ i.
    faults-item earlier item i
    ++ (faults-items (known_with earlier item) items
    ∙ ap (λ known. faults_of_items known (map item_tree items)) (known-tree earlier item)) i

pub flaw-tree : (script : Script) → flaw script ≡ first_fault (faults_of_items [] (script_tree script))
unfolding flaw
flaw-tree script = ap first_fault (faults-items [] script.items.items)
