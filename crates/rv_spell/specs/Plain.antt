-- The tree of a script: the contents of the vectors and boxes that the code has, with all places, names and file texts.
-- And that a text spells at most one such tree.
use Rattle.std.specs.Prelude.{◌≡◌, ℕ, List, [], ◌∷◌, map}
use Rattle.lang_model.specs.declared.syntax.Place.{Place}
use Rattle.lang_model.specs.declared.rows.Column.{Column}
use Rattle.lang_model.specs.declared.rows.Row.{Row}
use Rattle.lang_model.specs.declared.syntax.Decl.{Decl}
use Rattle.lang_model.specs.declared.syntax.Stmt.{Stmt, Set, While', If', Row_of-Stmt, end_of-Stmt, more_of-Stmt}
use Rattle.lang_model.specs.declared.syntax.Let.{Let as LetOf}
use Rattle.lang_model.specs.declared.syntax.Command.{Command}
use Rattle.lang_model.specs.declared.syntax.Command.TheVariants.{Relation, Let, Print, List as ListOf, Count, Typed, Remove, Snap, At, Load, Save, LoadAll, SaveAll, Atomic, Explain}
use Rattle.lang_model.specs.declared.syntax.Item.{Item}
use Rattle.lang_model.specs.declared.syntax.Item.TheVariants.{Function, Program, Command as COMMAND}
use Rattle.lang_model.specs.declared.syntax.Script.{Script}
use Rattle.lang_model.specs.Spelling.{SpelledBy}
use Rattle.lang_model.specs.Trees.{Tree, tree_of}

-- ---- listed relations
-- a row: its number, its place and its columns
pub record RowTree : Type 0 where
  pub row : ℕ
  pub at : Place
  pub cols : List Column

-- the tree of a row
abbrev pub row_tree : Row → RowTree
row_tree r = record { row = r.row; at = r.at; cols = r.cols.items }

-- ---- statements
-- a statement, and a list of statements
mutual
  -- `name = value`, a WHILE with its test and body, an IF with its test and two branches
  pub data StmtTree : Type 0 where
    SetTree : Place → List ℕ → Tree → StmtTree
    WhileTree : Place → Tree → StmtTrees → StmtTree
    IfTree : Place → Tree → StmtTrees → StmtTrees → StmtTree

  -- none, or one and more
  pub data StmtTrees : Type 0 where
    NoStmt : StmtTrees
    MoreStmts : StmtTree → StmtTrees → StmtTrees

-- the tree of a statement, and of statements
abbrev mutual
  -- the tree of one statement
  pub stmt_tree : Stmt → StmtTree
  stmt_tree (Set at name value) = SetTree at name (tree_of value)
  stmt_tree (While' at test s body) = WhileTree at (tree_of test) (stmt_trees body)
  stmt_tree (If' at test s first t second) = IfTree at (tree_of test) (stmt_trees first) (stmt_trees second)

  -- the trees of a row of statements
  pub stmt_trees : {m : _} → Row_of-Stmt m → StmtTrees
  stmt_trees end_of-Stmt = NoStmt
  stmt_trees (more_of-Stmt s rest) = MoreStmts (stmt_tree s) (stmt_trees rest)

-- the trees of a list of statements
abbrev pub stmts_in : List Stmt → StmtTrees
stmts_in [] = NoStmt
stmts_in (s ∷ ss) = MoreStmts (stmt_tree s) (stmts_in ss)

-- ---- blocks
-- an assignment in a block: the place of its name, the name and its expression
pub record LetTreeOf : Type 0 where
  pub at : Place
  pub name : List ℕ
  pub value : Tree

-- the tree of an assignment in a block
abbrev pub let_tree : LetOf → LetTreeOf
let_tree l = record { at = l.at; name = l.name; value = tree_of l.value }

-- ---- scripts
-- a command
pub data CommandTree : Type 0 where
  RelationTree : List ℕ → ℕ → Place → ℕ → Place → List RowTree → CommandTree
  LetTree : List ℕ → Tree → CommandTree
  PrintTree : Tree → CommandTree
  ListTree : Tree → CommandTree
  CountTree : Tree → CommandTree
  TypedTree : Tree → CommandTree
  RemoveTree : Place → List ℕ → CommandTree
  SnapTree : List ℕ → CommandTree
  AtTree : Place → List ℕ → Tree → CommandTree
  LoadTree : List ℕ → List ℕ → CommandTree
  SaveTree : Tree → List ℕ → CommandTree
  LoadAllTree : List ℕ → CommandTree
  SaveAllTree : List ℕ → CommandTree
  AtomicTree : List LetTreeOf → CommandTree
  ExplainTree : Tree → CommandTree

-- the tree of a command
abbrev pub command_tree : Command → CommandTree
command_tree (Relation name rows rows_at cols cols_at list) = RelationTree name rows rows_at cols cols_at
    (map row_tree list.items)
command_tree (Let name value) = LetTree name (tree_of value)
command_tree (Print value) = PrintTree (tree_of value)
command_tree (ListOf value) = ListTree (tree_of value)
command_tree (Count value) = CountTree (tree_of value)
command_tree (Typed value) = TypedTree (tree_of value)
command_tree (Remove at name) = RemoveTree at name
command_tree (Snap name) = SnapTree name
command_tree (At at name value) = AtTree at name (tree_of value)
command_tree (Load name file) = LoadTree name file
command_tree (Save value file) = SaveTree (tree_of value) file
command_tree (LoadAll file) = LoadAllTree file
command_tree (SaveAll file) = SaveAllTree file
command_tree (Atomic lets) = AtomicTree (map let_tree lets.items)
command_tree (Explain value) = ExplainTree (tree_of value)

-- an item: a function, a program or a command
pub data ItemTree : Type 0 where
  FunctionTree : Place → List ℕ → List (List ℕ) → Tree → ItemTree
  ProgramTree : Place → List ℕ → List (List ℕ) → List Decl → StmtTrees → Tree → ItemTree
  CommandItem : CommandTree → ItemTree

-- the tree of an item
abbrev pub item_tree : Item → ItemTree
item_tree (Function at name params body) = FunctionTree at name params.items (tree_of body)
item_tree (Program at name params decls body result) = ProgramTree at name params.items decls.items
    (stmts_in body.items) (tree_of result)
item_tree (COMMAND command) = CommandItem (command_tree command)

-- the tree of a script: those of its items
abbrev pub script_tree : Script → List ItemTree
script_tree script = map item_tree script.items.items

-- ---- the law
-- whatever scripts the same bytes spell, they have the same tree
abbrev pub OneScript : Type 0
OneScript = (bytes : List ℕ) (script other : Script) → SpelledBy bytes script → SpelledBy bytes other
    → script_tree script ≡ script_tree other
