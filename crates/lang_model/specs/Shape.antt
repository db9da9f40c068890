-- The static types of expressions and statements, or the first fault in the order of evaluation, where each statement
-- is visited once, in the order of the text. The recursion is that of the meaning, without turns.
use Rattle.std.specs.Prelude.{◌==◌, ◌&&◌, cond, zero, suc, ℕ, Bool, true, false, List, [], ◌∷◌, ◌++◌, length, codes, Option, Some, None}
use Rattle.lang_model.specs.declared.syntax.Place.{Place}
use Rattle.lang_model.specs.declared.syntax.Base.{Base}
use Rattle.lang_model.specs.declared.syntax.Expr.{Expr, Row_of-Expr, Row_of-Link}
use Rattle.lang_model.specs.declared.syntax.Stmt.{Stmt, Set, While', If', Row_of-Stmt, end_of-Stmt, more_of-Stmt}
use Rattle.lang_model.specs.declared.syntax.Decl.{Decl}
use Rattle.lang_model.specs.declared.syntax.Item.{Item}
use Rattle.lang_model.specs.declared.syntax.Item.TheVariants.{Function, Program, Command as COMMAND}
use Rattle.lang_model.specs.declared.syntax.Script.{Script}
use Rattle.lang_model.specs.declared.faults.TypeFault.TheVariants.{Unknown, Arity, Rank, Mismatch}
use Rattle.lang_model.specs.declared.faults.StaticShape.{StaticShape}
use Rattle.lang_model.specs.Trees.{Tree, NameTree, CallTree, BaseTree, InjectTree, PairTree, MinusTree, TurnedTree}
use Rattle.lang_model.specs.Trees.{ChainTree, Trees, NoTree, MoreTrees, Branches, NoBranch, MoreBranches, tree_of}
use Rattle.lang_model.specs.Trees.{trees_of, branches_of}
use Rattle.lang_model.specs.Checking.{domain_operator_text}
use Rattle.lang_model.specs.Limits.{rank_limit}
use Rattle.lang_model.specs.Tokens.{same_text}
use Rattle.lang_model.specs.Types.{known, Passed, Fits, Misfit, Typed, typed_link, typed_pair, type_turned_by, typed_base, typed_base_of_two, type_of_domain, typed_test}
use Rattle.lang_model.specs.Mean.{domain_named, item_named, takes_arguments}

-- one test and then another
abbrev pub passing : {T U : Type 0} → Passed T → (T → Passed U) → Passed U
passing (Fits x) next = next x
passing (Misfit fault) next = Misfit fault

-- the types of names
abbrev pub Types : Type 0
Types = List ℕ → Option StaticShape

-- no name has a type
unfoldable pub no_types : Types
no_types name = None

-- this name has this type, and all other names keep theirs
unfoldable pub typed_as : List ℕ → StaticShape → Types → Types
typed_as name s types = λ n. cond (same_text name n) (Some s) (types n)

-- the surroundings of an expression: the types of calls there, and the declarations of its program
pub record AroundTypes : Type 0 where
  pub calls : Place → List ℕ → List StaticShape → Typed
  pub decls : List Decl

-- the type of a name, if it has one
abbrev pub typed_name : Place → List ℕ → Option StaticShape → Typed
typed_name at name None = Misfit (Unknown at name)
typed_name at name (Some s) = Fits s

-- a base call of these operands; no text spells one with none or with more than two
unfoldable pub typed_based : Place → Base → List StaticShape → Typed
typed_based at base [] = Fits (known 0 0)
typed_based at base (s ∷ []) = typed_base at base s
typed_based at base (s ∷ t ∷ []) = typed_base_of_two at base s t
typed_based at base (s ∷ t ∷ u ∷ us) = Fits (known 0 0)

-- a domain operator, if both names of its domain have types: their numbers of rows are the sizes of the two domains
abbrev pub typed_injected_of : Place → Base → Option StaticShape → Option StaticShape → Typed
typed_injected_of at base (Some a) (Some b) = Fits (type_of_domain base a.rows b.rows)
typed_injected_of at base _ _ = Misfit (Unknown at (domain_operator_text base))

-- the same if the domain is declared
abbrev pub typed_injected : Types → Place → Base → Option (List ℕ × List ℕ) → Typed
typed_injected types at base None = Misfit (Unknown at (domain_operator_text base))
typed_injected types at base (Some names) = typed_injected_of at base (types names.0) (types names.1)

-- ---- expressions
abbrev mutual
  -- the type of a tree
  pub shape_tree : AroundTypes → Types → Tree → Typed
  shape_tree around types (NameTree at name) = typed_name at name (types name)
  shape_tree around types (CallTree at name args) =
      passing (shape_trees around types [] args) (λ ts. around.calls at name ts)
  shape_tree around types (BaseTree at base args) =
      passing (shape_trees around types [] args) (λ ts. typed_based at base ts)
  shape_tree around types (InjectTree at base domain) = typed_injected types at base (domain_named around.decls domain)
  shape_tree around types (PairTree at left right) =
      passing (shape_tree around types left) (λ s. passing (shape_tree around types right) (λ t. typed_pair at s t))
  shape_tree around types (MinusTree at of) = shape_tree around types of
  shape_tree around types (TurnedTree at of times) =
      passing (shape_tree around types of) (λ s. Fits (type_turned_by times s))
  shape_tree around types (ChainTree first links) =
      passing (shape_tree around types first) (λ t. shape_branches around types t links)

  -- the types of arguments, after those already found
  pub shape_trees : AroundTypes → Types → List StaticShape → Trees → Passed (List StaticShape)
  shape_trees around types ss NoTree = Fits ss
  shape_trees around types ss (MoreTrees t rest) =
      passing (shape_tree around types t) (λ s. shape_trees around types (ss ++ s ∷ []) rest)

  -- the type of a chain, after the type so far
  pub shape_branches : AroundTypes → Types → StaticShape → Branches → Typed
  shape_branches around types s NoBranch = Fits s
  shape_branches around types s (MoreBranches at op right rest) =
      passing (shape_tree around types right)
      (λ t. passing (typed_link at op s t) (λ u. shape_branches around types u rest))

-- the type of an expression is that of its tree
abbrev pub shape : AroundTypes → Types → Expr → Typed
shape around types e = shape_tree around types (tree_of e)

-- the same for arguments
abbrev pub shapes : AroundTypes → Types → List StaticShape → {m : _} → Row_of-Expr m → Passed (List StaticShape)
shapes around types ss args = shape_trees around types ss (trees_of args)

-- the same for the links of a chain
abbrev pub shape_along : AroundTypes → Types → StaticShape → {m : _} → Row_of-Link m → Typed
shape_along around types s rest = shape_branches around types s (branches_of rest)

-- ---- statements
-- if a variable's size is known, a later value must be known to have the same
abbrev pub keeps_size : Option ℕ → Option ℕ → Bool
keeps_size None n = true
keeps_size (Some m) None = false
keeps_size (Some m) (Some n) = m == n

-- the types after an assignment: the first in the text fixes the type of the variable, and later ones must fit it
abbrev pub set_type : Place → List ℕ → StaticShape → Types → Option StaticShape → Passed Types
set_type at name s types None = Fits (typed_as name s types)
set_type at name s types (Some t) =
    cond (keeps_size t.rows s.rows && keeps_size t.cols s.cols) (Fits types) (Misfit (Mismatch at (codes "=") t s))

-- the test of a WHILE or an IF: its expression first, and then its sizes
abbrev pub shape_test : AroundTypes → Place → Expr → Types → Typed
shape_test around at test types = passing (shape around types test) (λ s. typed_test at s)

-- how statements change the types of variables
abbrev mutual
  -- the types after a statement
  pub typed_behind : AroundTypes → Stmt → Types → Passed Types
  typed_behind around (Set at name value) types =
      passing (shape around types value) (λ s. set_type at name s types (types name))
  typed_behind around (While' at test s body) types =
      passing (shape_test around at test types) (λ t. typed_within around body types)
  typed_behind around (If' at test s first t second) types =
      passing (shape_test around at test types)
      (λ u. passing (typed_within around first types) (λ more. typed_within around second more))

  -- the types after a row of statements
  pub typed_within : AroundTypes → {m : _} → Row_of-Stmt m → Types → Passed Types
  typed_within around end_of-Stmt types = Fits types
  typed_within around (more_of-Stmt s rest) types =
      passing (typed_behind around s types) (λ more. typed_within around rest more)

-- the types after a list of statements
abbrev pub typed_by : AroundTypes → List Stmt → Types → Passed Types
typed_by around [] types = Fits types
typed_by around (s ∷ ss) types = passing (typed_behind around s types) (λ more. typed_by around ss more)

-- ---- definitions
abbrev pub types_first : List ℕ → (List StaticShape → Types) → List StaticShape → Types
types_first p rest [] = no_types
types_first p rest (s ∷ ss) = typed_as p s (rest ss)

-- parameters bound to the types of the arguments
abbrev pub types_bound : List (List ℕ) → List StaticShape → Types
types_bound [] = λ ss. no_types
types_bound (p ∷ ps) = types_first p (types_bound ps)

-- the surroundings inside a definition, in which calls have these types, with these declarations
abbrev pub around_types : (Place → List ℕ → List StaticShape → Typed) → List Decl → AroundTypes
around_types calls decls = record { calls = calls; decls = decls }

-- the type of a definition whose arguments have these types; for a program, the type of its result after its statements
abbrev pub type_of_body : (Place → List ℕ → List StaticShape → Typed) → List StaticShape → Item → Typed
type_of_body calls ss (Function at name params body) = shape (around_types calls []) (types_bound params.items ss) body
type_of_body calls ss (Program at name params decls body result) =
    passing (typed_by (around_types calls decls.items) body.items (types_bound params.items ss))
    (λ types. shape (around_types calls decls.items) types result)
type_of_body calls ss (COMMAND command) = Fits (known 0 0)

-- a call of a definition; it must take this number of arguments
abbrev pub type_of_called :
    (Place → List ℕ → List StaticShape → Typed) → Place → List ℕ → Option Item → List StaticShape → Typed
type_of_called calls at name None ss = Misfit (Unknown at name)
type_of_called calls at name (Some item) ss =
    cond (takes_arguments item == length ss) (type_of_body calls ss item)
    (Misfit (Arity at name (takes_arguments item) (length ss)))

-- the types of calls if at most this many definitions may nest
abbrev pub types_of_calls : List Item → ℕ → Place → List ℕ → List StaticShape → Typed
types_of_calls items zero at name ss = Misfit (Rank at name)
types_of_calls items (suc rank) at name ss =
    type_of_called (types_of_calls items rank) at name (item_named items name) ss

-- the static type of a tree of a command, on names with these types
abbrev pub static_type_of_tree : Script → Types → Tree → Typed
static_type_of_tree script types t =
    shape_tree (around_types (types_of_calls script.items.items rank_limit) []) types t

-- the static type of an expression of a command
abbrev pub static_type : Script → Types → Expr → Typed
static_type script types e = static_type_of_tree script types (tree_of e)
