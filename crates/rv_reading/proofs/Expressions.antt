-- What is read off an expression goes by its tree alone.
-- 1. For each function of expressions one of trees that computes the same.
-- 2. They agree by induction on the expression; where meanings and types are concerned, by definition.
use Rattle.std.proofs.Common.{◌≡◌, ◌+◌, ◌++◌, ℕ, cond, List, [], ◌∷◌, Option, Some, None, refl, ap}
use Rattle.std.specs.Prelude.{max, is_some}
use Rattle.lang_model.specs.declared.syntax.Place.{Place}
use Rattle.lang_model.specs.declared.syntax.Expr.{Expr, Ref, Call', Base', Inject, Pair', Minus', Turned', Chain', Row_of-Expr, end_of-Expr, more_of-Expr, Row_of-Link, end_of-Link, more_of-Link}
use Rattle.lang_model.specs.declared.faults.TypeFault.{TypeFault}
use Rattle.lang_model.specs.Trees.{Tree, NameTree, CallTree, BaseTree, InjectTree, PairTree, MinusTree, TurnedTree, ChainTree, Trees, NoTree, MoreTrees, Branches, NoBranch, MoreBranches, tree_of, trees_of, branches_of}
use Rattle.lang_model.specs.State.{State}
use Rattle.lang_model.specs.Missing.{missing, missing_in, missing_along, first_of_both}
use Rattle.lang_model.specs.Checking.{Names, Known, Scope, ref_faults, call_faults, domain_faults, count_in, faults, faults_in, faults_along, rank_named, called, called_in, called_along}
use Rattle.lang_model.specs.Eval.{IsCompound, names_in, names_in_all, names_along}

-- ---- the leftmost name that has no relation
module _ (state : State) where
  abbrev mutual
    -- that of a tree
    pub missing_tree : Tree → Option (Place × List ℕ)
    missing_tree (NameTree at name) = cond (is_some (state name)) None (Some (at, name))
    missing_tree (CallTree at name args) = missing_trees args
    missing_tree (BaseTree at base args) = missing_trees args
    missing_tree (InjectTree at base domain) = None
    missing_tree (PairTree at left right) = first_of_both (missing_tree left) (missing_tree right)
    missing_tree (MinusTree at of) = missing_tree of
    missing_tree (TurnedTree at of times) = missing_tree of
    missing_tree (ChainTree first links) = first_of_both (missing_tree first) (missing_branches links)

    -- that of arguments
    pub missing_trees : Trees → Option (Place × List ℕ)
    missing_trees NoTree = None
    missing_trees (MoreTrees t args) = first_of_both (missing_tree t) (missing_trees args)

    -- that of links
    pub missing_branches : Branches → Option (Place × List ℕ)
    missing_branches NoBranch = None
    missing_branches (MoreBranches at op right links) = first_of_both (missing_tree right) (missing_branches links)

  mutual
    pub missing-tree : (e : Expr) → missing state e ≡ missing_tree (tree_of e)
    missing-tree (Ref at name) = refl
    missing-tree (Call' at name shape args) = missing-trees args
    missing-tree (Base' at base shape args) = missing-trees args
    missing-tree (Inject at base domain) = refl
    missing-tree (Pair' at p left q right) = λ i. first_of_both (missing-tree left i) (missing-tree right i)
    missing-tree (Minus' at p of) = missing-tree of
    missing-tree (Turned' at p of times) = missing-tree of
    missing-tree (Chain' p first shape rest) = λ i. first_of_both (missing-tree first i) (missing-branches rest i)

    missing-trees : {m : _} (args : Row_of-Expr m) → missing_in state args ≡ missing_trees (trees_of args)
    missing-trees end_of-Expr = refl
    missing-trees (more_of-Expr e rest) = λ i. first_of_both (missing-tree e i) (missing-trees rest i)

    missing-branches : {m : _} (links : Row_of-Link m) → missing_along state links ≡ missing_branches (branches_of links)
    missing-branches end_of-Link = refl
    missing-branches (more_of-Link at op right rest) = λ i. first_of_both (missing-tree right i) (missing-branches rest i)

-- ---- the names of an expression
abbrev mutual
  -- those of a tree
  pub names_of_tree : Tree → List (List ℕ)
  names_of_tree (NameTree at name) = name ∷ []
  names_of_tree (CallTree at name args) = names_of_trees args
  names_of_tree (BaseTree at base args) = names_of_trees args
  names_of_tree (InjectTree at base domain) = []
  names_of_tree (PairTree at left right) = names_of_tree left ++ names_of_tree right
  names_of_tree (MinusTree at of) = names_of_tree of
  names_of_tree (TurnedTree at of times) = names_of_tree of
  names_of_tree (ChainTree first links) = names_of_tree first ++ names_of_branches links

  -- those of arguments
  pub names_of_trees : Trees → List (List ℕ)
  names_of_trees NoTree = []
  names_of_trees (MoreTrees t args) = names_of_tree t ++ names_of_trees args

  -- those of links
  pub names_of_branches : Branches → List (List ℕ)
  names_of_branches NoBranch = []
  names_of_branches (MoreBranches at op right links) = names_of_tree right ++ names_of_branches links

mutual
  pub names-tree : (e : Expr) → names_in e ≡ names_of_tree (tree_of e)
  names-tree (Ref at name) = refl
  names-tree (Call' at name shape args) = names-trees args
  names-tree (Base' at base shape args) = names-trees args
  names-tree (Inject at base domain) = refl
  names-tree (Pair' at p left q right) = λ i. names-tree left i ++ names-tree right i
  names-tree (Minus' at p of) = names-tree of
  names-tree (Turned' at p of times) = names-tree of
  names-tree (Chain' p first shape rest) = λ i. names-tree first i ++ names-branches rest i

  names-trees : {m : _} (args : Row_of-Expr m) → names_in_all args ≡ names_of_trees (trees_of args)
  names-trees end_of-Expr = refl
  names-trees (more_of-Expr e rest) = λ i. names-tree e i ++ names-trees rest i

  -- the names of links are those of their trees, link after link
  names-branches : {m : _} (links : Row_of-Link m) → names_along links ≡ names_of_branches (branches_of links)
  names-branches end_of-Link = refl
  names-branches (more_of-Link at op right rest) = λ i. names-tree right i ++ names-branches rest i

-- ---- whether an expression is more than a name
abbrev pub IsCompoundTree : Tree → Type 0
IsCompoundTree (NameTree at name) = ⊥
IsCompoundTree (CallTree at name args) = Unit {0}
IsCompoundTree (BaseTree at base args) = Unit {0}
IsCompoundTree (InjectTree at base domain) = Unit {0}
IsCompoundTree (PairTree at left right) = Unit {0}
IsCompoundTree (MinusTree at of) = Unit {0}
IsCompoundTree (TurnedTree at of times) = Unit {0}
IsCompoundTree (ChainTree first links) = Unit {0}

-- an expression is more than a name exactly if its tree is, case by case
pub compound-tree : (e : Expr) → IsCompound e ≡ IsCompoundTree (tree_of e)
compound-tree (Ref at name) = refl
compound-tree (Call' at name shape args) = refl
compound-tree (Base' at base shape args) = refl
compound-tree (Inject at base domain) = refl
compound-tree (Pair' at p left q right) = refl
compound-tree (Minus' at p of) = refl
compound-tree (Turned' at p of times) = refl
compound-tree (Chain' p first shape rest) = refl

-- ---- faults
-- how many arguments there are
abbrev pub count_trees : Trees → ℕ
count_trees NoTree = 0
count_trees (MoreTrees t args) = count_trees args + 1

-- arguments are as many as their trees, by induction
count-trees : {m : _} (args : Row_of-Expr m) → count_in args ≡ count_trees (trees_of args)
count-trees end_of-Expr = refl
count-trees (more_of-Expr e rest) = ap (λ n. n + 1) (count-trees rest)

module _ (scope : Scope) (assigned : Names) where
  abbrev mutual
    -- those of a tree
    pub tree_faults : Tree → List TypeFault
    tree_faults (NameTree at name) = ref_faults scope assigned at name
    tree_faults (CallTree at name args) = call_faults scope at name (count_trees args) ++ trees_faults args
    tree_faults (BaseTree at base args) = trees_faults args
    tree_faults (InjectTree at base domain) = domain_faults scope at base domain
    tree_faults (PairTree at left right) = tree_faults left ++ tree_faults right
    tree_faults (MinusTree at of) = tree_faults of
    tree_faults (TurnedTree at of times) = tree_faults of
    tree_faults (ChainTree first links) = tree_faults first ++ branches_faults links

    -- those of arguments
    pub trees_faults : Trees → List TypeFault
    trees_faults NoTree = []
    trees_faults (MoreTrees t args) = tree_faults t ++ trees_faults args

    -- those of links
    pub branches_faults : Branches → List TypeFault
    branches_faults NoBranch = []
    branches_faults (MoreBranches at op right links) = tree_faults right ++ branches_faults links

  mutual
    pub faults-tree : (e : Expr) → faults scope assigned e ≡ tree_faults (tree_of e)
    faults-tree (Ref at name) = refl
    faults-tree (Call' at name shape args) = λ i. call_faults scope at name (count-trees args i) ++ faults-trees args i
    faults-tree (Base' at base shape args) = faults-trees args
    faults-tree (Inject at base domain) = refl
    faults-tree (Pair' at p left q right) = λ i. faults-tree left i ++ faults-tree right i
    faults-tree (Minus' at p of) = faults-tree of
    faults-tree (Turned' at p of times) = faults-tree of
    faults-tree (Chain' p first shape rest) = λ i. faults-tree first i ++ faults-branches rest i

    faults-trees : {m : _} (args : Row_of-Expr m) → faults_in scope assigned args ≡ trees_faults (trees_of args)
    faults-trees end_of-Expr = refl
    faults-trees (more_of-Expr e rest) = λ i. faults-tree e i ++ faults-trees rest i

    faults-branches : {m : _} (links : Row_of-Link m) → faults_along scope assigned links ≡ branches_faults (branches_of links)
    faults-branches end_of-Link = refl
    faults-branches (more_of-Link at op right rest) = λ i. faults-tree right i ++ faults-branches rest i

-- ---- ranks
module _ (earlier : List Known) where
  abbrev mutual
    -- the greatest of those that a tree calls
    pub called_tree : Tree → ℕ
    called_tree (NameTree at name) = 0
    called_tree (CallTree at name args) = max (rank_named earlier name) (called_trees args)
    called_tree (BaseTree at base args) = called_trees args
    called_tree (InjectTree at base domain) = 0
    called_tree (PairTree at left right) = max (called_tree left) (called_tree right)
    called_tree (MinusTree at of) = called_tree of
    called_tree (TurnedTree at of times) = called_tree of
    called_tree (ChainTree first links) = max (called_tree first) (called_branches links)

    -- that of arguments
    pub called_trees : Trees → ℕ
    called_trees NoTree = 0
    called_trees (MoreTrees t args) = max (called_tree t) (called_trees args)

    -- that of links
    pub called_branches : Branches → ℕ
    called_branches NoBranch = 0
    called_branches (MoreBranches at op right links) = max (called_tree right) (called_branches links)

  mutual
    pub called-tree : (e : Expr) → called earlier e ≡ called_tree (tree_of e)
    called-tree (Ref at name) = refl
    called-tree (Call' at name shape args) = ap (max (rank_named earlier name)) (called-trees args)
    called-tree (Base' at base shape args) = called-trees args
    called-tree (Inject at base domain) = refl
    called-tree (Pair' at p left q right) = λ i. max (called-tree left i) (called-tree right i)
    called-tree (Minus' at p of) = called-tree of
    called-tree (Turned' at p of times) = called-tree of
    called-tree (Chain' p first shape rest) = λ i. max (called-tree first i) (called-branches rest i)

    called-trees : {m : _} (args : Row_of-Expr m) → called_in earlier args ≡ called_trees (trees_of args)
    called-trees end_of-Expr = refl
    called-trees (more_of-Expr e rest) = λ i. max (called-tree e i) (called-trees rest i)

    called-branches : {m : _} (links : Row_of-Link m) → called_along earlier links ≡ called_branches (branches_of links)
    called-branches end_of-Link = refl
    called-branches (more_of-Link at op right rest) = λ i. max (called-tree right i) (called-branches rest i)
