-- The tree of an expression: the contents of the vectors and boxes that the code has, with all places; and when two
-- expressions are equal up to places, which is when their trees without places are equal.
use Rattle.std.specs.Prelude.{◌≡◌, ℕ, List}
use Rattle.lang_model.specs.declared.syntax.Place.{Place}
use Rattle.lang_model.specs.declared.syntax.Op2.{Op2}
use Rattle.lang_model.specs.declared.syntax.Base.{Base}
use Rattle.lang_model.specs.declared.syntax.Expr.{Expr, Ref, Call', Base', Inject, Pair', Minus', Turned', Chain'}
use Rattle.lang_model.specs.declared.syntax.Expr.{Row_of-Link, end_of-Link, more_of-Link, Row_of-Expr, end_of-Expr}
use Rattle.lang_model.specs.declared.syntax.Expr.{more_of-Expr}

-- A tree with its places: a name, a call of a definition or of a base name, a domain operator, a pair, a prefix -,
-- signs ^, and a chain; the arguments of a call; and the operators of a chain with their right operands.
mutual
  -- an expression
  pub data Tree : Type 0 where
    NameTree : Place → List ℕ → Tree
    CallTree : Place → List ℕ → Trees → Tree
    BaseTree : Place → Base → Trees → Tree
    InjectTree : Place → Base → List ℕ → Tree
    PairTree : Place → Tree → Tree → Tree
    MinusTree : Place → Tree → Tree
    TurnedTree : Place → Tree → ℕ → Tree
    ChainTree : Tree → Branches → Tree

  -- arguments
  pub data Trees : Type 0 where
    NoTree : Trees
    MoreTrees : Tree → Trees → Trees

  -- the links of a chain
  pub data Branches : Type 0 where
    NoBranch : Branches
    MoreBranches : Place → Op2 → Tree → Branches → Branches

-- the tree of an expression, of arguments, and of links
abbrev mutual
  -- that of an expression
  pub tree_of : Expr → Tree
  tree_of (Ref at name) = NameTree at name
  tree_of (Call' at name shape args) = CallTree at name (trees_of args)
  tree_of (Base' at base shape args) = BaseTree at base (trees_of args)
  tree_of (Inject at base domain) = InjectTree at base domain
  tree_of (Pair' at p left q right) = PairTree at (tree_of left) (tree_of right)
  tree_of (Minus' at p of) = MinusTree at (tree_of of)
  tree_of (Turned' at p of times) = TurnedTree at (tree_of of) times
  tree_of (Chain' p first shape links) = ChainTree (tree_of first) (branches_of links)

  -- those of arguments
  pub trees_of : {m : _} → Row_of-Expr m → Trees
  trees_of end_of-Expr = NoTree
  trees_of (more_of-Expr e args) = MoreTrees (tree_of e) (trees_of args)

  -- those of links
  pub branches_of : {m : _} → Row_of-Link m → Branches
  branches_of end_of-Link = NoBranch
  branches_of (more_of-Link at op right links) = MoreBranches at op (tree_of right) (branches_of links)

-- a place outside every text, since lines and columns count from 1
abbrev pub nowhere : Place
nowhere = record { line = 0; column = 0 }

-- a tree, arguments and links without their places
abbrev mutual
  -- an expression
  pub without_places : Tree → Tree
  without_places (NameTree at name) = NameTree nowhere name
  without_places (CallTree at name args) = CallTree nowhere name (all_without_places args)
  without_places (BaseTree at base args) = BaseTree nowhere base (all_without_places args)
  without_places (InjectTree at base domain) = InjectTree nowhere base domain
  without_places (PairTree at left right) = PairTree nowhere (without_places left) (without_places right)
  without_places (MinusTree at of) = MinusTree nowhere (without_places of)
  without_places (TurnedTree at of times) = TurnedTree nowhere (without_places of) times
  without_places (ChainTree first links) = ChainTree (without_places first) (links_without_places links)

  -- arguments
  pub all_without_places : Trees → Trees
  all_without_places NoTree = NoTree
  all_without_places (MoreTrees e args) = MoreTrees (without_places e) (all_without_places args)

  -- links
  pub links_without_places : Branches → Branches
  links_without_places NoBranch = NoBranch
  links_without_places (MoreBranches at op right links) = MoreBranches nowhere op (without_places right)
      (links_without_places links)

-- two trees are equal up to places
abbrev pub SameTrees : Tree → Tree → Type 0
SameTrees t u = without_places t ≡ without_places u

-- the trees of two expressions are equal up to places
abbrev pub SameUpToPlaces : Expr → Expr → Type 0
SameUpToPlaces e f = SameTrees (tree_of e) (tree_of f)
