-- How an expression is written: without blanks, and with parentheses only around operands that bind more loosely.
use Rattle.std.specs.Prelude.{◌++◌, ℕ, Bool, cond, List, [], ◌∷◌, nat_le, nat_lt, replicate}
use Rattle.lang_model.specs.declared.syntax.Op2.{Op2}
use Rattle.lang_model.specs.declared.syntax.Op2.TheVariants.{Or, And, Times, Under, Over}
use Rattle.lang_model.specs.declared.syntax.Expr.{Expr, Row_of-Expr, Row_of-Link}
use Rattle.lang_model.specs.BaseNames.{base_text}
use Rattle.lang_model.specs.Trees.{Tree, NameTree, CallTree, BaseTree, InjectTree, PairTree, MinusTree, TurnedTree}
use Rattle.lang_model.specs.Trees.{ChainTree, Trees, NoTree, MoreTrees, Branches, NoBranch, MoreBranches, tree_of}
use Rattle.lang_model.specs.Trees.{trees_of, branches_of}

-- the sign of an operator
abbrev pub sign_of : Op2 → ℕ
sign_of Or = 124
sign_of And = 38
sign_of Times = 42
sign_of Under = 92
sign_of Over = 47

-- how tightly chains of an operator bind
abbrev pub chain_rank : Op2 → ℕ
chain_rank Or = 0
chain_rank And = 1
chain_rank _ = 2

-- the same for a chain, by its first link
abbrev pub links_rank_tree : Branches → ℕ
links_rank_tree NoBranch = 2
links_rank_tree (MoreBranches at op right links) = chain_rank op

-- how tightly a tree binds: chains by their level, then a prefix -, then signs ^, then everything else
abbrev pub rank_tree : Tree → ℕ
rank_tree (ChainTree first links) = links_rank_tree links
rank_tree (MinusTree at of) = 3
rank_tree (TurnedTree at of times) = 4
rank_tree _ = 5

-- a text, in parentheses if they are needed
abbrev pub within : Bool → List ℕ → List ℕ
within needed text = cond needed (40 ∷ text ++ 41 ∷ []) text

-- The text of a tree. An operand of a chain is in parentheses if it is a chain of the same or a looser level, that of -
-- if it is a chain, and that of ^ if it is a chain or has a - or a ^ itself.
abbrev mutual
  -- the text of an expression
  pub printed_tree : Tree → List ℕ
  printed_tree (NameTree at name) = name
  printed_tree (CallTree at name args) = name ++ 40 ∷ printed_trees args ++ 41 ∷ []
  printed_tree (BaseTree at base args) = base_text base ++ 40 ∷ printed_trees args ++ 41 ∷ []
  printed_tree (InjectTree at base domain) = base_text base ++ 40 ∷ domain ++ 41 ∷ []
  printed_tree (PairTree at left right) = 91 ∷ printed_tree left ++ 44 ∷ printed_tree right ++ 93 ∷ []
  printed_tree (MinusTree at of) = 45 ∷ within (nat_lt (rank_tree of) 3) (printed_tree of)
  printed_tree (TurnedTree at of times) = within (nat_lt (rank_tree of) 5) (printed_tree of) ++ replicate times 94
  printed_tree (ChainTree first links) = within (nat_le (rank_tree first) (links_rank_tree links)) (printed_tree first)
      ++ printed_branches (links_rank_tree links) links

  -- the text of arguments, separated by commas
  pub printed_trees : Trees → List ℕ
  printed_trees NoTree = []
  printed_trees (MoreTrees t args) = printed_tree t ++ printed_more_trees args

  -- the text of further arguments, each after a comma
  pub printed_more_trees : Trees → List ℕ
  printed_more_trees NoTree = []
  printed_more_trees (MoreTrees t args) = 44 ∷ printed_tree t ++ printed_more_trees args

  -- the text of the links of a chain whose operators bind this tightly
  pub printed_branches : ℕ → Branches → List ℕ
  printed_branches n NoBranch = []
  printed_branches n (MoreBranches at op right links) = sign_of op ∷ within (nat_le (rank_tree right) n)
      (printed_tree right) ++ printed_branches n links

-- how tightly an expression binds
abbrev pub rank : Expr → ℕ
rank e = rank_tree (tree_of e)

-- how tightly a chain with these links binds
abbrev pub links_rank : {m : _} → Row_of-Link m → ℕ
links_rank links = links_rank_tree (branches_of links)

-- the text of an expression is that of its tree
abbrev pub printed : Expr → List ℕ
printed e = printed_tree (tree_of e)

-- the same for arguments, separated by commas
abbrev pub printed_args : {m : _} → Row_of-Expr m → List ℕ
printed_args args = printed_trees (trees_of args)

-- the same for further arguments, each after a comma
abbrev pub printed_more : {m : _} → Row_of-Expr m → List ℕ
printed_more args = printed_more_trees (trees_of args)

-- the same for the links of a chain whose operators bind this tightly
abbrev pub printed_links : ℕ → {m : _} → Row_of-Link m → List ℕ
printed_links n links = printed_branches n (branches_of links)
