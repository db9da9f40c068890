-- Arguments and links as the lists that the code has, and their trees.
use Rattle.std.specs.Prelude.{List, [], ◌∷◌}
use Rattle.lang_model.specs.declared.syntax.Expr.{Expr}
use Rattle.lang_model.specs.declared.syntax.Link.{Link}
use Rattle.lang_model.specs.Trees.{Trees, NoTree, MoreTrees, Branches, NoBranch, MoreBranches, tree_of}

-- the trees of arguments
abbrev pub args_of : List Expr → Trees
args_of [] = NoTree
args_of (e ∷ args) = MoreTrees (tree_of e) (args_of args)

-- the branches of links
abbrev pub links_of : List Link → Branches
links_of [] = NoBranch
links_of (x ∷ links) = MoreBranches x.at x.op (tree_of x.right) (links_of links)

-- arguments put before others
abbrev pub args_ahead : List Expr → Trees → Trees
args_ahead [] others = others
args_ahead (e ∷ args) others = MoreTrees (tree_of e) (args_ahead args others)

-- links put before others
abbrev pub links_ahead : List Link → Branches → Branches
links_ahead [] others = others
links_ahead (x ∷ links) others = MoreBranches x.at x.op (tree_of x.right) (links_ahead links others)
