-- The tree of a node whose parts stand in vectors, by the lists of their items.
use Rattle.std.proofs.Common.{◌≡◌, ◌∙◌, ◌++◌, ◌+◌, ◌≤◌, ℕ, List, [], ◌∷◌, drop, length, refl, sym, ap, rules}
use Rattle.std.proofs.lemmas.List.{drop_all}
use Rattle.lang_model.specs.declared.syntax.Expr.{Expr, Row_of-Expr, end_of-Expr, more_of-Expr, items-the_row-Expr, Row_of-Link, end_of-Link, more_of-Link, items-the_row-Link, the_lemmas}
use Rattle.lang_model.specs.declared.syntax.Expr.TheVariants.{Call, Base, Pair, Minus, Turned, Chain}
use Rattle.lang_model.specs.declared.syntax.Link.{Link}
use Rattle.lang_model.specs.Trees.{CallTree, BaseTree, PairTree, MinusTree, TurnedTree, ChainTree, Trees, NoTree, MoreTrees, Branches, NoBranch, MoreBranches, tree_of, trees_of, branches_of}
use Rattle.rv_rewrite.specs.Items.{args_of, links_of, args_ahead, links_ahead}

pub trees_of-items : (n : _) (k : Row_of-Expr n) → trees_of k ≡ args_of (items-the_row-Expr n k)
trees_of-items _ end_of-Expr = refl
trees_of-items _ (more_of-Expr e rest) = ap (MoreTrees (tree_of e)) (trees_of-items _ rest)

pub branches_of-items : (n : _) (k : Row_of-Link n) → branches_of k ≡ links_of (items-the_row-Link n k)
branches_of-items _ end_of-Link = refl
branches_of-items _ (more_of-Link at op right rest) = ap (MoreBranches at op (tree_of right)) (branches_of-items _ rest)

pub tree_call : (at : _) (name : _) (args : _) → tree_of (Call at name args) ≡ CallTree at name (args_of args.items)
tree_call at name args = search (rules, the_lemmas, trees_of-items)

pub tree_base : (at : _) (base : _) (args : _) → tree_of (Base at base args) ≡ BaseTree at base (args_of args.items)
tree_base at base args = search (rules, the_lemmas, trees_of-items)

pub tree_chain : (first : _) (rest : _) → tree_of (Chain first rest) ≡ ChainTree (tree_of first.value) (links_of rest.items)
tree_chain first rest = search (rules, the_lemmas, branches_of-items)

pub tree_pair : (at : _) (left : _) (right : _) → tree_of (Pair at left right) ≡ PairTree at (tree_of left.value) (tree_of right.value)
tree_pair at left right = search (rules, the_lemmas)

pub tree_minus : (at : _) (of : _) → tree_of (Minus at of) ≡ MinusTree at (tree_of of.value)
tree_minus at of = search (rules, the_lemmas)

pub tree_turned : (at : _) (of : _) (times : ℕ) → tree_of (Turned at of times) ≡ TurnedTree at (tree_of of.value) times
tree_turned at of times = search (rules, the_lemmas)

-- one more
pub args_ahead-more : (xs : List Expr) (y : Expr) (others : Trees) → args_ahead (xs ++ y ∷ []) others ≡ args_ahead xs (MoreTrees (tree_of y) others)
args_ahead-more [] y others = refl
args_ahead-more (x ∷ xs) y others = ap (MoreTrees (tree_of x)) (args_ahead-more xs y others)

pub links_ahead-more : (xs : List Link) (y : Link) (others : Branches) → links_ahead (xs ++ y ∷ []) others ≡ links_ahead xs (MoreBranches y.at y.op (tree_of y.right) others)
links_ahead-more [] y others = refl
links_ahead-more (x ∷ xs) y others = ap (MoreBranches x.at x.op (tree_of x.right)) (links_ahead-more xs y others)

pub args_ahead-all : (xs : List Expr) → args_ahead xs NoTree ≡ args_of xs
args_ahead-all [] = refl
args_ahead-all (x ∷ xs) = ap (MoreTrees (tree_of x)) (args_ahead-all xs)

pub links_ahead-all : (xs : List Link) → links_ahead xs NoBranch ≡ links_of xs
links_ahead-all [] = refl
links_ahead-all (x ∷ xs) = ap (MoreBranches x.at x.op (tree_of x.right)) (links_ahead-all xs)

-- a copy is one more of those done, and one fewer of those to come
pub args_more : (all done : List Expr) (i : ℕ) (x y : Expr) → drop i all ≡ x ∷ drop (i + 1) all → tree_of y ≡ tree_of x
    → args_of all ≡ args_ahead done (args_of (drop i all))
    → args_of all ≡ args_ahead (done ++ y ∷ []) (args_of (drop (i + 1) all))
args_more all done i x y d e h = h ∙ ap (λ z. args_ahead done (args_of z)) d
    ∙ ap (λ z. args_ahead done (MoreTrees z (args_of (drop (i + 1) all)))) (sym e) ∙ sym (args_ahead-more done y _)

pub args_done : (all done : List Expr) (i : ℕ) → length all ≤ i → args_of all ≡ args_ahead done (args_of (drop i all)) → args_of done ≡ args_of all
args_done all done i l h = sym (h ∙ ap (λ z. args_ahead done (args_of z)) (drop_all i all l) ∙ args_ahead-all done)

pub links_more : (all done : List Link) (i : ℕ) (x y : Link) → drop i all ≡ x ∷ drop (i + 1) all
    → y.at ≡ x.at → y.op ≡ x.op → tree_of y.right ≡ tree_of x.right
    → links_of all ≡ links_ahead done (links_of (drop i all))
    → links_of all ≡ links_ahead (done ++ y ∷ []) (links_of (drop (i + 1) all))
links_more all done i x y d a o e h = h ∙ ap (λ z. links_ahead done (links_of z)) d
    ∙ (λ j. links_ahead done (MoreBranches (sym a j) (sym o j) (sym e j) (links_of (drop (i + 1) all))))
    ∙ sym (links_ahead-more done y _)

pub links_done : (all done : List Link) (i : ℕ) → length all ≤ i → links_of all ≡ links_ahead done (links_of (drop i all)) → links_of done ≡ links_of all
links_done all done i l h = sym (h ∙ ap (λ z. links_ahead done (links_of z)) (drop_all i all l) ∙ links_ahead-all done)
