-- The trees of expressions, and when these are the same up to places, by their parts: read off the vectors and boxes that the code has.
use Rattle.std.proofs.Common.{◌≡◌, ◌∙◌, ℕ, List, [], ◌∷◌, length, suc, refl, sym, ap, rules}
use Rattle.std.specs.declared.boxed.Box.{Box}
use Rattle.std.specs.declared.vec.Vec.{Vec}
use Rattle.std.specs.declared.alloc.Global.{Global}
use Rattle.lang_model.specs.declared.syntax.Place.{Place}
use Rattle.lang_model.specs.declared.syntax.Base.{Base}
use Rattle.lang_model.specs.declared.syntax.Link.{Link}
use Rattle.lang_model.specs.declared.syntax.Expr.{Expr, Ref, Inject, Row_of-Expr, end_of-Expr, more_of-Expr, items-the_row-Expr, Row_of-Link, end_of-Link, more_of-Link, items-the_row-Link, the_lemmas}
use Rattle.lang_model.specs.declared.syntax.Expr.TheVariants.{Call, Base as BaseCall, Pair, Minus, Turned, Chain}
use Rattle.lang_model.specs.Trees.{Trees, Branches, CallTree, BaseTree, PairTree, MinusTree, TurnedTree, ChainTree, NoTree, MoreTrees, NoBranch, MoreBranches, tree_of, trees_of, branches_of, nowhere, without_places, all_without_places, links_without_places, SameUpToPlaces}

-- the trees of arguments as a list, and those of links
abbrev pub trees_in : List Expr → Trees
trees_in [] = NoTree
trees_in (e ∷ es) = MoreTrees (tree_of e) (trees_in es)

abbrev pub branches_in : List Link → Branches
branches_in [] = NoBranch
branches_in (x ∷ xs) = MoreBranches x.at x.op (tree_of x.right) (branches_in xs)

-- the same arguments, and the same links, up to places
abbrev pub SameArguments : List Expr → List Expr → Type 0
SameArguments es fs = all_without_places (trees_in es) ≡ all_without_places (trees_in fs)

abbrev pub SameLinks : List Link → List Link → Type 0
SameLinks xs ys = links_without_places (branches_in xs) ≡ links_without_places (branches_in ys)

trees_of-items : (n : _) (k : Row_of-Expr n) → trees_of k ≡ trees_in (items-the_row-Expr n k)
trees_of-items _ end_of-Expr = refl
trees_of-items _ (more_of-Expr e rest) = ap (MoreTrees (tree_of e)) (trees_of-items _ rest)

branches_of-items : (n : _) (k : Row_of-Link n) → branches_of k ≡ branches_in (items-the_row-Link n k)
branches_of-items _ end_of-Link = refl
branches_of-items _ (more_of-Link at op right rest) = ap (MoreBranches at op (tree_of right)) (branches_of-items _ rest)

pub tree_call : (at : _) (name : _) (args : _) → tree_of (Call at name args) ≡ CallTree at name (trees_in args.items)
tree_call at name args = search (rules, the_lemmas, trees_of-items)

pub tree_base : (at : _) (base : _) (args : _) → tree_of (BaseCall at base args) ≡ BaseTree at base (trees_in args.items)
tree_base at base args = search (rules, the_lemmas, trees_of-items)

pub tree_pair : (at : _) (left : _) (right : _) → tree_of (Pair at left right) ≡ PairTree at (tree_of left.value) (tree_of right.value)
tree_pair at left right = search (rules, the_lemmas)

pub tree_minus : (at : _) (of : _) → tree_of (Minus at of) ≡ MinusTree at (tree_of of.value)
tree_minus at of = search (rules, the_lemmas)

pub tree_turned : (at : _) (of : _) (times : _) → tree_of (Turned at of times) ≡ TurnedTree at (tree_of of.value) times
tree_turned at of times = search (rules, the_lemmas)

pub tree_chain : (first : _) (links : _) → tree_of (Chain first links) ≡ ChainTree (tree_of first.value) (branches_in links.items)
tree_chain first links = search (rules, the_lemmas, branches_of-items)

-- ---- each kind of expression
pub same_names : (at there : Place) (name : List ℕ) → SameUpToPlaces (Ref at name) (Ref there name)
same_names at there name = refl

pub same_calls : (at there : Place) (name : List ℕ) (args others : Vec Expr Global) → SameArguments args.items others.items → SameUpToPlaces (Call at name args) (Call there name others)
same_calls at there name args others h = ap without_places (tree_call at name args) ∙ ap (CallTree nowhere name) h ∙ sym (ap without_places (tree_call there name others))

pub same_bases : (at there : Place) (base : Base) (args others : Vec Expr Global) → SameArguments args.items others.items → SameUpToPlaces (BaseCall at base args) (BaseCall there base others)
same_bases at there base args others h = ap without_places (tree_base at base args) ∙ ap (BaseTree nowhere base) h ∙ sym (ap without_places (tree_base there base others))

pub same_injections : (at there : Place) (base : Base) (domain : List ℕ) → SameUpToPlaces (Inject at base domain) (Inject there base domain)
same_injections at there base domain = refl

pub same_pairs : (at there : Place) (left right other another : Box Expr Global) → SameUpToPlaces left.value other.value → SameUpToPlaces right.value another.value → SameUpToPlaces (Pair at left right) (Pair there other another)
same_pairs at there left right other another h k = ap without_places (tree_pair at left right) ∙ (λ i. PairTree nowhere (h i) (k i)) ∙ sym (ap without_places (tree_pair there other another))

pub same_minus : (at there : Place) (of other : Box Expr Global) → SameUpToPlaces of.value other.value → SameUpToPlaces (Minus at of) (Minus there other)
same_minus at there of other h = ap without_places (tree_minus at of) ∙ ap (MinusTree nowhere) h ∙ sym (ap without_places (tree_minus there other))

pub same_turned : (at there : Place) (of other : Box Expr Global) (times : ℕ) → SameUpToPlaces of.value other.value → SameUpToPlaces (Turned at of times) (Turned there other times)
same_turned at there of other times h = ap without_places (tree_turned at of times) ∙ ap (λ t. TurnedTree nowhere t times) h ∙ sym (ap without_places (tree_turned there other times))

pub same_chains : (first other : Box Expr Global) (links others : Vec Link Global) → SameUpToPlaces first.value other.value → SameLinks links.items others.items → SameUpToPlaces (Chain first links) (Chain other others)
same_chains first other links others h k = ap without_places (tree_chain first links) ∙ (λ i. ChainTree (h i) (k i)) ∙ sym (ap without_places (tree_chain other others))

-- ---- arguments and links
pub no_arguments : SameArguments [] []
no_arguments = refl

pub one_argument : (e f : Expr) (es fs : List Expr) → SameUpToPlaces e f → SameArguments es fs → SameArguments (e ∷ es) (f ∷ fs)
one_argument e f es fs h k = λ i. MoreTrees (h i) (k i)

pub no_links : SameLinks [] []
no_links = refl

pub same_link : (x y : Link) (xs ys : List Link) → x.op ≡ y.op → SameUpToPlaces x.right y.right → SameLinks xs ys → SameLinks (x ∷ xs) (y ∷ ys)
same_link x y xs ys o h k = λ i. MoreBranches nowhere (o i) (h i) (k i)

-- there are as many
abbrev count_trees : Trees → ℕ
count_trees NoTree = 0
count_trees (MoreTrees t ts) = suc (count_trees ts)

abbrev count_branches : Branches → ℕ
count_branches NoBranch = 0
count_branches (MoreBranches at o t bs) = suc (count_branches bs)

counted_trees : (es : List Expr) → count_trees (all_without_places (trees_in es)) ≡ length es
counted_trees [] = refl
counted_trees (e ∷ es) = ap suc (counted_trees es)

counted_branches : (xs : List Link) → count_branches (links_without_places (branches_in xs)) ≡ length xs
counted_branches [] = refl
counted_branches (x ∷ xs) = ap suc (counted_branches xs)

pub same_count : (es fs : List Expr) → SameArguments es fs → length fs ≡ length es
same_count es fs h = sym (counted_trees fs) ∙ ap count_trees (sym h) ∙ counted_trees es

pub same_count_links : (xs ys : List Link) → SameLinks xs ys → length ys ≡ length xs
same_count_links xs ys h = sym (counted_branches ys) ∙ ap count_branches (sym h) ∙ counted_branches xs
