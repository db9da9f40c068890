-- Equality up to places: at the end of a list, and as an equivalence.
use Rattle.std.proofs.Common.{◌≡◌, ◌==◌, ◌&&◌, ℕ, suc, Bool, true, false, List, [], ◌∷◌, length, refl, sym, ap, arith}
use Rattle.std.proofs.lemmas.Bool.{and_parts, eqb-true, false≢true}
use Rattle.std.proofs.lemmas.Bool.Decides.{nat_tests}
use Rattle.std.specs.Cmp.Lexicographic.{same_text as text_of_test}
use Rattle.lang_model.specs.Tokens.{same_text}
use Rattle.lang_model.specs.BaseNames.{base_text}
use Rattle.lang_model.specs.Printing.{sign_of}
use Rattle.lang_model.specs.declared.syntax.Expr.{Expr}
use Rattle.lang_model.specs.declared.syntax.Link.{Link}
use Rattle.lang_model.specs.Trees.{Tree, NameTree, CallTree, BaseTree, InjectTree, PairTree, MinusTree, TurnedTree, ChainTree, Trees, NoTree, MoreTrees, Branches, NoBranch, MoreBranches}
use Rattle.lang_model.specs.Rewriting.{same_tree, same_trees, same_branches}
use Rattle.rv_rewrite.specs.Items.{args_of, links_of}

some_not_none : (n : ℕ) → (suc n == 0) ≡ false
some_not_none n = grind (arith, nat_tests)

pub no_args : (xs : List Expr) → (length xs == 0) ≡ same_trees NoTree (args_of xs)
no_args [] = refl
no_args (x ∷ xs) = some_not_none (length xs)

pub no_links : (xs : List Link) → (length xs == 0) ≡ same_branches NoBranch (links_of xs)
no_links [] = refl
no_links (x ∷ xs) = some_not_none (length xs)

-- ---- what equals a tree equals the same trees as it
both : {a b c d : Bool} → a ≡ b → c ≡ d → (a && c) ≡ (b && d)
both e f = (λ i. e i && f i)

text : (n m k : List ℕ) → same_text n m ≡ true → same_text n k ≡ same_text m k
text n m k h = ap (λ z. same_text z k) (text_of_test n m (sym h))

number : (n m k : ℕ) → (n == m) ≡ true → (n == k) ≡ (m == k)
number n m k h = ap (λ z. z == k) (eqb-true n m h)

mutual
  -- what equals a tree up to places equals the same trees as it, by induction on all three: their kinds, texts, numbers
  -- and parts agree in turn
  pub same-left : (t u v : Tree) → same_tree t u ≡ true → same_tree t v ≡ same_tree u v
  same-left (NameTree a1 n1) (NameTree a2 n2) (NameTree a3 n3) h = text n1 n2 n3 h
  same-left (NameTree a1 n1) (NameTree a2 n2) v h = refl
  same-left (CallTree a1 n1 x1) (CallTree a2 n2 x2) (CallTree a3 n3 x3) h = let p = and_parts _ _ h in both (text n1 n2 n3 p.0) (same-left_in x1 x2 x3 p.1)
  same-left (CallTree a1 n1 x1) (CallTree a2 n2 x2) v h = refl
  same-left (BaseTree a1 n1 x1) (BaseTree a2 n2 x2) (BaseTree a3 n3 x3) h = let p = and_parts _ _ h in both (text (base_text n1) (base_text n2) (base_text n3) p.0) (same-left_in x1 x2 x3 p.1)
  same-left (BaseTree a1 n1 x1) (BaseTree a2 n2 x2) v h = refl
  same-left (InjectTree a1 n1 x1) (InjectTree a2 n2 x2) (InjectTree a3 n3 x3) h = let p = and_parts _ _ h in both (text (base_text n1) (base_text n2) (base_text n3) p.0) (text x1 x2 x3 p.1)
  same-left (InjectTree a1 n1 x1) (InjectTree a2 n2 x2) v h = refl
  same-left (PairTree a1 x1 w1) (PairTree a2 x2 w2) (PairTree a3 x3 w3) h = let p = and_parts _ _ h in both (same-left x1 x2 x3 p.0) (same-left w1 w2 w3 p.1)
  same-left (PairTree a1 x1 w1) (PairTree a2 x2 w2) v h = refl
  same-left (MinusTree a1 x1) (MinusTree a2 x2) (MinusTree a3 x3) h = same-left x1 x2 x3 h
  same-left (MinusTree a1 x1) (MinusTree a2 x2) v h = refl
  same-left (TurnedTree a1 x1 n1) (TurnedTree a2 x2 n2) (TurnedTree a3 x3 n3) h = let p = and_parts _ _ h in both (number n1 n2 n3 p.0) (same-left x1 x2 x3 p.1)
  same-left (TurnedTree a1 x1 n1) (TurnedTree a2 x2 n2) v h = refl
  same-left (ChainTree x1 w1) (ChainTree x2 w2) (ChainTree x3 w3) h = let p = and_parts _ _ h in both (same-left x1 x2 x3 p.0) (same-left_along w1 w2 w3 p.1)
  same-left (ChainTree x1 w1) (ChainTree x2 w2) v h = refl
  same-left t u v h = absurd (false≢true h)

  same-left_in : (t u v : Trees) → same_trees t u ≡ true → same_trees t v ≡ same_trees u v
  same-left_in NoTree NoTree v h = refl
  same-left_in (MoreTrees x1 w1) (MoreTrees x2 w2) NoTree h = refl
  same-left_in (MoreTrees x1 w1) (MoreTrees x2 w2) (MoreTrees x3 w3) h =
      let p = and_parts _ _ h in both (same-left x1 x2 x3 p.0) (same-left_in w1 w2 w3 p.1)
  same-left_in t u v h = absurd (false≢true h)

  same-left_along : (t u v : Branches) → same_branches t u ≡ true → same_branches t v ≡ same_branches u v
  same-left_along NoBranch NoBranch v h = refl
  same-left_along (MoreBranches a1 o1 x1 w1) (MoreBranches a2 o2 x2 w2) NoBranch h = refl
  same-left_along (MoreBranches a1 o1 x1 w1) (MoreBranches a2 o2 x2 w2) (MoreBranches a3 o3 x3 w3) h =
      let p = and_parts _ _ h in
      let q = and_parts _ _ p.1 in
      both (number (sign_of o1) (sign_of o2) (sign_of o3) p.0) (both (same-left x1 x2 x3 q.0) (same-left_along w1 w2 w3 q.1))
  same-left_along t u v h = absurd (false≢true h)
