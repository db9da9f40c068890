-- A calm tree uses no other names than the tree, so that what it comes to, and what that costs, depends on the names of
-- the expression alone.
use Rattle.std.proofs.Common.{◌≡◌, ◌==◌, ◌&&◌, ◌++◌, ◌%◌, nat_le, ℕ, zero, suc, Bool, true, false, cond, List, [], ◌∷◌, Option, Some, None, refl, ap, subst, inl, inr}
use Rattle.std.specs.List.{list_any}
use Rattle.lang_model.specs.declared.syntax.Expr.{Expr, Ref, Call', Base', Inject, Pair', Minus', Turned', Chain', Row_of-Expr, end_of-Expr, more_of-Expr, Row_of-Link, end_of-Link, more_of-Link}
use Rattle.lang_model.specs.declared.syntax.Op2.{Op2}
use Rattle.lang_model.specs.declared.syntax.Op2.TheVariants.{And, Times, Under, Over}
use Rattle.rel_model.specs.Relation.{Relation}
use Rattle.lang_model.specs.State.{State}
use Rattle.lang_model.specs.Trees.{Tree, NameTree, CallTree, BaseTree, InjectTree, PairTree, MinusTree, TurnedTree, ChainTree, Trees, NoTree, MoreTrees, Branches, NoBranch, MoreBranches, tree_of, trees_of, branches_of}
use Rattle.lang_model.specs.Outcomes.{and_then, with_turns}
use Rattle.lang_model.specs.Mean.{Calls, around_with, named, based, paired, complemented, turned, linked, mean_tree, mean_trees, mean_branches}
use Rattle.lang_model.specs.Eval.{names_in, names_in_all, names_along, AgreeOn}
use Rattle.lang_model.specs.Rewriting.{Step, same_operator, same_tree, negated, turned_once, Two, two_operands, operands_of, chain_of, is_lattice, without_repeats, double_complement, many_turns, turned_again, repeated_operands, to_right_residual, to_left_residual, turned_product, turned_operands, negated_operands, to_quotient, here, inside, next_step, next_in, next_along, weight, calm_within, calm_behind, calmed}
use Rattle.lang_model.proofs.Sameness.{found, passed, same_some}
use Rattle.lang_model.proofs.Lighter.{least_by, at_node, in_part}

module _ (Q : List ℕ → Type 0) where
  -- each name of a tree is such
  abbrev mutual
    pub Uses : Tree → Type 0
    Uses (NameTree at name) = Q name
    Uses (CallTree at name args) = UsesIn args
    Uses (BaseTree at base args) = UsesIn args
    Uses (InjectTree at base domain) = Unit {0}
    Uses (PairTree at left right) = Uses left × Uses right
    Uses (MinusTree at of) = Uses of
    Uses (TurnedTree at of times) = Uses of
    Uses (ChainTree first links) = Uses first × UsesAlong links

    pub UsesIn : Trees → Type 0
    UsesIn NoTree = Unit {0}
    UsesIn (MoreTrees t args) = Uses t × UsesIn args

    pub UsesAlong : Branches → Type 0
    UsesAlong NoBranch = Unit {0}
    UsesAlong (MoreBranches at op right links) = Uses right × UsesAlong links

  -- ---- parts of a rule
  by : (u v : Tree) → Some u ≡ Some v → Uses u → Uses v
  by u v e h = subst Uses (same_some e) h

  in_negated : (t u : Tree) → Uses t → negated t ≡ Some u → Uses u
  in_negated (MinusTree at of) u v h = by of u h v
  in_negated t u v h = absurd (let z : None ≡ Some u = h in cc)

  in_turned : (t u : Tree) → Uses t → turned_once t ≡ Some u → Uses u
  in_turned (TurnedTree at of times) u v h = let p = passed (times == 1) (Some of) u h in by of u p.1 v
  in_turned t u v h = absurd (let z : None ≡ Some u = h in cc)

  in_two : (t : Tree) (x : Two) → Uses t → two_operands t ≡ Some x → Uses x.left × Uses x.right
  in_two (ChainTree first (MoreBranches at op right NoBranch)) x v h =
      let k = v.1 in
      subst (λ (y : Two). Uses y.left × Uses y.right) (same_some h) (v.0, k.0)
  in_two (ChainTree first NoBranch) x v h = absurd (let z : None ≡ Some x = h in cc)
  in_two (ChainTree first (MoreBranches at op right (MoreBranches there other another links))) x v h = absurd
      (let z : None ≡ Some x = h in cc)
  in_two t x v h = absurd (let z : None ≡ Some x = h in cc)

  in_operands : (op : Op2) (t : Tree) (x : Tree × Tree) → Uses t → operands_of op t ≡ Some x → Uses x.0 × Uses x.1
  in_operands op t x v h =
      let f = found (two_operands t) _ x h in
      let p = passed (same_operator (f.at).op op) (Some ((f.at).left, (f.at).right)) x f.then in
      subst (λ (y : Tree × Tree). Uses y.0 × Uses y.1) (same_some p.1) (in_two t f.at v f.first)

  -- ---- the rules
  uses_1 : (t u : Tree) → Uses t → double_complement t ≡ Some u → Uses u
  uses_1 t u v h = let f = found (negated t) negated u h in in_negated f.at u (in_negated t f.at v f.first) f.then

  uses_2 : (t u : Tree) → Uses t → many_turns t ≡ Some u → Uses u
  uses_2 (TurnedTree at of times) u v h =
      let p = passed (nat_le 2 times) _ u h in
      by _ u p.1 (either (times % 2 == 0))
    where
      either : (even : Bool) → Uses (cond even of (TurnedTree at of 1))
      either true = v
      either false = v
  uses_2 t u v h = absurd (let z : None ≡ Some u = h in cc)

  uses_3 : (t u : Tree) → Uses t → turned_again t ≡ Some u → Uses u
  uses_3 (TurnedTree at (TurnedTree there of less) times) u v h = by _ u h v
  uses_3 (TurnedTree at (NameTree there name) times) u v h = absurd (let z : None ≡ Some u = h in cc)
  uses_3 (TurnedTree at (CallTree there name args) times) u v h = absurd (let z : None ≡ Some u = h in cc)
  uses_3 (TurnedTree at (BaseTree there base args) times) u v h = absurd (let z : None ≡ Some u = h in cc)
  uses_3 (TurnedTree at (InjectTree there base domain) times) u v h = absurd (let z : None ≡ Some u = h in cc)
  uses_3 (TurnedTree at (PairTree there left right) times) u v h = absurd (let z : None ≡ Some u = h in cc)
  uses_3 (TurnedTree at (MinusTree there of) times) u v h = absurd (let z : None ≡ Some u = h in cc)
  uses_3 (TurnedTree at (ChainTree first links) times) u v h = absurd (let z : None ≡ Some u = h in cc)
  uses_3 t u v h = absurd (let z : None ≡ Some u = h in cc)

  -- links without repeated operands use no other names, by induction: an operand is kept or dropped
  kept_uses : (before : List Tree) (links : Branches) → UsesAlong links → UsesAlong (without_repeats before links)
  kept_uses before NoBranch v = tt
  kept_uses before (MoreBranches at op right links) v =
      either (list_any (λ t. same_tree t right) before) (kept_uses before links v.1)
      (kept_uses (right ∷ before) links v.1)
    where
      either : (b : Bool) → UsesAlong (without_repeats before links)
          → UsesAlong (without_repeats (right ∷ before) links)
          → UsesAlong (cond b (without_repeats before links)
          (MoreBranches at op right (without_repeats (right ∷ before) links)))
      either true i j = i
      either false i j = (v.0, j)

  chain_uses : (first : Tree) (links : Branches) → Uses first → UsesAlong links → Uses (chain_of first links)
  chain_uses first NoBranch v w = v
  chain_uses first (MoreBranches at op right links) v w = (v, w)

  uses_4 : (t u : Tree) → Uses t → repeated_operands t ≡ Some u → Uses u
  uses_4 (ChainTree first links) u v h =
      let p = passed _ _ u h in
      by _ u p.1 (chain_uses first (without_repeats (first ∷ []) links) v.0 (kept_uses (first ∷ []) links v.1))
  uses_4 t u v h = absurd (let z : None ≡ Some u = h in cc)

  uses_5 : (t u : Tree) → Uses t → to_right_residual t ≡ Some u → Uses u
  uses_5 t u v h =
      let f = found (negated t) _ u h in
      let g = found (operands_of Times f.at) _ u f.then in
      let a = found (turned_once (g.at).0) _ u g.then in
      let b = found (negated (g.at).1) _ u a.then in
      let x = in_operands Times f.at g.at (in_negated t f.at v f.first) g.first in
      by _ u b.then (in_turned (g.at).0 a.at x.0 a.first, (in_negated (g.at).1 b.at x.1 b.first, tt))

  uses_6 : (t u : Tree) → Uses t → to_left_residual t ≡ Some u → Uses u
  uses_6 t u v h =
      let f = found (negated t) _ u h in
      let g = found (operands_of Times f.at) _ u f.then in
      let a = found (negated (g.at).0) _ u g.then in
      let b = found (turned_once (g.at).1) _ u a.then in
      let x = in_operands Times f.at g.at (in_negated t f.at v f.first) g.first in
      by _ u b.then (in_negated (g.at).0 a.at x.0 a.first, (in_turned (g.at).1 b.at x.1 b.first, tt))

  uses_7 : (t u : Tree) → Uses t → turned_product t ≡ Some u → Uses u
  uses_7 t u v h =
      let g = found (operands_of Times t) _ u h in
      let a = found (turned_once (g.at).0) _ u g.then in
      let b = found (turned_once (g.at).1) _ u a.then in
      let x = in_operands Times t g.at v g.first in
      by _ u b.then (in_turned (g.at).1 b.at x.1 b.first, (in_turned (g.at).0 a.at x.0 a.first, tt))

  uses_8 : (t u : Tree) → Uses t → turned_operands t ≡ Some u → Uses u
  uses_8 t u v h =
      let g = found (two_operands t) _ u h in
      let p = passed (is_lattice (g.at).op) _ u g.then in
      let a = found (turned_once (g.at).left) _ u p.1 in
      let b = found (turned_once (g.at).right) _ u a.then in
      let x = in_two t g.at v g.first in
      by _ u b.then (in_turned (g.at).left a.at x.0 a.first, (in_turned (g.at).right b.at x.1 b.first, tt))

  uses_9 : (t u : Tree) → Uses t → negated_operands t ≡ Some u → Uses u
  uses_9 t u v h =
      let g = found (two_operands t) _ u h in
      let p = passed (is_lattice (g.at).op) _ u g.then in
      let a = found (negated (g.at).left) _ u p.1 in
      let b = found (negated (g.at).right) _ u a.then in
      let x = in_two t g.at v g.first in
      by _ u b.then (in_negated (g.at).left a.at x.0 a.first, (in_negated (g.at).right b.at x.1 b.first, tt))

  uses_10 : (t u : Tree) → Uses t → to_quotient t ≡ Some u → Uses u
  uses_10 t u v h =
      let g = found (operands_of And t) _ u h in
      let c = found (operands_of Under (g.at).0) _ u g.then in
      let d = found (operands_of Over (g.at).1) _ u c.then in
      let a = found (turned_once (d.at).0) _ u d.then in
      let b = found (turned_once (d.at).1) _ u a.then in
      let p = passed (same_tree (c.at).0 a.at && same_tree (c.at).1 b.at) _ u b.then in
      let x = in_operands And t g.at v g.first in
      let y = in_operands Under (g.at).0 c.at x.0 c.first in
      by _ u p.1 (y.0, (y.1, tt))

  -- ---- steps
  uses_here : (t : Tree) (x : Step × Tree) → Uses t → here t ≡ Some x → Uses x.1
  uses_here t x v h =
      let n = at_node t x h in
      subst Uses n.after (least_by Uses t n.rule (λ u. uses_1 t u v) (λ u. uses_2 t u v) (λ u. uses_3 t u v)
      (λ u. uses_4 t u v) (λ u. uses_5 t u v)
      (λ u. uses_6 t u v) (λ u. uses_7 t u v) (λ u. uses_8 t u v) (λ u. uses_9 t u v) (λ u. uses_10 t u v) n.least)

  mutual
    uses_step : (t : Tree) (x : Step × Tree) → Uses t → next_step t ≡ Some x → Uses x.1
    uses_step (NameTree at name) x v h = uses_here (NameTree at name) x v h
    uses_step (CallTree at name args) x v h = elim (in_part (CallTree at name) (next_in args)
        (here (CallTree at name args)) x h) [
          | inl p ↦ subst Uses p.after (uses_in args p.part v p.first)
          | inr q ↦ uses_here (CallTree at name args) x v q
        ]
    uses_step (BaseTree at base args) x v h = elim (in_part (BaseTree at base) (next_in args)
        (here (BaseTree at base args)) x h) [
          | inl p ↦ subst Uses p.after (uses_in args p.part v p.first)
          | inr q ↦ uses_here (BaseTree at base args) x v q
        ]
    uses_step (InjectTree at base domain) x v h = uses_here (InjectTree at base domain) x v h
    uses_step (PairTree at left right) x v h = elim (in_part (λ t. PairTree at t right) (next_step left)
        (inside (PairTree at left) (next_step right) (here (PairTree at left right))) x h) [
          | inl p ↦ subst Uses p.after (uses_step left p.part v.0 p.first, v.1)
          | inr q ↦ elim (in_part (PairTree at left) (next_step right) (here (PairTree at left right)) x q) [
            | inl p ↦ subst Uses p.after (v.0, uses_step right p.part v.1 p.first)
            | inr r ↦ uses_here (PairTree at left right) x v r
          ]
        ]
    uses_step (MinusTree at of) x v h = elim (in_part (MinusTree at) (next_step of) (here (MinusTree at of)) x h) [
      | inl p ↦ subst Uses p.after (uses_step of p.part v p.first)
      | inr q ↦ uses_here (MinusTree at of) x v q
    ]
    uses_step (TurnedTree at of times) x v h = elim (in_part (λ t. TurnedTree at t times) (next_step of)
        (here (TurnedTree at of times)) x h) [
          | inl p ↦ subst Uses p.after (uses_step of p.part v p.first)
          | inr q ↦ uses_here (TurnedTree at of times) x v q
        ]
    uses_step (ChainTree first links) x v h = elim (in_part (λ t. ChainTree t links) (next_step first)
        (inside (ChainTree first) (next_along links) (here (ChainTree first links))) x h) [
          | inl p ↦ subst Uses p.after (uses_step first p.part v.0 p.first, v.1)
          | inr q ↦ elim (in_part (ChainTree first) (next_along links) (here (ChainTree first links)) x q) [
            | inl p ↦ subst Uses p.after (v.0, uses_along links p.part v.1 p.first)
            | inr r ↦ uses_here (ChainTree first links) x v r
          ]
        ]

    uses_in : (args : Trees) (x : Step × Trees) → UsesIn args → next_in args ≡ Some x → UsesIn x.1
    uses_in NoTree x v h = absurd (let z : None ≡ Some x = h in cc)
    uses_in (MoreTrees t args) x v h = elim (in_part (λ u. MoreTrees u args) (next_step t)
        (inside (MoreTrees t) (next_in args) None) x h) [
          | inl p ↦ subst UsesIn p.after (uses_step t p.part v.0 p.first, v.1)
          | inr q ↦ elim (in_part (MoreTrees t) (next_in args) None x q) [
            | inl p ↦ subst UsesIn p.after (v.0, uses_in args p.part v.1 p.first)
            | inr r ↦ absurd (let z : None ≡ Some x = r in cc)
          ]
        ]

    uses_along : (links : Branches) (x : Step × Branches) → UsesAlong links → next_along links ≡ Some x → UsesAlong x.1
    uses_along NoBranch x v h = absurd (let z : None ≡ Some x = h in cc)
    uses_along (MoreBranches at op right links) x v h = elim
        (in_part (λ t. MoreBranches at op t links) (next_step right)
        (inside (MoreBranches at op right) (next_along links) None) x h) [
          | inl p ↦ subst UsesAlong p.after (uses_step right p.part v.0 p.first, v.1)
          | inr q ↦ elim (in_part (MoreBranches at op right) (next_along links) None x q) [
            | inl p ↦ subst UsesAlong p.after (v.0, uses_along links p.part v.1 p.first)
            | inr r ↦ absurd (let z : None ≡ Some x = r in cc)
          ]
        ]

  uses_within : (k : ℕ) (t : Tree) → Uses t → Uses (calm_within k t)
  uses_within zero t v = v
  uses_within (suc k) t v = at_step (next_step t) refl (λ x. uses_within k x.1)
    where
      at_step : (o : Option (Step × Tree)) → next_step t ≡ o → ((x : Step × Tree) → Uses x.1 → Uses (calm_within k x.1))
          → Uses (calm_behind t o (calm_within k))
      at_step None e f = v
      at_step (Some x) e f = f x (uses_step t x v e)

  pub uses_calmed : (t : Tree) → Uses t → Uses (calmed t)
  unfolding calmed
  uses_calmed t v = uses_within (weight t) t v

-- ---- two states
module _ (s t : State) where
  -- they agree on a name
  abbrev pub Same : List ℕ → Type 0
  Same name = s name ≡ t name

  pub left_of : (xs ys : List (List ℕ)) → AgreeOn s t (xs ++ ys) → AgreeOn s t xs
  left_of [] ys h = tt
  left_of (x ∷ xs) ys h = (h.0, left_of xs ys h.1)

  -- states that agree on two lists of names agree on the second, by induction on the first
  pub right_of : (xs ys : List (List ℕ)) → AgreeOn s t (xs ++ ys) → AgreeOn s t ys
  right_of [] ys h = h
  right_of (x ∷ xs) ys h = right_of xs ys h.1

  mutual
    pub uses_names : (e : Expr) → AgreeOn s t (names_in e) → Uses Same (tree_of e)
    uses_names (Ref at name) h = h.0
    uses_names (Call' at name sh args) h = uses_all args h
    uses_names (Base' at base sh args) h = uses_all args h
    uses_names (Inject at base domain) h = tt
    uses_names (Pair' at p left q right) h = (
      uses_names left
          (left_of (names_in left) (names_in right) h),
      uses_names right (right_of (names_in left) (names_in right) h),
    )
    uses_names (Minus' at p of) h = uses_names of h
    uses_names (Turned' at p of times) h = uses_names of h
    uses_names (Chain' p first sh rest) h = (
      uses_names first
          (left_of (names_in first) (names_along rest) h),
      uses_links rest
          (right_of (names_in first) (names_along rest) h),
    )

    uses_all : {m : _} (k : Row_of-Expr m) → AgreeOn s t (names_in_all k) → UsesIn Same (trees_of k)
    uses_all end_of-Expr h = tt
    uses_all (more_of-Expr e rest) h = (
      uses_names e (left_of (names_in e) (names_in_all rest) h),
      uses_all rest
          (right_of (names_in e) (names_in_all rest) h),
    )

    uses_links : {m : _} (k : Row_of-Link m) → AgreeOn s t (names_along k) → UsesAlong Same (branches_of k)
    uses_links end_of-Link h = tt
    uses_links (more_of-Link at op right rest) h = (
      uses_names right
          (left_of (names_in right) (names_along rest) h),
      uses_links rest
          (right_of (names_in right) (names_along rest) h),
    )

  module _ (calls : Calls) where
    mutual
      pub same_tree_mean : (e : Tree) (n : ℕ) → Uses Same e
          → mean_tree (around_with calls []) s e n ≡ mean_tree (around_with calls []) t e n
      same_tree_mean (NameTree at name) n h = ap (λ (o : Option Relation). with_turns (named at name o) n) h
      same_tree_mean (CallTree at name args) n h = λ i. and_then (same_trees_mean [] args n h i)
          (λ vs m. calls at name vs m)
      same_tree_mean (BaseTree at base args) n h = λ i. and_then (same_trees_mean [] args n h i)
          (λ vs m. with_turns (based at base vs) m)
      same_tree_mean (InjectTree at base domain) n h = refl
      same_tree_mean (PairTree at left right) n h = λ i.
          and_then (same_tree_mean left n h.0 i) (λ l m. and_then (same_tree_mean right m h.1 i)
          (λ r k. with_turns (paired at l r) k))
      same_tree_mean (MinusTree at of) n h = λ i. and_then (same_tree_mean of n h i)
          (λ r m. with_turns (complemented r) m)
      same_tree_mean (TurnedTree at of times) n h = λ i. and_then (same_tree_mean of n h i)
          (λ r m. with_turns (turned times r) m)
      same_tree_mean (ChainTree first links) n h = λ i. and_then (same_tree_mean first n h.0 i)
          (λ r m. same_along_mean r links m h.1 i)

      same_trees_mean : (vs : List Relation) (args : Trees) (n : ℕ) → UsesIn Same args
          → mean_trees (around_with calls []) s vs args n ≡ mean_trees (around_with calls []) t vs args n
      same_trees_mean vs NoTree n h = refl
      same_trees_mean vs (MoreTrees e args) n h = λ i. and_then (same_tree_mean e n h.0 i)
          (λ r m. same_trees_mean (vs ++ r ∷ []) args m h.1 i)

      same_along_mean : (r : Relation) (links : Branches) (n : ℕ) → UsesAlong Same links
          → mean_branches (around_with calls []) s r links n ≡ mean_branches (around_with calls []) t r links n
      same_along_mean r NoBranch n h = refl
      same_along_mean r (MoreBranches at op right links) n h = λ i.
          and_then (same_tree_mean right n h.0 i) (λ v m. and_then (with_turns (linked at op r v) m)
          (λ w k. same_along_mean w links k h.1 i))
