-- Each rule keeps the value of a calm tree whose types fit.
use Rattle.std.proofs.Common.{◌≡◌, ◌≢◌, ◌∙◌, ◌==◌, ◌&&◌, ◌+◌, ◌/◌, ◌%◌, nat_le, ℕ, Bool, true, false, cond, Some, None, refl, sym, ap, subst, arith}
use Rattle.std.proofs.lemmas.Bool.{and_parts, and_from, eqb-true, false≢true}
use Rattle.lang_model.specs.declared.syntax.Place.{Place}
use Rattle.lang_model.specs.declared.syntax.Op2.{Op2}
use Rattle.lang_model.specs.declared.syntax.Op2.TheVariants.{Or, And, Times, Under, Over}
use Rattle.rel_model.specs.Relation.{Relation, IsRelation, relation_of}
use Rattle.rel_model.specs.Operators.{inter, complement, transpose, transposed_by, compose, left_residual, right_residual}
use Rattle.rel_model.specs.Algebra.{HasType}
use Rattle.rel_model.proofs.AlgebraLaws.{transpose_laws, residual_laws, quotient_by_residuals}
use Rattle.rel_model.proofs.RuleLaws.{turn_laws, complement_laws}
use Rattle.lang_model.specs.State.{State}
use Rattle.lang_model.specs.Trees.{Tree, NameTree, CallTree, BaseTree, InjectTree, PairTree, MinusTree, TurnedTree, ChainTree, NoBranch, MoreBranches}
use Rattle.lang_model.specs.Types.{sizes, takes}
use Rattle.lang_model.specs.Mean.{result_of_both}
use Rattle.lang_model.specs.Rewriting.{same_operator, same_tree, negated, turned_once, Two, two_operands, operands_of, two, place_of_node, is_lattice, dual, double_complement, many_turns, turned_again, to_right_residual, to_left_residual, turned_product, turned_operands, negated_operands, to_quotient}
use Rattle.lang_model.proofs.Values.{value, HasValue, valid-value, sizes-complement, sizes-transpose}
use Rattle.lang_model.proofs.Sizes.{both_fit, one_fits, equal_passes}
use Rattle.lang_model.proofs.Sameness.{found, passed, same_some, same_op, same_value}

-- ---- relations and their sizes
-- a relation and its sizes
own : (r : Relation) → IsRelation r → HasType r.rows r.cols r
own r v = record { valid = v; row_size = refl; col_size = refl }

-- sizes of transposed relations and of complements
rows_of : (r : Relation) → r.cols ≡ (transpose r).rows
unfolding transpose relation_of
rows_of r = refl

cols_of : (r : Relation) → r.rows ≡ (transpose r).cols
unfolding transpose relation_of
cols_of r = refl

complement_rows : (r : Relation) → r.rows ≡ (complement r).rows
unfolding complement relation_of
complement_rows r = refl

complement_cols : (r : Relation) → r.cols ≡ (complement r).cols
unfolding complement relation_of
complement_cols r = refl

-- a relation of other sizes that are equal
own_at : (r : Relation) (m n : ℕ) → IsRelation r → r.rows ≡ m → r.cols ≡ n → HasType m n r
own_at r m n v e f = record { valid = v; row_size = e; col_size = f }

-- a tree has a value, and it is this one
pub record Means (S : State) (t : Tree) (r : Relation) : Type 0 where
  pub has : HasValue S t
  pub value : value S t ≡ r

-- two trees have values with an operator between them, and it takes them
pub record MeansBoth (S : State) (op : Op2) (left right : Tree) (r : Relation) : Type 0 where
  pub has_left : HasValue S left
  pub has_right : HasValue S right
  pub fits : takes op (sizes (value S left)) (sizes (value S right)) ≡ true
  pub made : r ≡ result_of_both op (value S left) (value S right)

module _ (S : State) where
  -- the operand of a -, and of a single ^
  pub of_negated : (t u : Tree) → HasValue S t → negated t ≡ Some u
      → HasValue S u × (value S t ≡ complement (value S u))
  of_negated (MinusTree at of) u v h = (
    subst (HasValue S) (same_some h) v,
    ap (λ x. complement (value S x))
        (same_some h),
  )
  of_negated (NameTree at name) u v h = absurd (let z : None ≡ Some u = h in cc)
  of_negated (CallTree at name args) u v h = absurd v
  of_negated (BaseTree at base args) u v h = absurd (let z : None ≡ Some u = h in cc)
  of_negated (InjectTree at base domain) u v h = absurd v
  of_negated (PairTree at left right) u v h = absurd v
  of_negated (TurnedTree at of times) u v h = absurd (let z : None ≡ Some u = h in cc)
  of_negated (ChainTree first links) u v h = absurd (let z : None ≡ Some u = h in cc)

  -- a tree turned once has its operand's value transposed: it is a ^ with one sign
  pub of_turned : (t u : Tree) → HasValue S t → turned_once t ≡ Some u
      → HasValue S u × (value S t ≡ transpose (value S u))
  of_turned (TurnedTree at of times) u v h =
      let p = passed (times == 1) (Some of) u h in (
        subst (HasValue S) (same_some p.1) v,
        ap (λ n. transposed_by n (value S of)) (eqb-true times 1 p.0)
            ∙ ap (λ x. transpose (value S x)) (same_some p.1),
      )
  of_turned (NameTree at name) u v h = absurd (let z : None ≡ Some u = h in cc)
  of_turned (CallTree at name args) u v h = absurd v
  of_turned (BaseTree at base args) u v h = absurd (let z : None ≡ Some u = h in cc)
  of_turned (InjectTree at base domain) u v h = absurd v
  of_turned (PairTree at left right) u v h = absurd v
  of_turned (MinusTree at of) u v h = absurd (let z : None ≡ Some u = h in cc)
  of_turned (ChainTree first links) u v h = absurd (let z : None ≡ Some u = h in cc)

  -- the operands of a chain of two
  pub of_two : (t : Tree) (x : Two) → HasValue S t → two_operands t ≡ Some x
      → MeansBoth S x.op x.left x.right (value S t)
  of_two (ChainTree first (MoreBranches at op right NoBranch)) x v h =
      let k = v.1 in
      let j = k.1 in
      subst (λ y. MeansBoth S y.op y.left y.right (value S (two at first op right))) (same_some h)
      (record { has_left = v.0; has_right = k.0; fits = j.0; made = refl })
  of_two (ChainTree first NoBranch) x v h = absurd (let z : None ≡ Some x = h in cc)
  of_two (ChainTree first (MoreBranches at op right (MoreBranches there other another links))) x v h = absurd
      (let z : None ≡ Some x = h in cc)
  of_two (NameTree at name) x v h = absurd (let z : None ≡ Some x = h in cc)
  of_two (CallTree at name args) x v h = absurd v
  of_two (BaseTree at base args) x v h = absurd (let z : None ≡ Some x = h in cc)
  of_two (InjectTree at base domain) x v h = absurd v
  of_two (PairTree at left right) x v h = absurd v
  of_two (MinusTree at of) x v h = absurd (let z : None ≡ Some x = h in cc)
  of_two (TurnedTree at of times) x v h = absurd (let z : None ≡ Some x = h in cc)

  pub of_operands : (op : Op2) (t : Tree) (x : Tree × Tree) → HasValue S t → operands_of op t ≡ Some x
      → MeansBoth S op x.0 x.1 (value S t)
  of_operands op t x v h =
      let f = found (two_operands t) _ x h in
      let p = passed (same_operator (f.at).op op) (Some ((f.at).left, (f.at).right)) x f.then in
      let m = of_two t f.at v f.first in
      subst (λ y. MeansBoth S op y.0 y.1 (value S t)) (same_some p.1)
      (subst (λ o. MeansBoth S o (f.at).left (f.at).right (value S t)) (same_op (f.at).op op p.0) m)

  -- a chain of two
  pub both : (at : Place) (left right : Tree) (op : Op2) → HasValue S left → HasValue S right
      → takes op (sizes (value S left)) (sizes (value S right)) ≡ true → HasValue S (two at left op right)
  both at left right op l r t = (l, (r, (t, tt)))

  -- ---- 1 to 3
  pub one : (t u : Tree) → HasValue S t → double_complement t ≡ Some u → Means S u (value S t)
  one t u v h =
      let f = found (negated t) negated u h in
      let a = of_negated t f.at v f.first in
      let b = of_negated f.at u a.0 f.then in
      record {
        has = b.0;
        value = sym (a.1 ∙ ap complement b.1
            ∙ complement_laws.twice (value S u) (valid-value S u b.0));
      }

  -- an even number of turns is none, and an odd one is a single turn: a relation transposed twice is itself
  two_turns : (at : Place) (of : Tree) (times : ℕ) (even : Bool) → (times % 2 == 0) ≡ even → HasValue S of
      → Means S (cond even of (TurnedTree at of 1)) (transposed_by times (value S of))
  two_turns at of times true e v =
      let k : ℕ = times / 2 in
      let i = eqb-true (times % 2) 0 e in
      let d : times ≡ k + k = omega (arith, i) in
      record {
        has = v;
        value = sym (ap (λ n. transposed_by n (value S of)) d
            ∙ turn_laws.even k (value S of) (valid-value S of v));
      }
  two_turns at of times false e v =
      let k : ℕ = times / 2 in
      let i : times % 2 ≢ 0 = λ g. false≢true (sym e ∙ equal_passes (times % 2) 0 g) in
      let d : times ≡ k + k + 1 = omega (arith, i) in
      record {
        has = v;
        value = sym (ap (λ n. transposed_by n (value S of)) d
            ∙ turn_laws.odd k (value S of) (valid-value S of v));
      }

  -- so more turns than one may be cut down to none or one, by whether their number is even
  pub turns : (t u : Tree) → HasValue S t → many_turns t ≡ Some u → Means S u (value S t)
  turns (TurnedTree at of times) u v h =
      let p = passed (nat_le 2 times) _ u h in
      subst (λ x. Means S x (transposed_by times (value S of))) (same_some p.1)
      (two_turns at of times (times % 2 == 0) refl v)
  turns (NameTree at name) u v h = absurd (let z : None ≡ Some u = h in cc)
  turns (CallTree at name args) u v h = absurd v
  turns (BaseTree at base args) u v h = absurd (let z : None ≡ Some u = h in cc)
  turns (InjectTree at base domain) u v h = absurd v
  turns (PairTree at left right) u v h = absurd v
  turns (MinusTree at of) u v h = absurd (let z : None ≡ Some u = h in cc)
  turns (ChainTree first links) u v h = absurd (let z : None ≡ Some u = h in cc)

  -- turns of turns are as many as both numbers together, since transposing so many times and again so many adds up
  pub again : (t u : Tree) → HasValue S t → turned_again t ≡ Some u → Means S u (value S t)
  again (TurnedTree at (TurnedTree there of less) times) u v h =
      subst (λ x. Means S x (transposed_by times (transposed_by less (value S of)))) (same_some h)
      (record { has = v; value = sym (turn_laws.more times less (value S of)) })
  again (TurnedTree at (NameTree there name) times) u v h = absurd (let z : None ≡ Some u = h in cc)
  again (TurnedTree at (CallTree there name args) times) u v h = absurd v
  again (TurnedTree at (BaseTree there base args) times) u v h = absurd (let z : None ≡ Some u = h in cc)
  again (TurnedTree at (InjectTree there base domain) times) u v h = absurd v
  again (TurnedTree at (PairTree there left right) times) u v h = absurd v
  again (TurnedTree at (MinusTree there of) times) u v h = absurd (let z : None ≡ Some u = h in cc)
  again (TurnedTree at (ChainTree first links) times) u v h = absurd (let z : None ≡ Some u = h in cc)
  again (NameTree at name) u v h = absurd (let z : None ≡ Some u = h in cc)
  again (CallTree at name args) u v h = absurd v
  again (BaseTree at base args) u v h = absurd (let z : None ≡ Some u = h in cc)
  again (InjectTree at base domain) u v h = absurd v
  again (PairTree at left right) u v h = absurd v
  again (MinusTree at of) u v h = absurd (let z : None ≡ Some u = h in cc)
  again (ChainTree first links) u v h = absurd (let z : None ≡ Some u = h in cc)

  -- ---- 5 to 9
  -- what an operator takes, of operands with these values
  taken : (op : Op2) (l r x y : Relation) → l ≡ x → r ≡ y → takes op (sizes l) (sizes r) ≡ true
      → takes op (sizes x) (sizes y) ≡ true
  taken op l r x y e f h = sym (λ i. takes op (sizes (e i)) (sizes (f i))) ∙ h

  -- `-(R^*-S)` has the value of `R\S`, by the law of the right residual: as the product's operands
  -- fit, R and S have as many rows
  pub right_residual_rule : (t u : Tree) → HasValue S t → to_right_residual t ≡ Some u → Means S u (value S t)
  right_residual_rule t u v h =
      let f = found (negated t) _ u h in
      let g = found (operands_of Times f.at) _ u f.then in
      let a = found (turned_once (g.at).0) _ u g.then in
      let b = found (negated (g.at).1) _ u a.then in
      let n = of_negated t f.at v f.first in
      let m = of_operands Times f.at g.at n.0 g.first in
      let r = of_turned (g.at).0 a.at m.has_left a.first in
      let s = of_negated (g.at).1 b.at m.has_right b.first in
      let R = value S a.at in
      let Q = value S b.at in
      let k = rows_agree R Q (taken Times (value S (g.at).0) (value S (g.at).1) (transpose R)
      (complement Q) r.1 s.1 m.fits) in
      subst (λ x. Means S x (value S t)) (same_some b.then)
      (record {
        has = both (place_of_node t) a.at b.at Under r.0 s.0 (equal_passes R.rows Q.rows k);
        value = residual_laws.right R.rows R.cols Q.cols R Q (own R (valid-value S a.at r.0))
            (own_at Q R.rows Q.cols (valid-value S b.at s.0) (sym k) refl)
            ∙ sym (n.1 ∙ ap complement (m.made ∙ (λ i. compose (r.1 i) (s.1 i))));
      })
    where
      rows_agree : (R Q : Relation) → takes Times (sizes (transpose R)) (sizes (complement Q)) ≡ true → R.rows ≡ Q.rows
      rows_agree R Q h = one_fits R.rows Q.rows (sym (λ i. takes Times (sizes-transpose R i) (sizes-complement Q i))
          ∙ h)

  -- `-(-S*R^)` has the value of `S/R`, by the law of the left residual: here S and R have as many columns
  pub left_residual_rule : (t u : Tree) → HasValue S t → to_left_residual t ≡ Some u → Means S u (value S t)
  left_residual_rule t u v h =
      let f = found (negated t) _ u h in
      let g = found (operands_of Times f.at) _ u f.then in
      let a = found (negated (g.at).0) _ u g.then in
      let b = found (turned_once (g.at).1) _ u a.then in
      let n = of_negated t f.at v f.first in
      let m = of_operands Times f.at g.at n.0 g.first in
      let s = of_negated (g.at).0 a.at m.has_left a.first in
      let r = of_turned (g.at).1 b.at m.has_right b.first in
      let Q = value S a.at in
      let R = value S b.at in
      let k = cols_agree Q R (taken Times (value S (g.at).0) (value S (g.at).1) (complement Q)
      (transpose R) s.1 r.1 m.fits) in
      subst (λ x. Means S x (value S t)) (same_some b.then)
      (record {
        has = both (place_of_node t) a.at b.at Over s.0 r.0 (equal_passes Q.cols R.cols k);
        value = residual_laws.left Q.rows R.rows R.cols R Q (own R (valid-value S b.at r.0))
            (own_at Q Q.rows R.cols (valid-value S a.at s.0) refl k)
            ∙ sym (n.1 ∙ ap complement (m.made ∙ (λ i. compose (s.1 i) (r.1 i))));
      })
    where
      cols_agree : (Q R : Relation) → takes Times (sizes (complement Q)) (sizes (transpose R)) ≡ true → Q.cols ≡ R.cols
      cols_agree Q R h = one_fits Q.cols R.cols (sym (λ i. takes Times (sizes-complement Q i) (sizes-transpose R i))
          ∙ h)

  -- `R^*S^` has the value of `(S*R)^`: transposition turns a composition around
  pub product_rule : (t u : Tree) → HasValue S t → turned_product t ≡ Some u → Means S u (value S t)
  product_rule t u v h =
      let g = found (operands_of Times t) _ u h in
      let a = found (turned_once (g.at).0) _ u g.then in
      let b = found (turned_once (g.at).1) _ u a.then in
      let m = of_operands Times t g.at v g.first in
      let r = of_turned (g.at).0 a.at m.has_left a.first in
      let s = of_turned (g.at).1 b.at m.has_right b.first in
      let R = value S a.at in
      let Q = value S b.at in
      let k = middle_agrees R Q (taken Times (value S (g.at).0) (value S (g.at).1) (transpose R)
      (transpose Q) r.1 s.1 m.fits) in
      subst (λ x. Means S x (value S t)) (same_some b.then)
      (record {
        has = both (place_of_node t) b.at a.at Times s.0 r.0 (equal_passes Q.cols R.rows (sym k));
        value = transpose_laws.compose Q.rows Q.cols R.cols Q R (own Q (valid-value S b.at s.0))
            (own_at R Q.cols R.cols (valid-value S a.at r.0) k refl)
            ∙ sym (m.made ∙ (λ i. compose (r.1 i) (s.1 i)));
      })
    where
      middle_agrees : (R Q : Relation) → takes Times (sizes (transpose R)) (sizes (transpose Q)) ≡ true
          → R.rows ≡ Q.cols
      middle_agrees R Q h = one_fits R.rows Q.cols (sym (λ i. takes Times (sizes-transpose R i) (sizes-transpose Q i))
          ∙ h)

  -- both sizes of the operands of | and & are equal
  pub lattice_agrees : (op : Op2) → is_lattice op ≡ true → (r s : Relation) → takes op (sizes r) (sizes s) ≡ true
      → (r.rows ≡ s.rows) × (r.cols ≡ s.cols)
  lattice_agrees Or l r s h = both_fit r.rows r.cols s.rows s.cols h
  lattice_agrees And l r s h = both_fit r.rows r.cols s.rows s.cols h
  lattice_agrees op l r s h = absurd (false≢true l)

  lattice_takes : (op : Op2) → is_lattice op ≡ true → (r s : Relation) → r.rows ≡ s.rows → r.cols ≡ s.cols
      → takes op (sizes r) (sizes s) ≡ true
  lattice_takes Or l r s e f = and_from _ _ (equal_passes r.rows s.rows e) (equal_passes r.cols s.cols f)
  lattice_takes And l r s e f = and_from _ _ (equal_passes r.rows s.rows e) (equal_passes r.cols s.cols f)
  lattice_takes op l r s e f = absurd (false≢true l)

  turned_lattice : (op : Op2) → is_lattice op ≡ true → (m n : ℕ) (r s : Relation) → HasType m n r → HasType m n s
      → transpose (result_of_both op r s) ≡ result_of_both op (transpose r) (transpose s)
  turned_lattice Or l m n r s t u = transpose_laws.union m n r s t u
  turned_lattice And l m n r s t u = transpose_laws.inter m n r s t u
  turned_lattice op l m n r s t u = absurd (false≢true l)

  negated_lattice : (op : Op2) → is_lattice op ≡ true → (m n : ℕ) (r s : Relation) → HasType m n r → HasType m n s
      → complement (result_of_both (dual op) r s) ≡ result_of_both op (complement r) (complement s)
  negated_lattice Or l m n r s t u = sym (complement_laws.of_union m n r s t u)
  negated_lattice And l m n r s t u = sym (complement_laws.of_inter m n r s t u)
  negated_lattice op l m n r s t u = absurd (false≢true l)

  dual_lattice : (op : Op2) → is_lattice op ≡ true → is_lattice (dual op) ≡ true
  dual_lattice Or l = refl
  dual_lattice And l = refl
  dual_lattice op l = absurd (false≢true l)

  -- `R^|S^` has the value of `(R|S)^`, and so for &: transposition passes through both
  pub turned_rule : (t u : Tree) → HasValue S t → turned_operands t ≡ Some u → Means S u (value S t)
  turned_rule t u v h =
      let g = found (two_operands t) _ u h in
      let o = (g.at).op in
      let p = passed (is_lattice o) _ u g.then in
      let a = found (turned_once (g.at).left) _ u p.1 in
      let b = found (turned_once (g.at).right) _ u a.then in
      let m = of_two t g.at v g.first in
      let r = of_turned (g.at).left a.at m.has_left a.first in
      let s = of_turned (g.at).right b.at m.has_right b.first in
      let R = value S a.at in
      let Q = value S b.at in
      let k = lattice_agrees o p.0 (transpose R) (transpose Q)
      (taken o (value S (g.at).left) (value S (g.at).right) (transpose R) (transpose Q) r.1 s.1 m.fits) in
      let e = rows_back R Q k.1 in
      let f = cols_back R Q k.0 in
      subst (λ x. Means S x (value S t)) (same_some b.then)
      (record {
        has = both (place_of_node t) a.at b.at o r.0 s.0 (lattice_takes o p.0 R Q e f);
        value = turned_lattice o p.0 R.rows R.cols R Q (own R (valid-value S a.at r.0))
            (own_at Q R.rows R.cols (valid-value S b.at s.0) (sym e) (sym f))
            ∙ sym (m.made ∙ (λ i. result_of_both o (r.1 i) (s.1 i)));
      })
    where
      rows_back : (R Q : Relation) → (transpose R).cols ≡ (transpose Q).cols → R.rows ≡ Q.rows
      rows_back R Q h = cols_of R ∙ h ∙ sym (cols_of Q)

      cols_back : (R Q : Relation) → (transpose R).rows ≡ (transpose Q).rows → R.cols ≡ Q.cols
      cols_back R Q h = rows_of R ∙ h ∙ sym (rows_of Q)

  -- `-R&-S` has the value of `-(R|S)`, and so for | and & exchanged, by De Morgan's laws
  pub negated_rule : (t u : Tree) → HasValue S t → negated_operands t ≡ Some u → Means S u (value S t)
  negated_rule t u v h =
      let g = found (two_operands t) _ u h in
      let o = (g.at).op in
      let p = passed (is_lattice o) _ u g.then in
      let a = found (negated (g.at).left) _ u p.1 in
      let b = found (negated (g.at).right) _ u a.then in
      let m = of_two t g.at v g.first in
      let r = of_negated (g.at).left a.at m.has_left a.first in
      let s = of_negated (g.at).right b.at m.has_right b.first in
      let R = value S a.at in
      let Q = value S b.at in
      let k = lattice_agrees o p.0 (complement R) (complement Q)
      (taken o (value S (g.at).left) (value S (g.at).right) (complement R) (complement Q) r.1 s.1 m.fits) in
      let e = complement_rows R ∙ k.0 ∙ sym (complement_rows Q) in
      let f = complement_cols R ∙ k.1 ∙ sym (complement_cols Q) in
      subst (λ x. Means S x (value S t)) (same_some b.then)
      (record {
        has = both (place_of_node t) a.at b.at (dual o) r.0 s.0 (lattice_takes (dual o) (dual_lattice o p.0) R Q e f);
        value = negated_lattice o p.0 R.rows R.cols R Q (own R (valid-value S a.at r.0))
            (own_at Q R.rows R.cols (valid-value S b.at s.0) (sym e) (sym f))
            ∙ sym (m.made ∙ (λ i. result_of_both o (r.1 i) (s.1 i)));
      })

  -- ---- 10
  -- `(R\S)&R^/S^` has the value of `syq(R,S)`: the symmetric quotient is the intersection of the two residuals, and
  -- trees that are one up to places have one value
  pub quotient_rule : (t u : Tree) → HasValue S t → to_quotient t ≡ Some u → Means S u (value S t)
  quotient_rule t u v h =
      let g = found (operands_of And t) _ u h in
      let c = found (operands_of Under (g.at).0) _ u g.then in
      let d = found (operands_of Over (g.at).1) _ u c.then in
      let a = found (turned_once (d.at).0) _ u d.then in
      let b = found (turned_once (d.at).1) _ u a.then in
      let p = passed (same_tree (c.at).0 a.at && same_tree (c.at).1 b.at) _ u b.then in
      let q = and_parts _ _ p.0 in
      let m = of_operands And t g.at v g.first in
      let x = of_operands Under (g.at).0 c.at m.has_left c.first in
      let y = of_operands Over (g.at).1 d.at m.has_right d.first in
      let r = of_turned (d.at).0 a.at y.has_left a.first in
      let s = of_turned (d.at).1 b.at y.has_right b.first in
      let R = value S (c.at).0 in
      let Q = value S (c.at).1 in
      let e : value S (d.at).0 ≡ transpose R = r.1 ∙ ap transpose (sym (same_value S (c.at).0 a.at q.0)) in
      let f : value S (d.at).1 ≡ transpose Q = s.1 ∙ ap transpose (sym (same_value S (c.at).1 b.at q.1)) in
      let w : value S (g.at).1 ≡ left_residual (transpose R) (transpose Q) =
      y.made ∙ (λ j. left_residual (e j) (f j)) in
      let z : value S t ≡ inter (right_residual R Q) (left_residual (transpose R) (transpose Q)) =
      m.made ∙ (λ i. inter (x.made i) (w i)) in
      let k = one_fits R.rows Q.rows x.fits in
      subst (λ z. Means S z (value S t)) (same_some p.1)
      (record {
        has = (refl, ((x.has_left, (x.has_right, tt)), x.fits));
        value = quotient_by_residuals R.rows R.cols Q.cols R Q (own R (valid-value S (c.at).0 x.has_left))
            (own_at Q R.rows Q.cols (valid-value S (c.at).1 x.has_right) (sym k) refl)
            ∙ sym z;
      })
