-- What the calls find is what the definitions say, by membership (Schmidt and Ströhlein, Relations and Graphs).
-- 1. A pair of two different elements is one of the strict order or of its transpose.
-- 2. Steps without one between are the proper pairs that no two of them make.
-- 3. The elements that one follows are the rows of r & less^ that have a pair: the others lead.
-- 4. Those that lead by equal columns are the least of their classes; their places in order are the numbers of the classes, and an element has the number of the one that leads its class.
use Rattle.std.proofs.Common.{◌≡◌, ◌<◌, ◌+◌, ◌∙◌, ◌&&◌, eqb, ltb, not, cond, zero, suc, ℕ, Bool, true, false, refl, sym, ap, subst, arith, inl, inr}
use Rattle.std.proofs.lemmas.Bool.{cases_lt, lt-ltb, ltb-true, ne_eqb, not_from_false, not-true, eqb-false}
use Rattle.rel_model.specs.Relation.{Relation, has}
use Rattle.rel_model.specs.Cells.{some_below}
use Rattle.rel_model.specs.Choice.{holds, count_below, inj}
use Rattle.rel_model.specs.Operators.{full, union, inter, diff, complement, transpose, compose, symmetric_quotient, differ}
use Rattle.rel_model.specs.Algebra.{HasType}
use Rattle.rel_model.specs.Orders.{less, hasse, is_proper, same_column, leads, class_count, is_in_class, classes}
use Rattle.rel_model.proofs.Members.{type-test, in_test, from_test, in_union, left_union, right_union, type-inter, in_inter, from_inter, type-transpose, in_transpose, from_transpose, type-compose, in_compose, from_compose, type-quotient}
use Rattle.rel_model.proofs.OperatorLaws.{relation_of-sizes, diff-full, cols-transpose}
use Rattle.rel_model.proofs.Relations.{rows-relation_of, cols-relation_of, has-relation_of, relation_of-agree}
use Rattle.rel_model.proofs.Somes.{same_truth, some_from, some_passes, some_agree}
use Rattle.rel_order.specs.Steps.{proper_pairs, leading}

-- ---- the strict order
pub type-less : (n : ℕ) → HasType n n (less n)
unfolding less
type-less n = type-test n n n n _ refl refl

in_less : (n i j : ℕ) → has (less n) i j ≡ true → i < j
unfolding less
in_less n i j h = ltb-true i j (in_test n n n n (λ i j. ltb i j) refl refl i j h)

from_less : (n i j : ℕ) → i < j → j < n → has (less n) i j ≡ true
unfolding less
from_less n i j l m = from_test n n n n (λ i j. ltb i j) refl refl i j (omega (arith, l, m)) m (lt-ltb i j l)

-- ---- the pairs of two different elements
module _ (n : ℕ) (r : Relation) (t : HasType n n r) where
  abbrev pub apart : Relation
  apart = union (less n) (transpose (less n))

  apart-has : (i j : ℕ) → i < n → j < n → has apart i j ≡ not (eqb i j)
  apart-has i j a b = same_truth (has apart i j) (not (eqb i j))
      (λ h. not_from_false (eqb i j) (ne_eqb i j (λ e. elim (in_union n n (less n) (transpose (less n)) (type-less n) i j h) [
        | inl g ↦ (let l = in_less n i j g in omega (arith, l, e))
        | inr g ↦ (let l = in_less n j i (in_transpose (less n) i j g) in omega (arith, l, e))
      ])))
      (λ h. let d = eqb-false i j (not-true (eqb i j) h) in elim (cases_lt i j) [
        | inl l ↦ left_union n n (less n) (transpose (less n)) (type-less n) i j (from_less n i j l b)
        | inr l ↦ right_union n n (less n) (transpose (less n)) (type-less n) (type-transpose n n (less n) (type-less n)) i j
            (from_transpose n n (less n) (type-less n) i j (from_less n j i (omega (arith, l, d)) a))
      ])

  pub proper_found : inter r (union (less n) (transpose (less n))) ≡ proper_pairs r
  unfolding inter proper_pairs
  proper_found = relation_of-agree r.rows r.cols (λ i j. has r i j && has apart i j) (λ i j. is_proper r i j) (λ i j a b.
      ap (λ x. has r i j && x) (apart-has i j (subst (λ k. i < k) t.row_size a) (subst (λ k. j < k) t.col_size b)))

  -- ---- the Hasse diagram
  proper-has : (i j : ℕ) → i < n → j < n → has (proper_pairs r) i j ≡ is_proper r i j
  unfolding proper_pairs
  proper-has i j a b = has-relation_of r.rows r.cols (λ x y. is_proper r x y) i j (subst (λ k. i < k) (sym t.row_size) a) (subst (λ k. j < k) (sym t.col_size) b)

  type-proper : HasType n n (proper_pairs r)
  unfolding proper_pairs
  type-proper = type-test r.rows r.cols n n (λ x y. is_proper r x y) t.row_size t.col_size

  twice-has : (i j : ℕ) → i < n → j < n → has (compose (proper_pairs r) (proper_pairs r)) i j ≡ some_below r.rows (λ z. is_proper r i z && is_proper r z j)
  unfolding compose
  twice-has i j a b =
      let P = proper_pairs r in
      let s = type-proper in
      has-relation_of P.rows P.cols (λ i k. some_below P.cols (λ j. has P i j && has P j k)) i j (subst (λ k. i < k) (sym s.row_size) a) (subst (λ k. j < k) (sym s.col_size) b)
      ∙ ap (λ k. some_below k (λ z. has P i z && has P z j)) s.col_size
      ∙ some_agree n (λ z. has P i z && has P z j) (λ z. is_proper r i z && is_proper r z j) (λ z l. ap (λ x. x && has P z j) (proper-has i z a l) ∙ ap (λ x. is_proper r i z && x) (proper-has z j l b))
      ∙ ap (λ k. some_below k (λ z. is_proper r i z && is_proper r z j)) (sym t.row_size)

  -- a step of the Hasse diagram is a proper pair that is not in the product of the proper pairs with themselves: both
  -- sides say so at each cell
  pub hasse_found : diff (proper_pairs r) (compose (proper_pairs r) (proper_pairs r)) ≡ hasse r
  unfolding diff hasse
  hasse_found =
      let P = proper_pairs r in
      let C = compose P P in
      let s = type-proper in
      relation_of-sizes P.rows P.cols n n (λ i j. has P i j && not (has C i j)) s.row_size s.col_size
      ∙ relation_of-agree n n (λ i j. has P i j && not (has C i j)) (λ x y. is_proper r x y && not (some_below r.rows (λ z. is_proper r x z && is_proper r z y)))
      (λ i j a b. ap (λ x. x && not (has C i j)) (proper-has i j a b) ∙ ap (λ x. is_proper r i j && not x) (twice-has i j a b))
      ∙ relation_of-sizes n n r.rows r.cols _ (sym t.row_size) (sym t.col_size)

  -- ---- elements that no lesser one stands beside
  abbrev pub behind : Relation
  behind = inter r (transpose (less n))

  type-full : HasType n 1 (full n 1)
  unfolding full
  type-full = type-test n 1 n 1 _ refl refl

  in_full : (i : ℕ) → i < n → has (full n 1) i 0 ≡ true
  unfolding full
  in_full i a = from_test n 1 n 1 (λ i j. true) refl refl i 0 a (omega arith) refl

  -- an element has a pair in r & less^ exactly if it is related to one before it, and the full column asks for no more
  followers-has : (x : ℕ) → x < n → has (compose behind (full n 1)) x 0 ≡ some_below x (has r x)
  followers-has x a =
      let b = type-inter n n r (transpose (less n)) t in
      same_truth _ _
      (λ h. let p = in_compose behind (full n 1) x 0 h in
      let q = in_inter n n r (transpose (less n)) t x p.at p.first in
      some_from x (has r x) p.at (in_less n p.at x (in_transpose (less n) x p.at q.1)) q.0)
      (λ h. let p = some_passes x (has r x) h in
      let l = p.within in
      from_compose n n 1 behind (full n 1) b type-full x p.at 0
      (from_inter n n r (transpose (less n)) t x p.at p.passes (from_transpose n n (less n) (type-less n) x p.at (from_less n p.at x l a)))
      (in_full p.at (omega (arith, l, a))))

  pub leading_found : diff (full n 1) (compose (inter r (transpose (less n))) (full n 1)) ≡ leading r
  unfolding complement leading
  leading_found =
      let F = compose behind (full n 1) in
      let s = type-compose n n 1 behind (full n 1) (type-inter n n r (transpose (less n)) t) type-full in
      diff-full n 1 F s.row_size s.col_size
      ∙ relation_of-sizes F.rows F.cols n 1 (λ i j. not (has F i j)) s.row_size s.col_size
      ∙ relation_of-agree n 1 (λ i j. not (has F i j)) (λ x k. not (some_below x (λ y. has r x y))) (λ i j a b.
      ap (λ k. not (has F i k)) (let z : j ≡ 0 = omega (arith, b) in z) ∙ ap not (followers-has i a))
      ∙ relation_of-sizes n 1 r.rows 1 (λ x k. not (some_below x (λ y. has r x y))) (sym t.row_size) refl

-- ---- classes
count-agree : (n : ℕ) (t u : ℕ → Bool) → ((k : ℕ) → k < n → t k ≡ u k) → count_below n t ≡ count_below n u
count-agree zero t u f = refl
count-agree (suc n) t u f = ap (λ k. k + cond (t n) 1 0) (count-agree n t u (λ k l. f k (omega (arith, l)))) ∙ ap (λ b. count_below n u + cond b 1 0) (f n (omega arith))

-- to differ does not depend on which of both comes first
differ-turned : (a b : Bool) → differ a b ≡ differ b a
differ-turned true true = refl
differ-turned true false = refl
differ-turned false true = refl
differ-turned false false = refl

module _ (n : ℕ) (r : Relation) (t : HasType n n r) where
  abbrev pub alike : Relation
  alike = symmetric_quotient r r

  abbrev pub leaders : Relation
  leaders = leading alike

  pub type-alike : HasType n n alike
  type-alike = type-quotient n n n r r t t

  -- equal columns, from both sides
  alike-has : (x y : ℕ) → x < n → y < n → has alike x y ≡ same_column r y x
  unfolding symmetric_quotient
  alike-has x y a b =
      has-relation_of r.cols r.cols (λ j k. not (some_below r.rows (λ i. differ (has r i j) (has r i k)))) x y (subst (λ k. x < k) (sym t.col_size) a) (subst (λ k. y < k) (sym t.col_size) b)
      ∙ ap not (some_agree r.rows (λ i. differ (has r i x) (has r i y)) (λ i. differ (has r i y) (has r i x)) (λ i l. differ-turned (has r i x) (has r i y)))

  pub type-leaders : HasType n 1 leaders
  unfolding leading
  type-leaders = type-test alike.rows 1 n 1 _ type-alike.row_size refl

  leaders-hold : (x : ℕ) → x < n → holds leaders x ≡ leads r x
  unfolding leading
  leaders-hold x a =
      let s = type-alike in
      has-relation_of alike.rows 1 (λ x k. not (some_below x (λ y. has alike x y))) x 0 (subst (λ k. x < k) (sym s.row_size) a) (omega arith)
      ∙ ap not (some_agree x (λ y. has alike x y) (λ y. same_column r y x) (λ y l. alike-has x y a (omega (arith, l, a))))

  pub class-count : count_below leaders.rows (holds leaders) ≡ class_count r
  class-count =
      let s = type-leaders in
      ap (λ k. count_below k (holds leaders)) s.row_size ∙ count-agree n (holds leaders) (leads r) leaders-hold ∙ ap (λ k. count_below k (leads r)) (sym t.row_size)

  numbers-has : (k e : ℕ) → k < class_count r → e < n → has (inj leaders) k e ≡ (leads r e && eqb (count_below e (leads r)) k)
  unfolding inj
  numbers-has k e a b =
      let s = type-leaders in
      has-relation_of (count_below leaders.rows (holds leaders)) leaders.rows (λ r x. holds leaders x && eqb (count_below x (holds leaders)) r) k e
      (subst (λ m. k < m) (sym class-count) a) (subst (λ m. e < m) (sym s.row_size) b)
      ∙ ap (λ x. x && eqb (count_below e (holds leaders)) k) (leaders-hold e b)
      ∙ ap (λ m. leads r e && eqb m k) (count-agree e (holds leaders) (leads r) (λ x l. leaders-hold x (omega (arith, l, b))))

  pub rows-inj : (inj leaders).rows ≡ class_count r
  unfolding inj
  rows-inj = rows-relation_of (count_below leaders.rows (holds leaders)) leaders.rows _ ∙ class-count

  pub cols-inj : (inj leaders).cols ≡ n
  unfolding inj
  cols-inj = cols-relation_of (count_below leaders.rows (holds leaders)) leaders.rows _ ∙ type-leaders.row_size

  numbered-has : (e k : ℕ) → e < n → k < class_count r → has (transpose (inj leaders)) e k ≡ (leads r e && eqb (count_below e (leads r)) k)
  unfolding transpose
  numbered-has e k a b =
      has-relation_of (inj leaders).cols (inj leaders).rows (λ i j. has (inj leaders) j i) e k (subst (λ m. e < m) (sym cols-inj) a) (subst (λ m. k < m) (sym rows-inj) b)
      ∙ numbers-has k e b a

  -- an element is in a class exactly if some element with an equal column leads and has the number of the class: that
  -- is the composition, cell by cell
  pub classes_found : compose alike (transpose (inj leaders)) ≡ classes r
  unfolding compose classes
  classes_found =
      let T = transpose (inj leaders) in
      let s = type-alike in
      let cols : T.cols ≡ class_count r = cols-transpose (inj leaders) ∙ rows-inj in
      relation_of-sizes alike.rows T.cols n (class_count r) (λ i k. some_below alike.cols (λ j. has alike i j && has T j k)) s.row_size cols
      ∙ relation_of-agree n (class_count r) (λ i k. some_below alike.cols (λ j. has alike i j && has T j k)) (λ x k. is_in_class r x k) (λ x k a b.
      ap (λ m. some_below m (λ j. has alike x j && has T j k)) s.col_size
      ∙ some_agree n (λ e. has alike x e && has T e k) (λ e. same_column r e x && (leads r e && eqb (count_below e (leads r)) k)) (λ e l.
      ap (λ y. y && has T e k) (alike-has x e a l) ∙ ap (λ y. same_column r e x && y) (numbered-has e k l b))
      ∙ ap (λ m. some_below m (λ e. same_column r e x && (leads r e && eqb (count_below e (leads r)) k))) (sym t.row_size))
      ∙ relation_of-sizes n (class_count r) r.rows (class_count r) (λ x k. is_in_class r x k) (sym t.row_size) refl
