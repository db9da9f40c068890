-- Membership in the result of each operator, one direction at a time, for relations of fitting types.
use Rattle.std.proofs.Common.{◌≡◌, ◌<◌, ◌⊎◌, ◌&&◌, ◌||◌, not, eqb, ℕ, Bool, true, false, refl, sym, ap, subst, ◌∙◌}
use Rattle.std.proofs.lemmas.Bool.{or_cases, or_left, or_right, and_parts, and_from, eqb-true, eq-eqb, false≢true, not-true, not_from_false}
use Rattle.rel_model.specs.Relation.{Relation, IsRelation, has, relation_of}
use Rattle.rel_model.specs.Operators.{union, inter, complement, transpose, compose, right_residual, left_residual, differ, symmetric_quotient, identity}
use Rattle.rel_model.specs.Cells.{some_below}
use Rattle.rel_model.specs.Closures.{IsWithin}
use Rattle.rel_model.specs.Algebra.{HasType}
use Rattle.rel_model.proofs.Pairs.{all-member}
use Rattle.rel_model.proofs.Somes.{same_truth, not_true, some_from, some_passes, some_none}
use Rattle.rel_model.proofs.Relations.{IsRelation-relation_of, rows-relation_of, cols-relation_of, has-relation_of, same_relation}

-- ---- any relation
-- its pairs lie within its sizes
pub record Inside (m n i j : ℕ) : Type 0 where
  pub row : i < m
  pub col : j < n

pub inside : (m n : ℕ) (r : Relation) → HasType m n r → (i j : ℕ) → has r i j ≡ true → Inside m n i j
inside m n r t i j h =
    let w : (i < r.rows) × (j < r.cols) = all-member (λ p. (p.0 < r.rows) × (p.1 < r.cols)) r.pairs (i, j) t.valid.within h in
    record { row = subst (λ (x : ℕ). i < x) t.row_size w.0; col = subst (λ (x : ℕ). j < x) t.col_size w.1 }

-- the relation of a test
pub type-test : (m n p q : ℕ) (t : ℕ → ℕ → Bool) → m ≡ p → n ≡ q → HasType p q (relation_of m n t)
type-test m n p q t e f = record { valid = IsRelation-relation_of m n t; row_size = rows-relation_of m n t ∙ e; col_size = cols-relation_of m n t ∙ f }

-- its pairs pass
pub in_test : (m n p q : ℕ) (t : ℕ → ℕ → Bool) → m ≡ p → n ≡ q → (i j : ℕ) → has (relation_of m n t) i j ≡ true → t i j ≡ true
in_test m n p q t e f i j h =
    let w = inside m n (relation_of m n t) (type-test m n m n t refl refl) i j h in
    sym (has-relation_of m n t i j w.row w.col) ∙ h

pub from_test : (m n p q : ℕ) (t : ℕ → ℕ → Bool) → m ≡ p → n ≡ q → (i j : ℕ) → i < p → j < q → t i j ≡ true → has (relation_of m n t) i j ≡ true
from_test m n p q t e f i j a b h = has-relation_of m n t i j (subst (λ (x : ℕ). i < x) (sym e) a) (subst (λ (x : ℕ). j < x) (sym f) b) ∙ h

-- two relations of one type, each within the other, are one
pub one_relation : (m n : ℕ) (a b : Relation) → HasType m n a → HasType m n b → IsWithin a b → IsWithin b a → a ≡ b
one_relation m n a b s t f g =
    same_relation a b s.valid t.valid (s.row_size ∙ sym t.row_size) (s.col_size ∙ sym t.col_size) (λ i j x y. same_truth (has a i j) (has b i j) (f i j) (g i j))

-- ---- union
pub type-union : (m n : ℕ) (r s : Relation) → HasType m n r → HasType m n (union r s)
unfolding union
type-union m n r s t = type-test r.rows r.cols m n _ t.row_size t.col_size

pub in_union : (m n : ℕ) (r s : Relation) → HasType m n r → (i j : ℕ) → has (union r s) i j ≡ true → (has r i j ≡ true) ⊎ (has s i j ≡ true)
unfolding union
in_union m n r s t i j h = or_cases (has r i j) (has s i j) (in_test r.rows r.cols m n (λ i j. has r i j || has s i j) t.row_size t.col_size i j h)

pub left_union : (m n : ℕ) (r s : Relation) → HasType m n r → IsWithin r (union r s)
unfolding union
left_union m n r s t i j h = let w = inside m n r t i j h in from_test r.rows r.cols m n _ t.row_size t.col_size i j w.row w.col (or_left (has r i j) (has s i j) h)

pub right_union : (m n : ℕ) (r s : Relation) → HasType m n r → HasType m n s → IsWithin s (union r s)
unfolding union
right_union m n r s t u i j h = let w = inside m n s u i j h in from_test r.rows r.cols m n _ t.row_size t.col_size i j w.row w.col (or_right (has r i j) (has s i j) h)

-- ---- intersection
pub type-inter : (m n : ℕ) (r s : Relation) → HasType m n r → HasType m n (inter r s)
unfolding inter
type-inter m n r s t = type-test r.rows r.cols m n _ t.row_size t.col_size

pub in_inter : (m n : ℕ) (r s : Relation) → HasType m n r → (i j : ℕ) → has (inter r s) i j ≡ true → (has r i j ≡ true) × (has s i j ≡ true)
unfolding inter
in_inter m n r s t i j h = let p = and_parts _ _ (in_test r.rows r.cols m n (λ i j. has r i j && has s i j) t.row_size t.col_size i j h) in (p.0, p.1)

pub from_inter : (m n : ℕ) (r s : Relation) → HasType m n r → (i j : ℕ) → has r i j ≡ true → has s i j ≡ true → has (inter r s) i j ≡ true
unfolding inter
from_inter m n r s t i j h k = let w = inside m n r t i j h in from_test r.rows r.cols m n _ t.row_size t.col_size i j w.row w.col (and_from (has r i j) (has s i j) h k)

-- ---- complement
pub type-complement : (m n : ℕ) (r : Relation) → HasType m n r → HasType m n (complement r)
unfolding complement
type-complement m n r t = type-test r.rows r.cols m n _ t.row_size t.col_size

pub in_complement : (r : Relation) (i j : ℕ) → has (complement r) i j ≡ true → has r i j ≡ false
unfolding complement
in_complement r i j h = not-true (has r i j) (in_test r.rows r.cols r.rows r.cols (λ i j. not (has r i j)) refl refl i j h)

pub from_complement : (m n : ℕ) (r : Relation) → HasType m n r → (i j : ℕ) → i < m → j < n → (has r i j ≡ true → ⊥) → has (complement r) i j ≡ true
unfolding complement
from_complement m n r t i j a b f = from_test r.rows r.cols m n _ t.row_size t.col_size i j a b (not_from_false (has r i j) (not_true (has r i j) f))

-- what the complement has the relation has not
pub apart : (r : Relation) (i j : ℕ) → has (complement r) i j ≡ true → has r i j ≡ true → ⊥
apart r i j h k = false≢true (sym (in_complement r i j h) ∙ k)

-- ---- transposition
pub type-transpose : (m n : ℕ) (r : Relation) → HasType m n r → HasType n m (transpose r)
unfolding transpose
type-transpose m n r t = type-test r.cols r.rows n m _ t.col_size t.row_size

pub in_transpose : (r : Relation) (i j : ℕ) → has (transpose r) i j ≡ true → has r j i ≡ true
unfolding transpose
in_transpose r i j h = in_test r.cols r.rows r.cols r.rows (λ i j. has r j i) refl refl i j h

pub from_transpose : (m n : ℕ) (r : Relation) → HasType m n r → (i j : ℕ) → has r j i ≡ true → has (transpose r) i j ≡ true
unfolding transpose
from_transpose m n r t i j h = let w = inside m n r t j i h in from_test r.cols r.rows n m _ t.col_size t.row_size i j w.col w.row h

-- ---- composition
pub type-compose : (m n p : ℕ) (r s : Relation) → HasType m n r → HasType n p s → HasType m p (compose r s)
unfolding compose
type-compose m n p r s t u = type-test r.rows s.cols m p _ t.row_size u.col_size

-- a middle element
pub record Through (r s : Relation) (i k : ℕ) : Type 0 where
  pub at : ℕ
  pub first : has r i at ≡ true
  pub second : has s at k ≡ true

pub in_compose : (r s : Relation) (i k : ℕ) → has (compose r s) i k ≡ true → Through r s i k
unfolding compose
in_compose r s i k h =
    let p = some_passes r.cols (λ j. has r i j && has s j k) (in_test r.rows s.cols r.rows s.cols (λ i k. some_below r.cols (λ j. has r i j && has s j k)) refl refl i k h) in
    let q = and_parts _ _ p.passes in
    record { at = p.at; first = q.0; second = q.1 }

pub from_compose : (m n p : ℕ) (r s : Relation) → HasType m n r → HasType n p s → (i j k : ℕ) → has r i j ≡ true → has s j k ≡ true → has (compose r s) i k ≡ true
unfolding compose
from_compose m n p r s t u i j k h g =
    let v = inside m n r t i j h in
    let w = inside n p s u j k g in
    from_test r.rows s.cols m p _ t.row_size u.col_size i k v.row w.col (some_from r.cols _ j (subst (λ (x : ℕ). j < x) (sym t.col_size) v.col) (and_from (has r i j) (has s j k) h g))

-- ---- the identity
pub type-identity : (n : ℕ) → HasType n n (identity n)
unfolding identity
type-identity n = type-test n n n n _ refl refl

pub in_identity : (n i j : ℕ) → has (identity n) i j ≡ true → i ≡ j
unfolding identity
in_identity n i j h = eqb-true i j (in_test n n n n (λ i j. eqb i j) refl refl i j h)

pub from_identity : (n i j : ℕ) → i < n → i ≡ j → has (identity n) i j ≡ true
unfolding identity
from_identity n i j a e = from_test n n n n _ refl refl i j a (subst (λ (x : ℕ). x < n) e a) (eq-eqb i j e)

-- ---- residuals
-- where the first holds, the second does
pub implied : (a b : Bool) → (a && not b) ≡ false → a ≡ true → b ≡ true
implied true true e h = refl
implied true false e h = absurd (false≢true (sym e))
implied false b e h = absurd (false≢true h)

pub none_but : (a b : Bool) → (a ≡ true → b ≡ true) → (a && not b) ≡ false
none_but true b f = ap not (f refl)
none_but false b f = refl

-- that no number passes
pub none_at : (n : ℕ) (t : ℕ → Bool) → not (some_below n t) ≡ true → (k : ℕ) → k < n → t k ≡ false
none_at n t h k l = not_true (t k) (λ g. false≢true (sym (not-true (some_below n t) h) ∙ some_from n t k l g))

pub type-right : (m n p : ℕ) (r s : Relation) → HasType m n r → HasType m p s → HasType n p (right_residual r s)
unfolding right_residual
type-right m n p r s t u = type-test r.cols s.cols n p _ t.col_size u.col_size

pub in_right : (m n : ℕ) (r s : Relation) → HasType m n r → (j k : ℕ) → has (right_residual r s) j k ≡ true → (i : ℕ) → has r i j ≡ true → has s i k ≡ true
unfolding right_residual
in_right m n r s t j k h i g =
    let w = inside m n r t i j g in
    implied (has r i j) (has s i k) (none_at r.rows (λ i. has r i j && not (has s i k)) (in_test r.cols s.cols r.cols s.cols (λ j k. not (some_below r.rows (λ i. has r i j && not (has s i k)))) refl refl j k h) i (subst (λ (x : ℕ). i < x) (sym t.row_size) w.row)) g

pub from_right : (m n p : ℕ) (r s : Relation) → HasType m n r → HasType m p s → (j k : ℕ) → j < n → k < p → ((i : ℕ) → has r i j ≡ true → has s i k ≡ true) → has (right_residual r s) j k ≡ true
unfolding right_residual
from_right m n p r s t u j k a b f = from_test r.cols s.cols n p _ t.col_size u.col_size j k a b (not_from_false _ (some_none r.rows _ (λ i l. none_but (has r i j) (has s i k) (f i))))

pub type-left : (m n p : ℕ) (r s : Relation) → HasType n p r → HasType m p s → HasType m n (left_residual s r)
unfolding left_residual
type-left m n p r s t u = type-test s.rows r.rows m n _ u.row_size t.row_size

pub in_left : (m p : ℕ) (r s : Relation) → HasType m p s → r.cols ≡ p → IsRelation r → (i j : ℕ) → has (left_residual s r) i j ≡ true → (k : ℕ) → has r j k ≡ true → has s i k ≡ true
unfolding left_residual
in_left m p r s u e v i j h k g =
    let w = inside r.rows p r (record { valid = v; row_size = refl; col_size = e }) j k g in
    implied (has r j k) (has s i k) (none_at s.cols (λ k. has r j k && not (has s i k)) (in_test s.rows r.rows s.rows r.rows (λ i j. not (some_below s.cols (λ k. has r j k && not (has s i k)))) refl refl i j h) k (subst (λ (x : ℕ). k < x) (sym u.col_size) w.col)) g

pub from_left : (m n p : ℕ) (r s : Relation) → HasType n p r → HasType m p s → (i j : ℕ) → i < m → j < n → ((k : ℕ) → has r j k ≡ true → has s i k ≡ true) → has (left_residual s r) i j ≡ true
unfolding left_residual
from_left m n p r s t u i j a b f = from_test s.rows r.rows m n _ u.row_size t.row_size i j a b (not_from_false _ (some_none s.cols _ (λ k l. none_but (has r j k) (has s i k) (f k))))

-- ---- the symmetric quotient
pub alike : (a b : Bool) → differ a b ≡ false → a ≡ b
alike true true e = refl
alike true false e = absurd (false≢true (sym e))
alike false true e = absurd (false≢true (sym e))
alike false false e = refl

pub none_differ : (a b : Bool) → a ≡ b → differ a b ≡ false
none_differ true b e = ap (λ x. differ true x) (sym e)
none_differ false b e = ap (λ x. differ false x) (sym e)

pub type-quotient : (m n p : ℕ) (r s : Relation) → HasType m n r → HasType m p s → HasType n p (symmetric_quotient r s)
unfolding symmetric_quotient
type-quotient m n p r s t u = type-test r.cols s.cols n p _ t.col_size u.col_size

pub in_quotient : (m n : ℕ) (r s : Relation) → HasType m n r → (j k : ℕ) → has (symmetric_quotient r s) j k ≡ true → (i : ℕ) → i < m → has r i j ≡ has s i k
unfolding symmetric_quotient
in_quotient m n r s t j k h i l = alike (has r i j) (has s i k) (none_at r.rows (λ i. differ (has r i j) (has s i k)) (in_test r.cols s.cols r.cols s.cols (λ j k. not (some_below r.rows (λ i. differ (has r i j) (has s i k)))) refl refl j k h) i (subst (λ (x : ℕ). i < x) (sym t.row_size) l))

pub from_quotient : (m n p : ℕ) (r s : Relation) → HasType m n r → HasType m p s → (j k : ℕ) → j < n → k < p → ((i : ℕ) → has r i j ≡ has s i k) → has (symmetric_quotient r s) j k ≡ true
unfolding symmetric_quotient
from_quotient m n p r s t u j k a b f = from_test r.cols s.cols n p _ t.col_size u.col_size j k a b (not_from_false _ (some_none r.rows _ (λ i l. none_differ (has r i j) (has s i k) (f i))))
