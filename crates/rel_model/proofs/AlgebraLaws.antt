-- The laws of the algebra, by membership: each equation is two inclusions, and each left form is its right twin transposed.
use Rattle.std.proofs.Common.{◌≡◌, ◌<◌, ◌⊎◌, ◌↔◌, ℕ, true, refl, sym, ap, subst, ◌∙◌, inl, inr}
use Rattle.std.proofs.lemmas.Bool.{cases_Bool}
use Rattle.rel_model.specs.Relation.{Relation, IsRelation, has}
use Rattle.rel_model.specs.Operators.{union, inter, complement, transpose, compose, right_residual, left_residual, symmetric_quotient, identity}
use Rattle.rel_model.specs.Closures.{IsWithin}
use Rattle.rel_model.specs.Algebra.{HasType, TransposeLaws, ComposeLaws, MonotoneLaws, ResidualLaws, QuotientByResiduals, SchroederLaws, DedekindRule}
use Rattle.rel_model.proofs.Somes.{same_truth}
use Rattle.rel_model.proofs.OperatorLaws.{transpose-transpose}
use Rattle.rel_model.proofs.Members.{inside, one_relation, type-union, in_union, left_union, right_union, type-inter, in_inter, from_inter, type-complement, from_complement, apart, type-transpose, in_transpose, from_transpose, type-compose, in_compose, from_compose, type-identity, in_identity, from_identity, type-right, in_right, from_right, type-left, in_left, from_left, type-quotient, in_quotient, from_quotient}

-- a relation has a pair or lacks it
has_or : (r : Relation) (i j : ℕ) → (has r i j ≡ true) ⊎ (has r i j ≡ true → ⊥)
has_or r i j = elim (cases_Bool (has r i j)) [ inl e ↦ inl e | inr e ↦ inr (λ h. cc) ]

-- ---- transposition
transpose-union : (m n : ℕ) (r s : Relation) → HasType m n r → HasType m n s → transpose (union r s) ≡ union (transpose r) (transpose s)
transpose-union m n r s t u =
    one_relation n m _ _ (type-transpose m n (union r s) (type-union m n r s t)) (type-union n m (transpose r) (transpose s) (type-transpose m n r t))
    (λ i j h. elim (in_union m n r s t j i (in_transpose (union r s) i j h)) [
      | inl a ↦ left_union n m (transpose r) (transpose s) (type-transpose m n r t) i j (from_transpose m n r t i j a)
      | inr b ↦ right_union n m (transpose r) (transpose s) (type-transpose m n r t) (type-transpose m n s u) i j (from_transpose m n s u i j b)
    ])
    (λ i j h. from_transpose m n (union r s) (type-union m n r s t) i j (elim (in_union n m (transpose r) (transpose s) (type-transpose m n r t) i j h) [
      | inl a ↦ left_union m n r s t j i (in_transpose r i j a)
      | inr b ↦ right_union m n r s t u j i (in_transpose s i j b)
    ]))

transpose-inter : (m n : ℕ) (r s : Relation) → HasType m n r → HasType m n s → transpose (inter r s) ≡ inter (transpose r) (transpose s)
transpose-inter m n r s t u =
    one_relation n m _ _ (type-transpose m n (inter r s) (type-inter m n r s t)) (type-inter n m (transpose r) (transpose s) (type-transpose m n r t))
    (λ i j h. let p = in_inter m n r s t j i (in_transpose (inter r s) i j h) in from_inter n m (transpose r) (transpose s) (type-transpose m n r t) i j (from_transpose m n r t i j p.0) (from_transpose m n s u i j p.1))
    (λ i j h. let p = in_inter n m (transpose r) (transpose s) (type-transpose m n r t) i j h in from_transpose m n (inter r s) (type-inter m n r s t) i j (from_inter m n r s t j i (in_transpose r i j p.0) (in_transpose s i j p.1)))

-- a relation and its sizes
own : (r : Relation) → IsRelation r → HasType r.rows r.cols r
own r v = record { valid = v; row_size = refl; col_size = refl }

transpose-complement : (m n : ℕ) (r : Relation) → HasType m n r → transpose (complement r) ≡ complement (transpose r)
transpose-complement m n r t =
    one_relation n m _ _ (type-transpose m n (complement r) (type-complement m n r t)) (type-complement n m (transpose r) (type-transpose m n r t))
    (λ i j h. let w = inside n m (transpose (complement r)) (type-transpose m n (complement r) (type-complement m n r t)) i j h in
    from_complement n m (transpose r) (type-transpose m n r t) i j w.row w.col (λ g. apart r j i (in_transpose (complement r) i j h) (in_transpose r i j g)))
    (λ i j h. let w = inside n m (complement (transpose r)) (type-complement n m (transpose r) (type-transpose m n r t)) i j h in
    from_transpose m n (complement r) (type-complement m n r t) i j (from_complement m n r t j i w.col w.row (λ g. apart (transpose r) i j h (from_transpose m n r t i j g))))

transpose-compose : (m n p : ℕ) (r s : Relation) → HasType m n r → HasType n p s → transpose (compose r s) ≡ compose (transpose s) (transpose r)
transpose-compose m n p r s t u =
    one_relation p m _ _ (type-transpose m p (compose r s) (type-compose m n p r s t u)) (type-compose p n m (transpose s) (transpose r) (type-transpose n p s u) (type-transpose m n r t))
    (λ k i h. let q = in_compose r s i k (in_transpose (compose r s) k i h) in
    from_compose p n m (transpose s) (transpose r) (type-transpose n p s u) (type-transpose m n r t) k q.at i (from_transpose n p s u k q.at q.second) (from_transpose m n r t q.at i q.first))
    (λ k i h. let q = in_compose (transpose s) (transpose r) k i h in
    from_transpose m p (compose r s) (type-compose m n p r s t u) k i (from_compose m n p r s t u i q.at k (in_transpose r q.at i q.second) (in_transpose s k q.at q.first)))

within-transpose : (r s : Relation) (m n : ℕ) → HasType m n s → IsWithin r s → IsWithin (transpose r) (transpose s)
within-transpose r s m n u f i j h = from_transpose m n s u i j (f j i (in_transpose r i j h))

pub transpose_laws : TransposeLaws
transpose_laws = record {
  twice = transpose-transpose;
  union = transpose-union;
  inter = transpose-inter;
  complement = transpose-complement;
  compose = transpose-compose;
  within = λ m n r s u f. within-transpose r s m n u f;
}

-- ---- composition
associative : (m n p q : ℕ) (r s t : Relation) → HasType m n r → HasType n p s → HasType p q t → compose (compose r s) t ≡ compose r (compose s t)
associative m n p q r s t tr ts tt =
    let rs = type-compose m n p r s tr ts in
    let st = type-compose n p q s t ts tt in
    one_relation m q _ _ (type-compose m p q (compose r s) t rs tt) (type-compose m n q r (compose s t) tr st)
    (λ i l h. let x = in_compose (compose r s) t i l h in let y = in_compose r s i x.at x.first in
    from_compose m n q r (compose s t) tr st i y.at l y.first (from_compose n p q s t ts tt y.at x.at l y.second x.second))
    (λ i l h. let x = in_compose r (compose s t) i l h in let y = in_compose s t x.at l x.second in
    from_compose m p q (compose r s) t rs tt i y.at l (from_compose m n p r s tr ts i x.at y.at x.first y.first) y.second)

left_identity : (m n : ℕ) (r : Relation) → HasType m n r → compose (identity m) r ≡ r
left_identity m n r t =
    one_relation m n _ _ (type-compose m m n (identity m) r (type-identity m) t) t
    (λ i j h. let x = in_compose (identity m) r i j h in subst (λ (y : ℕ). has r y j ≡ true) (sym (in_identity m i x.at x.first)) x.second)
    (λ i j h. let w = inside m n r t i j h in from_compose m m n (identity m) r (type-identity m) t i i j (from_identity m i i w.row refl) h)

right_identity : (m n : ℕ) (r : Relation) → HasType m n r → compose r (identity n) ≡ r
right_identity m n r t =
    one_relation m n _ _ (type-compose m n n r (identity n) t (type-identity n)) t
    (λ i j h. let x = in_compose r (identity n) i j h in subst (λ (y : ℕ). has r i y ≡ true) (in_identity n x.at j x.second) x.first)
    (λ i j h. let w = inside m n r t i j h in from_compose m n n r (identity n) t (type-identity n) i j j h (from_identity n j j w.col refl))

-- composition distributes over union: the pair that follows the middle element lies in one of the two relations
over_union : (m n p : ℕ) (r s t : Relation) → HasType m n r → HasType n p s → HasType n p t → compose r (union s t) ≡ union (compose r s) (compose r t)
over_union m n p r s t tr ts tt =
    let st = type-union n p s t ts in
    let rs = type-compose m n p r s tr ts in
    let rt = type-compose m n p r t tr tt in
    one_relation m p _ _ (type-compose m n p r (union s t) tr st) (type-union m p (compose r s) (compose r t) rs)
    (λ i k h. let x = in_compose r (union s t) i k h in elim (in_union n p s t ts x.at k x.second) [
      | inl a ↦ left_union m p (compose r s) (compose r t) rs i k (from_compose m n p r s tr ts i x.at k x.first a)
      | inr b ↦ right_union m p (compose r s) (compose r t) rs rt i k (from_compose m n p r t tr tt i x.at k x.first b)
    ])
    (λ i k h. elim (in_union m p (compose r s) (compose r t) rs i k h) [
      | inl a ↦ let x = in_compose r s i k a in from_compose m n p r (union s t) tr st i x.at k x.first (left_union n p s t ts x.at k x.second)
      | inr b ↦ let x = in_compose r t i k b in from_compose m n p r (union s t) tr st i x.at k x.first (right_union n p s t ts tt x.at k x.second)
    ])

-- the left form, from the right one transposed
union_over : (m n p : ℕ) (r s t : Relation) → HasType m n r → HasType m n s → HasType n p t → compose (union r s) t ≡ union (compose r t) (compose s t)
union_over m n p r s t tr ts tt =
    let R = type-transpose m n r tr in
    let S = type-transpose m n s ts in
    let T = type-transpose n p t tt in
    let rt = type-compose m n p r t tr tt in
    let st = type-compose m n p s t ts tt in
    sym (transpose-transpose (compose (union r s) t) (type-compose m n p (union r s) t (type-union m n r s tr) tt).valid)
    ∙ ap transpose (transpose-compose m n p (union r s) t (type-union m n r s tr) tt ∙ ap (compose (transpose t)) (transpose-union m n r s tr ts) ∙ over_union p n m (transpose t) (transpose r) (transpose s) T R S
    ∙ ap (λ x. union x (compose (transpose t) (transpose s))) (sym (transpose-compose m n p r t tr tt)) ∙ ap (union (transpose (compose r t))) (sym (transpose-compose m n p s t ts tt)) ∙ sym (transpose-union m p (compose r t) (compose s t) rt st))
    ∙ transpose-transpose (union (compose r t) (compose s t)) (type-union m p (compose r t) (compose s t) rt).valid

pub compose_laws : ComposeLaws
compose_laws = record { associative = associative; left_identity = left_identity; right_identity = right_identity; over_union = over_union; union_over = union_over }

-- ---- larger operands
pub monotone_laws : MonotoneLaws
monotone_laws = record {
  union = λ m n r s t u tr ts tt tu f g i j h. elim (in_union m n r s tr i j h) [ inl a ↦ left_union m n t u tt i j (f i j a) | inr b ↦ right_union m n t u tt tu i j (g i j b) ];
  inter = λ m n r s t u tr ts tt tu f g i j h. (let p = in_inter m n r s tr i j h in from_inter m n t u tt i j (f i j p.0) (g i j p.1));
  complement = λ m n r s tr ts f i j h. (let w = inside m n (complement s) (type-complement m n s ts) i j h in from_complement m n r tr i j w.row w.col (λ g. apart s i j h (f i j g)));
  compose = λ m n p r s t u tr ts tt tu f g i k h. (let x = in_compose r s i k h in from_compose m n p t u tt tu i x.at k (f i x.at x.first) (g x.at k x.second));
}

-- ---- residuals
right_by_complement : (m n p : ℕ) (r s : Relation) → HasType m n r → HasType m p s → right_residual r s ≡ complement (compose (transpose r) (complement s))
right_by_complement m n p r s tr ts =
    let R = type-transpose m n r tr in
    let S = type-complement m p s ts in
    let c = type-compose n m p (transpose r) (complement s) R S in
    one_relation n p _ _ (type-right m n p r s tr ts) (type-complement n p (compose (transpose r) (complement s)) c)
    (λ j k h. let w = inside n p (right_residual r s) (type-right m n p r s tr ts) j k h in
    from_complement n p (compose (transpose r) (complement s)) c j k w.row w.col (λ g. let x = in_compose (transpose r) (complement s) j k g in apart s x.at k x.second (in_right m n r s tr j k h x.at (in_transpose r j x.at x.first))))
    (λ j k h. let w = inside n p (complement (compose (transpose r) (complement s))) (type-complement n p (compose (transpose r) (complement s)) c) j k h in
    from_right m n p r s tr ts j k w.row w.col (λ i g. elim (has_or s i k) [
      | inl a ↦ a
      | inr b ↦ let v = inside m n r tr i j g in absurd (apart (compose (transpose r) (complement s)) j k h (from_compose n m p (transpose r) (complement s) R S j i k (from_transpose m n r tr j i g) (from_complement m p s ts i k v.row w.col b)))
    ]))

-- the left residual is the right one, transposed
pub left_residual-transpose : (m n p : ℕ) (r s : Relation) → HasType n p r → HasType m p s → left_residual s r ≡ transpose (right_residual (transpose r) (transpose s))
left_residual-transpose m n p r s tr ts =
    let R = type-transpose n p r tr in
    let S = type-transpose m p s ts in
    let t = type-right p n m (transpose r) (transpose s) R S in
    one_relation m n _ _ (type-left m n p r s tr ts) (type-transpose n m (right_residual (transpose r) (transpose s)) t)
    (λ i j h. let w = inside m n (left_residual s r) (type-left m n p r s tr ts) i j h in
    from_transpose n m (right_residual (transpose r) (transpose s)) t i j (from_right p n m (transpose r) (transpose s) R S j i w.col w.row (λ k g. from_transpose m p s ts k i (in_left m p r s ts tr.col_size tr.valid i j h k (in_transpose r k j g)))))
    (λ i j h. let w = inside m n (transpose (right_residual (transpose r) (transpose s))) (type-transpose n m (right_residual (transpose r) (transpose s)) t) i j h in
    from_left m n p r s tr ts i j w.row w.col (λ k g. in_transpose s k i (in_right p n (transpose r) (transpose s) R j i (in_transpose (right_residual (transpose r) (transpose s)) i j h) k (from_transpose n p r tr k j g))))

left_by_complement : (m n p : ℕ) (r s : Relation) → HasType n p r → HasType m p s → left_residual s r ≡ complement (compose (complement s) (transpose r))
left_by_complement m n p r s tr ts =
    let R = type-transpose n p r tr in
    let S = type-transpose m p s ts in
    let cs = type-complement m p s ts in
    let c = type-compose m p n (complement s) (transpose r) cs R in
    left_residual-transpose m n p r s tr ts
    ∙ ap transpose (right_by_complement p n m (transpose r) (transpose s) R S ∙ ap (λ x. complement (compose (transpose (transpose r)) x)) (sym (transpose-complement m p s ts)) ∙ ap complement (sym (transpose-compose m p n (complement s) (transpose r) cs R)) ∙ sym (transpose-complement m n (compose (complement s) (transpose r)) c))
    ∙ transpose-transpose (complement (compose (complement s) (transpose r))) (type-complement m n (compose (complement s) (transpose r)) c).valid

right_greatest : (m n p : ℕ) (r x s : Relation) → HasType m n r → HasType n p x → HasType m p s → IsWithin (compose r x) s ↔ IsWithin x (right_residual r s)
right_greatest m n p r x s tr tx ts = (
  (λ f j k h. let w = inside n p x tx j k h in from_right m n p r s tr ts j k w.row w.col (λ i g. f i k (from_compose m n p r x tr tx i j k g h))),
  (λ f i k h. let y = in_compose r x i k h in in_right m n r s tr y.at k (f y.at k y.second) i y.first),
)

left_greatest : (m n p : ℕ) (r x s : Relation) → HasType n p r → HasType m n x → HasType m p s → IsWithin (compose x r) s ↔ IsWithin x (left_residual s r)
left_greatest m n p r x s tr tx ts = (
  (λ f i j h. let w = inside m n x tx i j h in from_left m n p r s tr ts i j w.row w.col (λ k g. f i k (from_compose m n p x r tx tr i j k h g))),
  (λ f i k h. let y = in_compose x r i k h in in_left m p r s ts tr.col_size tr.valid i y.at (f i y.at y.first) k y.second),
)

pub residual_laws : ResidualLaws
residual_laws = record { right = right_by_complement; left = left_by_complement; right_greatest = right_greatest; left_greatest = left_greatest }

-- the symmetric quotient is two residuals intersected: two columns are equal where each lies within the other, and each
-- residual says one of these
pub quotient_by_residuals : QuotientByResiduals
quotient_by_residuals m n p r s tr ts =
    let R = type-transpose m n r tr in
    let S = type-transpose m p s ts in
    let a = type-right m n p r s tr ts in
    let b = type-left n p m (transpose s) (transpose r) S R in
    let q = type-quotient m n p r s tr ts in
    one_relation n p _ _ q (type-inter n p (right_residual r s) (left_residual (transpose r) (transpose s)) a)
    (λ j k h. let w = inside n p (symmetric_quotient r s) q j k h in
    from_inter n p (right_residual r s) (left_residual (transpose r) (transpose s)) a j k
    (from_right m n p r s tr ts j k w.row w.col (λ i g. let v = inside m n r tr i j g in sym (in_quotient m n r s tr j k h i v.row) ∙ g))
    (from_left n p m (transpose s) (transpose r) S R j k w.row w.col (λ i g. let v = inside m p s ts i k (in_transpose s k i g) in from_transpose m n r tr j i (in_quotient m n r s tr j k h i v.row ∙ in_transpose s k i g))))
    (λ j k h. let w = inside n p (inter (right_residual r s) (left_residual (transpose r) (transpose s))) (type-inter n p (right_residual r s) (left_residual (transpose r) (transpose s)) a) j k h in
    let x = in_inter n p (right_residual r s) (left_residual (transpose r) (transpose s)) a j k h in
    from_quotient m n p r s tr ts j k w.row w.col (λ i. same_truth (has r i j) (has s i k)
    (in_right m n r s tr j k x.0 i)
    (λ g. in_transpose r j i (in_left n m (transpose s) (transpose r) R S.col_size S.valid j k x.1 i (from_transpose m p s ts k i g)))))

-- ---- Schröder and Dedekind
-- a pair that is not lacking is there
not_lacking : (m n : ℕ) (r : Relation) → HasType m n r → (i j : ℕ) → i < m → j < n → (has (complement r) i j ≡ true → ⊥) → has r i j ≡ true
not_lacking m n r t i j a b f = elim (has_or r i j) [ inl h ↦ h | inr g ↦ absurd (f (from_complement m n r t i j a b g)) ]

-- one of Schröder's equivalences: each side says that no i, j, k have (i, j) in r and (j, k) in s, but (i, k) not in t
first_second : (m n p : ℕ) (r s t : Relation) → HasType m n r → HasType n p s → HasType m p t → IsWithin (compose r s) t ↔ IsWithin (compose (transpose r) (complement t)) (complement s)
first_second m n p r s t tr ts tt = (
  (λ f j k h. let x = in_compose (transpose r) (complement t) j k h in
      let v = inside m p (complement t) (type-complement m p t tt) x.at k x.second in
      let g = in_transpose r j x.at x.first in
      let w = inside m n r tr x.at j g in
      from_complement n p s ts j k w.col v.col (λ e. apart t x.at k x.second (f x.at k (from_compose m n p r s tr ts x.at j k g e)))),
  (λ f i k h. let x = in_compose r s i k h in
      let v = inside m n r tr i x.at x.first in
      let w = inside n p s ts x.at k x.second in
      not_lacking m p t tt i k v.row w.col (λ e. apart s x.at k (f x.at k (from_compose n m p (transpose r) (complement t) (type-transpose m n r tr) (type-complement m p t tt) x.at i k (from_transpose m n r tr x.at i x.first) e)) x.second)),
)

-- an inclusion transposed
within_back : (m n : ℕ) (r s : Relation) → HasType m n r → IsWithin (transpose r) (transpose s) → IsWithin r s
within_back m n r s t f i j h = in_transpose s j i (f j i (from_transpose m n r t j i h))

-- the left form, from the right one transposed
first_third : (m n p : ℕ) (r s t : Relation) → HasType m n r → HasType n p s → HasType m p t → IsWithin (compose r s) t ↔ IsWithin (compose (complement t) (transpose s)) (complement r)
first_third m n p r s t tr ts tt =
    let R = type-transpose m n r tr in
    let S = type-transpose n p s ts in
    let T = type-transpose m p t tt in
    let ct = type-complement m p t tt in
    let cr = type-complement m n r tr in
    let law = first_second p n m (transpose s) (transpose r) (transpose t) S R T in
    let left : compose (transpose (transpose s)) (complement (transpose t)) ≡ transpose (compose (complement t) (transpose s)) =
    ap (compose (transpose (transpose s))) (sym (transpose-complement m p t tt)) ∙ sym (transpose-compose m p n (complement t) (transpose s) ct S) in
    let right : complement (transpose r) ≡ transpose (complement r) = sym (transpose-complement m n r tr) in (
      (λ f. within_back m n (compose (complement t) (transpose s)) (complement r) (type-compose m p n (complement t) (transpose s) ct S)
          (subst (λ x. IsWithin x (transpose (complement r))) left (subst (λ x. IsWithin (compose (transpose (transpose s)) (complement (transpose t))) x) right
          (law.0 (subst (λ x. IsWithin x (transpose t)) (transpose-compose m n p r s tr ts) (within-transpose (compose r s) t m p tt f)))))),
      (λ f. within_back m p (compose r s) t (type-compose m n p r s tr ts) (subst (λ x. IsWithin x (transpose t)) (sym (transpose-compose m n p r s tr ts))
          (law.1 (subst (λ x. IsWithin x (complement (transpose r))) (sym left) (subst (λ x. IsWithin (transpose (compose (complement t) (transpose s))) x) (sym right) (within-transpose (compose (complement t) (transpose s)) (complement r) m n cr f)))))),
    )

pub schroeder_laws : SchroederLaws
schroeder_laws = record { first_second = first_second; first_third = first_third }

pub dedekind_rule : DedekindRule
dedekind_rule m n p r s t tr ts tt i k h =
    let S = type-transpose n p s ts in
    let R = type-transpose m n r tr in
    let tS = type-compose m p n t (transpose s) tt S in
    let Rt = type-compose n m p (transpose r) t R tt in
    let x = in_inter m p (compose r s) t (type-compose m n p r s tr ts) i k h in
    let y = in_compose r s i k x.0 in
    from_compose m n p (inter r (compose t (transpose s))) (inter s (compose (transpose r) t)) (type-inter m n r (compose t (transpose s)) tr) (type-inter n p s (compose (transpose r) t) ts) i y.at k
    (from_inter m n r (compose t (transpose s)) tr i y.at y.first (from_compose m p n t (transpose s) tt S i k y.at x.1 (from_transpose n p s ts k y.at y.second)))
    (from_inter n p s (compose (transpose r) t) ts y.at k y.second (from_compose n m p (transpose r) t R tt y.at i k (from_transpose m n r tr y.at i y.first) x.1))
