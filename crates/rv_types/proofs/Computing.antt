-- Sizes that are computed, transpositions one after another, and the operands of base calls by their number.
use Rattle.std.proofs.Common.{◌≡◌, ◌≢◌, ◌<◌, ◌+◌, ◌^◌, ◌∙◌, ℕ, zero, suc, true, nat_lt, cond, List, [], ◌∷◌, length, get_or, Some, None, refl, ap, arith}
use Rattle.std.proofs.Math.Pow.{pow-lt}
use Rattle.std.proofs.lemmas.Bool.Decides.{nat_tests}
use Rattle.lang_model.specs.declared.faults.StaticShape.{StaticShape}
use Rattle.lang_model.specs.declared.syntax.Place.{Place}
use Rattle.lang_model.specs.declared.syntax.Base.{Base}
use Rattle.lang_model.specs.Types.{Fits, known, within_limit, type_turned, type_turned_by, typed_base, typed_base_of_two}
use Rattle.lang_model.specs.Shape.{typed_based}
use Rattle.rel_model.specs.Relation.{size_limit}

is_less : (m n : ℕ) → m < n → nat_lt m n ≡ true
is_less m n h = grind (arith, nat_tests, h)

-- the subsets of more than 24 elements are too many
pub power_over : (m : ℕ) → 24 < m → within_limit (2 ^ m) ≡ None
power_over m h =
    let more : 2 ^ 24 < 2 ^ m = pow-lt h in
    ap (λ b. cond b None (Some (2 ^ m))) (is_less size_limit (2 ^ m) more)

-- two transpositions change nothing
pub turned_by-even : (n : ℕ) (s : StaticShape) → type_turned_by (n + n) s ≡ s
turned_by-even zero s = refl
turned_by-even (suc n) s =
    let e : suc n + suc n ≡ suc (suc (n + n)) = omega arith in
    ap (λ k. type_turned_by k s) e ∙ ap (λ t. type_turned (type_turned t)) (turned_by-even n s)

-- and so an odd number of them is one
pub turned_by-odd : (n : ℕ) (s : StaticShape) → type_turned_by (n + n + 1) s ≡ type_turned s
turned_by-odd n s =
    let e : n + n + 1 ≡ suc (n + n) = omega arith in
    ap (λ k. type_turned_by k s) e ∙ ap type_turned (turned_by-even n s)

-- ---- operands of base calls
pub one_given : (at : Place) (base : Base) (ss : List StaticShape) (d : StaticShape) → length ss ≡ 1 → typed_based at base ss ≡ typed_base at base (get_or ss 0 d)
unfolding typed_based
one_given at base [] d h = absurd (let e : 0 ≡ 1 = h in omega (arith, e))
one_given at base (s ∷ []) d h = refl
one_given at base (s ∷ t ∷ ss) d h = absurd (let e : suc (suc (length ss)) ≡ 1 = h in omega (arith, e))

pub two_given : (at : Place) (base : Base) (ss : List StaticShape) (d : StaticShape) → length ss ≡ 2 → typed_based at base ss ≡ typed_base_of_two at base (get_or ss 0 d) (get_or ss 1 d)
unfolding typed_based
two_given at base [] d h = absurd (let e : 0 ≡ 2 = h in omega (arith, e))
two_given at base (s ∷ []) d h = absurd (let e : 1 ≡ 2 = h in omega (arith, e))
two_given at base (s ∷ t ∷ []) d h = refl
two_given at base (s ∷ t ∷ u ∷ ss) d h = absurd (let e : suc (suc (suc (length ss))) ≡ 2 = h in omega (arith, e))

pub others_given : (at : Place) (base : Base) (ss : List StaticShape) → length ss ≢ 1 → length ss ≢ 2 → typed_based at base ss ≡ Fits (known 0 0)
unfolding typed_based
others_given at base [] a b = refl
others_given at base (s ∷ []) a b = absurd (a refl)
others_given at base (s ∷ t ∷ []) a b = absurd (b refl)
others_given at base (s ∷ t ∷ u ∷ ss) a b = refl
