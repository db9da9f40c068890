-- Laws of bounds and of extreme elements, by membership.
use Rattle.std.proofs.Common.{◌≡◌, ◌<◌, ◌&&◌, not, ℕ, true, sym, subst}
use Rattle.std.proofs.lemmas.Bool.{not_from_false}
use Rattle.rel_model.specs.Relation.{Relation, has}
use Rattle.rel_model.specs.Cells.{some_below}
use Rattle.rel_model.specs.Operators.{transpose, left_residual}
use Rattle.rel_model.specs.Algebra.{HasType}
use Rattle.rel_model.specs.Orders.{upper_bounds, lower_bounds, least, greatest, suprema, infima, IsOrder, BoundLaws, ExtremeLaws}
use Rattle.rel_model.proofs.Somes.{some_none}
use Rattle.rel_model.proofs.Members.{inside, one_relation, type-test, in_test, from_test, implied, none_but, none_at, type-transpose, in_transpose, from_transpose, in_inter, type-left, in_left, from_left}

-- ---- bounds
pub type-upper : (n q : ℕ) (r s : Relation) → HasType n n r → HasType n q s → HasType n q (upper_bounds r s)
unfolding upper_bounds
type-upper n q r s t u = type-test r.rows s.cols n q _ t.row_size u.col_size

pub in_upper : (n q : ℕ) (r s : Relation) → HasType n n r → HasType n q s → (x y : ℕ)
    → has (upper_bounds r s) x y ≡ true → (z : ℕ) → has s z y ≡ true → has r z x ≡ true
unfolding upper_bounds
in_upper n q r s t u x y h z g =
    let w = inside n q s u z y g in
    implied (has s z y) (has r z x) (none_at s.rows (λ z. has s z y && not (has r z x))
    (in_test r.rows s.cols n q (λ x y. not (some_below s.rows
    (λ z. has s z y && not (has r z x)))) t.row_size u.col_size x y h) z
    (subst (λ (k : ℕ). z < k) (sym u.row_size) w.row)) g

pub from_upper : (n q : ℕ) (r s : Relation) → HasType n n r → HasType n q s → (x y : ℕ) → x < n → y < q
    → ((z : ℕ) → has s z y ≡ true → has r z x ≡ true) → has (upper_bounds r s) x y ≡ true
unfolding upper_bounds
from_upper n q r s t u x y a b f = from_test r.rows s.cols n q _ t.row_size u.col_size x y a b
    (not_from_false _ (some_none s.rows _ (λ z l. none_but (has s z y) (has r z x) (f z))))

pub type-lower : (n q : ℕ) (r s : Relation) → HasType n n r → HasType n q s → HasType n q (lower_bounds r s)
unfolding lower_bounds
type-lower n q r s t u = type-test r.rows s.cols n q _ t.row_size u.col_size

pub in_lower : (n q : ℕ) (r s : Relation) → HasType n n r → HasType n q s → (x y : ℕ)
    → has (lower_bounds r s) x y ≡ true → (z : ℕ) → has s z y ≡ true → has r x z ≡ true
unfolding lower_bounds
in_lower n q r s t u x y h z g =
    let w = inside n q s u z y g in
    implied (has s z y) (has r x z) (none_at s.rows (λ z. has s z y && not (has r x z))
    (in_test r.rows s.cols n q (λ x y. not (some_below s.rows
    (λ z. has s z y && not (has r x z)))) t.row_size u.col_size x y h) z
    (subst (λ (k : ℕ). z < k) (sym u.row_size) w.row)) g

pub from_lower : (n q : ℕ) (r s : Relation) → HasType n n r → HasType n q s → (x y : ℕ) → x < n → y < q
    → ((z : ℕ) → has s z y ≡ true → has r x z ≡ true) → has (lower_bounds r s) x y ≡ true
unfolding lower_bounds
from_lower n q r s t u x y a b f = from_test r.rows s.cols n q _ t.row_size u.col_size x y a b
    (not_from_false _ (some_none s.rows _ (λ z l. none_but (has s z y) (has r x z) (f z))))

-- upper bounds are a left residual of transposes: both ask that each z in column y of s be related to x
upper_by_residual : (n q : ℕ) (r s : Relation) → HasType n n r → HasType n q s
    → upper_bounds r s ≡ left_residual (transpose r) (transpose s)
upper_by_residual n q r s t u =
    let R = type-transpose n n r t in
    let S = type-transpose n q s u in
    let a = type-upper n q r s t u in
    let b = type-left n q n (transpose s) (transpose r) S R in
    one_relation n q _ _ a b
    (λ x y h. let w = inside n q (upper_bounds r s) a x y h in
    from_left n q n (transpose s) (transpose r) S R x y w.row w.col
    (λ z g. from_transpose n n r t x z (in_upper n q r s t u x y h z (in_transpose s y z g))))
    (λ x y h. let w = inside n q (left_residual (transpose r) (transpose s)) b x y h in
    from_upper n q r s t u x y w.row w.col (λ z g. in_transpose r x z
    (in_left n n (transpose s) (transpose r) R S.col_size S.valid x y h z (from_transpose n q s u y z g))))

-- lower bounds are a left residual too: both ask that x be related to each z in column y of s
lower_by_residual : (n q : ℕ) (r s : Relation) → HasType n n r → HasType n q s
    → lower_bounds r s ≡ left_residual r (transpose s)
lower_by_residual n q r s t u =
    let S = type-transpose n q s u in
    let a = type-lower n q r s t u in
    let b = type-left n q n (transpose s) r S t in
    one_relation n q _ _ a b
    (λ x y h. let w = inside n q (lower_bounds r s) a x y h in
    from_left n q n (transpose s) r S t x y w.row w.col (λ z g. in_lower n q r s t u x y h z (in_transpose s y z g)))
    (λ x y h. let w = inside n q (left_residual r (transpose s)) b x y h in
    from_lower n q r s t u x y w.row w.col (λ z g. in_left n n (transpose s) r t S.col_size S.valid x y h z
    (from_transpose n q s u y z g)))

pub bound_laws : BoundLaws
bound_laws = record { upper = upper_by_residual; lower = lower_by_residual }

-- ---- extreme elements
one_least : (n q : ℕ) (r s : Relation) → IsOrder n r → HasType n q s → (x y k : ℕ) → has (least r s) x k ≡ true
    → has (least r s) y k ≡ true → x ≡ y
unfolding least
one_least n q r s o u x y k h g =
    let a = in_inter n q s (lower_bounds r s) u x k h in
    let b = in_inter n q s (lower_bounds r s) u y k g in
    o.antisymmetric x y (in_lower n q r s o.type u x k a.1 y b.0) (in_lower n q r s o.type u y k b.1 x a.0)

one_greatest : (n q : ℕ) (r s : Relation) → IsOrder n r → HasType n q s → (x y k : ℕ) → has (greatest r s) x k ≡ true
    → has (greatest r s) y k ≡ true → x ≡ y
unfolding greatest
one_greatest n q r s o u x y k h g =
    let a = in_inter n q s (upper_bounds r s) u x k h in
    let b = in_inter n q s (upper_bounds r s) u y k g in
    o.antisymmetric x y (in_upper n q r s o.type u y k b.1 x a.0) (in_upper n q r s o.type u x k a.1 y b.0)

one_supremum : (n q : ℕ) (r s : Relation) → IsOrder n r → HasType n q s → (x y k : ℕ) → has (suprema r s) x k ≡ true
    → has (suprema r s) y k ≡ true → x ≡ y
unfolding suprema
one_supremum n q r s o u = one_least n q r (upper_bounds r s) o (type-upper n q r s o.type u)

one_infimum : (n q : ℕ) (r s : Relation) → IsOrder n r → HasType n q s → (x y k : ℕ) → has (infima r s) x k ≡ true
    → has (infima r s) y k ≡ true → x ≡ y
unfolding infima
one_infimum n q r s o u = one_greatest n q r (lower_bounds r s) o (type-lower n q r s o.type u)

pub extreme_laws : ExtremeLaws
extreme_laws = record { least = one_least; greatest = one_greatest; suprema = one_supremum; infima = one_infimum }
