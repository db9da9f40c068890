-- Base calls of bounds and of extremes: the tests of their operands, one after the other, and what they cost.
use Rattle.std.proofs.Common.{◌≡◌, ◌≢◌, ◌≤◌, ◌==◌, ◌∙◌, ℕ, Bool, true, false, cond, [], ◌∷◌, refl, ap, arith, Some}
use Rattle.rel_model.specs.Algebra.{HasType}
use Rattle.rel_model.specs.Relation.{Relation}
use Rattle.rel_model.specs.Worker.{derived_room, wide_room, classes_room}
use Rattle.rel_model.proofs.Rooms.{wide_room-four, classes_room-sixteen}
use Rattle.lang_model.specs.declared.syntax.Place.{Place}
use Rattle.lang_model.specs.declared.syntax.Base.{Base}
use Rattle.lang_model.specs.declared.syntax.Base.TheVariants.{Ubd, Lbd, Least, Greatest, Sup, Inf}
use Rattle.lang_model.specs.declared.faults.TypeFault.TheVariants.{NotSquare, Mismatch}
use Rattle.lang_model.specs.BaseNames.{base_text}
use Rattle.lang_model.specs.Types.{Fits, Misfit, known, sizes, type_of, bounding}
use Rattle.lang_model.specs.Rooms.{order_cost}
use Rattle.lang_model.specs.Outcomes.{Ill, Operation, Refuses}
use Rattle.lang_model.specs.Mean.{fitting, based, base_made_of_two}
use Rattle.rv_eval.specs.Demands.{bounds}
use Rattle.rv_eval.proofs.Operating.{same_type, equal_sizes, unequal_sizes}

-- ---- rooms
room_of_order : (leaf k m n x y z : ℕ) → x ≡ k → y ≡ m → z ≡ n → order_cost x y z leaf ≡ classes_room k m n
unfolding order_cost
room_of_order leaf k m n x y z a b c =
    ap (λ i. classes_room i y z) a ∙ ap (λ i. classes_room k i z) b ∙ ap (classes_room k m) c

pub order_of_derived : (leaf k m n x y z : ℕ) → x ≡ k → y ≡ m → z ≡ n → derived_room k m n ≤ order_cost x y z leaf
order_of_derived leaf k m n x y z a b c =
    let e = room_of_order leaf k m n x y z a b c in
    let s = classes_room-sixteen k m n in
    omega (arith, e, s)

pub order_of_wide : (leaf k m n x y z : ℕ) → x ≡ k → y ≡ m → z ≡ n → wide_room k m n ≤ order_cost x y z leaf
order_of_wide leaf k m n x y z a b c =
    let e = room_of_order leaf k m n x y z a b c in
    let t = wide_room-four k m n in
    let s = classes_room-sixteen k m n in
    omega (arith, e, t, s)

pub order_of_classes : (leaf k m n x y z : ℕ) → x ≡ k → y ≡ m → z ≡ n → classes_room k m n ≤ order_cost x y z leaf
order_of_classes leaf k m n x y z a b c = let e = room_of_order leaf k m n x y z a b c in omega (arith, e)

-- ---- the last case
pub last_bounds : (base : Base) → bounds base ≡ true → base ≢ Ubd → base ≢ Lbd → base ≢ Least → base ≢ Greatest
    → base ≢ Sup → base ≡ Inf
last_bounds Ubd d a b e f g = absurd (a refl)
last_bounds Lbd d a b e f g = absurd (b refl)
last_bounds Least d a b e f g = absurd (e refl)
last_bounds Greatest d a b e f g = absurd (f refl)
last_bounds Sup d a b e f g = absurd (g refl)
last_bounds Inf d a b e f g = refl
last_bounds base d a b e f g = absurd (let x : false ≡ true = d in cc)

-- ---- the two tests
by_bounds : (at : Place) (base : Base) (r s : Relation) → bounds base ≡ true
    → based at base (r ∷ s ∷ []) ≡ fitting (bounding at base (sizes r) (sizes s)) (base_made_of_two base r s)
unfolding based
by_bounds at Ubd r s h = refl
by_bounds at Lbd r s h = refl
by_bounds at Least r s h = refl
by_bounds at Greatest r s h = refl
by_bounds at Sup r s h = refl
by_bounds at Inf r s h = refl
by_bounds at base r s h = absurd (let x : false ≡ true = h in cc)

module _ (at : Place) {R S : Relation} {m n p q : ℕ} (t : HasType m n R) (u : HasType p q S) where
  -- what comes of the tests with these answers
  abbrev tested : Base → Bool → Bool → Operation → Operation
  tested base square rows made =
      fitting (cond square (cond rows (Fits (type_of (Some R.rows) (Some S.cols)))
      (Misfit (Mismatch at (base_text base) (sizes R) (sizes S))))
      (Misfit (NotSquare at (base_text base) (sizes R)))) made

  squares : (b : Bool) → (m == n) ≡ b → (R.rows == R.cols) ≡ b
  squares b e = ap (λ x. x == R.cols) t.row_size ∙ ap (λ x. m == x) t.col_size ∙ e

  same_rows : (b : Bool) → (m == p) ≡ b → (R.rows == S.rows) ≡ b
  same_rows b e = ap (λ x. x == S.rows) t.row_size ∙ ap (λ x. m == x) u.row_size ∙ e

  with_tests : (base : Base) (b c : Bool) → bounds base ≡ true → (R.rows == R.cols) ≡ b
      → (R.rows == S.rows) ≡ c
      → based at base (R ∷ S ∷ []) ≡ tested base b c (base_made_of_two base R S)
  with_tests base b c h e f =
      let made = base_made_of_two base R S in
      by_bounds at base R S h
      ∙ ap (λ x. tested base x (R.rows == S.rows) made) e ∙ ap (λ x. tested base b x made) f

  pub bounds_fit : (base : Base) → bounds base ≡ true → m ≡ n → m ≡ p
      → based at base (R ∷ S ∷ []) ≡ base_made_of_two base R S
  bounds_fit base h e f =
      with_tests base true true h (squares true (equal_sizes m n e)) (same_rows true (equal_sizes m p f))

  pub no_square_bounds : (base : Base) → bounds base ≡ true → m ≢ n
      → based at base (R ∷ S ∷ []) ≡ Refuses (Ill (NotSquare at (base_text base) (known m n)))
  no_square_bounds base h e =
      with_tests base false (R.rows == S.rows) h (squares false (unequal_sizes m n e)) refl
      ∙ ap (λ x. Refuses (Ill (NotSquare at (base_text base) x))) (same_type R m n t.row_size t.col_size)

  pub other_rows_bounds : (base : Base) → bounds base ≡ true → m ≡ n → m ≢ p
      → based at base (R ∷ S ∷ []) ≡ Refuses (Ill (Mismatch at (base_text base) (known m n) (known p q)))
  other_rows_bounds base h e f =
      with_tests base true false h (squares true (equal_sizes m n e)) (same_rows false (unequal_sizes m p f))
      ∙ ap (λ x. Refuses (Ill (Mismatch at (base_text base) x (sizes S)))) (same_type R m n t.row_size t.col_size)
      ∙ ap (λ x. Refuses (Ill (Mismatch at (base_text base) (known m n) x))) (same_type S p q u.row_size u.col_size)
