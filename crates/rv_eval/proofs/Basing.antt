-- Base calls: which operands they take, and those that no text spells.
use Rattle.std.proofs.Common.{◌≡◌, ◌≢◌, ◌≤◌, ◌+◌, ◌∙◌, ◌==◌, ◌&&◌, ℕ, Bool, true, false, cond, List, [], ◌∷◌, length, refl, ap, arith, Result}
use Rattle.lang_model.specs.declared.syntax.Place.{Place}
use Rattle.lang_model.specs.declared.syntax.Base.{Base}
use Rattle.lang_model.specs.declared.syntax.Base.TheVariants.{L, O, I, Ln1, On1, L1n, O1n, Dom, Ran, Trans, Refl, Epsi, Point, Atom, Init, Next, Inj, Empty, Unival}
use Rattle.lang_model.specs.declared.syntax.Base.TheVariants.{Less, Hasse, Quot, Syq, Eq, Incl, Ubd, Lbd, Least, Greatest, Sup, Inf}
use Rattle.lang_model.specs.declared.faults.TypeFault.TheVariants.{Mismatch}
use Rattle.rel_model.specs.Relation.{Relation}
use Rattle.rel_model.specs.Algebra.{HasType}
use Rattle.rel_model.specs.Operators.{empty}
use Rattle.rel_model.specs.Worker.{Worker, Keeps}
use Rattle.rel_slices.specs.declared.thin.Value.{Value}
use Rattle.rel_slices.specs.Thin.{value_of}
use Rattle.rel_values.specs.Values.{owed}
use Rattle.lang_model.specs.Rooms.{plain_cost}
use Rattle.lang_model.specs.Outcomes.{Cost, no_cost, Ill, Operation, Makes, Refuses, with_turns}
use Rattle.lang_model.specs.BaseNames.{base_text}
use Rattle.lang_model.specs.declared.faults.StaticShape.{StaticShape}
use Rattle.lang_model.specs.Types.{Fits, Misfit, known, sizes, squared, square, vector}
use Rattle.lang_model.specs.Mean.{fitting, based, answer_of_test, is_within}
use Rattle.rv_eval.specs.declared.halt.Halt.{Halt}
use Rattle.rv_eval.specs.declared.bases.Demand.TheVariants.{Nothing, Square, OneColumn}
use Rattle.rv_eval.specs.Demands.{demanded}
use Rattle.rv_eval.specs.Ends.{EndsOnce}
use Rattle.rv_eval.proofs.Going.{goes_last}
use Rattle.rv_eval.proofs.Operating.{same_type, by_sizes, square_fits, side_fits, vector_fits}

-- ---- the case that a call is of
pub base_as : (at : Place) (R : Relation) {base same : Base} {o : Operation} → base ≡ same
    → based at same (R ∷ []) ≡ o → based at base (R ∷ []) ≡ o
base_as at R is made = ap (λ b. based at b (R ∷ [])) is ∙ made

pub both_as : (at : Place) (R S : Relation) {base same : Base} → base ≡ same
    → based at base (R ∷ S ∷ []) ≡ based at same (R ∷ S ∷ [])
both_as at R S is = ap (λ b. based at b (R ∷ S ∷ [])) is

-- by the sizes that the code has
pub base_is : (at : Place) {base same : Base} {R : Relation} {m n : ℕ} (F : Relation → ℕ → ℕ → Operation)
    → HasType m n R → base ≡ same → based at same (R ∷ []) ≡ F R R.rows R.cols → based at base (R ∷ []) ≡ F R m n
base_is at {R = R} F t is made = base_as at R is (made ∙ by_sizes at t (F R))

-- the same where the operand is tested, and square
pub square_is : (at : Place) {base : Base} (same : Base) {R : Relation} {m n : ℕ} (F : Relation → ℕ → ℕ → Operation)
    → HasType m n R → m ≡ n → base ≡ same
    → based at same (R ∷ []) ≡ fitting (square at same (sizes R)) (F R R.rows R.cols)
    → based at base (R ∷ []) ≡ F R m n
square_is at same {R = R} F t e is made = base_as at R is (made ∙ square_fits at t same (F R) e)

-- the same of a result that has the side of the operand as rows alone
pub side_is : (at : Place) {base : Base} (same : Base) {R : Relation} {m n : ℕ} (type : StaticShape)
    (F : Relation → ℕ → ℕ → Operation) → HasType m n R → m ≡ n → base ≡ same
    → based at same (R ∷ []) ≡ fitting (squared at same (sizes R) (Fits type)) (F R R.rows R.cols)
    → based at base (R ∷ []) ≡ F R m n
side_is at same {R = R} type F t e is made = base_as at R is (made ∙ side_fits at t same type (F R) e)

-- or a vector
pub vector_is : (at : Place) {base : Base} (same : Base) {R : Relation} {m n : ℕ} (type : StaticShape)
    (F : Relation → ℕ → ℕ → Operation) → HasType m n R → n ≡ 1 → base ≡ same
    → based at same (R ∷ []) ≡ fitting (vector at same (sizes R) type) (F R R.rows R.cols)
    → based at base (R ∷ []) ≡ F R m n
vector_is at same {R = R} type F t one is made = base_as at R is (made ∙ vector_fits at t same type (F R) one)

-- ---- the last case of each kind
pub last_square : (base : Base) → demanded base ≡ Square → base ≢ I → base ≢ Trans → base ≢ Less → base ≢ Hasse → base ≢ Quot → base ≡ Refl
last_square I d a b l h q = absurd (a refl)
last_square Trans d a b l h q = absurd (b refl)
last_square Less d a b l h q = absurd (l refl)
last_square Hasse d a b l h q = absurd (h refl)
last_square Quot d a b l h q = absurd (q refl)
last_square Refl d a b l h q = refl
last_square Epsi d a b l h q = absurd (let x : OneColumn ≡ Square = d in cc)
last_square Point d a b l h q = absurd (let x : OneColumn ≡ Square = d in cc)
last_square Init d a b l h q = absurd (let x : OneColumn ≡ Square = d in cc)
last_square Next d a b l h q = absurd (let x : OneColumn ≡ Square = d in cc)
last_square Inj d a b l h q = absurd (let x : OneColumn ≡ Square = d in cc)
last_square base d a b l h q = absurd (let x : Nothing ≡ Square = d in cc)

-- of the base calls of one vector, those with a size of their own left out, only the injection is left
pub last_vector : (base : Base) → demanded base ≡ OneColumn → base ≢ Epsi → base ≢ Point → base ≢ Init → base ≢ Next → base ≡ Inj
last_vector Epsi d a b e f = absurd (a refl)
last_vector Point d a b e f = absurd (b refl)
last_vector Init d a b e f = absurd (e refl)
last_vector Next d a b e f = absurd (f refl)
last_vector Inj d a b e f = refl
last_vector I d a b e f = absurd (let x : Square ≡ OneColumn = d in cc)
last_vector Trans d a b e f = absurd (let x : Square ≡ OneColumn = d in cc)
last_vector Refl d a b e f = absurd (let x : Square ≡ OneColumn = d in cc)
last_vector Less d a b e f = absurd (let x : Square ≡ OneColumn = d in cc)
last_vector Hasse d a b e f = absurd (let x : Square ≡ OneColumn = d in cc)
last_vector Quot d a b e f = absurd (let x : Square ≡ OneColumn = d in cc)
last_vector base d a b e f = absurd (let x : Nothing ≡ OneColumn = d in cc)

-- ---- calls that no text spells
pub other_base : (at : Place) (base : Base) (r : Relation) → demanded base ≡ Nothing → base ≢ L → base ≢ O → base ≢ Ln1 → base ≢ On1
    → base ≢ L1n → base ≢ O1n → base ≢ Dom → base ≢ Ran → base ≢ Atom → base ≢ Empty → base ≢ Unival
    → based at base (r ∷ []) ≡ Makes (empty 0 0) no_cost
unfolding based
other_base at L r d l o m n p q f g h i j = absurd (l refl)
other_base at O r d l o m n p q f g h i j = absurd (o refl)
other_base at Ln1 r d l o m n p q f g h i j = absurd (m refl)
other_base at On1 r d l o m n p q f g h i j = absurd (n refl)
other_base at L1n r d l o m n p q f g h i j = absurd (p refl)
other_base at O1n r d l o m n p q f g h i j = absurd (q refl)
other_base at Dom r d l o m n p q f g h i j = absurd (f refl)
other_base at Ran r d l o m n p q f g h i j = absurd (g refl)
other_base at Atom r d l o m n p q f g h i j = absurd (h refl)
other_base at Empty r d l o m n p q f g h i j = absurd (i refl)
other_base at Unival r d l o m n p q f g h i j = absurd (j refl)
other_base at I r d l o m n p q f g h i j = absurd (let x : Square ≡ Nothing = d in cc)
other_base at Trans r d l o m n p q f g h i j = absurd (let x : Square ≡ Nothing = d in cc)
other_base at Refl r d l o m n p q f g h i j = absurd (let x : Square ≡ Nothing = d in cc)
other_base at Less r d l o m n p q f g h i j = absurd (let x : Square ≡ Nothing = d in cc)
other_base at Hasse r d l o m n p q f g h i j = absurd (let x : Square ≡ Nothing = d in cc)
other_base at Quot r d l o m n p q f g h i j = absurd (let x : Square ≡ Nothing = d in cc)
other_base at Epsi r d l o m n p q f g h i j = absurd (let x : OneColumn ≡ Nothing = d in cc)
other_base at Point r d l o m n p q f g h i j = absurd (let x : OneColumn ≡ Nothing = d in cc)
other_base at Init r d l o m n p q f g h i j = absurd (let x : OneColumn ≡ Nothing = d in cc)
other_base at Next r d l o m n p q f g h i j = absurd (let x : OneColumn ≡ Nothing = d in cc)
other_base at Inj r d l o m n p q f g h i j = absurd (let x : OneColumn ≡ Nothing = d in cc)
other_base at base r d l o m n p q f g h i j = refl

-- no other base name takes two operands: such a call, which no text spells, makes the relation without a row
pub other_two : (at : Place) (base : Base) (r s : Relation) → base ≢ Syq → base ≢ Eq → base ≢ Incl
    → base ≢ Ubd → base ≢ Lbd → base ≢ Least → base ≢ Greatest → base ≢ Sup → base ≢ Inf
    → based at base (r ∷ s ∷ []) ≡ Makes (empty 0 0) no_cost
unfolding based
other_two at Syq r s a b c d e f g h i = absurd (a refl)
other_two at Eq r s a b c d e f g h i = absurd (b refl)
other_two at Incl r s a b c d e f g h i = absurd (c refl)
other_two at Ubd r s a b c d e f g h i = absurd (d refl)
other_two at Lbd r s a b c d e f g h i = absurd (e refl)
other_two at Least r s a b c d e f g h i = absurd (f refl)
other_two at Greatest r s a b c d e f g h i = absurd (g refl)
other_two at Sup r s a b c d e f g h i = absurd (h refl)
other_two at Inf r s a b c d e f g h i = absurd (i refl)
other_two at base r s a b c d e f g h i = refl

pub other_count : (at : Place) (base : Base) (rs : List Relation) → length rs ≢ 1 → length rs ≢ 2 → based at base rs ≡ Makes (empty 0 0) no_cost
unfolding based
other_count at base [] a b = refl
other_count at base (r ∷ []) a b = absurd (a refl)
other_count at base (r ∷ s ∷ []) a b = absurd (b refl)
other_count at base (r ∷ s ∷ t ∷ ts) a b = refl

-- ---- two operands of one type
module _ (at : Place) {R S : Relation} {m n p q : ℕ} (t : HasType m n R) (u : HasType p q S) where
  tested_both : (b : Bool) → ((m == p) && (n == q)) ≡ b → ((R.rows == S.rows) && (R.cols == S.cols)) ≡ b
  tested_both b e =
      ap (λ x. (x == S.rows) && (R.cols == S.cols)) t.row_size ∙ ap (λ x. (m == x) && (R.cols == S.cols)) u.row_size
      ∙ ap (λ x. (m == p) && (x == S.cols)) t.col_size ∙ ap (λ x. (m == p) && (n == x)) u.col_size ∙ e

  pub eq_fits : ((m == p) && (n == q)) ≡ true
      → based at Eq (R ∷ S ∷ []) ≡ Makes (answer_of_test (is_within R S && is_within S R)) (plain_cost m n)
  unfolding based
  eq_fits e =
      ap (λ b. fitting (cond b (Fits (known 1 1)) (Misfit (Mismatch at (base_text Eq) (sizes R) (sizes S)))) (Makes (answer_of_test (is_within R S && is_within S R)) (plain_cost R.rows R.cols))) (tested_both true e)
      ∙ ap (λ k. Makes (answer_of_test (is_within R S && is_within S R)) (plain_cost k R.cols)) t.row_size
      ∙ ap (λ k. Makes (answer_of_test (is_within R S && is_within S R)) (plain_cost m k)) t.col_size

  pub eq_misfit : ((m == p) && (n == q)) ≡ false
      → based at Eq (R ∷ S ∷ []) ≡ Refuses (Ill (Mismatch at (base_text Eq) (known m n) (known p q)))
  unfolding based
  eq_misfit e =
      ap (λ b. fitting (cond b (Fits (known 1 1)) (Misfit (Mismatch at (base_text Eq) (sizes R) (sizes S)))) (Makes (answer_of_test (is_within R S && is_within S R)) (plain_cost R.rows R.cols))) (tested_both false e)
      ∙ ap (λ x. Refuses (Ill (Mismatch at (base_text Eq) x (sizes S)))) (same_type R m n t.row_size t.col_size)
      ∙ ap (λ x. Refuses (Ill (Mismatch at (base_text Eq) (known m n) x))) (same_type S p q u.row_size u.col_size)

  pub incl_fits : ((m == p) && (n == q)) ≡ true
      → based at Incl (R ∷ S ∷ []) ≡ Makes (answer_of_test (is_within R S)) (plain_cost m n)
  unfolding based
  incl_fits e =
      ap (λ b. fitting (cond b (Fits (known 1 1)) (Misfit (Mismatch at (base_text Incl) (sizes R) (sizes S)))) (Makes (answer_of_test (is_within R S)) (plain_cost R.rows R.cols))) (tested_both true e)
      ∙ ap (λ k. Makes (answer_of_test (is_within R S)) (plain_cost k R.cols)) t.row_size
      ∙ ap (λ k. Makes (answer_of_test (is_within R S)) (plain_cost m k)) t.col_size

  pub incl_misfit : ((m == p) && (n == q)) ≡ false
      → based at Incl (R ∷ S ∷ []) ≡ Refuses (Ill (Mismatch at (base_text Incl) (known m n) (known p q)))
  unfolding based
  incl_misfit e =
      ap (λ b. fitting (cond b (Fits (known 1 1)) (Misfit (Mismatch at (base_text Incl) (sizes R) (sizes S)))) (Makes (answer_of_test (is_within R S)) (plain_cost R.rows R.cols))) (tested_both false e)
      ∙ ap (λ x. Refuses (Ill (Mismatch at (base_text Incl) x (sizes S)))) (same_type R m n t.row_size t.col_size)
      ∙ ap (λ x. Refuses (Ill (Mismatch at (base_text Incl) (known m n) x))) (same_type S p q u.row_size u.col_size)

-- a second operation after a first that made no more than its cost
pub after_made : {leaf : ℕ} (old mid new : Worker) (value : Relation) (c d : Cost) (r : Result Value Halt) → Keeps old mid → mid.made ≤ old.made + c leaf
    → EndsOnce leaf mid new (Makes value d) r → EndsOnce leaf old new (Makes value (λ l. c l + d l)) r
after_made {leaf = leaf} old mid new value c d r k m e =
    goes_last {start = 0} {owed = 0} {begun = 0} old mid new 0 0 0 (with_turns (Makes value (λ l. c l + d l)) 0) (with_turns (Makes value d) 0) (value_of new) (owed leaf) r
    (record { spent = c leaf; same_answer = refl; same_cost = refl; keeps = k; room = m; owes = omega (arith, m); turns = omega arith }) e (omega arith)
