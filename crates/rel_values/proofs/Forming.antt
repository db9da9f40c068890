-- What an operation makes whose two operands were brought into the form of their sizes, and what its answer owes.
-- 1. Where some sizes are thin, the height is at least 9: forming both, and making the answer whole, takes no more than
--    three squares, which the call leaves free (`ends_thin`).
-- 2. Where none are, nothing is formed, and the answer stands whole (`ends_plain`).
-- 3. A residual or a symmetric quotient of two that stand whole is the engine's, and else that of lines
--    (`derived_whole`, `derived_lines`). If the two cannot be formed, neither is called (`derived_stops`).
use Rattle.std.proofs.Common.{◌≡◌, ◌≤◌, ◌+◌, ◌*◌, ◌^◌, ◌∙◌, ℕ, Bool, Result, IfOk, sym, ap, subst, arith, inl, inr}
use Rattle.std.specs.Prelude.{Ok, Err, IfErr}
use Rattle.std.specs.Result.{IsErrAnd}
use Rattle.rel_model.specs.declared.Lack.{Lack}
use Rattle.rel_model.specs.declared.Rel.{Rel}
use Rattle.rel_model.specs.Relation.{Relation, size_limit}
use Rattle.rel_model.specs.Worker.{Worker, set_of, Gives, Keeps, MakesAtMost, HasCause, height_of, height_of_three, product_room, derived_room, wide_room}
use Rattle.rel_model.proofs.Rooms.{derived_room-least, wide_room-four}
use Rattle.rel_slices.specs.declared.thin.Value.{Value}
use Rattle.rel_slices.specs.declared.thin.Value.TheVariants.{Whole, Lines}
use Rattle.rel_slices.specs.Thin.{GivesValue, ValueStands, HasForm, IsLines, SomeThin as SomeLines, value_of, value_rows, value_cols}
use Rattle.rel_slices.specs.ValueRooms.{formed_room}
use Rattle.rel_slices.specs.Derived.{Derives}
use Rattle.rel_steps.specs.Reading.{OnlyReads}
use Rattle.rel_model.proofs.Workers.{keeps_set}
use Rattle.rel_steps.proofs.Rooms.{as_high}
use Rattle.rel_slices.proofs.Costs.{squares_in_cubes, value_row_limit, value_col_limit}
use Rattle.rel_values.specs.Values.{Fits, owed, Operates, AreForms}
use Rattle.rel_values.proofs.Small.{Held, forming_room}
use Rattle.rel_values.proofs.Operating.{Underway, begun, has_read, given_fits, stops, ends_rel, ends_value}
use Rattle.rel_values.proofs.Thinness.{AreThin, SomeThin, ArePlain, AllPlain, cases_three, plain_formed, plain_owed, some_high, three_squares}
use Rattle.rel_values.proofs.Sizes.{formed_at, owed_at}

-- three sizes are within the limit
pub record Limits (k m n : ℕ) : Type 0 where
  pub first : k ≤ size_limit
  pub middle : m ≤ size_limit
  pub last : n ≤ size_limit

-- What a call made that comes after formings is within a cost together with them, and with what its answer owes.
pub record Ends (least forming made cost rows cols : ℕ) (v w : Worker) : Type 0 where
  pub room : MakesAtMost made v w
  pub fits : forming + made ≤ cost
  pub owes : (set : Relation) (a : Value) → GivesValue w rows cols set a → HasForm a → forming + made + owed least a ≤ cost

pub ends_thin : {least forming made cost rows cols : ℕ} {v w : Worker} (h : ℕ) → least ≡ 3 → forming ≤ 2 * 4 ^ h → made + 3 * 4 ^ h ≤ cost → height_of rows ≤ h → height_of cols ≤ h → MakesAtMost made v w → Ends least forming made cost rows cols v w
ends_thin {least} {forming} {made} {cost} {rows} {cols} {w = w} h e f q a b r = record {
  room = r;
  fits = omega (arith, f, q);
  owes = λ set v g s.
      let i = g.row_size in
      let j = g.col_size in
      let o = owed_at least h w v e (given_fits v g s)
      (subst (λ (x : ℕ). height_of x ≤ h) (sym i) a) (subst (λ (x : ℕ). height_of x ≤ h) (sym j) b) in
      omega (arith, f, q, o);
}

pub ends_plain : {least forming cost rows cols : ℕ} {v w : Worker} → forming ≡ 0 → ArePlain rows cols → MakesAtMost cost v w → Ends least forming cost cost rows cols v w
ends_plain {least} {forming} {cost} {rows} {cols} {w = w} f p r = record {
  room = r;
  fits = omega (arith, f);
  owes = λ set v g s.
      let o = plain_owed least w v g.stands s
      (subst (λ (x : ℕ). ArePlain x (value_cols v)) (sym g.row_size) (subst (λ (y : ℕ). ArePlain rows y) (sym g.col_size) p)) in
      omega (arith, f, o);
}

-- two relations of these sizes, at a height
pub two_formed : (least a b c d h : ℕ) → least ≡ 3 → a ≤ size_limit → b ≤ size_limit → c ≤ size_limit → d ≤ size_limit → height_of a ≤ h → height_of b ≤ h → height_of c ≤ h → height_of d ≤ h → formed_room least a b + formed_room least c d ≤ 2 * 4 ^ h
two_formed least a b c d h e i j k l p q r s =
    let x = formed_at least a b h e i j p q in
    let y = formed_at least c d h e k l r s in
    omega (arith, x, y)

-- two operands with one size in common, at the height of all three
pub beside : {least : ℕ} {o : Worker} (x y : Value) → Held least o → Fits o x → Fits o y → value_rows x ≡ value_rows y → forming_room least x + forming_room least y ≤ 2 * 4 ^ height_of_three (value_rows x) (value_cols x) (value_cols y)
beside {least} {o} x y h f g e =
    two_formed least _ _ _ _ (height_of_three (value_rows x) (value_cols x) (value_cols y)) h.leaves (value_row_limit o x h.row_limit f.stands) (value_col_limit o x h.col_limit f.stands) (value_row_limit o y h.row_limit g.stands) (value_col_limit o y h.col_limit g.stands)
    (omega arith) (omega arith) (as_high _ (value_rows x) _ (sym e) (omega arith)) (omega arith)

pub stacked : {least : ℕ} {o : Worker} (x y : Value) → Held least o → Fits o x → Fits o y → value_cols x ≡ value_cols y → forming_room least x + forming_room least y ≤ 2 * 4 ^ height_of_three (value_rows x) (value_cols x) (value_rows y)
stacked {least} {o} x y h f g e =
    two_formed least _ _ _ _ (height_of_three (value_rows x) (value_cols x) (value_rows y)) h.leaves (value_row_limit o x h.row_limit f.stands) (value_col_limit o x h.col_limit f.stands) (value_row_limit o y h.row_limit g.stands) (value_col_limit o y h.col_limit g.stands)
    (omega arith) (omega arith) (omega arith) (as_high _ (value_cols x) _ (sym e) (omega arith))

pub chained : {least : ℕ} {o : Worker} (x y : Value) → Held least o → Fits o x → Fits o y → value_cols x ≡ value_rows y → forming_room least x + forming_room least y ≤ 2 * 4 ^ height_of_three (value_rows x) (value_cols x) (value_cols y)
chained {least} {o} x y h f g e =
    two_formed least _ _ _ _ (height_of_three (value_rows x) (value_cols x) (value_cols y)) h.leaves (value_row_limit o x h.row_limit f.stands) (value_col_limit o x h.col_limit f.stands) (value_row_limit o y h.row_limit g.stands) (value_col_limit o y h.col_limit g.stands)
    (omega arith) (omega arith) (as_high _ (value_cols x) _ (sym e) (omega arith)) (omega arith)

-- a composition, of k × m with m × n
pub compose_ends : {least forming : ℕ} (k m n : ℕ) (v w : Worker) → least ≡ 3 → Limits k m n → forming ≤ 2 * 4 ^ height_of_three k m n → (AllPlain k m n → forming ≡ 0) → MakesAtMost (product_room k m n) v w
    → (SomeThin k m n → MakesAtMost (15 * 8 ^ height_of_three k m n) v w) → (made : ℕ) × Ends least forming made (product_room k m n) k n v w
unfolding product_room
compose_ends k m n v w e l f none r few = elim (cases_three k m n) [
  | inl t ↦ (let s = three_squares (height_of_three k m n) (some_high k m n l.first l.middle l.last t) in (15 * 8 ^ height_of_three k m n, ends_thin (height_of_three k m n) e f (omega (arith, s)) (omega arith) (omega arith) (few t)))
  | inr p ↦ (product_room k m n, ends_plain (none p) p.both r)
]

-- what the language counts for a derived call has room for two, beside three squares
pub wide_squares : (k m n : ℕ) → 2 * derived_room k m n + 3 * 4 ^ height_of_three k m n ≤ wide_room k m n
wide_squares k m n =
    let a = derived_room-least k m n in
    let b = wide_room-four k m n in
    let c = squares_in_cubes (height_of_three k m n) in
    omega (arith, a, b, c)

-- a cost by equal sizes
pub same_three : (f : ℕ → ℕ → ℕ → ℕ) {a b c k m n : ℕ} → a ≡ k → b ≡ m → c ≡ n → f a b c ≡ f k m n
same_three f {a} {b} {c} {k} {m} {n} x y z = ap (λ (t : ℕ). f t b c) x ∙ ap (λ (t : ℕ). f k t c) y ∙ ap (λ (t : ℕ). f k m t) z

-- a cost that is within another, by equal sizes
pub bounded : (f g : ℕ → ℕ → ℕ → ℕ) {a b c k m n : ℕ} → ((k m n : ℕ) → f k m n ≤ g k m n) → a ≡ k → b ≡ m → c ≡ n → f a b c ≤ g k m n
bounded f g {k = k} {m = m} {n = n} h x y z = omega (arith, same_three f x y z, h k m n)

-- what stands whole in the form of its sizes is plain
pub whole_plain : (v : Value) (r : Rel) → v ≡ Whole r → HasForm v → ArePlain (value_rows v) (value_cols v)
whole_plain v r e f = subst (λ (x : Value). ArePlain (value_rows x) (value_cols x)) (sym e) (subst HasForm e f)

-- forming two operands is within the cost of a composition
pub product_forming : (k m n : ℕ) {forming : ℕ} → forming ≤ 2 * 4 ^ height_of_three k m n → forming ≤ product_room k m n
unfolding product_room
product_forming k m n f = omega (arith, f, squares_in_cubes (height_of_three k m n))

-- what two operands mean together, they mean in their forms
pub both_mean : {o w : Worker} {x y a b : Value} (f : Relation → Relation → Relation) → AreForms o w x y a b → f (value_of w a) (value_of w b) ≡ f (value_of o x) (value_of o y)
both_mean {o} {w} {x} {y} {a} {b} f s = ap (λ (r : Relation). f r (value_of w b)) s.left.means ∙ ap (f (value_of o x)) s.right.means

-- the sizes of an operand that stands whole in its form
pub record IsOperand (x : Value) (r : Rel) : Type 0 where
  pub rows : r.rows ≡ value_rows x
  pub cols : r.cols ≡ value_cols x

pub is_operand : {w : Worker} (x : Value) {a : Value} {r : Rel} {set : Relation} → a ≡ Whole r → GivesValue w (value_rows x) (value_cols x) set a → IsOperand x r
is_operand x e g = record { rows = sym (ap value_rows e) ∙ g.row_size; cols = sym (ap value_cols e) ∙ g.col_size }

-- it is plain
operand_formed : (least : ℕ) {w : Worker} (x a : Value) (r : Rel) {set : Relation} → a ≡ Whole r → GivesValue w (value_rows x) (value_cols x) set a → HasForm a → forming_room least x ≡ 0
operand_formed least x a r e g f = plain_formed least _ _ (subst (λ (p : ℕ). ArePlain p (value_cols x)) g.row_size (subst (λ (q : ℕ). ArePlain (value_rows a) q) g.col_size (whole_plain a r e f)))

-- ---- a derived call on two operands in their forms
-- they could not be formed
pub derived_stops : {T : Type 0} {lean : Bool} (k m n forming : ℕ) {least rows cols : ℕ} {set : Relation} {o v : Worker} {e : Lack} (result : Result Value Lack) → IsErrAnd result (λ (z : Lack). z ≡ e) → forming ≤ 2 * 4 ^ height_of_three k m n
    → Keeps o v → MakesAtMost forming o v → HasCause {T = T} lean o v (Err e) → Operates least lean o v rows cols set (wide_room k m n) result
derived_stops k m n forming {o = o} result e f q r c = stops forming result e (omega (arith, f, wide_squares k m n)) (begun o) q r c

-- both stand whole
pub derived_whole : {lean : Bool} {least made cost i j rows cols : ℕ} {o v w : Worker} {x y a b : Value} {p q : Rel} (f : Relation → Relation → Relation) (given : Result Rel Lack) (result : Result Value Lack)
    → IfOk given (λ (z : Rel). result ≡ Ok (Whole z)) → IfErr given (λ (z : Lack). result ≡ Err z) → Underway (forming_room least x + forming_room least y) o v → AreForms o v x y a b → a ≡ Whole p → b ≡ Whole q
    → Keeps v w → MakesAtMost made v w → HasCause lean v w given → IfOk given (Gives w i j (f (set_of v p) (set_of v q))) → i ≡ rows → j ≡ cols → made ≤ cost → Operates least lean o w rows cols (f (value_of o x) (value_of o y)) cost result
derived_whole {least = least} {made = made} {v = v} {x = x} {y = y} {a = a} {b = b} {p = p} {q = q} f given result good bad u s ea eb k r c g er ec l =
    let x0 = operand_formed least x a p ea s.left s.left_form in
    let y0 = operand_formed least y b q eb s.right s.right_form in
    ends_rel made given result good bad u k r c g er ec
    (ap (λ (z : Relation). f z (set_of v q)) (sym (ap (value_of v) ea)) ∙ ap (f (value_of v a)) (sym (ap (value_of v) eb)) ∙ both_mean f s) (omega (arith, x0, y0, l))

-- both are left whole, whatever the form of their sizes
pub left_so : {lean : Bool} {least made cost i j rows cols : ℕ} {o v w : Worker} {x y : Value} {p q : Rel} (f : Relation → Relation → Relation) (given : Result Rel Lack) (result : Result Value Lack)
    → IfOk given (λ (z : Rel). result ≡ Ok (Whole z)) → IfErr given (λ (z : Lack). result ≡ Err z) → OnlyReads o v → x ≡ Whole p → y ≡ Whole q → ValueStands o x → ValueStands o y
    → Keeps v w → MakesAtMost made v w → HasCause lean v w given → IfOk given (Gives w i j (f (set_of v p) (set_of v q))) → i ≡ rows → j ≡ cols → made ≤ cost → Operates least lean o w rows cols (f (value_of o x) (value_of o y)) cost result
left_so {made = made} {o = o} {v = v} {x = x} {y = y} {p = p} {q = q} f given result good bad u ea eb sx sy k r c g er ec l =
    let first = keeps_set o v p u.keeps (subst (ValueStands o) ea sx) ∙ ap (value_of o) (sym ea) in
    let second = keeps_set o v q u.keeps (subst (ValueStands o) eb sy) ∙ ap (value_of o) (sym eb) in
    ends_rel made given result good bad (has_read u) k r c g er ec
    (ap (λ (z : Relation). f z (set_of v q)) first ∙ ap (f (value_of o x)) second) (omega (arith, l))

-- one is lines
pub derived_lines : {lean : Bool} {least i j rows cols counted most : ℕ} {o v w : Worker} {x y a b : Value} (f : Relation → Relation → Relation) (k m n : ℕ) (result : Result Value Lack)
    → least ≡ 3 → forming_room least x + forming_room least y ≤ 2 * 4 ^ height_of_three k m n → Underway (forming_room least x + forming_room least y) o v → AreForms o v x y a b
    → Derives least lean v w i j (f (value_of v a) (value_of v b)) counted most result → most ≤ derived_room k m n
    → i ≡ rows → j ≡ cols → height_of rows ≤ height_of_three k m n → height_of cols ≤ height_of_three k m n → Operates least lean o w rows cols (f (value_of o x) (value_of o y)) (wide_room k m n) result
derived_lines {least = least} {rows = rows} {cols = cols} {v = v} {w = w} {x = x} {y = y} f k m n result e p u s d l er ec hr hc =
    let z = wide_squares k m n in
    let q : Ends least (forming_room least x + forming_room least y) (derived_room k m n) (wide_room k m n) rows cols v w = ends_thin (height_of_three k m n) e p (omega (arith, z)) hr hc (omega (arith, d.close e, l)) in
    ends_value (derived_room k m n) result u d.keeps q.room d.cause d.value d.form er ec (both_mean f s) q.fits (q.owes _)

-- what has the form of its sizes, which are thin, is lines
thin_lines : (x : Value) (m n : ℕ) → HasForm x → value_rows x ≡ m → value_cols x ≡ n → AreThin m n → IsLines x
thin_lines (Whole r) m n f i j t = let a = t.few in let b = t.long in let c = f (omega (arith, i, j, a)) in absurd (omega (arith, i, j, b, c))
thin_lines (Lines s) m n f i j t = tt

-- of a composition in which some sizes are thin, not all three stand whole
pub some_lines : (x y : Value) (k m n : ℕ) → HasForm x → HasForm y → value_rows x ≡ k → value_cols x ≡ m → value_rows y ≡ m → value_cols y ≡ n → SomeThin k m n → SomeLines x y (value_rows x) (value_cols y)
some_lines x y k m n f g a b c d t = elim t [
  | inl u ↦ inl (thin_lines x k m f a b u)
  | inr v ↦ elim v [
    | inl u ↦ inr (inl (thin_lines y m n g c d u))
    | inr u ↦ inr (inr (let p = u.few in let q = u.long in (omega (arith, a, d, p), omega (arith, a, d, q))))
  ]
]
