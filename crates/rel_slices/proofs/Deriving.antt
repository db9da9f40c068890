-- What the calls of a composition and of a derivation make on values, at a height whose side is at least their sizes.
-- 1. A composition is chosen by the forms of both operands (`pair`); what its call costs by their sizes it costs by
--    those of the operands (`by_pair`).
-- 2. At the height of three sizes both operands of a derivation are within a square (`beside`, `stacked`), and so is
--    each value between (`later`, `given`).
-- 3. There a transposition takes 2 * 8 ^ h nodes at most, a complement or an operator 4 * 8 ^ h (`transposed`,
--    `complemented`, `combined`).
use Rattle.std.proofs.Common.{◌≡◌, ◌≤◌, ◌*◌, ◌^◌, ◌∙◌, cond, ℕ, Bool, sym, ap, subst, arith}
use Rattle.rel_model.specs.declared.Rel.{Rel}
use Rattle.rel_model.specs.Relation.{Relation, size_limit}
use Rattle.rel_model.specs.Worker.{Worker, Stands, Keeps, height_of_three}
use Rattle.rel_slices.specs.declared.thin.Thin.{Thin}
use Rattle.rel_slices.specs.declared.thin.Value.{Value}
use Rattle.rel_slices.specs.Thin.{ValueStands, GivesValue, thin_rows, thin_cols, value_rows, value_cols}
use Rattle.rel_slices.specs.ValueRooms.{thin_room, pieces_room, complement_room, transpose_room}
use Rattle.rel_slices.proofs.Valuing.{value_stays}
use Rattle.rel_slices.proofs.Costs.{value_row_limit, value_col_limit, first_covered, middle_covered, last_covered, pieces_part, complement_part, transpose_part}

-- ---- a composition by the forms of its operands
-- two values are these, which stand and may be multiplied
pub record Pair (w : Worker) (x y p q : Value) : Type 0 where
  pub left_is : x ≡ p
  pub right_is : y ≡ q
  pub left : ValueStands w p
  pub right : ValueStands w q
  pub middle : value_cols p ≡ value_rows q
  pub row_limit : value_rows p ≤ size_limit
  pub middle_limit : value_cols p ≤ size_limit
  pub col_limit : value_cols q ≤ size_limit

-- two operands of known forms that stand and may be multiplied; the sizes of all that stands are within the limit
pub pair : (w : Worker) {x y p q : Value} → ((r : Rel) → Stands w r → r.rows ≤ size_limit) → ((r : Rel) → Stands w r → r.cols ≤ size_limit)
    → x ≡ p → y ≡ q → ValueStands w x → ValueStands w y → value_cols x ≡ value_rows y → Pair w x y p q
pair w {x} {y} {p} {q} rows cols ex ey a b m =
    let left = subst (λ (v : Value). ValueStands w v) ex a in
    let right = subst (λ (v : Value). ValueStands w v) ey b in
    record {
      left_is = ex;
      right_is = ey;
      left = left;
      right = right;
      middle = sym (ap value_cols ex) ∙ m ∙ ap value_rows ey;
      row_limit = value_row_limit w p rows left;
      middle_limit = value_col_limit w p cols left;
      col_limit = value_col_limit w q cols right;
    }

-- the sizes of lines whose direction is known
pub rows_as : (s : Thin) {t : Bool} → s.turned ≡ t → thin_rows s ≡ cond t s.other s.count
rows_as s e = ap (λ (b : Bool). cond b s.other s.count) e

pub cols_as : (s : Thin) {t : Bool} → s.turned ≡ t → thin_cols s ≡ cond t s.count s.other
cols_as s e = ap (λ (b : Bool). cond b s.count s.other) e

-- a cost by the sizes of what they are
pub by_pair : {w : Worker} {x y p q : Value} {k m n z : ℕ} → Pair w x y p q → value_rows p ≡ k → value_cols p ≡ m → value_cols q ≡ n
    → (k ≤ size_limit → m ≤ size_limit → n ≤ size_limit → z ≤ thin_room k m n) → z ≤ thin_room (value_rows x) (value_cols x) (value_cols y)
by_pair {x = x} {y = y} {k = k} {m = m} {n = n} {z = z} p a b c f =
    let e : thin_room (value_rows x) (value_cols x) (value_cols y) ≡ thin_room k m n =
    ap (λ (t : ℕ). thin_room t (value_cols x) (value_cols y)) (ap value_rows p.left_is ∙ a)
    ∙ ap (λ (t : ℕ). thin_room k t (value_cols y)) (ap value_cols p.left_is ∙ b)
    ∙ ap (λ (t : ℕ). thin_room k m t) (ap value_cols p.right_is ∙ c) in
    subst (λ (t : ℕ). z ≤ t) (sym e)
    (f (subst (λ (t : ℕ). t ≤ size_limit) a p.row_limit) (subst (λ (t : ℕ). t ≤ size_limit) b p.middle_limit) (subst (λ (t : ℕ). t ≤ size_limit) c p.col_limit))

-- ---- values within a square
pub record Within (h : ℕ) (w : Worker) (v : Value) : Type 0 where
  pub stands : ValueStands w v
  pub rows : value_rows v ≤ 2 ^ h
  pub cols : value_cols v ≤ 2 ^ h

pub later : {h : ℕ} {u w : Worker} {v : Value} → Within h u v → Keeps u w → Within h w v
later {u = u} {w = w} {v = v} a k = record { stands = value_stays u w v k a.stands; rows = a.rows; cols = a.cols }

pub given : {h m n : ℕ} {set : Relation} {w : Worker} {v : Value} → GivesValue w m n set v → m ≤ 2 ^ h → n ≤ 2 ^ h → Within h w v
given g a b = record {
  stands = g.stands;
  rows = (let e = g.row_size in omega (arith, a, e));
  cols = (let e = g.col_size in omega (arith, b, e));
}

-- two values of as many rows, or of as many columns
pub record Both (h : ℕ) (w : Worker) (r s : Value) : Type 0 where
  pub first : Within h w r
  pub second : Within h w s

pub beside : (w : Worker) (r s : Value) → ((r : Rel) → Stands w r → r.rows ≤ size_limit) → ((r : Rel) → Stands w r → r.cols ≤ size_limit)
    → ValueStands w r → ValueStands w s → value_rows r ≡ value_rows s → Both (height_of_three (value_rows r) (value_cols r) (value_cols s)) w r s
beside w r s rows cols a b e =
    let k = first_covered (value_rows r) (value_cols r) (value_cols s) (value_row_limit w r rows a) in
    let m = middle_covered (value_rows r) (value_cols r) (value_cols s) (value_col_limit w r cols a) in
    let n = last_covered (value_rows r) (value_cols r) (value_cols s) (value_col_limit w s cols b) in
    record { first = record { stands = a; rows = k; cols = m }; second = record { stands = b; rows = omega (arith, k, e); cols = n } }

pub stacked : (w : Worker) (s r : Value) → ((r : Rel) → Stands w r → r.rows ≤ size_limit) → ((r : Rel) → Stands w r → r.cols ≤ size_limit)
    → ValueStands w s → ValueStands w r → value_cols s ≡ value_cols r → Both (height_of_three (value_rows s) (value_cols s) (value_rows r)) w s r
stacked w s r rows cols a b e =
    let k = first_covered (value_rows s) (value_cols s) (value_rows r) (value_row_limit w s rows a) in
    let m = middle_covered (value_rows s) (value_cols s) (value_rows r) (value_col_limit w s cols a) in
    let n = last_covered (value_rows s) (value_cols s) (value_rows r) (value_row_limit w r rows b) in
    record { first = record { stands = a; rows = k; cols = m }; second = record { stands = b; rows = n; cols = omega (arith, m, e) } }

-- ---- what a step makes on one
pub transposed : {least h : ℕ} {w : Worker} {v : Value} → least ≡ 3 → Within h w v → transpose_room least v ≤ 2 * 8 ^ h
transposed {least} {h} {v = v} e a = transpose_part least h v e a.rows a.cols

pub complemented : {least h : ℕ} {w : Worker} {v : Value} → least ≡ 3 → Within h w v → complement_room least v ≤ 4 * 8 ^ h
complemented {least} {h} {w} {v} e a = complement_part least h w v e a.stands a.rows a.cols

pub combined : {least h : ℕ} {w : Worker} {v : Value} → least ≡ 3 → Within h w v → pieces_room least v ≤ 4 * 8 ^ h
combined {least} {h} {w} {v} e a = pieces_part least h w v e a.stands a.rows a.cols
