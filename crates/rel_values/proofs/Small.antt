-- Rooms of values as multiples of the cells of the least square that holds their sizes, over leaves of 8 by 8.
-- 1. Putting a value into its form takes a quarter of them at most, and so does making one whole (`formed_small`,
--    `owed_small`); an operator piece by piece takes three and a half times as many (`pieces_small`).
-- 2. What the language counts is a multiple of them too (`plain_squares`, `operator_squares`).
-- 3. So it is for values that a worker holds (`forming_fits`, `owed_given`, `pieces_given`).
use Rattle.std.proofs.Common.{◌≡◌, ◌≤◌, ◌+◌, ◌*◌, ◌^◌, max, ℕ, sym, ap, subst, arith}
use Rattle.rel_model.specs.declared.Rel.{Rel}
use Rattle.rel_model.specs.Relation.{Relation, size_limit}
use Rattle.rel_model.specs.Roots.{relation_room}
use Rattle.rel_model.specs.Worker.{Worker, Stands, height_of, plain_room, operator_room}
use Rattle.rel_model.proofs.Heights.{height_of-covers, power_up}
use Rattle.rel_slices.specs.declared.thin.Value.{Value}
use Rattle.rel_slices.specs.Thin.{ValueStands, IsLong, GivesValue, value_rows, value_cols}
use Rattle.rel_slices.specs.ValueRooms.{assembly_room, pieces_room, complement_room, formed_room}
use Rattle.rel_slices.proofs.Rooming.{pieces_fit, complement_fits}
use Rattle.rel_slices.proofs.Costs.{tree_in_square, formed_room-square, assembly_room-square, value_row_limit, value_col_limit}
use Rattle.rel_values.specs.Values.{Fits, owed}

-- putting a value into the form of its sizes
abbrev pub forming_room : ℕ → Value → ℕ
forming_room least v = formed_room least (value_rows v) (value_cols v)

-- the cells of the least square of a power of two that holds these sizes
unfoldable pub square_room : ℕ → ℕ → ℕ
square_room rows cols = 4 ^ max (height_of rows) (height_of cols)

-- ---- from one form to the other
pub formed_small : (m n : ℕ) → m ≤ size_limit → n ≤ size_limit → 4 * formed_room 3 m n ≤ 4 ^ max (height_of m) (height_of n)
formed_small m n a b = formed_room-square m n a b

pub owed_small : (w : Worker) (v : Value) → ValueStands w v → IsLong v → 4 * assembly_room 3 v ≤ 4 ^ max (height_of (value_rows v)) (height_of (value_cols v))
owed_small w v s l = assembly_room-square w v s l

-- ---- what the language counts
pub plain_squares : (m n : ℕ) → plain_room m n ≡ 8 * square_room m n
unfolding plain_room square_room
plain_squares m n = omega arith

pub operator_squares : (m n : ℕ) → operator_room m n ≡ 4 * square_room m n
unfolding operator_room square_room
operator_squares m n = omega arith

-- the other way it is the same square
pub square_turned : (m n : ℕ) → square_room m n ≡ square_room n m
unfolding square_room
square_turned m n = ap (λ (x : ℕ). 4 ^ x) (let e : max (height_of m) (height_of n) ≡ max (height_of n) (height_of m) = omega arith in e)

-- ---- at that height
at_square : (m n x k : ℕ) → m ≤ size_limit → n ≤ size_limit → ((h : ℕ) → m ≤ 2 ^ h → n ≤ 2 ^ h → x ≤ k * 4 ^ h) → x ≤ k * square_room m n
unfolding square_room
at_square m n x k a b f =
    let h : ℕ = max (height_of m) (height_of n) in
    let u = height_of-covers m a in
    let v = height_of-covers n b in
    let p = power_up (height_of m) h (omega arith) in
    let q = power_up (height_of n) h (omega arith) in
    f h (omega (arith, u, p)) (omega (arith, v, q))

pub tree_small : (least m n : ℕ) → least ≡ 3 → m ≤ size_limit → n ≤ size_limit → relation_room least m n ≤ 2 * square_room m n
tree_small least m n e a b = subst (λ (x : ℕ). relation_room x m n ≤ 2 * square_room m n) (sym e) (at_square m n _ 2 a b (λ h i j. tree_in_square m n h i j))

pub pieces_small : (least : ℕ) (w : Worker) (v : Value) → least ≡ 3 → ValueStands w v → value_rows v ≤ size_limit → value_cols v ≤ size_limit → 2 * pieces_room least v ≤ 7 * square_room (value_rows v) (value_cols v)
pieces_small least w v e s a b = subst (λ (x : ℕ). 2 * pieces_room x v ≤ 7 * square_room (value_rows v) (value_cols v)) (sym e) (at_square (value_rows v) (value_cols v) _ 7 a b (λ h i j. pieces_fit w v h s i j))

pub complement_small : (least : ℕ) (w : Worker) (v : Value) → least ≡ 3 → ValueStands w v → value_rows v ≤ size_limit → value_cols v ≤ size_limit → complement_room least v ≤ 4 * square_room (value_rows v) (value_cols v)
complement_small least w v e s a b = subst (λ (x : ℕ). complement_room x v ≤ 4 * square_room (value_rows v) (value_cols v)) (sym e) (at_square (value_rows v) (value_cols v) _ 4 a b (λ h i j. complement_fits w v h s i j))

-- putting a value into its form
pub forming_small : (least : ℕ) (v : Value) → least ≡ 3 → value_rows v ≤ size_limit → value_cols v ≤ size_limit → 4 * forming_room least v ≤ square_room (value_rows v) (value_cols v)
unfolding square_room
forming_small least v e a b = subst (λ (x : ℕ). 4 * formed_room x (value_rows v) (value_cols v) ≤ 4 ^ max (height_of (value_rows v)) (height_of (value_cols v))) (sym e) (formed_small (value_rows v) (value_cols v) a b)

-- making one whole
pub owed_square : (least : ℕ) (w : Worker) (v : Value) → least ≡ 3 → ValueStands w v → IsLong v → 4 * owed least v ≤ square_room (value_rows v) (value_cols v)
unfolding square_room
owed_square least w v e s l = subst (λ (x : ℕ). 4 * assembly_room x v ≤ 4 ^ max (height_of (value_rows v)) (height_of (value_cols v))) (sym e) (owed_small w v s l)

-- ---- rooms of what a worker holds
-- the leaves are of 8 by 8, and what stands is within the limit
pub record Held (least : ℕ) (w : Worker) : Type 0 where
  pub leaves : least ≡ 3
  pub row_limit : (r : Rel) → Stands w r → r.rows ≤ size_limit
  pub col_limit : (r : Rel) → Stands w r → r.cols ≤ size_limit

pub forming_fits : {least : ℕ} {w : Worker} (v : Value) → Held least w → Fits w v → 4 * forming_room least v ≤ square_room (value_rows v) (value_cols v)
forming_fits {least} {w} v h f = forming_small least v h.leaves (value_row_limit w v h.row_limit f.stands) (value_col_limit w v h.col_limit f.stands)

pub owed_fits : {least : ℕ} {w : Worker} (v : Value) → Held least w → Fits w v → 4 * owed least v ≤ square_room (value_rows v) (value_cols v)
owed_fits {least} {w} v h f = owed_square least w v h.leaves f.stands f.long

by_sizes : (m n k l x y : ℕ) → m ≡ k → n ≡ l → x ≤ y * square_room m n → x ≤ y * square_room k l
by_sizes m n k l x y e f o = subst (λ (z : ℕ). x ≤ y * square_room k z) f (subst (λ (z : ℕ). x ≤ y * square_room z n) e o)

pub owed_given : {least m n : ℕ} {set : Relation} {w : Worker} (v : Value) → Held least w → GivesValue w m n set v → IsLong v → 4 * owed least v ≤ square_room m n
owed_given {least} {m} {n} {w = w} v h g l =
    let p = owed_square least w v h.leaves g.stands l in
    let q = by_sizes (value_rows v) (value_cols v) m n (4 * owed least v) 1 g.row_size g.col_size (omega (arith, p)) in
    omega (arith, q)

pub pieces_given : {least m n : ℕ} {set : Relation} {w : Worker} (v : Value) → Held least w → GivesValue w m n set v → 2 * pieces_room least v ≤ 7 * square_room m n
pieces_given {least} {m} {n} {w = w} v h g = by_sizes (value_rows v) (value_cols v) m n (2 * pieces_room least v) 7 g.row_size g.col_size
    (pieces_small least w v h.leaves g.stands (value_row_limit w v h.row_limit g.stands) (value_col_limit w v h.col_limit g.stands))

pub complement_given : {least m n : ℕ} {set : Relation} {w : Worker} (v : Value) → Held least w → GivesValue w m n set v → complement_room least v ≤ 4 * square_room m n
complement_given {least} {m} {n} {w = w} v h g = by_sizes (value_rows v) (value_cols v) m n (complement_room least v) 4 g.row_size g.col_size
    (complement_small least w v h.leaves g.stands (value_row_limit w v h.row_limit g.stands) (value_col_limit w v h.col_limit g.stands))

-- the cells of two squares of one type
pub forming_second : {least : ℕ} {w : Worker} (x y : Value) → Held least w → Fits w y → value_rows x ≡ value_rows y → value_cols x ≡ value_cols y → 4 * forming_room least y ≤ square_room (value_rows x) (value_cols x)
forming_second {least} x y h f e d =
    let p = forming_fits y h f in
    let q = by_sizes (value_rows y) (value_cols y) (value_rows x) (value_cols x) (4 * forming_room least y) 1 (sym e) (sym d) (omega (arith, p)) in
    omega (arith, q)

-- putting two of one type into their forms
pub forming_both : {least : ℕ} {w : Worker} (x y : Value) → Held least w → Fits w x → Fits w y → value_rows x ≡ value_rows y → value_cols x ≡ value_cols y → 2 * (forming_room least x + forming_room least y) ≤ square_room (value_rows x) (value_cols x)
forming_both x y h f g e d = omega (arith, forming_fits x h f, forming_second x y h g e d)
