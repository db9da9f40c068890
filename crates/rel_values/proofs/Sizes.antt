-- What the calls of an operation on values make together is within what the language counts for it, over leaves of 8 by
-- 8. At a height h whose side is at least all sizes, forming a value takes 4 ^ h nodes at most, and so does making one
-- whole.
use Rattle.std.proofs.Common.{◌≡◌, ◌≤◌, ◌+◌, ◌*◌, ◌^◌, max, ℕ, sym, ap, subst, arith}
use Rattle.std.proofs.Math.Nat.{pow-le-pow_right}
use Rattle.rel_model.specs.Relation.{size_limit}
use Rattle.rel_model.specs.Worker.{Worker, height_of, height_of_three, product_room, derived_room, wide_room, bounds_room, extremes_room, classes_room}
use Rattle.rel_model.proofs.Rooms.{derived_room-least, derived_room-most, wide_room-four, bounds_room-two, extremes_room-eight, classes_room-sixteen}
use Rattle.rel_model.specs.Roots.{relation_room}
use Rattle.rel_steps.proofs.Rooms.{as_high}
use Rattle.rel_slices.specs.declared.thin.Value.{Value}
use Rattle.rel_slices.specs.Thin.{value_rows, value_cols}
use Rattle.rel_slices.specs.ValueRooms.{formed_room}
use Rattle.rel_slices.proofs.Costs.{squares_in_cubes, some_side, first_covered, middle_covered, tree_part, product_part}
use Rattle.rel_values.specs.Values.{Fits, owed}
use Rattle.rel_values.proofs.Small.{formed_small, owed_small}

pub formed_at : (least m n h : ℕ) → least ≡ 3 → m ≤ size_limit → n ≤ size_limit → height_of m ≤ h → height_of n ≤ h → formed_room least m n ≤ 4 ^ h
formed_at least m n h e a b c d = subst (λ (x : ℕ). formed_room x m n ≤ 4 ^ h) (sym e) (
    let f = formed_small m n a b in
    let p = pow-le-pow_right {n = 4} (omega arith) {i = max (height_of m) (height_of n)} {j = h} (omega (arith, c, d)) in
    omega (arith, f, p))

pub owed_at : (least h : ℕ) (w : Worker) (v : Value) → least ≡ 3 → Fits w v → height_of (value_rows v) ≤ h → height_of (value_cols v) ≤ h → owed least v ≤ 4 ^ h
owed_at least h w v e f c d = subst (λ (x : ℕ). owed x v ≤ 4 ^ h) (sym e) (
    let o = owed_small w v f.stands f.long in
    let p = pow-le-pow_right {n = 4} (omega arith) {i = max (height_of (value_rows v)) (height_of (value_cols v))} {j = h} (omega (arith, c, d)) in
    omega (arith, o, p))

-- ---- operands made whole
-- one that is made whole, and a derived operation
pub chosen_room : (least : ℕ) (w : Worker) (v : Value) (a b c : ℕ) → least ≡ 3 → Fits w v → height_of a ≤ height_of_three (value_rows v) (value_cols v) 1 → height_of b ≤ height_of_three (value_rows v) (value_cols v) 1 → height_of c ≤ height_of_three (value_rows v) (value_cols v) 1
    → owed least v + derived_room a b c ≤ wide_room (value_rows v) (value_cols v) 1
chosen_room least w v a b c e f x y z =
    let m : ℕ = value_rows v in
    let n : ℕ = value_cols v in
    let h : ℕ = height_of_three m n 1 in
    let o = owed_at least h w v e f (omega arith) (omega arith) in
    let q = squares_in_cubes h in
    let l = derived_room-least m n 1 in
    let d = derived_room-most a b c m n 1 x y z in
    let r = wide_room-four m n 1 in
    omega (arith, o, q, l, d, r)

-- ---- bounds and extremes
-- each is within the room of extremes
pub record Extremes (k m n : ℕ) : Type 0 where
  pub bounds : bounds_room k m n ≤ extremes_room k m n
  pub wide : wide_room k m n ≤ extremes_room k m n

pub extremes : (k m n : ℕ) → Extremes k m n
extremes k m n =
    let a = bounds_room-two k m n in
    let b = wide_room-four k m n in
    let c = extremes_room-eight k m n in
    record { bounds = omega (arith, a, c); wide = omega (arith, b, c) }

-- the columns made whole, and the extremes
pub bounds_cost : (least : ℕ) (w : Worker) (y : Value) (k m n : ℕ) → least ≡ 3 → Fits w y → value_rows y ≡ k → value_cols y ≡ n → owed least y + extremes_room k m n ≤ classes_room k m n
bounds_cost least w y k m n e f i j =
    let h : ℕ = height_of_three k m n in
    let o = owed_at least h w y e f (as_high (value_rows y) k h i (omega arith)) (as_high (value_cols y) n h j (omega arith)) in
    let q = squares_in_cubes h in
    let l = derived_room-least k m n in
    let x = extremes_room-eight k m n in
    let z = classes_room-sixteen k m n in
    omega (arith, o, q, l, x, z)

-- ---- products with a full column
pub ones_cost : (least m n : ℕ) → least ≡ 3 → m ≤ size_limit → n ≤ size_limit → relation_room least n 1 + product_room m n 1 ≤ wide_room m n 1
ones_cost least m n e a b =
    let h : ℕ = height_of_three m n 1 in
    let x = first_covered m n 1 a in
    let y = middle_covered m n 1 b in
    let t = tree_part least h n 1 e y (some_side h) in
    let p = product_part h m n 1 x y (some_side h) in
    let l = derived_room-least m n 1 in
    let r = wide_room-four m n 1 in
    omega (arith, t, p, l, r)

pub wide_turned : (m n : ℕ) → wide_room m n 1 ≡ wide_room n m 1
unfolding wide_room
wide_turned m n =
    let e : height_of_three m n 1 ≡ height_of_three n m 1 = omega arith in
    ap (λ (h : ℕ). 256 * (h + 1) * 8 ^ h) e
