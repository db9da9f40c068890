-- Rooms of calls on lines, beside those of relations that stand whole.
use Rattle.std.proofs.Common.{◌≡◌, ◌≤◌, ◌+◌, ◌-◌, ◌*◌, ◌^◌, ◌∙◌, max, cond, zero, suc, ℕ, Bool, true, false, refl, sym, ap, arith, inl, inr}
use Rattle.std.proofs.Math.Nat.{pow-suc, pow-le-pow_right, pow-le-pow_left, mul-le-mul, mul-le-mul_right, one-le-pow}
use Rattle.std.proofs.lemmas.Bool.{cases_lt}
use Rattle.std.proofs.lemmas.Nat.{pow-add}
use Rattle.rel_model.specs.Roots.{height_over, relation_room, line_product_room}
use Rattle.rel_model.specs.Worker.{Worker, height_of, height_of_three}
use Rattle.rel_slices.specs.declared.thin.Value.{Value}
use Rattle.rel_slices.specs.declared.thin.Value.TheVariants.{Whole, Lines}
use Rattle.rel_slices.specs.Thin.{most_lines, ValueStands, value_rows, value_cols}
use Rattle.rel_slices.specs.ValueRooms.{pieces_room, complement_room}
use Rattle.rel_model.proofs.Heights.{height_of-least, power_up}
use Rattle.rel_rows.specs.Rooms.{strip_room}
use Rattle.rel_images.specs.Rooms.{line_room as images_room}
use Rattle.rel_images.proofs.Rooms.{line_room-tree}
use Rattle.rel_slices.specs.Rooms.{coimage_room}
use Rattle.rel_slices.proofs.Membering.{tree_grows}

-- a line has no more nodes than a relation of as long rows, or columns
pub line_in_rows : (least m n : ℕ) → relation_room least 1 n ≤ relation_room least m n
unfolding height_over
line_in_rows least m n = let z = height_of-least 1 0 (omega arith) in tree_grows (max least (max (height_of 1) (height_of n)) - least) (max least (max (height_of m) (height_of n)) - least) (omega (arith, z))

pub line_in_columns : (least m n : ℕ) → relation_room least 1 m ≤ relation_room least m n
unfolding height_over
line_in_columns least m n = let z = height_of-least 1 0 (omega arith) in tree_grows (max least (max (height_of 1) (height_of m)) - least) (max least (max (height_of m) (height_of n)) - least) (omega (arith, z))

-- a line that is named by itself has no more nodes than its product may make
pub line_in_product : (least m n : ℕ) → images_room least n ≤ line_product_room least 1 m n
unfolding height_over
line_in_product least m n =
    let t = line_room-tree least n in
    let d : ℕ = height_over least 1 n - least in
    let e : ℕ = max least (height_of_three 1 m n) - least in
    let p = pow-le-pow_left {n = 4} {m = 8} (omega arith) d in
    let q = pow-le-pow_right {n = 8} (omega arith) {i = d} {j = e} (omega arith) in
    omega (arith, t, p, q)

-- and no more than those with the transpositions of lines
pub line_in_coproduct : (least m n : ℕ) → images_room least m ≤ coimage_room least m n
unfolding coimage_room
line_in_coproduct least m n = let t = line_room-tree least m in let c = line_in_columns least m 1 in omega (arith, t, c)

-- ---- pieces of a value
-- no more than one tree of its sizes for each line that it may have, whatever the leaves
pub pieces_most : (w : Worker) (least : ℕ) (v : Value) → ValueStands w v → pieces_room least v ≤ most_lines * relation_room least (value_rows v) (value_cols v)
pieces_most w least (Whole r) s = omega arith
pieces_most w least (Lines s) h = lines least s.turned s.count s.other h.few
  where
    lines : (least : ℕ) (turned : Bool) (count other : ℕ) → count ≤ most_lines → count * relation_room least 1 other ≤ most_lines * relation_room least (cond turned other count) (cond turned count other)
    lines least true count other few = mul-le-mul {n₁ = count} {n₂ = most_lines} few (line_in_columns least other count)
    lines least false count other few = mul-le-mul {n₁ = count} {n₂ = most_lines} few (line_in_rows least count other)

-- ---- over leaves of 8 by 8
squares : (h : ℕ) → 4 ^ h ≡ 2 ^ h * 2 ^ h
squares zero = refl
squares (suc h) =
    let p : 4 ^ suc h ≡ 4 ^ h * 4 = pow-suc 4 h in
    let q : 2 ^ suc h ≡ 2 ^ h * 2 = pow-suc 2 h in
    let i = squares h in
    p ∙ ap (λ (x : ℕ). x * 4) i ∙ (let e : 2 ^ h * 2 ^ h * 4 ≡ 2 ^ h * 2 * (2 ^ h * 2) = omega arith in e) ∙ ap (λ (x : ℕ). x * x) (sym q)

-- the tree of a relation within the square of a height
pub tree_fits : (m n h : ℕ) → m ≤ 2 ^ h → n ≤ 2 ^ h → relation_room 3 m n ≤ 2 * 4 ^ (h - 3)
unfolding height_over
tree_fits m n h a b =
    let u = height_of-least m h a in
    let v = height_of-least n h b in
    let g = tree_grows (max 3 (max (height_of m) (height_of n)) - 3) (h - 3) (omega (arith, u, v)) in
    omega (arith, g)

-- so many trees, each of a thirty-second of the cells
pub trees_fit : (count t h : ℕ) → count ≤ most_lines → count ≤ 2 ^ h → t ≤ 2 * 4 ^ (h - 3) → 2 * (count * t) ≤ 7 * 4 ^ h
trees_fit count t h few a b =
    let some = one-le-pow h 2 (omega arith) in
    let sq = squares h in
    elim (cases_lt h 3) [
      | inl k ↦ (
          let e : 4 ^ (h - 3) ≡ 1 = ap (λ (x : ℕ). 4 ^ x) (let y : h - 3 ≡ 0 = omega (arith, k) in y) in
          let low : t ≤ 2 = omega (arith, b, e) in
          let m = mul-le-mul {n₁ = count} {n₂ = 2 ^ h} a low in
          let n = mul-le-mul_right {m = 1} {n = 2 ^ h} (2 ^ h) some in
          omega (arith, m, n, sq))
      | inr k ↦ (
          let m = mul-le-mul {n₁ = count} {n₂ = most_lines} few b in
          let e : 4 ^ h ≡ 4 ^ (h - 3) * 4 ^ 3 = ap (λ (x : ℕ). 4 ^ x) (let y : h ≡ h - 3 + 3 = omega (arith, k) in y) ∙ pow-add 4 (h - 3) 3 in
          omega (arith, m, e))
    ]

-- one tree more
pub more_trees_fit : (count t h : ℕ) → count ≤ most_lines → count ≤ 2 ^ h → t ≤ 2 * 4 ^ (h - 3) → t + count * t ≤ 4 * 4 ^ h
more_trees_fit count t h few a b =
    let some = one-le-pow h 2 (omega arith) in
    let sq = squares h in
    elim (cases_lt h 3) [
      | inl k ↦ (
          let e : 4 ^ (h - 3) ≡ 1 = ap (λ (x : ℕ). 4 ^ x) (let y : h - 3 ≡ 0 = omega (arith, k) in y) in
          let low : t ≤ 2 = omega (arith, b, e) in
          let m = mul-le-mul {n₁ = count} {n₂ = 2 ^ h} a low in
          let n = mul-le-mul_right {m = 1} {n = 2 ^ h} (2 ^ h) some in
          omega (arith, m, n, sq, low, some))
      | inr k ↦ (
          let m = mul-le-mul {n₁ = count} {n₂ = most_lines} few b in
          let e : 4 ^ h ≡ 4 ^ (h - 3) * 4 ^ 3 = ap (λ (x : ℕ). 4 ^ x) (let y : h ≡ h - 3 + 3 = omega (arith, k) in y) ∙ pow-add 4 (h - 3) 3 in
          omega (arith, m, e, b))
    ]

-- against the cells of the cube
pub trees_in_cube : (count t h : ℕ) → count ≤ most_lines → count ≤ 2 ^ h → t ≤ 2 * 4 ^ (h - 3) → count * t ≤ 2 * 8 ^ h
trees_in_cube count t h few a b = elim (cases_lt h 3) [
  | inl k ↦ (
      let e : 4 ^ (h - 3) ≡ 1 = ap (λ (x : ℕ). 4 ^ x) (let y : h - 3 ≡ 0 = omega (arith, k) in y) in
      let low : t ≤ 2 = omega (arith, b, e) in
      let m = mul-le-mul {n₁ = count} {n₂ = 2 ^ h} a low in
      let n = pow-le-pow_left {n = 2} {m = 8} (omega arith) h in
      omega (arith, m, n))
  | inr k ↦ (
      let m = mul-le-mul {n₁ = count} {n₂ = most_lines} few b in
      let n = pow-le-pow_left {n = 4} {m = 8} (omega arith) (h - 3) in
      let e : 8 ^ h ≡ 8 ^ (h - 3) * 8 ^ 3 = ap (λ (x : ℕ). 8 ^ x) (let y : h ≡ h - 3 + 3 = omega (arith, k) in y) ∙ pow-add 8 (h - 3) 3 in
      omega (arith, m, n, e))
]

-- ---- rows of relations
-- a row within the square of a height
pub strip_fits : (m n h : ℕ) → m ≤ 2 ^ h → n ≤ 2 ^ h → strip_room 3 m n ≤ 4 * 2 ^ (h - 3)
unfolding strip_room height_over
strip_fits m n h a b =
    let u = height_of-least m h a in
    let v = height_of-least n h b in
    let p = power_up (max 3 (max (height_of m) (height_of n)) - 3) (h - 3) (omega (arith, u, v)) in
    omega (arith, p)

-- so many rows, no more than the square has
pub strips_fit : (count t h : ℕ) → count ≤ 2 ^ h → t ≤ 4 * 2 ^ (h - 3) → count * t ≤ 4 * 4 ^ h
strips_fit count t h a b =
    let l = power_up (h - 3) h (omega arith) in
    let low : t ≤ 4 * 2 ^ h = omega (arith, b, l) in
    let m = mul-le-mul {n₁ = count} {n₂ = 2 ^ h} a low in
    let sq = squares h in
    omega (arith, m, sq)

-- few rows of a large square: an eighth of its cells
pub few_strips_fit : (count t h : ℕ) → count ≤ most_lines → 9 ≤ h → t ≤ 4 * 2 ^ (h - 3) → 8 * (count * t) ≤ 4 ^ h
few_strips_fit count t h few high b =
    let m = mul-le-mul {n₁ = count} {n₂ = most_lines} few b in
    let p = pow-le-pow_left {n = 2} {m = 4} (omega arith) (h - 9) in
    let e : 2 ^ (h - 3) ≡ 2 ^ (h - 9) * 2 ^ 6 = ap (λ (x : ℕ). 2 ^ x) (let y : h - 3 ≡ h - 9 + 6 = omega (arith, high) in y) ∙ pow-add 2 (h - 9) 6 in
    let f : 4 ^ h ≡ 4 ^ (h - 9) * 4 ^ 9 = ap (λ (x : ℕ). 4 ^ x) (let y : h ≡ h - 9 + 9 = omega (arith, high) in y) ∙ pow-add 4 (h - 9) 9 in
    omega (arith, m, p, e, f)

-- the tree of a relation: a thirty-second
pub tree_in_part : (m n h : ℕ) → 3 ≤ h → m ≤ 2 ^ h → n ≤ 2 ^ h → 32 * relation_room 3 m n ≤ 4 ^ h
tree_in_part m n h high a b =
    let t = tree_fits m n h a b in
    let e : 4 ^ h ≡ 4 ^ (h - 3) * 4 ^ 3 = ap (λ (x : ℕ). 4 ^ x) (let y : h ≡ h - 3 + 3 = omega (arith, high) in y) ∙ pow-add 4 (h - 3) 3 in
    omega (arith, t, e)

-- so many products, each of a line and of as many nodes as one of squares makes at most
pub products_fit : (count h : ℕ) → count ≤ most_lines → count ≤ 2 ^ h → count * (3 * 8 ^ (h - 3)) ≤ 3 * 8 ^ h
products_fit count h few a = elim (cases_lt h 3) [
  | inl k ↦ (
      let e : 8 ^ (h - 3) ≡ 1 = ap (λ (x : ℕ). 8 ^ x) (let y : h - 3 ≡ 0 = omega (arith, k) in y) in
      let m = pow-le-pow_left {n = 2} {m = 8} (omega arith) h in
      let f : count * (3 * 8 ^ (h - 3)) ≡ count * (3 * 1) = ap (λ (x : ℕ). count * (3 * x)) e in
      omega (arith, m, f, a))
  | inr k ↦ (
      let m = mul-le-mul_right {m = count} {n = most_lines} (3 * 8 ^ (h - 3)) few in
      let e : 8 ^ h ≡ 8 ^ (h - 3) * 8 ^ 3 = ap (λ (x : ℕ). 8 ^ x) (let y : h ≡ h - 3 + 3 = omega (arith, k) in y) ∙ pow-add 8 (h - 3) 3 in
      omega (arith, m, e))
]

-- an operator piece by piece
pub pieces_fit : (w : Worker) (v : Value) (h : ℕ) → ValueStands w v → value_rows v ≤ 2 ^ h → value_cols v ≤ 2 ^ h → 2 * pieces_room 3 v ≤ 7 * 4 ^ h
pieces_fit w (Whole r) h s a b =
    let t = tree_fits r.rows r.cols h a b in
    let p = pow-le-pow_right {n = 4} (omega arith) {i = h - 3} {j = h} (omega arith) in
    omega (arith, t, p)
pieces_fit w (Lines s) h t a b = lines s.turned s.count s.other t.few a b
  where
    line : (count other : ℕ) → count ≤ most_lines → count ≤ 2 ^ h → other ≤ 2 ^ h → 2 * (count * relation_room 3 1 other) ≤ 7 * 4 ^ h
    line count other few a b = trees_fit count (relation_room 3 1 other) h few a (tree_fits 1 other h (one-le-pow h 2 (omega arith)) b)

    lines : (turned : Bool) (count other : ℕ) → count ≤ most_lines → cond turned other count ≤ 2 ^ h → cond turned count other ≤ 2 ^ h → 2 * (count * relation_room 3 1 other) ≤ 7 * 4 ^ h
    lines true count other few a b = line count other few b a
    lines false count other few a b = line count other few a b

-- a complement: one full line, and a difference piece by piece
pub complement_fits : (w : Worker) (v : Value) (h : ℕ) → ValueStands w v → value_rows v ≤ 2 ^ h → value_cols v ≤ 2 ^ h → complement_room 3 v ≤ 4 * 4 ^ h
complement_fits w (Whole r) h s a b =
    let t = tree_fits r.rows r.cols h a b in
    let p = pow-le-pow_right {n = 4} (omega arith) {i = h - 3} {j = h} (omega arith) in
    omega (arith, t, p)
complement_fits w (Lines s) h t a b = lines s.turned s.count s.other t.few a b
  where
    line : (count other : ℕ) → count ≤ most_lines → count ≤ 2 ^ h → other ≤ 2 ^ h → relation_room 3 1 other + count * relation_room 3 1 other ≤ 4 * 4 ^ h
    line count other few a b = more_trees_fit count (relation_room 3 1 other) h few a (tree_fits 1 other h (one-le-pow h 2 (omega arith)) b)

    lines : (turned : Bool) (count other : ℕ) → count ≤ most_lines → cond turned other count ≤ 2 ^ h → cond turned count other ≤ 2 ^ h → relation_room 3 1 other + count * relation_room 3 1 other ≤ 4 * 4 ^ h
    lines true count other few a b = line count other few b a
    lines false count other few a b = line count other few a b
