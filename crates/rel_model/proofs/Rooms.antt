-- Rooms: what operators on trees place fits in the room of their relations' sizes.
use Rattle.std.proofs.Common.{◌≡◌, ◌<◌, ◌≤◌, ◌+◌, ◌-◌, ◌*◌, ◌^◌, ◌∙◌, max, zero, suc, ℕ, ap, arith}
use Rattle.std.proofs.Math.Nat.{pow-suc, one-le-pow, pow-le-pow_left, pow-le-pow_right, mul-le-mul_right, mul-le-mul, mul_assoc}
use Rattle.rel_model.specs.Trees.{bottom_height}
use Rattle.rel_model.specs.Quads.{quad_room, composed_words, compose_room}
use Rattle.rel_model.specs.Worker.{height_of, operator_room, height_of_three, plain_room, product_room, derived_room, bounds_room, wide_room, extremes_room, classes_room}

-- the height of a tree that is as high as a number m, and at least that of a block
tree-power : (b m : ℕ) → 1 ≤ b → b ^ (max bottom_height m - bottom_height) ≤ b ^ m
unfolding bottom_height
tree-power b m l = pow-le-pow_right {n = b} l {i = max 3 m - 3} {j = m} (omega arith)

-- what an operator places on the trees of two sizes
pub quad_room-operator : (rows cols : ℕ) → quad_room (max bottom_height (max (height_of rows) (height_of cols))) ≤ operator_room rows cols
unfolding operator_room
quad_room-operator rows cols = let p = tree-power 4 (max (height_of rows) (height_of cols)) (omega arith) in omega (arith, p)

-- a composition places at most 3 * 8 ^ d - 2 * 4 ^ d words
pub composed_words-most : (d : ℕ) → composed_words d + 2 * 4 ^ d ≤ 3 * 8 ^ d
composed_words-most zero = omega arith
composed_words-most (suc d) =
    let i = composed_words-most d in
    let p : 4 ^ suc d ≡ 4 ^ d * 4 = pow-suc 4 d in
    let q : 8 ^ suc d ≡ 8 ^ d * 8 = pow-suc 8 d in
    let r = one-le-pow d 4 (omega arith) in
    omega (arith, i, p, q, r)

-- what a composition places on the trees of three sizes
pub compose_room-product : (k m n : ℕ) → compose_room (max bottom_height (height_of_three k m n)) ≤ product_room k m n
unfolding product_room
compose_room-product k m n =
    let p = composed_words-most (max bottom_height (height_of_three k m n) - bottom_height) in
    let q = tree-power 8 (height_of_three k m n) (omega arith) in
    omega (arith, p, q)

-- ---- the recursion of a composition
-- a block has room
pub compose_room-some : (h : ℕ) → bottom_height ≤ h → 1 ≤ compose_room h
compose_room-some h l = some (h - bottom_height)
  where
    some : (d : ℕ) → 1 ≤ composed_words d
    some zero = omega arith
    some (suc d) = omega arith

-- eight products and four unions of the height below, and the corner of four results, have room
pub compose_room-next : (h : ℕ) → bottom_height < h → 8 * compose_room (h - 1) + 4 * quad_room (h - 1) + 3 ≤ compose_room h
unfolding bottom_height
compose_room-next h l =
    let d : ℕ = h - 1 - 3 in
    let e : h - 3 ≡ suc d = omega arith in
    let p : composed_words (h - 3) ≡ composed_words (suc d) = ap composed_words e in
    omega (arith, p)

-- ---- rooms of several calls, by the height of three sizes
pub operator_room-most : (rows cols h : ℕ) → height_of rows ≤ h → height_of cols ≤ h → operator_room rows cols ≤ 4 * 8 ^ h
unfolding operator_room
operator_room-most rows cols h a b =
    let p = pow-le-pow_right {n = 4} (omega arith) {i = max (height_of rows) (height_of cols)} {j = h} (omega (arith, a, b)) in
    let q = pow-le-pow_left {n = 4} {m = 8} (omega arith) h in
    omega (arith, p, q)

pub product_room-most : (k m n h : ℕ) → height_of k ≤ h → height_of m ≤ h → height_of n ≤ h → product_room k m n ≤ 16 * 8 ^ h
unfolding product_room
product_room-most k m n h a b c =
    let p = pow-le-pow_right {n = 8} (omega arith) {i = height_of_three k m n} {j = h} (omega (arith, a, b, c)) in
    omega (arith, p)

pub derived_room-least : (k m n : ℕ) → 64 * 8 ^ height_of_three k m n ≤ derived_room k m n
unfolding derived_room
derived_room-least k m n =
    let h : ℕ = height_of_three k m n in
    let p = mul-le-mul_right {m = 64} {n = 64 * (h + 1)} (8 ^ h) (omega arith) in
    omega (arith, p)

pub derived_room-most : (a b c k m n : ℕ) → height_of a ≤ height_of_three k m n → height_of b ≤ height_of_three k m n → height_of c ≤ height_of_three k m n → derived_room a b c ≤ derived_room k m n
unfolding derived_room
derived_room-most a b c k m n x y z =
    let h : ℕ = height_of_three k m n in
    let g : ℕ = height_of_three a b c in
    let l : g ≤ h = omega (arith, x, y, z) in
    mul-le-mul {n₁ = 64 * (g + 1)} {n₂ = 64 * (h + 1)} (omega (arith, l)) (pow-le-pow_right {n = 8} (omega arith) {i = g} {j = h} l)

pub wide_room-four : (k m n : ℕ) → wide_room k m n ≡ 4 * derived_room k m n
unfolding wide_room derived_room
wide_room-four k m n =
    let h : ℕ = height_of_three k m n in
    ap (λ (x : ℕ). x * 8 ^ h) (let e : 256 * (h + 1) ≡ 4 * (64 * (h + 1)) = omega arith in e) ∙ mul_assoc 4 (64 * (h + 1)) (8 ^ h)

-- two operators of one type
pub plain_room-two : (rows cols : ℕ) → operator_room rows cols + operator_room rows cols ≡ plain_room rows cols
unfolding operator_room plain_room
plain_room-two rows cols = omega arith

-- an operator, and one on a single cell
pub plain_room-cell : (rows cols : ℕ) → operator_room rows cols + operator_room 1 1 ≤ plain_room rows cols
unfolding operator_room plain_room height_of
plain_room-cell rows cols = let p = one-le-pow (max (height_of rows) (height_of cols)) 4 (omega arith) in omega (arith, p)

-- a call that is made of compositions, on no greater sizes, has the room of one that is made of several
pub wide_room-derived : (a b c k m n : ℕ) → height_of a ≤ height_of_three k m n → height_of b ≤ height_of_three k m n → height_of c ≤ height_of_three k m n → derived_room a b c ≤ wide_room k m n
wide_room-derived a b c k m n x y z = let p = derived_room-most a b c k m n x y z in let q = wide_room-four k m n in omega (arith, p, q)

-- rooms of orders and classes by that of one derived call
pub bounds_room-two : (k m n : ℕ) → bounds_room k m n ≡ 2 * derived_room k m n
unfolding bounds_room derived_room
bounds_room-two k m n =
    let h : ℕ = height_of_three k m n in
    ap (λ (x : ℕ). x * 8 ^ h) (let e : 128 * (h + 1) ≡ 2 * (64 * (h + 1)) = omega arith in e) ∙ mul_assoc 2 (64 * (h + 1)) (8 ^ h)

pub extremes_room-eight : (k m n : ℕ) → extremes_room k m n ≡ 8 * derived_room k m n
unfolding extremes_room derived_room
extremes_room-eight k m n =
    let h : ℕ = height_of_three k m n in
    ap (λ (x : ℕ). x * 8 ^ h) (let e : 512 * (h + 1) ≡ 8 * (64 * (h + 1)) = omega arith in e) ∙ mul_assoc 8 (64 * (h + 1)) (8 ^ h)

pub classes_room-sixteen : (k m n : ℕ) → classes_room k m n ≡ 16 * derived_room k m n
unfolding classes_room derived_room
classes_room-sixteen k m n =
    let h : ℕ = height_of_three k m n in
    ap (λ (x : ℕ). x * 8 ^ h) (let e : 1024 * (h + 1) ≡ 16 * (64 * (h + 1)) = omega arith in e) ∙ mul_assoc 16 (64 * (h + 1)) (8 ^ h)
