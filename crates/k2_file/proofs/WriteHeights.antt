-- The height of a file: its bounds, and those of squares within a leaf.
use Rattle.std.proofs.Common.{◌≡◌, ◌<◌, ◌≤◌, ◌^◌, ℕ, refl, sym, ap, ◌∙◌, arith}
use Rattle.std.proofs.Math.Nat.{pow-le-pow_right}
use Rattle.rel_model.specs.Roots.{height_over}
use Rattle.rel_model.proofs.Heights.{height_over-high}
use Rattle.run_model.specs.Files.{file_height}

pub file_height-over : (m n : ℕ) → file_height m n ≡ height_over 1 m n
unfolding file_height height_over
file_height-over m n = refl

pub file_height-high : (m n : ℕ) → file_height m n ≤ 24
file_height-high m n = let e = file_height-over m n in let h = height_over-high 1 m n (omega arith) in omega (arith, e, h)

-- over leaves of at least height 1 and at most 3, it is that of the tree where the tree is higher than a leaf
pub file_height-tree : (least m n : ℕ) → least < height_over least m n → height_over least m n ≡ file_height m n
unfolding file_height height_over
file_height-tree least m n l = omega arith

pub file_height-leaf : (least m n : ℕ) → least ≤ 3 → height_over least m n ≡ least → file_height m n ≤ 3
unfolding file_height height_over
file_height-leaf least m n l e = omega arith

-- the side of a leaf, and of a square within it
pub side-small : (h : ℕ) → h ≤ 3 → 2 ^ h ≤ 8
side-small h l = pow-le-pow_right {n = 2} (omega arith) {i = h} {j = 3} l

pub file_height-low : (m n : ℕ) → 1 ≤ file_height m n
unfolding file_height
file_height-low m n = omega arith

-- that of a relation by the sizes under which it stands
pub file_height-sizes : (h m n p q : ℕ) → h ≡ file_height m n → p ≡ m → q ≡ n → h ≡ file_height p q
file_height-sizes h m n p q e a b = e ∙ ap (λ (x : ℕ). file_height x n) (sym a) ∙ ap (λ (x : ℕ). file_height p x) (sym b)
