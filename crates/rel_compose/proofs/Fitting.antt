-- The composition by rows beside that by quarters: its room, and the sides of its squares.
use Rattle.std.proofs.Common.{◌≡◌, ◌≤◌, ◌-◌, ◌*◌, ◌^◌, zero, suc, ℕ, arith}
use Rattle.std.proofs.Math.Nat.{pow-suc, one-le-pow, pow-le-pow_right}
use Rattle.rel_model.specs.Trees.{bottom_height}
use Rattle.rel_model.specs.Equations.{side_of}
use Rattle.rel_model.specs.Quads.{quad_room, composed_words, compose_room}
use Rattle.rel_model.proofs.QuadLaws.{side_of-power}

-- one result has room where a composition has
tree_fits : (d : ℕ) → 2 * 4 ^ d - 1 ≤ composed_words d
tree_fits zero = omega arith
tree_fits (suc d) =
    let i = tree_fits d in
    let p : 4 ^ suc d ≡ 4 ^ d * 4 = pow-suc 4 d in
    let q = one-le-pow d 4 (omega arith) in
    omega (arith, i, p, q)

pub quad_fits : (h : ℕ) → quad_room h ≤ compose_room h
quad_fits h = tree_fits (h - bottom_height)

-- the side of a square of a height up to 8
pub side_small : (h : ℕ) → bottom_height ≤ h → h ≤ 8 → side_of h ≤ 256
side_small h l m =
    let p = side_of-power h l in
    let q = pow-le-pow_right {n = 2} (omega arith) {i = h} {j = 8} m in
    omega (arith, p, q)
