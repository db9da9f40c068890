-- The room of a tree of one row, within that of any tree.
use Rattle.std.proofs.Common.{◌≡◌, ◌≤◌, ◌-◌, ◌*◌, ◌^◌, zero, suc, ℕ, arith}
use Rattle.std.proofs.Math.Nat.{pow-suc}
use Rattle.std.proofs.lemmas.Nat.{pow_pos}
use Rattle.rel_model.specs.Roots.{height_over, tree_room, relation_room}
use Rattle.rel_rows.specs.Rooms.{strip}
use Rattle.rel_images.specs.Rooms.{line_room}

strip-tree : (d : ℕ) → strip d ≤ tree_room d
strip-tree zero = omega arith
strip-tree (suc d) =
    let i = strip-tree d in
    let p : 2 ^ suc d ≡ 2 ^ d * 2 = pow-suc 2 d in
    let q : 4 ^ suc d ≡ 4 ^ d * 4 = pow-suc 4 d in
    let r = pow_pos d in
    omega (arith, i, p, q, r)

-- a tree of one row has room where a tree has
pub line_room-tree : (least cols : ℕ) → line_room least cols ≤ relation_room least 1 cols
line_room-tree least cols = strip-tree (height_over least 1 cols - least)
