-- Steps of a walk over the quarters of a square: their nodes in all.
use Rattle.std.proofs.Common.{◌≡◌, ◌≢◌, ◌≤◌, ◌+◌, ◌-◌, ◌*◌, ℕ, arith}
use Rattle.rel_model.specs.Roots.{tree_room}
use Rattle.rel_domains.proofs.Places.{power_step, some_cells}

pub room_step : (depth : ℕ) → depth ≢ 0 → tree_room depth ≡ 4 * tree_room (depth - 1) + 3
room_step depth over = let p = power_step depth over in let s = some_cells (depth - 1) in omega (arith, p, s)

pub room_some : (depth : ℕ) → 1 ≤ tree_room depth
room_some depth = let s = some_cells depth in omega (arith, s)
