-- Rooms: what calls that are made of several operators place fits in the room of such calls.
use Rattle.std.proofs.Common.{◌≡◌, ◌≤◌, ◌+◌, ◌*◌, ◌^◌, ℕ, arith}
use Rattle.rel_model.proofs.Rooms.{operator_room-most, product_room-most}
use Rattle.rel_model.specs.Worker.{operator_room, height_of_three, product_room, derived_room}

-- sixty-four times the power fits
pub derived-ample : (k m n x : ℕ) → x ≤ 64 * 8 ^ height_of_three k m n → x ≤ derived_room k m n
unfolding derived_room
derived-ample k m n x l =
    let h : ℕ = height_of_three k m n in
    let e : 64 * (h + 1) * 8 ^ h ≡ 64 * (h * 8 ^ h) + 64 * 8 ^ h = omega arith in
    omega (arith, e, l)

-- one operator
pub operator-derived : (m n : ℕ) → operator_room m n ≤ derived_room m n 1
operator-derived m n =
    let h : ℕ = height_of_three m n 1 in
    let p = operator_room-most m n h (omega arith) (omega arith) in
    derived-ample m n 1 (operator_room m n) (omega (arith, p))

-- the full vector of the columns, and a composition with it
pub dom-room : (m n : ℕ) → operator_room n 1 + product_room m n 1 ≤ derived_room m n 1
dom-room m n =
    let h : ℕ = height_of_three m n 1 in
    let p = operator_room-most n 1 h (omega arith) (omega arith) in
    let q = product_room-most m n 1 h (omega arith) (omega arith) (omega arith) in
    derived-ample m n 1 (operator_room n 1 + product_room m n 1) (omega (arith, p, q))

-- a transposition, and then the same
pub ran-room : (m n : ℕ) → operator_room m n + (operator_room m 1 + product_room n m 1) ≤ derived_room m n 1
ran-room m n =
    let h : ℕ = height_of_three m n 1 in
    let o = operator_room-most m n h (omega arith) (omega arith) in
    let p = operator_room-most m 1 h (omega arith) (omega arith) in
    let q = product_room-most n m 1 h (omega arith) (omega arith) (omega arith) in
    derived-ample m n 1 (operator_room m n + (operator_room m 1 + product_room n m 1)) (omega (arith, o, p, q))
