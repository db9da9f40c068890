-- What the operators of a derivation from a k × m and a k × n relation make at most.
use Rattle.std.proofs.Common.{◌≡◌, ◌≤◌, ◌*◌, ◌^◌, ℕ, sym, subst, arith}
use Rattle.rel_model.specs.Worker.{height_of, height_of_three, operator_room, product_room, derived_room}
use Rattle.rel_model.proofs.Rooms.{operator_room-most, product_room-most, derived_room-least, derived_room-most}

-- an equal size has no greater height
pub as_high : (x y h : ℕ) → x ≡ y → height_of y ≤ h → height_of x ≤ h
as_high x y h e l = subst (λ (z : ℕ). height_of z ≤ h) (sym e) l

-- an operator on two of the sizes, a product of all three, and how often both fit
pub record StepRooms (k m n : ℕ) : Type 0 where
  pub km : (x y : ℕ) → x ≡ k → y ≡ m → operator_room x y ≤ 4 * 8 ^ height_of_three k m n
  pub kn : (x y : ℕ) → x ≡ k → y ≡ n → operator_room x y ≤ 4 * 8 ^ height_of_three k m n
  pub mn : (x y : ℕ) → x ≡ m → y ≡ n → operator_room x y ≤ 4 * 8 ^ height_of_three k m n
  pub nm : (x y : ℕ) → x ≡ n → y ≡ m → operator_room x y ≤ 4 * 8 ^ height_of_three k m n
  pub kmn : (x y z : ℕ) → x ≡ k → y ≡ m → z ≡ n → product_room x y z ≤ 16 * 8 ^ height_of_three k m n
  pub mkn : (x y z : ℕ) → x ≡ m → y ≡ k → z ≡ n → product_room x y z ≤ 16 * 8 ^ height_of_three k m n
  pub derived : (x y z : ℕ) → x ≡ m → y ≡ k → z ≡ n → derived_room x y z ≤ derived_room k m n
  pub least : 64 * 8 ^ height_of_three k m n ≤ derived_room k m n

-- no operator makes more than its bound at the height of all three sizes, since none of them has a greater height
pub step_rooms : (k m n : ℕ) → StepRooms k m n
step_rooms k m n =
    let h : ℕ = height_of_three k m n in
    record {
      km = λ x y a b. operator_room-most x y h (as_high x k h a (omega arith)) (as_high y m h b (omega arith));
      kn = λ x y a b. operator_room-most x y h (as_high x k h a (omega arith)) (as_high y n h b (omega arith));
      mn = λ x y a b. operator_room-most x y h (as_high x m h a (omega arith)) (as_high y n h b (omega arith));
      nm = λ x y a b. operator_room-most x y h (as_high x n h a (omega arith)) (as_high y m h b (omega arith));
      kmn = λ x y z a b d. product_room-most x y z h (as_high x k h a (omega arith)) (as_high y m h b (omega arith)) (as_high z n h d (omega arith));
      mkn = λ x y z a b d. product_room-most x y z h (as_high x m h a (omega arith)) (as_high y k h b (omega arith)) (as_high z n h d (omega arith));
      derived = λ x y z a b d. derived_room-most x y z k m n (as_high x m h a (omega arith)) (as_high y k h b (omega arith)) (as_high z n h d (omega arith));
      least = derived_room-least k m n;
    }
