-- What single operations make is within what an expression counts for them.
-- 1. An operation on values of no greater sizes is what a plain operation counts; so are a test and its answer.
-- 2. A call that is made of compositions, on no greater sizes, is within what any other operation counts.
use Rattle.std.proofs.Common.{◌≡◌, ◌≤◌, ◌+◌, ◌-◌, ◌*◌, ◌^◌, ◌∙◌, ℕ, max, refl, ap, arith, Result}
use Rattle.std.proofs.Math.Nat.{pow-le-pow_right}
use Rattle.rel_model.specs.Relation.{Relation}
use Rattle.rel_model.specs.Worker.{Worker, height_of, operator_room, plain_room, height_of_three, product_room, derived_room, wide_room}
use Rattle.rel_model.proofs.Rooms.{plain_room-cell, wide_room-derived}
use Rattle.lang_model.specs.Rooms.{plain_cost, product_cost, wide_cost}
use Rattle.lang_model.specs.Outcomes.{Cost, Makes}
use Rattle.rv_eval.specs.declared.halt.Halt.{Halt}
use Rattle.rv_eval.specs.Ends.{EndsOnce}
use Rattle.rv_eval.proofs.Going.{owes_after}
use Rattle.rel_slices.specs.declared.thin.Value.{Value}
use Rattle.rel_values.specs.Values.{owed}

pub height_one : height_of 1 ≡ 0
unfolding height_of
height_one = refl

-- ---- plain operations
-- one of no greater sizes
pub plain_within : (leaf a b rows cols : ℕ) → height_of a ≤ max (height_of rows) (height_of cols)
    → height_of b ≤ max (height_of rows) (height_of cols) → plain_room a b ≤ plain_cost rows cols leaf
unfolding plain_cost plain_room
plain_within leaf a b rows cols x y =
    let p = pow-le-pow_right {n = 4} (omega arith) {i = max (height_of a) (height_of b)}
    {j = max (height_of rows) (height_of cols)} (omega (arith, x, y)) in
    omega (arith, p)

-- one on a column and on a row
pub column_plain : (leaf rows cols : ℕ) → plain_room rows 1 ≤ plain_cost rows cols leaf
column_plain leaf rows cols = let e = height_one in
    plain_within leaf rows 1 rows cols (omega arith) (omega (arith, e))

pub row_plain : (leaf rows cols : ℕ) → plain_room 1 cols ≤ plain_cost rows cols leaf
row_plain leaf rows cols = let e = height_one in
    plain_within leaf 1 cols rows cols (omega (arith, e)) (omega arith)

-- an operator and one on a cell
pub test_plain : (leaf rows cols : ℕ) → operator_room rows cols + operator_room 1 1 ≤ plain_cost rows cols leaf
unfolding plain_cost
test_plain leaf rows cols = plain_room-cell rows cols

-- ---- by equal sizes
pub plain_of : (leaf m n x y : ℕ) → x ≡ m → y ≡ n → plain_room m n ≤ plain_cost x y leaf
unfolding plain_cost
plain_of leaf m n x y a b =
    let e : plain_room x y ≡ plain_room m n = ap (λ i. plain_room i y) a ∙ ap (plain_room m) b in
    omega (arith, e)

-- ---- products and all others
pub product_of : (leaf k m n x y z : ℕ) → x ≡ k → y ≡ m → z ≡ n → product_room k m n ≤ product_cost x y z leaf
unfolding product_cost
product_of leaf k m n x y z a b c =
    let e : product_room x y z ≡ product_room k m n =
    ap (λ i. product_room i y z) a ∙ ap (λ i. product_room k i z) b ∙ ap (product_room k m) c in
    omega (arith, e)

pub wide_within : (leaf a b c k m n : ℕ) → height_of a ≤ height_of_three k m n → height_of b ≤ height_of_three k m n
    → height_of c ≤ height_of_three k m n → derived_room a b c ≤ wide_cost k m n leaf
unfolding wide_cost
wide_within leaf a b c k m n x y z = wide_room-derived a b c k m n x y z

pub wide_itself : (leaf k m n : ℕ) → wide_room k m n ≤ wide_cost k m n leaf
unfolding wide_cost
wide_itself leaf k m n = omega arith

pub wide_by : (leaf k m n x y z : ℕ) → x ≡ k → y ≡ m → z ≡ n → wide_room k m n ≤ wide_cost x y z leaf
unfolding wide_cost
wide_by leaf k m n x y z a b c =
    let e : wide_room x y z ≡ wide_room k m n =
    ap (λ i. wide_room i y z) a ∙ ap (λ i. wide_room k i z) b ∙ ap (wide_room k m) c in
    omega (arith, e)

-- of one height
pub wide_height : (leaf a b c k m n : ℕ) → height_of_three a b c ≡ height_of_three k m n → wide_room a b c ≤ wide_cost k m n leaf
unfolding wide_cost wide_room
wide_height leaf a b c k m n h =
    let e : 256 * (height_of_three a b c + 1) * 8 ^ height_of_three a b c ≡ 256 * (height_of_three k m n + 1) * 8 ^ height_of_three k m n = ap (λ x. 256 * (x + 1) * 8 ^ x) h in
    omega (arith, e)

pub wide_of : (leaf k m n x y z : ℕ) → x ≡ k → y ≡ m → z ≡ n → derived_room k m n ≤ wide_cost x y z leaf
wide_of leaf k m n x y z a b c =
    let e : wide_cost x y z leaf ≡ wide_cost k m n leaf =
    ap (λ i. wide_cost i y z leaf) a ∙ ap (λ i. wide_cost k i z leaf) b ∙ ap (λ i. wide_cost k m i leaf) c in
    let p = wide_within leaf k m n k m n (omega arith) (omega arith) (omega arith) in
    omega (arith, e, p)

-- ---- an operation that counts more than it does
pub counted_more : {leaf : ℕ} (old new : Worker) (value : Relation) (c d : Cost) (r : Result Value Halt) → c leaf ≤ d leaf
    → EndsOnce leaf old new (Makes value c) r → EndsOnce leaf old new (Makes value d) r
counted_more {leaf = leaf} old new value c d r l e = record {
  value = e.value;
  halted = e.halted;
  keeps = e.keeps;
  room = (let m = e.room in omega (arith, m, l));
  owes = owes_after old.made old.made new.made 0 0 0 (d leaf - c leaf) (c leaf) (d leaf) (owed leaf) r (omega arith) (omega arith) (omega (arith, l)) e.owes;
  turns = e.turns;
}
