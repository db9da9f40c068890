-- `R^*S` as `(S^*R)^`, where S has no more columns than rows.
-- 1. Both are the same set, since transposition turns a composition round (`turned_set`).
-- 2. S is turned at no cost, the product counts the same in either direction (`product_turned`), and to turn the answer
--    takes no more than to turn R, which has as many rows as S (`square_narrow`).
use Rattle.std.proofs.Common.{◌≡◌, ◌≤◌, ◌*◌, ◌^◌, ◌∙◌, ℕ, max, refl, ap, arith}
use Rattle.std.proofs.Math.Nat.{pow-le-pow_right}
use Rattle.rel_model.specs.Algebra.{HasType}
use Rattle.rel_model.specs.Operators.{compose, transpose}
use Rattle.rel_model.specs.Relation.{Relation, size_limit}
use Rattle.rel_model.specs.Worker.{height_of, height_of_three, product_room}
use Rattle.rel_model.proofs.AlgebraLaws.{transpose_laws}
use Rattle.rel_model.proofs.Heights.{height_of-covers, height_of-least}
use Rattle.rel_model.proofs.Members.{type-transpose}
use Rattle.rel_slices.specs.declared.thin.Value.{Value}
use Rattle.rel_slices.specs.declared.thin.Value.TheVariants.{Whole, Lines}
use Rattle.rel_slices.specs.Thin.{IsLines}
use Rattle.rel_slices.specs.ValueRooms.{transpose_room}
use Rattle.rel_values.proofs.Small.{square_room}

-- both ways give one set
pub turned_set : (m n k : ℕ) (r s : Relation) → HasType m n r → HasType m k s → transpose (compose (transpose s) r) ≡ compose (transpose r) s
turned_set m n k r s t u = transpose_laws.compose k m n (transpose s) r (type-transpose m k s u) t ∙ ap (compose (transpose r)) (transpose_laws.twice s u.valid)

-- lines are turned without making a node
pub lines_turned : (least : ℕ) (v : Value) → IsLines v → transpose_room least v ≡ 0
lines_turned least (Whole r) l = absurd l
lines_turned least (Lines s) l = refl

-- a product costs the same as that of its transpositions
pub product_turned : (k m n : ℕ) → product_room k m n ≡ product_room n m k
unfolding product_room
product_turned k m n = ap (λ (h : ℕ). 16 * 8 ^ h) (let e : height_of_three k m n ≡ height_of_three n m k = omega arith in e)

-- fewer rows need no greater height
height_narrow : (k m : ℕ) → k ≤ m → m ≤ size_limit → height_of k ≤ height_of m
height_narrow k m l b = height_of-least k (height_of m) (omega (arith, l, height_of-covers m b))

-- the square of fewer rows
pub square_narrow : (k m n : ℕ) → k ≤ m → m ≤ size_limit → square_room k n ≤ square_room m n
unfolding square_room
square_narrow k m n l b =
    let p = height_narrow k m l b in
    pow-le-pow_right {n = 4} (omega arith) {i = max (height_of k) (height_of n)} {j = max (height_of m) (height_of n)} (omega (arith, p))

-- the square of no more columns than rows, beside that of any columns
pub square_tall : (m k n : ℕ) → k ≤ m → m ≤ size_limit → square_room m k ≤ square_room m n
unfolding square_room
square_tall m k n l b =
    let p = height_narrow k m l b in
    pow-le-pow_right {n = 4} (omega arith) {i = max (height_of m) (height_of k)} {j = max (height_of m) (height_of n)} (omega (arith, p))
