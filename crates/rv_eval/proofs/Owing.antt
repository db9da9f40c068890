-- What names and values owe at most, where they are set, bound and listed.
use Rattle.std.proofs.Common.{◌≤◌, ◌++◌, ℕ, zero, suc, max, List, [], ◌∷◌, arith}
use Rattle.std.proofs.Math.ListN.{set}
use Rattle.rv_eval.specs.Names.{beside}
use Rattle.rv_eval.specs.Values.{most, most_named}

-- one more at the end
pub most-push : {X : Type 0} (h : X → ℕ) (xs : List X) (y : X) → most h (xs ++ y ∷ []) ≤ max (h y) (most h xs)
most-push h [] y = omega arith
most-push h (x ∷ xs) y = let more = most-push h xs y in omega (arith, more)

-- one in the place of another
pub most-set : {X : Type 0} (h : X → ℕ) (xs : List X) (i : ℕ) (y : X) → most h (set xs i y) ≤ max (h y) (most h xs)
most-set h [] i y = omega arith
most-set h (x ∷ xs) zero y = omega arith
most-set h (x ∷ xs) (suc i) y = let more = most-set h xs i y in omega (arith, more)

-- parameters with what stands with them
pub most-beside : {X : Type 0} (h : X → ℕ) (ps : List (List ℕ)) (vs : List X) → most_named h (beside ps vs) ≤ most h vs
most-beside h [] vs = omega arith
most-beside h (p ∷ ps) [] = omega arith
most-beside h (p ∷ ps) (v ∷ vs) = let more = most-beside h ps vs in omega (arith, more)
