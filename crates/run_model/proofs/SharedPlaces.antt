-- A square that is listed has a number, and it is below that of the end.
use Rattle.std.proofs.Common.{◌≡◌, ◌≢◌, ◌<◌, ◌≤◌, ◌+◌, ◌^◌, cond, zero, suc, ℕ, Bool, true, false, List, [], ◌∷◌, length, Some, subst, inl, inr, arith}
use Rattle.std.specs.Prelude.{slice_get}
use Rattle.std.proofs.lemmas.Bool.{false≢true}
use Rattle.std.proofs.lemmas.Option.{slice_get_within}
use Rattle.run_model.specs.SharedBytes.{Square, same_square, place_in, number_in}
use Rattle.run_model.proofs.SharedVisits.{same_square_itself}
use Rattle.run_model.proofs.SharedTable.{one_of_two}
use Rattle.run_model.proofs.SharedSquares.{square_of, Known}

-- a square that is listed stands before the end
pub place_before : (xs : List Square) (s : Square) (j : ℕ) → slice_get xs j ≡ Some s → place_in xs s < length xs
place_before [] s j at = absurd (none_listed j s at)
  where
    none_listed : (j : ℕ) (s : Square) → slice_get [] j ≡ Some s → ⊥
    none_listed j s at = let w = slice_get_within [] j s at in omega (arith, w)
place_before (x ∷ xs) s zero at = picked (same_square x s) (same_first x s at)
  where
    same_first : (x s : Square) → Some x ≡ Some s → same_square x s ≡ true
    same_first x s e = subst (λ y. same_square x y ≡ true) (one_of_two x s e) (same_square_itself x)

    picked : (b : Bool) → b ≡ true → cond b 0 (1 + place_in xs s) < length (x ∷ xs)
    picked true e = omega arith
    picked false e = absurd (false≢true e)
place_before (x ∷ xs) s (suc j) at = picked (same_square x s) (place_before xs s j at)
  where
    picked : (b : Bool) → place_in xs s < length xs → cond b 0 (1 + place_in xs s) < length (x ∷ xs)
    picked true i = omega arith
    picked false i = omega (arith, i)

-- so its number fits in four bytes, if there are few squares
pub number_low : (squares : List Square) → length squares + 1 < 2 ^ 32 → (h : ℕ) (ps : List (ℕ × ℕ)) →
    Known squares (length squares) h ps → number_in squares h ps < 2 ^ 32
number_low squares few h [] k = omega arith
number_low squares few zero (p ∷ ps) k = omega arith
number_low squares few (suc h) (p ∷ ps) (inl e) = absurd (omega (arith, e))
number_low squares few (suc h) (p ∷ ps) (inr (inl e)) = absurd (let d : p ∷ ps ≡ [] = e in cc)
number_low squares few (suc h) (p ∷ ps) (inr (inr (j, less, at))) =
    let a = place_before squares (square_of (suc h) (p ∷ ps)) j at in omega (arith, a, few)

-- what stands before a listed square stands before the end
pub to_end : (squares : List Square) (k h : ℕ) (ps : List (ℕ × ℕ)) → k ≤ length squares → Known squares k h ps →
    Known squares (length squares) h ps
to_end squares k h ps l (inl e) = inl e
to_end squares k h ps l (inr (inl e)) = inr (inl e)
to_end squares k h ps l (inr (inr (j, less, at))) = inr (inr (j, omega (arith, less, l), at))
