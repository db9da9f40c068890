-- Numbers in order, cut at a bound: those before the partition point are below it, and the others are not.
use Rattle.std.proofs.Common.{◌≡◌, ◌<◌, ◌≤◌, ◌+◌, ◌∙◌, ltb, ℕ, true, false, List, [], ◌∷◌, ◌++◌, take, drop, length, get_or, sym, ap, subst, arith, take-append-drop, suc}
use Rattle.std.specs.List.{AllByRecursion}
use Rattle.std.specs.List.Sorted.{IsNonDecreasing, IsPartitionPoint}
use Rattle.std.proofs.lemmas.Bool.Decides.{nat_tests}
use Rattle.std.proofs.lemmas.List.{get_or-take, get_or-drop, length-take, length-drop}
use Rattle.std.proofs.lemmas.List.Sorted.{IsNonDecreasingBy-take, IsNonDecreasingBy-drop}
use Rattle.rel_domains.specs.Curve.{IsCut}

by_places : (P : ℕ → Type 0) (xs : List ℕ) → ((k : ℕ) → k < length xs → P (get_or xs k 0)) → AllByRecursion P xs
by_places P [] h = tt
by_places P (x ∷ xs) h = (h 0 (omega arith), by_places P xs (λ k l. h (suc k) (omega arith)))

-- numbers in order that are cut at their partition point are cut at the bound: each one before that point is below the
-- bound, and none from there on
pub cut_there : (bound : ℕ) (xs front back : List ℕ) (i : ℕ) → i ≤ length xs → IsNonDecreasing xs → IsPartitionPoint (λ y. ltb y bound ≡ true) (λ y. ltb y bound ≡ false) xs i → front ≡ take i xs → back ≡ drop i xs → IsCut bound xs front back
cut_there bound xs front back i l order point e f = record {
  parts = sym (ap (λ a. a ++ back) e ∙ ap (λ b. take i xs ++ b) f ∙ take-append-drop i xs);
  below = subst (AllByRecursion (λ x. x < bound)) (sym e) (by_places (λ x. x < bound) (take i xs) (λ k m. let n = length-take i xs in subst (λ x. x < bound) (sym (get_or-take i xs k 0 (omega arith))) (is_below (get_or xs k 0) (point.0 k 0 (omega arith) (omega arith)))));
  above = subst (AllByRecursion (λ x. bound ≤ x)) (sym f) (by_places (λ x. bound ≤ x) (drop i xs) (λ k m. let n = length-drop i xs in subst (λ x. bound ≤ x) (sym (get_or-drop i xs k 0)) (is_above (get_or xs (i + k) 0) (point.1 (i + k) 0 (omega arith) (omega arith)))));
  front_order = subst IsNonDecreasing (sym e) (IsNonDecreasingBy-take (λ x. x) i xs order);
  back_order = subst IsNonDecreasing (sym f) (IsNonDecreasingBy-drop (λ x. x) i xs order);
}
  where
    is_below : (x : ℕ) → ltb x bound ≡ true → x < bound
    is_below x t = grind (arith, nat_tests)

    is_above : (x : ℕ) → ltb x bound ≡ false → bound ≤ x
    is_above x t = grind (arith, nat_tests)
