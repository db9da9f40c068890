-- A text of lines with one line more.
use Rattle.std.proofs.Common.{◌≡◌, ◌<◌, ◌+◌, ◌∙◌, ℕ, suc, List, [], ◌∷◌, ◌++◌, length, take, get_or, refl, sym, ap, arith, map, zero-add}
use Rattle.std.proofs.Math.Seq.{take-suc}
use Rattle.std.specs.List.{flat_map, range_with_len}
use Rattle.std.proofs.lemmas.List.{append-nil}
use Rattle.std.proofs.lemmas.List.Concat.{flat_map-append}
use Rattle.std.proofs.lemmas.List.FromFn.{map-range_with_len_more}

range_more : (a n : ℕ) → range_with_len a (n + 1) ≡ range_with_len a n ++ (a + n) ∷ []
range_more a n = sym (map_id (range_with_len a (n + 1))) ∙ map-range_with_len_more (λ x. x) a n (a + n) refl ∙ ap (λ xs. xs ++ (a + n) ∷ []) (map_id (range_with_len a n))
  where
    map_id : (xs : List ℕ) → map (λ x. x) xs ≡ xs
    map_id [] = refl
    map_id (x ∷ xs) = ap (λ ys. x ∷ ys) (map_id xs)

-- one more line
pub lines_more : {X : Type 0} (f : ℕ → List X) (n : ℕ) → flat_map f (range_with_len 0 (n + 1)) ≡ flat_map f (range_with_len 0 n) ++ f n
lines_more f n = ap (flat_map f) (range_more 0 n) ∙ flat_map-append f (range_with_len 0 n) ((0 + n) ∷ []) ∙ ap (λ ys. flat_map f (range_with_len 0 n) ++ ys) (append-nil (f (0 + n)) ∙ ap f (zero-add n))

-- one more pair
pub pairs-more : (f : ℕ × ℕ → List ℕ) (ps : List (ℕ × ℕ)) (k : ℕ) (d : ℕ × ℕ) → k < length ps → flat_map f (take (k + 1) ps) ≡ flat_map f (take k ps) ++ f (get_or ps k d)
pairs-more f ps k d l =
    let more : k + 1 ≡ suc k = omega arith in
    ap (λ (n : ℕ). flat_map f (take n ps)) more ∙ ap (flat_map f) (take-suc ps k d l) ∙ flat_map-append f (take k ps) (get_or ps k d ∷ []) ∙ ap (λ ys. flat_map f (take k ps) ++ ys) (append-nil (f (get_or ps k d)))
