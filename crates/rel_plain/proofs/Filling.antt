-- The pairs of the grid, row by row, are the full relation.
use Rattle.std.proofs.Common.{◌≡◌, ◌≤◌, ◌+◌, ℕ, List, [], ◌∷◌, ◌++◌, refl, sym, ap, ◌∙◌, map, zero-add}
use Rattle.std.specs.List.{flat_map, range_with_len}
use Rattle.std.proofs.lemmas.List.Concat.{flat_map-append}
use Rattle.std.proofs.lemmas.List.FromFn.{map-range_with_len_more}
use Rattle.std.proofs.lemmas.List.{append-nil}
use Rattle.rel_model.specs.Relation.{has, relation_of, grid, size_limit}
use Rattle.rel_model.specs.Operators.{full}
use Rattle.rel_model.proofs.Grid.{grid-member, grid-within, grid-increasing}
use Rattle.rel_model.proofs.Relations.{relation_of-agree}
use Rattle.rel_plain.specs.Kept.{IsKept}
use Rattle.rel_plain.proofs.Stored.{stored}

-- one more number
range_more : (a n : ℕ) → range_with_len a (n + 1) ≡ range_with_len a n ++ (a + n) ∷ []
range_more a n = sym (map_id (range_with_len a (n + 1))) ∙ map-range_with_len_more (λ x. x) a n (a + n) refl ∙ ap (λ xs. xs ++ (a + n) ∷ []) (map_id (range_with_len a n))
  where
    map_id : (xs : List ℕ) → map (λ x. x) xs ≡ xs
    map_id [] = refl
    map_id (x ∷ xs) = ap (λ ys. x ∷ ys) (map_id xs)

-- one more row of the grid
pub grid_more : (f : ℕ → List (ℕ × ℕ)) (n : ℕ) → flat_map f (range_with_len 0 (n + 1)) ≡ flat_map f (range_with_len 0 n) ++ f n
grid_more f n = ap (flat_map f) (range_more 0 n) ∙ flat_map-append f (range_with_len 0 n) ((0 + n) ∷ []) ∙ ap (λ ys. flat_map f (range_with_len 0 n) ++ ys) (append-nil (f (0 + n)) ∙ ap f (zero-add n))

-- all pairs are the full relation
pub full_is : (m n : ℕ) → relation_of m n (has (stored m n (grid m n))) ≡ full m n
unfolding full
full_is m n = relation_of-agree m n _ _ (λ i j a b. grid-member m n i j a b)

-- and are kept, within the limit
pub IsKept-full : (m n : ℕ) → m ≤ size_limit → n ≤ size_limit → IsKept (stored m n (grid m n))
IsKept-full m n a b = record { valid = record { within = grid-within m n; increasing = grid-increasing m n }; row_limit = a; col_limit = b }
