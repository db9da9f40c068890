-- The pairs kept in the first places: with one more place come its own, and none if it has been freed.
use Rattle.std.proofs.Common.{◌≡◌, ◌<◌, ◌+◌, ◌∙◌, refl, sym, ap, subst, arith, ℕ, suc, zero, List, [], ◌∷◌, Option, None, Some, length, take, slice_index_or, slice_set}
use Rattle.rel_slices.specs.declared.listings.Listing.{Listing}
use Rattle.rel_slices.specs.Remembering.{pairs_at, pairs_kept}

pub kept-none : pairs_kept [] ≡ 0
unfolding pairs_kept
kept-none = refl

kept-cons : (x : Option Listing) (xs : List (Option Listing)) → pairs_kept (x ∷ xs) ≡ pairs_at x + pairs_kept xs
unfolding pairs_kept
kept-cons x xs = refl

one_more : (p : ℕ) (xs : List (Option Listing)) → p < length xs → pairs_kept (take (suc p) xs) ≡ pairs_kept (take p xs) + pairs_at (slice_index_or xs p None)
one_more p [] l = omega arith
one_more zero (x ∷ xs) l = omega (arith, kept-none, kept-cons x [])
one_more (suc p) (x ∷ xs) l = omega (arith, one_more p xs (omega arith), kept-cons x (take (suc p) xs), kept-cons x (take p xs))

pub kept-one_more : (p : ℕ) (xs : List (Option Listing)) → p < length xs → pairs_kept (take (p + 1) xs) ≡ pairs_kept (take p xs) + pairs_at (slice_index_or xs p None)
kept-one_more p xs l = let e : suc p ≡ p + 1 = omega arith in
    subst (λ q. pairs_kept (take q xs) ≡ pairs_kept (take p xs) + pairs_at (slice_index_or xs p None)) e (one_more p xs l)

nothing_at : pairs_at None ≡ 0
unfolding pairs_at
nothing_at = refl

freed : (p : ℕ) (xs : List (Option Listing)) → p < length xs → pairs_kept (take (suc p) (slice_set xs p None)) ≡ pairs_kept (take p xs)
freed p [] l = omega arith
freed zero (x ∷ xs) l = omega (arith, kept-none, kept-cons None [], nothing_at)
freed (suc p) (x ∷ xs) l = omega (arith, freed p xs (omega arith), kept-cons x (take (suc p) (slice_set xs p None)), kept-cons x (take p xs))

pub kept-freed : (p : ℕ) (xs : List (Option Listing)) → p < length xs → pairs_kept (take (p + 1) (slice_set xs p None)) ≡ pairs_kept (take p xs)
kept-freed p xs l = let e : suc p ≡ p + 1 = omega arith in
    subst (λ q. pairs_kept (take q (slice_set xs p None)) ≡ pairs_kept (take p xs)) e (freed p xs l)

-- what a place within a list has is the same for every default
same_place : (p : ℕ) (xs : List (Option Listing)) (d e : Option Listing) → p < length xs → slice_index_or xs p d ≡ slice_index_or xs p e
same_place p [] d e l = absurd (omega arith)
same_place zero (x ∷ xs) d e l = refl
same_place (suc p) (x ∷ xs) d e l = same_place p xs d e (omega arith)

pub pairs_at-none : (p : ℕ) (xs : List (Option Listing)) (d : Option Listing) → p < length xs → slice_index_or xs p d ≡ None → 0 ≡ pairs_at (slice_index_or xs p None)
unfolding pairs_at
pairs_at-none p xs d l e = sym (ap pairs_at (same_place p xs None d l ∙ e))

pub pairs_at-some : (p : ℕ) (xs : List (Option Listing)) (d : Option Listing) (m : Listing) → p < length xs → slice_index_or xs p d ≡ Some m
    → length m.pairs.items ≡ pairs_at (slice_index_or xs p None)
unfolding pairs_at
pairs_at-some p xs d m l e = sym (ap pairs_at (same_place p xs None d l ∙ e))
