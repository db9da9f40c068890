-- New names of uses that are listed.
use Rattle.std.proofs.Common.{◌≡◌, ◌<◌, ◌≢◌, zero, suc, ℕ, Bool, true, false, List, [], ◌∷◌, length, take, get_or, Some, refl, sym, ◌∙◌, inl, inr, arith}
use Rattle.std.specs.List.{list_any, position}
use Rattle.std.proofs.lemmas.Bool.{false≢true, cases_lt, or_cases, or_left, or_right}
use Rattle.std.proofs.lemmas.List.Quantifiers.{position-Some}
use Rattle.rv_compact.specs.Walks.{same_key, has_key, IsListed}
use Rattle.rv_compact.specs.Copies.{IsNamed}
use Rattle.rv_compact.proofs.Walking.{same_both}

-- an element of the first ones that passes a test
pub record FirstPass {X : Type 0} (p : X → Bool) (xs : List X) (j : ℕ) : Type 0 where
  pub place : ℕ
  pub within : place < j
  pub in_list : place < length xs
  pub passes : (d : X) → p (get_or xs place d) ≡ true

pub first_pass : {X : Type 0} (p : X → Bool) (xs : List X) (j : ℕ) → list_any p (take j xs) ≡ true → FirstPass p xs j
first_pass p [] zero e = absurd (false≢true e)
first_pass p [] (suc j) e = absurd (false≢true e)
first_pass p (x ∷ xs) zero e = absurd (false≢true e)
first_pass p (x ∷ xs) (suc j) e = elim (or_cases _ _ e) [
  | inl a ↦ record { place = 0; within = omega arith; in_list = omega arith; passes = λ d. a }
  | inr a ↦ let r = first_pass p xs j a in record { place = suc r.place; within = (let w = r.within in omega arith); in_list = (let w = r.in_list in omega arith); passes = r.passes }
]

-- what is among the first is among all
pub any-take : {X : Type 0} (p : X → Bool) (xs : List X) (j : ℕ) → list_any p (take j xs) ≡ true → list_any p xs ≡ true
any-take p [] zero e = absurd (false≢true e)
any-take p [] (suc j) e = absurd (false≢true e)
any-take p (x ∷ xs) zero e = absurd (false≢true e)
any-take p (x ∷ xs) (suc j) e = elim (or_cases (p x) (list_any p (take j xs)) e) [ inl a ↦ or_left (p x) (list_any p xs) a | inr a ↦ or_right (p x) (list_any p xs) (any-take p xs j a) ]

-- name 0 has name 0
pub named_none : (keys : List (ℕ × ℕ)) (names : List ℕ) (k n : ℕ) → n ≡ 0 → IsNamed keys names k n 0
named_none keys names k n e = inl (e, refl)

-- the place of a use among the first is a place of a new name
pub place_below : (keys : List (ℕ × ℕ)) (count k n i : ℕ) → n ≢ 0 → IsListed (take count keys) k n → position (same_key (k, n)) keys ≡ Some i → i < count
place_below keys count k n i h l e = elim l [
  | inl z ↦ absurd (h z)
  | inr a ↦ let r = first_pass (same_key (k, n)) keys count a in
      let d : ℕ × ℕ = (0, 0) in
      let p = position-Some (same_key (k, n)) keys i d e in
      elim (cases_lt r.place i) [
        | inl b ↦ absurd (false≢true (sym (p.2 r.place b) ∙ r.passes d))
        | inr b ↦ let w = r.within in omega arith
      ]
]

pub named_at : (keys : List (ℕ × ℕ)) (names : List ℕ) (k n i : ℕ) → n ≢ 0 → IsListed (take (length names) keys) k n → position (same_key (k, n)) keys ≡ Some i → IsNamed keys names k n (get_or names i 0)
named_at keys names k n i h l e =
    inr (
      i,
      place_below keys (length names) k n i h l e,
      (position-Some (same_key (k, n)) keys i (0, 0) e).0,
      (λ d. let q = same_both k n _ _ (position-Some (same_key (k, n)) keys i d e).1 in (sym q.0, sym q.1)),
      refl,
    )

-- a use among the first is found
pub not_found : (keys : List (ℕ × ℕ)) (count k n : ℕ) → n ≢ 0 → IsListed (take count keys) k n → has_key keys k n ≢ false
not_found keys count k n h l e = elim l [ inl z ↦ h z | inr a ↦ false≢true (sym e ∙ any-take (same_key (k, n)) keys count a) ]
