-- Places at which batches end, and the scripts between them.
use Rattle.std.proofs.Common.{◌≡◌, ◌<◌, ◌≤◌, ◌-◌, ◌++◌, ◌∙◌, ℕ, zero, suc, List, [], ◌∷◌, length, take, drop, map, get_or, refl, sym, ap, subst, arith}
use Rattle.std.specs.Prelude.{All}
use Rattle.std.proofs.lemmas.List.{map-append}
use Rattle.std.proofs.lemmas.List.Elements.{All-tail}
use Rattle.run_model.specs.Inputs.{Rise}

-- the last one is the count
rise_up : (earlier count : ℕ) (ends : List ℕ) → Rise earlier count ends → earlier ≤ count
rise_up earlier count [] h = omega (arith, h)
rise_up earlier count (x ∷ xs) h = let rest = rise_up x count xs h.1 in let l = h.0 in omega (arith, l, rest)

take_whole : (xs : List ℕ) (n : ℕ) → n ≡ length xs → take n xs ≡ xs
take_whole [] zero e = refl
take_whole [] (suc n) e = absurd (omega (arith, e))
take_whole (x ∷ xs) zero e = absurd (omega (arith, e))
take_whole (x ∷ xs) (suc n) e = ap (λ (l : List ℕ). x ∷ l) (take_whole xs n (omega (arith, e)))

-- the next place, and those behind it
pub record Next (earlier count : ℕ) (ends : List ℕ) : Type 0 where
  pub first : get_or ends 0 0 ∷ take (length ends - 1) (drop 1 ends) ≡ ends
  pub rest : Rise (get_or ends 0 0) count (take (length ends - 1) (drop 1 ends))
  pub later : earlier < get_or ends 0 0
  pub within : get_or ends 0 0 ≤ count

pub next_place : (earlier count : ℕ) (ends : List ℕ) → 1 ≤ length ends → Rise earlier count ends → Next earlier count ends
next_place earlier count [] l h = absurd (omega (arith, l))
next_place earlier count (x ∷ xs) l h =
    let whole : take (length (x ∷ xs) - 1) xs ≡ xs = take_whole xs (length (x ∷ xs) - 1) (omega arith) in
    record {
      first = ap (λ (ys : List ℕ). x ∷ ys) whole;
      rest = subst (Rise x count) (sym whole) h.1;
      later = h.0;
      within = rise_up x count xs h.1;
    }

-- where there are scripts there is a place
pub some_place : (count : ℕ) (ends : List ℕ) → 1 ≤ count → Rise 0 count ends → 1 ≤ length ends
some_place count [] l h = absurd (omega (arith, l, h))
some_place count (x ∷ xs) l h = omega arith

module _ {X : Type 0} where
  front_back : (xs : List X) (n : ℕ) → take n xs ++ drop n xs ≡ xs
  front_back xs zero = refl
  front_back [] (suc n) = refl
  front_back (x ∷ xs) (suc n) = ap (λ (ys : List X). x ∷ ys) (front_back xs n)

  pub all_behind : (P : X → Type 0) (xs back : List X) (n : ℕ) → back ≡ drop n xs → All P xs → All P back
  all_behind P xs back n b h = subst (All P) (sym b) (those xs n h)
    where
      those : (xs : List X) (n : ℕ) → All P xs → All P (drop n xs)
      those xs zero h = h
      those [] (suc n) h = h
      those (x ∷ xs) (suc n) h = those xs n (All-tail P x xs h)

module _ {X Y : Type 0} where
  -- both parts of a list that is cut are the list
  pub both_parts : (f : X → Y) (xs front back : List X) (n : ℕ) → front ≡ take n xs → back ≡ drop n xs → map f front ++ map f back ≡ map f xs
  both_parts f xs front back n a b =
      sym (map-append f front back) ∙ ap (λ ys. map f (ys ++ back)) a ∙ ap (λ ys. map f (take n xs ++ ys)) b ∙ ap (map f) (front_back xs n)
