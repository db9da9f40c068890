-- A slice whose first element is taken is that element and the rest.
use Rattle.std.proofs.Common.{◌≡◌, ◌≤◌, ◌-◌, ◌∙◌, List, [], ◌∷◌, length, take, drop, slice_index_or, suc, refl, sym, ap, arith}

take_whole : {A : Type 0} (xs : List A) → take (length xs) xs ≡ xs
take_whole [] = refl
take_whole (x ∷ xs) = ap (λ ys. x ∷ ys) (take_whole xs)

pub head_tail : {A : Type 0} (xs : List A) (x : A) (tail : List A) → 1 ≤ length xs → x ≡ slice_index_or xs 0 x → tail ≡ take (length xs - 1) (drop 1 xs) → xs ≡ x ∷ tail
head_tail [] x tail l e t = absurd (omega (arith, l))
head_tail (y ∷ ys) x tail l e t =
    let n : suc (length ys) - 1 ≡ length ys = omega arith in
    let all : tail ≡ ys = t ∙ ap (λ k. take k ys) n ∙ take_whole ys in
    ap (λ z. z ∷ ys) (sym e) ∙ ap (λ zs. x ∷ zs) (sym all)
