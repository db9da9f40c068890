-- The first part of the words and what stands behind it, as they are found from the left.
use Rattle.std.proofs.Common.{◌≡◌, ◌≤◌, ◌<◌, ◌+◌, ◌-◌, ◌++◌, ℕ, suc, zero, slice_index_or, true, false, List, [], ◌∷◌, length, take, drop, refl, sym, ap, ap₂, ◌∙◌, arith, append-nil, add-one}
use Rattle.std.specs.Prelude.{if◌then◌else◌}
use Rattle.std.specs.Str.{bytes_eq}
use Rattle.std.proofs.lemmas.List.{take-append-drop}
use Rattle.rv_words.specs.Uses.{Word}
use Rattle.rv_words.proofs.Walking.{not_empty}
use Rattle.rv_words.specs.Parts.{parts_of, into_first, then_word, ends_word}

-- words at the head of the first of the parts
abbrev pub headed : List Word → List (List Word) → List (List Word)
headed [] parts = parts
headed (word ∷ words) parts = into_first word (headed words parts)

headed-cons : (xs part : List Word) (parts : List (List Word)) → headed xs (part ∷ parts) ≡ (xs ++ part) ∷ parts
headed-cons [] part parts = refl
headed-cons (x ∷ xs) part parts = ap (into_first x) (headed-cons xs part parts)

headed-append : (xs ys : List Word) (parts : List (List Word)) → headed (xs ++ ys) parts ≡ headed xs (headed ys parts)
headed-append [] ys parts = refl
headed-append (x ∷ xs) ys parts = ap (into_first x) (headed-append xs ys parts)

-- one word more is taken
take-suc : (words : List Word) (count : ℕ) (word : Word) (tail : List Word) → drop count words ≡ word ∷ tail → take (suc count) words ≡ take count words ++ word ∷ []
take-suc [] zero word tail place = absurd (not_empty (sym place))
take-suc [] (suc count) word tail place = absurd (not_empty (sym place))
take-suc (x ∷ xs) zero word tail place = ap (take 1) place
take-suc (x ∷ xs) (suc count) word tail place = ap (λ ws. x ∷ ws) (take-suc xs count word tail place)

take-more : (words : List Word) (count : ℕ) (word : Word) (tail : List Word) → drop count words ≡ word ∷ tail → take (count + 1) words ≡ take count words ++ word ∷ []
take-more words count word tail place = ap (λ n. take n words) (add-one count) ∙ take-suc words count word tail place

drop-suc : (words : List Word) (count : ℕ) (word : Word) (tail : List Word) → drop count words ≡ word ∷ tail → drop (suc count) words ≡ tail
drop-suc [] zero word tail place = absurd (not_empty (sym place))
drop-suc [] (suc count) word tail place = absurd (not_empty (sym place))
drop-suc (x ∷ xs) zero word tail place = ap (drop 1) place
drop-suc (x ∷ xs) (suc count) word tail place = drop-suc xs count word tail place

-- and one less is left
pub drop-more : (words : List Word) (count : ℕ) (word : Word) (tail : List Word) → drop count words ≡ word ∷ tail → drop (count + 1) words ≡ tail
drop-more words count word tail place = ap (λ n. drop n words) (add-one count) ∙ drop-suc words count word tail place

-- ---- by the next word
module _ (words : List Word) (count : ℕ) (word : Word) (tail : List Word) (place : drop count words ≡ word ∷ tail)
    (parts : parts_of words ≡ headed (take count words) (parts_of (word ∷ tail))) where
  -- it ends the part
  pub ends_part : bytes_eq word then_word ≡ true → parts_of words ≡ take count words ∷ parts_of tail
  ends_part is = parts ∙ ap (λ b. headed (take count words) (if b then [] ∷ parts_of tail
      else (if bytes_eq word ends_word then (word ∷ tail) ∷ [] else into_first word (parts_of tail)))) is
      ∙ headed-cons (take count words) [] (parts_of tail)
      ∙ ap (λ part. part ∷ parts_of tail) (append-nil (take count words))

  -- it ends the cutting
  pub ends_cutting : bytes_eq word then_word ≡ false → bytes_eq word ends_word ≡ true → parts_of words ≡ words ∷ []
  ends_cutting other is = parts ∙ ap (headed (take count words)) (ap₂ (λ a b. if a then [] ∷ parts_of tail
      else (if b then (word ∷ tail) ∷ [] else into_first word (parts_of tail))) other is)
      ∙ headed-cons (take count words) (word ∷ tail) []
      ∙ ap (λ part. part ∷ []) (ap (λ ws. take count words ++ ws) (sym place) ∙ take-append-drop count words)

  -- it is one more of the part
  pub one_more : bytes_eq word then_word ≡ false → bytes_eq word ends_word ≡ false
      → parts_of words ≡ headed (take (count + 1) words) (parts_of tail)
  one_more other none = parts ∙ ap (headed (take count words)) (ap₂ (λ a b. if a then [] ∷ parts_of tail
      else (if b then (word ∷ tail) ∷ [] else into_first word (parts_of tail))) other none)
      ∙ sym (headed-append (take count words) (word ∷ []) (parts_of tail))
      ∙ ap (λ xs. headed xs (parts_of tail)) (sym (take-more words count word tail place))

-- there is no next word
pub all_cut : (words : List Word) (count : ℕ) → drop count words ≡ [] → parts_of words ≡ headed (take count words) (parts_of []) → parts_of words ≡ words ∷ []
all_cut words count place parts = parts ∙ headed-cons (take count words) [] []
    ∙ ap (λ part. part ∷ []) (ap (λ ws. take count words ++ ws) (sym place) ∙ take-append-drop count words)

-- ---- a slice whose first element is taken is that element and the rest
take_whole : {A : Type 0} (xs : List A) → take (length xs) xs ≡ xs
take_whole [] = refl
take_whole (x ∷ xs) = ap (λ ys. x ∷ ys) (take_whole xs)

pub head_tail : {A : Type 0} (xs : List A) (x : A) (tail : List A) → 1 ≤ length xs → x ≡ slice_index_or xs 0 x → tail ≡ take (length xs - 1) (drop 1 xs) → xs ≡ x ∷ tail
head_tail [] x tail l e t = absurd (omega (arith, l))
head_tail (y ∷ ys) x tail l e t =
    let n : suc (length ys) - 1 ≡ length ys = omega arith in
    let all : tail ≡ ys = t ∙ ap (λ k. take k ys) n ∙ take_whole ys in
    ap (λ z. z ∷ ys) (sym e) ∙ ap (λ zs. x ∷ zs) (sym all)

pub none_left : {A : Type 0} (xs : List A) → length xs < 1 → xs ≡ []
none_left [] few = refl
none_left (x ∷ xs) few = absurd (omega (arith, few))
