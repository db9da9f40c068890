-- What each kind of word is to clap's lexer.
use Rattle.std.proofs.Common.{◌≡◌, ◌∙◌, ◌&&◌, ◌==◌, ℕ, Bool, true, false, List, [], ◌∷◌, length, refl, sym, ap, ap₂, subst, arith, slice_get, Some, None}
use Rattle.std.specs.Prelude.{◌<◌, zero, suc, if◌then◌else◌, option_and_then}
use lib.Utf8.{encodes}
use Rattle.std.specs.Str.{bytes_eq, chars, IsUtf8, IsAscii}
use Rattle.std.proofs.lemmas.Str.{encodes-chars, encodes-IsAscii}
use Rattle.std.proofs.lemmas.Bool.{eqb-true}
use Rattle.clap.specs.Lexer.{long_of, long_of_rest, short_of, short_of_rest, strip_byte}
use Rattle.rv_words.specs.Uses.{Kind, Word, plain, ends, long, foreign, kind_of, long_kind}

-- what a word of each kind is to clap: a plain word is no option; -- ends them; a long option has a name and a value; a foreign word has a first character behind its hyphen
abbrev pub Facts : Word → Kind → Type 0
Facts word plain = (bytes_eq word (45 ∷ 45 ∷ []) ≡ false) × (long_of word ≡ None) × (short_of word ≡ None)
Facts word ends = bytes_eq word (45 ∷ 45 ∷ []) ≡ true
Facts word (long name behind) = (bytes_eq word (45 ∷ 45 ∷ []) ≡ false) × (long_of word ≡ Some (name, behind))
Facts word foreign = (bytes_eq word (45 ∷ 45 ∷ []) ≡ false) × (long_of word ≡ None)
    × (b : ℕ) × (bs : List ℕ) × (x : ℕ) × (short_of word ≡ Some (b ∷ bs)) × (slice_get (chars (b ∷ bs)) 0 ≡ Some x)

hyphen_ascii : IsAscii (45 ∷ [])
hyphen_ascii zero = let low : 45 < 128 = omega arith in low
hyphen_ascii (suc i) = let low : 0 < 128 = omega arith in low

hyphen_first : (b : ℕ) (bs : List ℕ) → chars (45 ∷ b ∷ bs) ≡ 45 ∷ chars (b ∷ bs)
unfolding chars
hyphen_first b bs = refl

-- behind a hyphen stands a character, where the word is text
first_char : (b : ℕ) (bs : List ℕ) → IsUtf8 (45 ∷ b ∷ bs) → (x : ℕ) × (slice_get (chars (b ∷ bs)) 0 ≡ Some x)
first_char b bs text = go (chars (b ∷ bs)) refl
  where
    go : (cs : List ℕ) → chars (b ∷ bs) ≡ cs → (x : ℕ) × (slice_get (chars (b ∷ bs)) 0 ≡ Some x)
    go [] none =
        let whole : chars (45 ∷ b ∷ bs) ≡ 45 ∷ [] = hyphen_first b bs ∙ ap (λ cs. 45 ∷ cs) none in
        let short : ◌≡◌ {A = List ℕ} (45 ∷ []) (45 ∷ b ∷ bs) = sym (encodes-IsAscii (45 ∷ []) hyphen_ascii) ∙ (ap encodes (sym whole) ∙ encodes-chars (45 ∷ b ∷ bs) text) in
        let lengths : 1 ≡ suc (suc (length bs)) = ap length short in
        absurd (omega (arith, lengths))
    go (x ∷ xs) some = (x, ap (λ cs. slice_get cs 0) some)

one_byte : (b : Bool) → ((b && false) ≡ false) × (option_and_then long_of_rest (option_and_then (strip_byte 45) (if b then Some [] else None)) ≡ None)
    × (option_and_then short_of_rest (if b then Some [] else None) ≡ None)
one_byte true = (refl, refl, refl)
one_byte false = (refl, refl, refl)

-- the two tests of the first bytes
first_two : (a b : ℕ) (bs : List ℕ) → IsUtf8 (a ∷ b ∷ bs) → (p q : Bool) → (a == 45) ≡ p → (b == 45) ≡ q
    → Facts (a ∷ b ∷ bs) (if p then (if q then long_kind bs else foreign) else plain)
first_two a b bs text false q first second = (
  ap (λ x. x && ((b == 45) && bytes_eq bs [])) first,
  ap (λ x. option_and_then long_of_rest (option_and_then (strip_byte 45) (if x then Some (b ∷ bs) else None))) first,
  ap (λ x. option_and_then short_of_rest (if x then Some (b ∷ bs) else None)) first,
)
first_two a b bs text true false first second =
    let is_hyphen : a ≡ 45 = eqb-true a 45 first in
    let char = first_char b bs (subst (λ x. IsUtf8 (x ∷ b ∷ bs)) is_hyphen text) in (
      ap₂ (λ x y. x && (y && bytes_eq bs [])) first second,
      ap (λ x. option_and_then long_of_rest (option_and_then (strip_byte 45) (if x then Some (b ∷ bs) else None))) first
          ∙ ap (λ y. option_and_then long_of_rest (if y then Some bs else None)) second,
      b,
      bs,
      char.0,
      ap (λ x. option_and_then short_of_rest (if x then Some (b ∷ bs) else None)) first ∙ ap (λ y. if y then None else Some (b ∷ bs)) second,
      char.1,
    )
first_two a b [] text true true first second = ap₂ (λ x y. x && (y && true)) first second
first_two a b (c ∷ cs) text true true first second = (
  ap₂ (λ x y. x && (y && false)) first second,
  ap (λ x. option_and_then long_of_rest (option_and_then (strip_byte 45) (if x then Some (b ∷ c ∷ cs) else None))) first
      ∙ ap (λ y. option_and_then long_of_rest (if y then Some (c ∷ cs) else None)) second,
)

pub facts : (word : Word) → IsUtf8 word → Facts word (kind_of word)
facts [] text = (refl, refl, refl)
facts (a ∷ []) text = one_byte (a == 45)
facts (a ∷ b ∷ bs) text = first_two a b bs text (a == 45) (b == 45) refl refl
