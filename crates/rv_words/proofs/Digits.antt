-- What `parse` says of a text of digits.
use Rattle.std.proofs.Common.{◌≡◌, ◌<◌, ◌^◌, ◌&&◌, ℕ, Bool, true, List, [], ◌∷◌, length, inl, inr, arith, refl, ap, sym, ◌∙◌, Result}
use Rattle.std.specs.List.{list_all}
use Rattle.std.specs.Char.{is_ascii_digit}
use Rattle.std.specs.Prelude.{Err, Some, None, false, if◌then◌else◌, nat_le}
use Rattle.std.specs.Result.{OkIff}
use Rattle.std.proofs.lemmas.Bool.{true≢false, and_parts, cases_lt, lt-leb}
use Rattle.std.proofs.lemmas.Bool.Decides.{nat_tests}
use Rattle.rv_words.specs.Said.{is_number, number_within}
use Rattle.std.specs.Str.{all_ascii_digits}
use Rattle.std.specs.Str.Parse.{ParsesUnsigned, digits_value}
use Rattle.std.proofs.lemmas.Str.Parse.{parse_digits, numerals_by_value, tells_all_ascii_digits}

all_digits_same : (text : List ℕ) → list_all is_ascii_digit text ≡ all_ascii_digits text
all_digits_same [] = refl
all_digits_same (byte ∷ rest) = ap (λ b. is_ascii_digit byte && b) (all_digits_same rest)

pub parse_of_digits : {E : Type 0} (text : List ℕ) (r : Result ℕ E) → ParsesUnsigned 64 10 text r → list_all is_ascii_digit text ≡ true
    → OkIff r ((0 < length text) × (digits_value 10 text < 2 ^ 64)) (digits_value 10 text)
parse_of_digits text r parsed digits =
    parse_digits (numerals_by_value (λ ds. all_ascii_digits ds ≡ true) tells_all_ascii_digits) 64 text r parsed (sym (all_digits_same text) ∙ digits)

off : (a b c : Bool) (v : ℕ) → c ≡ false → None ≡ (if a && (b && c) then Some v else None)
off a b true v h = absurd (true≢false h)
off true true false v h = refl
off true false false v h = refl
off false b false v h = refl

-- digits that `parse` refuses write a number past each limit
pub too_large : {E : Type 0} (text : List ℕ) (e : E) (least most : ℕ) → ParsesUnsigned 64 10 text (Err e) → is_number text ≡ true → most < 2 ^ 64
    → None ≡ number_within least most text
too_large text e least most parsed is low =
    let parts = and_parts (nat_le 1 (length text)) _ is in
    let digits = (and_parts (nat_le (length text) 20) _ parts.1).1 in
    let long : 0 < length text = grind (arith, nat_tests, parts.0) in
    let refused = parse_of_digits text (Err e) parsed digits in
    let over : nat_le (digits_value 10 text) most ≡ false = elim (cases_lt (digits_value 10 text) (2 ^ 64)) [
      | inl fits ↦ absurd (refused (long, fits))
      | inr past ↦ lt-leb (digits_value 10 text) most (omega (arith, past, low))
    ] in
    off (is_number text) (nat_le least (digits_value 10 text)) (nat_le (digits_value 10 text) most) (digits_value 10 text) over
