-- Runs of bytes and the values of digits.
use Rattle.std.proofs.Common.{◌≡◌, ◌<◌, ◌≤◌, ◌+◌, ◌-◌, ◌*◌, ℕ, true, false, cond, eqb, List, [], ◌∷◌, length, drop, drop-cons, get_or, take, Some, None, refl, ap, ◌∙◌, arith, suc}
use Rattle.lang_model.specs.declared.syntax.Place.{Place}
use Rattle.lang_model.specs.Tokens.{value_from, behind_all, run_length, kind_at, file_at, domain_operator_at, domain_operators, found_in, is_letter, is_digit, is_sign_byte, is_word_byte}
use Rattle.lang_model.specs.declared.token.Kind.TheVariants.{Sign}
use Rattle.std.specs.Option.{option_map_or}
use Rattle.rv_tokens.specs.Lexing.{word_at, number_at}

pub value_grows : (v : ℕ) (ds : List ℕ) → v ≤ value_from v ds
value_grows v [] = omega arith
value_grows v (d ∷ ds) = omega (arith, value_grows (10 * v + (d - 48)) ds)

-- a value that is too large with the next digit is too large in the end
pub too_large : (v i whole : ℕ) (ds : List ℕ) → i < length ds → whole ≡ value_from v (drop i ds) → 10 * v + (get_or ds i 0 - 48) ≤ whole
too_large v i whole ds l e = at (drop i ds) (drop-cons ds i 0 l) e
  where
    at : (xs : List ℕ) → xs ≡ get_or ds i 0 ∷ drop (suc i) ds → whole ≡ value_from v xs → 10 * v + (get_or ds i 0 - 48) ≤ whole
    at xs x w = omega (arith, w ∙ ap (value_from v) x, value_grows (10 * v + (get_or ds i 0 - 48)) (drop (suc i) ds))

pub behind_none : (at : Place) (xs : List ℕ) (k : ℕ) → k ≡ 0 → behind_all k at xs ≡ at
behind_none at [] k e = refl
behind_none at (x ∷ xs) k e = ap (λ n. behind_all n at (x ∷ xs)) e

-- ---- domain operators
pub operator_short : (bs : List ℕ) → length bs < 3 → domain_operator_at bs ≡ None
unfolding domain_operator_at
operator_short [] l = refl
operator_short (a ∷ []) l = refl
operator_short (a ∷ b ∷ []) l = refl
operator_short (a ∷ b ∷ c ∷ bs) l = absurd (omega arith)

pub operator_long : (bs : List ℕ) → 3 ≤ length bs → domain_operator_at bs ≡ cond (eqb (run_length is_word_byte (drop 3 bs)) 0) (found_in (take 3 bs) domain_operators) None
unfolding domain_operator_at
operator_long [] l = absurd (omega arith)
operator_long (a ∷ []) l = absurd (omega arith)
operator_long (a ∷ b ∷ []) l = absurd (omega arith)
operator_long (a ∷ b ∷ c ∷ bs) l = refl

-- ---- the token that begins some bytes, by the first
pub word_runs : (bs : List ℕ) → 0 < length bs → is_letter (get_or bs 0 0) ≡ true → 1 ≤ run_length is_word_byte bs
word_runs [] l h = absurd (omega arith)
word_runs (b ∷ bs) l h = rw h (omega arith)

pub digit_runs : (bs : List ℕ) → 0 < length bs → is_digit (get_or bs 0 0) ≡ true → 1 ≤ run_length is_digit bs
digit_runs [] l h = absurd (omega arith)
digit_runs (b ∷ bs) l h = rw h (omega arith)

pub kind_letter : (bs : List ℕ) → 0 < length bs → is_letter (get_or bs 0 0) ≡ true → kind_at bs ≡ option_map_or (λ kind. Some (kind, 3)) (domain_operator_at bs) (word_at bs)
unfolding kind_at
kind_letter [] l h = absurd (omega arith)
kind_letter (b ∷ bs) l h = rw h refl

pub kind_digit : (bs : List ℕ) → 0 < length bs → is_letter (get_or bs 0 0) ≡ false → is_digit (get_or bs 0 0) ≡ true → kind_at bs ≡ number_at bs
unfolding kind_at
kind_digit [] l h k = absurd (omega arith)
kind_digit (b ∷ bs) l h k = rw (h, k) refl

pub kind_quote : (bs : List ℕ) → 0 < length bs → is_letter (get_or bs 0 0) ≡ false → is_digit (get_or bs 0 0) ≡ false → eqb (get_or bs 0 0) 34 ≡ true → kind_at bs ≡ file_at (drop 1 bs)
unfolding kind_at
kind_quote [] l h k q = absurd (omega arith)
kind_quote (b ∷ bs) l h k q = rw (h, k, q) refl

pub kind_sign : (bs : List ℕ) → 0 < length bs → is_letter (get_or bs 0 0) ≡ false → is_digit (get_or bs 0 0) ≡ false → eqb (get_or bs 0 0) 34 ≡ false → kind_at bs ≡ cond (is_sign_byte (get_or bs 0 0)) (Some (Sign (get_or bs 0 0), 1)) None
unfolding kind_at
kind_sign [] l h k q = absurd (omega arith)
kind_sign (b ∷ bs) l h k q = rw (h, k, q) refl
