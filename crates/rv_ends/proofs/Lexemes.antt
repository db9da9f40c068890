-- Each file text among the tokens of a text is ASCII.
use Rattle.std.proofs.Common.{◌≡◌, ◌<◌, ◌+◌, ◌-◌, ℕ, zero, suc, Bool, true, false, cond, List, [], ◌∷◌, take, Option, Some, None, refl, ap, subst, arith}
use Rattle.std.proofs.lemmas.Bool.{false≢true, and_parts, leb-true}
use Rattle.std.specs.Prelude.{◌==◌, ◌&&◌, not, nat_le, nat_lt, is_some, unwrap_or, ◌^◌}
use Rattle.std.specs.Option.{option_map_or}
use Rattle.std.specs.List.{list_all}
use Rattle.std.specs.Str.{IsAscii}
use Rattle.lang_model.specs.declared.syntax.Place.{Place}
use Rattle.lang_model.specs.declared.token.Kind.{Kind}
use Rattle.lang_model.specs.declared.token.Kind.TheVariants.{Keyword, Base, Word, Number, File, Sign}
use Rattle.lang_model.specs.declared.token.Token.{Token}
use Rattle.lang_model.specs.Tokens.{same_text, is_blank, is_allowed, is_digit, is_letter, is_word_byte, is_file_byte, is_sign_byte, run_length, value_from, behind, found_in, reserved_words, word_kind, domain_operators, domain_operator_at, file_at, kind_at, with_token, tokens_from, tokens_of}
use Rattle.rv_ends.proofs.Texts.{HasText, AreTexts}

-- what stands in an option
some_is : {A : Type 0} (x y : A) → Some x ≡ Some y → x ≡ y
some_is x y e = ap (λ o. unwrap_or o x) e

none_some : {A : Type 0} (x : A) → ◌≡◌ {A = Option A} None (Some x) → ⊥
none_some x e = false≢true (ap is_some e)

-- ---- file texts
-- printing bytes
ascii_run : (bs : List ℕ) → IsAscii (take (run_length is_file_byte bs) bs)
ascii_run [] = λ i. omega arith
ascii_run (b ∷ bs) = by_byte (ascii_run bs) (is_file_byte b) refl
  where
    low : is_file_byte b ≡ true → b < 128
    low e =
        let parts = and_parts (nat_le 32 b) (nat_le b 126 && not (b == 34)) e in
        let most = leb-true b 126 (and_parts (nat_le b 126) (not (b == 34)) parts.1).0 in
        omega (arith, most)

    one_more : b < 128 → (n : ℕ) → IsAscii (take n bs) → IsAscii (take (suc n) (b ∷ bs))
    one_more l n h zero = l
    one_more l n h (suc i) = h i

    more : b < 128 → (n : ℕ) → IsAscii (take n bs) → IsAscii (take (n + 1) (b ∷ bs))
    more l n h = let e : suc n ≡ n + 1 = omega arith in subst (λ m. IsAscii (take m (b ∷ bs))) e (one_more l n h)

    by_byte : IsAscii (take (run_length is_file_byte bs) bs) → (t : Bool) → is_file_byte b ≡ t → IsAscii (take (cond t (run_length is_file_byte bs + 1) 0) (b ∷ bs))
    by_byte h true e = more (low e) (run_length is_file_byte bs) h
    by_byte h false e = λ i. omega arith

-- ---- the other kinds
-- whether a kind is no file text
abbrev is_no_file : Kind → Bool
is_no_file (File text) = false
is_no_file (Keyword word) = true
is_no_file (Base base) = true
is_no_file (Word text) = true
is_no_file (Number value) = true
is_no_file (Sign byte) = true

no_file : (kind : Kind) → is_no_file kind ≡ true → HasText kind
no_file (File text) e = absurd (false≢true e)
no_file (Keyword word) e = tt
no_file (Base base) e = tt
no_file (Word text) e = tt
no_file (Number value) e = tt
no_file (Sign byte) e = tt

found_no_file : (text : List ℕ) (entries : List (List ℕ × Kind)) (kind : Kind) → list_all (λ e. is_no_file e.1) entries ≡ true → found_in text entries ≡ Some kind → is_no_file kind ≡ true
found_no_file text [] kind h e = absurd (none_some kind e)
found_no_file text (entry ∷ entries) kind h e =
    let parts = and_parts (is_no_file entry.1) (list_all (λ x. is_no_file x.1) entries) h in
    by_name (λ p k. found_no_file text entries kind p k) (same_text entry.0 text) parts e
  where
    by_name : (list_all (λ x. is_no_file x.1) entries ≡ true → found_in text entries ≡ Some kind → is_no_file kind ≡ true) → (t : Bool) → (is_no_file entry.1 ≡ true) × (list_all (λ x. is_no_file x.1) entries ≡ true) → cond t (Some entry.1) (found_in text entries) ≡ Some kind → is_no_file kind ≡ true
    by_name h true p k = subst (λ x. is_no_file x ≡ true) (some_is entry.1 kind k) p.0
    by_name h false p k = h p.1 k

reserved_no_file : list_all (λ e. is_no_file e.1) reserved_words ≡ true
unfolding reserved_words
reserved_no_file = refl

domains_no_file : list_all (λ e. is_no_file e.1) domain_operators ≡ true
unfolding domain_operators
domains_no_file = refl

word_no_file : (w : List ℕ) → HasText (word_kind w)
unfolding word_kind
word_no_file w = by_entry (found_in w reserved_words) refl
  where
    by_entry : (o : Option Kind) → found_in w reserved_words ≡ o → HasText (unwrap_or o (Word w))
    by_entry None e = tt
    by_entry (Some kind) e = no_file kind (found_no_file w reserved_words kind reserved_no_file e)

domain_no_file : (bs : List ℕ) (kind : Kind) → domain_operator_at bs ≡ Some kind → HasText kind
unfolding domain_operator_at
domain_no_file [] kind e = absurd (none_some kind e)
domain_no_file (a ∷ []) kind e = absurd (none_some kind e)
domain_no_file (a ∷ b ∷ []) kind e = absurd (none_some kind e)
domain_no_file (a ∷ b ∷ c ∷ bs) kind e = by_end _ e
  where
    by_end : (t : Bool) → cond t (found_in (a ∷ b ∷ c ∷ []) domain_operators) None ≡ Some kind → HasText kind
    by_end true k = no_file kind (found_no_file (a ∷ b ∷ c ∷ []) domain_operators kind domains_no_file k)
    by_end false k = absurd (none_some kind k)

file_text : (bs : List ℕ) (t : Kind × ℕ) → file_at bs ≡ Some t → HasText t.0
unfolding file_at
file_text bs t e = by_end _ e
  where
    by_end : (x : Bool) → cond x (Some (File (take (run_length is_file_byte bs) bs), run_length is_file_byte bs + 2)) None ≡ Some t → HasText t.0
    by_end true k = subst (λ u. HasText u.0) (some_is _ t k) (ascii_run bs)
    by_end false k = absurd (none_some t k)

-- the kind that begins these bytes
kind_text : (bs : List ℕ) (t : Kind × ℕ) → kind_at bs ≡ Some t → HasText t.0
unfolding kind_at
kind_text [] t e = absurd (none_some t e)
kind_text (b ∷ bs) t e = by_letter (is_letter b) e
  where
    sign : (x : Bool) → cond x (Some (Sign b, 1)) None ≡ Some t → HasText t.0
    sign true k = subst (λ u. HasText u.0) (some_is _ t k) tt
    sign false k = absurd (none_some t k)

    quote : (x : Bool) → cond x (file_at bs) (cond (is_sign_byte b) (Some (Sign b, 1)) None) ≡ Some t → HasText t.0
    quote true k = file_text bs t k
    quote false k = sign (is_sign_byte b) k

    number : (x : Bool) (v n : ℕ) → cond x (Some (Number v, n)) None ≡ Some t → HasText t.0
    number true v n k = subst (λ u. HasText u.0) (some_is _ t k) tt
    number false v n k = absurd (none_some t k)

    word : (x : Bool) (w : List ℕ) (n : ℕ) → cond x (Some (word_kind w, n)) None ≡ Some t → HasText t.0
    word true w n k = subst (λ u. HasText u.0) (some_is _ t k) (word_no_file w)
    word false w n k = absurd (none_some t k)

    domain : (o : Option Kind) → domain_operator_at (b ∷ bs) ≡ o → (x : Bool) (w : List ℕ) (n : ℕ) → option_map_or (λ kind. Some (kind, 3)) o (cond x (Some (word_kind w, n)) None) ≡ Some t → HasText t.0
    domain (Some kind) f x w n k = subst (λ u. HasText u.0) (some_is _ t k) (domain_no_file (b ∷ bs) kind f)
    domain None f x w n k = word x w n k

    by_digit : (x : Bool) → cond x (cond (nat_lt (value_from 0 (take (run_length is_digit (b ∷ bs)) (b ∷ bs))) (2 ^ 64)) (Some (Number (value_from 0 (take (run_length is_digit (b ∷ bs)) (b ∷ bs))), run_length is_digit (b ∷ bs))) None)
        (cond (b == 34) (file_at bs) (cond (is_sign_byte b) (Some (Sign b, 1)) None)) ≡ Some t → HasText t.0
    by_digit true k = number _ _ _ k
    by_digit false k = quote (b == 34) k

    by_letter : (x : Bool) → cond x (option_map_or (λ kind. Some (kind, 3)) (domain_operator_at (b ∷ bs)) (cond (nat_le (run_length is_word_byte (b ∷ bs)) 64) (Some (word_kind (take (run_length is_word_byte (b ∷ bs)) (b ∷ bs)), run_length is_word_byte (b ∷ bs))) None))
        (cond (is_digit b) (cond (nat_lt (value_from 0 (take (run_length is_digit (b ∷ bs)) (b ∷ bs))) (2 ^ 64)) (Some (Number (value_from 0 (take (run_length is_digit (b ∷ bs)) (b ∷ bs))), run_length is_digit (b ∷ bs))) None)
        (cond (b == 34) (file_at bs) (cond (is_sign_byte b) (Some (Sign b, 1)) None))) ≡ Some t → HasText t.0
    by_letter true k = domain (domain_operator_at (b ∷ bs)) refl _ _ _ k
    by_letter false k = by_digit (is_digit b) k

-- ---- all tokens
texts_from : (k : ℕ) (at : Place) (bs : List ℕ) (ts : List Token) → tokens_from k at bs ≡ Some ts → AreTexts ts
texts_from k at [] ts e = subst AreTexts (some_is [] ts e) tt
texts_from (suc k) at (b ∷ bs) ts e = texts_from k (behind b at) bs ts e
texts_from zero at (b ∷ bs) ts e = by_blank (λ k us f. texts_from k (behind b at) bs us f) (is_blank b) e
  where
    token : ((k : ℕ) (us : List Token) → tokens_from k (behind b at) bs ≡ Some us → AreTexts us) → (t : Kind × ℕ) (o : Option (List Token)) → tokens_from (t.1 - 1) (behind b at) bs ≡ o → HasText t.0 → with_token at t.0 o ≡ Some ts → AreTexts ts
    token r t (Some us) f h k = subst AreTexts (some_is _ ts k) (h, r (t.1 - 1) us f)
    token r t None f h k = absurd (none_some ts k)

    by_kind : ((k : ℕ) (us : List Token) → tokens_from k (behind b at) bs ≡ Some us → AreTexts us) → (o : Option (Kind × ℕ)) → kind_at (b ∷ bs) ≡ o → option_map_or (λ t. with_token at t.0 (tokens_from (t.1 - 1) (behind b at) bs)) o None ≡ Some ts → AreTexts ts
    by_kind r (Some t) f k = token r t (tokens_from (t.1 - 1) (behind b at) bs) refl (kind_text (b ∷ bs) t f) k
    by_kind r None f k = absurd (none_some ts k)

    by_comment : ((k : ℕ) (us : List Token) → tokens_from k (behind b at) bs ≡ Some us → AreTexts us) → (x : Bool) → cond x (tokens_from (run_length (λ c. not (c == 10)) bs) (behind b at) bs) (option_map_or (λ t. with_token at t.0 (tokens_from (t.1 - 1) (behind b at) bs)) (kind_at (b ∷ bs)) None) ≡ Some ts → AreTexts ts
    by_comment r true k = r (run_length (λ c. not (c == 10)) bs) ts k
    by_comment r false k = by_kind r (kind_at (b ∷ bs)) refl k

    by_blank : ((k : ℕ) (us : List Token) → tokens_from k (behind b at) bs ≡ Some us → AreTexts us) → (x : Bool) → cond x (tokens_from 0 (behind b at) bs) (cond (b == 35) (tokens_from (run_length (λ c. not (c == 10)) bs) (behind b at) bs)
        (option_map_or (λ t. with_token at t.0 (tokens_from (t.1 - 1) (behind b at) bs)) (kind_at (b ∷ bs)) None)) ≡ Some ts → AreTexts ts
    by_blank r true k = r 0 ts k
    by_blank r false k = by_comment r (b == 35) k

pub texts_of : (bytes : List ℕ) (ts : List Token) → tokens_of bytes ≡ Some ts → AreTexts ts
unfolding tokens_of
texts_of bytes ts e = by_allowed (list_all is_allowed bytes) e
  where
    by_allowed : (x : Bool) → cond x (tokens_from 0 (record { line = 1; column = 1 }) bytes) None ≡ Some ts → AreTexts ts
    by_allowed true k = texts_from 0 (record { line = 1; column = 1 }) bytes ts k
    by_allowed false k = absurd (none_some ts k)
