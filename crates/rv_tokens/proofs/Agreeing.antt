-- The two splittings of a text agree: it has tokens exactly where the lexing comes to its end, and then these. Where all bytes are allowed both take the same steps; and where the lexing comes to the end, each byte belongs to a blank, a comment or a token, so that it is allowed.
use Rattle.std.proofs.Common.{◌≡◌, ◌≤◌, ◌+◌, ◌-◌, ◌^◌, ℕ, Bool, true, false, cond, not, ◌&&◌, ◌||◌, eqb, nat_le, nat_lt, List, [], ◌∷◌, take, drop, Option, Some, None, refl, sym, ap, ◌∙◌, subst, zero, suc, arith, add-one}
use Rattle.std.proofs.lemmas.Bool.{false≢true, eqb-true, le-leb, leb-true}
use Rattle.std.specs.List.{list_all, list_any}
use Rattle.std.specs.Option.{option_map_or}
use Rattle.lang_model.specs.declared.syntax.Place.{Place}
use Rattle.lang_model.specs.declared.token.Kind.{Kind}
use Rattle.lang_model.specs.declared.token.Token.{Token}
use Rattle.lang_model.specs.Tokens.{is_allowed, is_blank, is_letter, is_digit, is_word_byte, is_file_byte, is_sign_byte, same_text, found_in, domain_operators, domain_operator_at, begins_with_quote, file_at, value_from, behind, run_length, kind_at, with_token, tokens_from, tokens_of}
use Rattle.rv_tokens.specs.Lexing.{word_at, number_at}
use Rattle.rv_tokens.proofs.Lexing.{kind_letter, kind_digit, kind_quote, kind_sign, word_runs, digit_runs}
use Rattle.lang_model.specs.Lexed.{Ending, EndsAt, Broken, Lexed, is_comment_byte, before, broken, token_fault, lexed_from, lexed_of}

-- ---- tests
pub both : (p q : Bool) → p ≡ true → q ≡ true → (p && q) ≡ true
both p q h k = rw (h, k) refl

first_of_both : (p q : Bool) → (p && q) ≡ true → p ≡ true
first_of_both true q h = refl
first_of_both false q h = absurd (false≢true h)

second_of_both : (p q : Bool) → (p && q) ≡ true → q ≡ true
second_of_both true q h = h
second_of_both false q h = absurd (false≢true h)

one_of_four : (p q r s u : Bool) → (p || (q || (r || s))) ≡ true → (s ≡ true → u ≡ true) → (p || (q || (r || u))) ≡ true
one_of_four true q r s u h f = refl
one_of_four false true r s u h f = refl
one_of_four false false true s u h f = refl
one_of_four false false false s u h f = f h

last_of_four : (p q r u : Bool) → u ≡ true → (p || (q || (r || u))) ≡ true
last_of_four true q r u h = refl
last_of_four false true r u h = refl
last_of_four false false true u h = refl
last_of_four false false false u h = h

either : (p q : Bool) (X : Type 0) → (p || q) ≡ true → (p ≡ true → X) → (q ≡ true → X) → X
either true q X h f g = f refl
either false q X h f g = g h

-- ---- which bytes are allowed
-- a printing byte
printing : (b : ℕ) → 32 ≤ b → b ≤ 126 → is_allowed b ≡ true
printing b l h = last_of_four (eqb b 9) (eqb b 10) (eqb b 13) (nat_le 32 b && nat_le b 126) (both (nat_le 32 b) (nat_le b 126) (le-leb 32 b l) (le-leb b 126 h))

between : (low high b : ℕ) → (nat_le low b && nat_le b high) ≡ true → 32 ≤ low → high ≤ 126 → is_allowed b ≡ true
between low high b h l m = printing b (omega (arith, leb-true low b (first_of_both (nat_le low b) (nat_le b high) h), l)) (omega (arith, leb-true b high (second_of_both (nat_le low b) (nat_le b high) h), m))

exactly : (n b : ℕ) → eqb b n ≡ true → is_allowed n ≡ true → is_allowed b ≡ true
exactly n b h k = subst (λ z. is_allowed z ≡ true) (sym (eqb-true b n h)) k

blank_allowed : (b : ℕ) → is_blank b ≡ true → is_allowed b ≡ true
blank_allowed b h = one_of_four (eqb b 9) (eqb b 10) (eqb b 13) (eqb b 32) (nat_le 32 b && nat_le b 126) h (λ k. subst (λ z. (nat_le 32 z && nat_le z 126) ≡ true) (sym (eqb-true b 32 k)) refl)

letter_allowed : (b : ℕ) → is_letter b ≡ true → is_allowed b ≡ true
letter_allowed b h = either (nat_le 65 b && nat_le b 90) (nat_le 97 b && nat_le b 122) _ h (λ k. between 65 90 b k (omega arith) (omega arith)) (λ k. between 97 122 b k (omega arith) (omega arith))

digit_allowed : (b : ℕ) → is_digit b ≡ true → is_allowed b ≡ true
digit_allowed b h = between 48 57 b h (omega arith) (omega arith)

pub word_allowed : (b : ℕ) → is_word_byte b ≡ true → is_allowed b ≡ true
word_allowed b h = either (is_letter b) (is_digit b || eqb b 95) _ h (letter_allowed b) (λ k. either (is_digit b) (eqb b 95) _ k (digit_allowed b) (λ m. exactly 95 b m refl))

file_allowed : (b : ℕ) → is_file_byte b ≡ true → is_allowed b ≡ true
file_allowed b h =
    printing b (leb-true 32 b (first_of_both (nat_le 32 b) _ h)) (leb-true b 126 (first_of_both (nat_le b 126) _ (second_of_both (nat_le 32 b) (nat_le b 126 && not (eqb b 34)) h)))

comment_allowed : (b : ℕ) → is_comment_byte b ≡ true → is_allowed b ≡ true
comment_allowed b h = first_of_both (is_allowed b) (not (eqb b 10)) h

sign_allowed : (b : ℕ) → is_sign_byte b ≡ true → is_allowed b ≡ true
sign_allowed b h = among (40 ∷ 41 ∷ 91 ∷ 93 ∷ 123 ∷ 125 ∷ 44 ∷ 59 ∷ 58 ∷ 46 ∷ 61 ∷ 94 ∷ 45 ∷ 42 ∷ 92 ∷ 47 ∷ 38 ∷ 124 ∷ []) refl h
  where
    among : (ss : List ℕ) → list_all is_allowed ss ≡ true → list_any (λ s. eqb s b) ss ≡ true → is_allowed b ≡ true
    among [] k h = absurd (false≢true h)
    among (s ∷ ss) k h = either (eqb s b) (list_any (λ z. eqb z b) ss) _ h
        (λ e. subst (λ z. is_allowed z ≡ true) (eqb-true s b e) (first_of_both (is_allowed s) (list_all is_allowed ss) k)) (among ss (second_of_both (is_allowed s) (list_all is_allowed ss) k))

-- the bytes of a run
run_allowed : (p : ℕ → Bool) → ((b : ℕ) → p b ≡ true → is_allowed b ≡ true) → (bs : List ℕ) → list_all is_allowed (take (run_length p bs) bs) ≡ true
run_allowed p f [] = refl
run_allowed p f (b ∷ bs) = by (p b) refl (run_allowed p f bs)
  where
    by : (v : Bool) → p b ≡ v → list_all is_allowed (take (run_length p bs) bs) ≡ true → list_all is_allowed (take (cond v (run_length p bs + 1) 0) (b ∷ bs)) ≡ true
    by true h more = rw (add-one (run_length p bs)) (both (is_allowed b) (list_all is_allowed (take (run_length p bs) bs)) (f b h) more)
    by false h more = refl

-- ---- the bytes of a token
-- a byte and those behind it up to the end of the token
record Covered (b : ℕ) (bs : List ℕ) (n : ℕ) : Type 0 where
  head : is_allowed b ≡ true
  tail : list_all is_allowed (take (n - 1) bs) ≡ true

covered : (n b : ℕ) (bs : List ℕ) → 1 ≤ n → list_all is_allowed (take n (b ∷ bs)) ≡ true → Covered b bs n
covered zero b bs l h = absurd (omega arith)
covered (suc m) b bs l h = record {
  head = first_of_both (is_allowed b) (list_all is_allowed (take m bs)) h;
  tail = subst (λ k. list_all is_allowed (take k bs) ≡ true) (omega arith) (second_of_both (is_allowed b) (list_all is_allowed (take m bs)) h);
}

-- how many bytes were found
abbrev count_of : Option (Kind × ℕ) → ℕ
count_of None = 0
count_of (Some x) = x.1

none_some : {A : Type 0} {x : A} → None ≡ Some x → ⊥
none_some e = cc

-- so many bytes where a test passes
chosen : (v : Bool) (k kind : Kind) (m n : ℕ) → cond {A = Option (Kind × ℕ)} v (Some (k, m)) None ≡ Some (kind, n) → m ≡ n
chosen true k kind m n e = ap count_of e
chosen false k kind m n e = absurd (none_some e)

passed : (v : Bool) (k kind : Kind) (m n : ℕ) → cond {A = Option (Kind × ℕ)} v (Some (k, m)) None ≡ Some (kind, n) → v ≡ true
passed true k kind m n e = refl
passed false k kind m n e = absurd (none_some e)

same_bytes : (xs ys : List ℕ) → same_text xs ys ≡ true → xs ≡ ys
same_bytes [] [] h = refl
same_bytes [] (y ∷ ys) h = absurd (false≢true h)
same_bytes (x ∷ xs) [] h = absurd (false≢true h)
same_bytes (x ∷ xs) (y ∷ ys) h = cons_eq (eqb-true x y (first_of_both (eqb x y) (same_text xs ys) h)) (same_bytes xs ys (second_of_both (eqb x y) (same_text xs ys) h))
  where
    cons_eq : {x y : ℕ} {xs ys : List ℕ} → x ≡ y → xs ≡ ys → x ∷ xs ≡ y ∷ ys
    cons_eq e f = rw (e, f) refl

found_allowed : (text : List ℕ) (kind : Kind) (entries : List (List ℕ × Kind)) → list_all (λ e. list_all is_allowed e.0) entries ≡ true → found_in text entries ≡ Some kind → list_all is_allowed text ≡ true
found_allowed text kind [] a e = absurd (none_some e)
found_allowed text kind (x ∷ xs) a e = by (same_text x.0 text) refl e (λ r. found_allowed text kind xs (second_of_both (list_all is_allowed x.0) (list_all (λ y. list_all is_allowed y.0) xs) a) r)
  where
    by : (v : Bool) → same_text x.0 text ≡ v → cond v (Some x.1) (found_in text xs) ≡ Some kind → (found_in text xs ≡ Some kind → list_all is_allowed text ≡ true) → list_all is_allowed text ≡ true
    by true h e more = subst (λ z. list_all is_allowed z ≡ true) (same_bytes x.0 text h) (first_of_both (list_all is_allowed x.0) (list_all (λ y. list_all is_allowed y.0) xs) a)
    by false h e more = more e

operators_allowed : list_all (λ (e : List ℕ × Kind). list_all is_allowed e.0) domain_operators ≡ true
unfolding domain_operators
operators_allowed = refl

operator_covered : (b : ℕ) (bs : List ℕ) (kind : Kind) → domain_operator_at (b ∷ bs) ≡ Some kind → Covered b bs 3
unfolding domain_operator_at
operator_covered b [] kind e = absurd (none_some e)
operator_covered b (c ∷ []) kind e = absurd (none_some e)
operator_covered b (c ∷ d ∷ bs) kind e = covered 3 b (c ∷ d ∷ bs) (omega arith) (by (eqb (run_length is_word_byte bs) 0) e)
  where
    by : (v : Bool) → cond v (found_in (b ∷ c ∷ d ∷ []) domain_operators) None ≡ Some kind → list_all is_allowed (b ∷ c ∷ d ∷ []) ≡ true
    by true e = found_allowed (b ∷ c ∷ d ∷ []) kind domain_operators operators_allowed e
    by false e = absurd (none_some e)

-- the bytes of a file text and its last quote
quoted : (m : ℕ) (bs : List ℕ) → begins_with_quote (drop m bs) ≡ true → list_all is_allowed (take m bs) ≡ true → list_all is_allowed (take (suc m) bs) ≡ true
quoted zero [] q a = refl
quoted zero (b ∷ bs) q a = both (is_allowed b) true (exactly 34 b q refl) refl
quoted (suc m) [] q a = refl
quoted (suc m) (b ∷ bs) q a = both (is_allowed b) (list_all is_allowed (take (suc m) bs)) (first_of_both (is_allowed b) (list_all is_allowed (take m bs)) a) (quoted m bs q (second_of_both (is_allowed b) (list_all is_allowed (take m bs)) a))

file_covered : (b : ℕ) (bs : List ℕ) (kind : Kind) (n : ℕ) → eqb b 34 ≡ true → file_at bs ≡ Some (kind, n) → Covered b bs n
unfolding file_at
file_covered b bs kind n q e =
    let m = run_length is_file_byte bs in
    let test = (nat_le 1 m && nat_le m 255) && begins_with_quote (drop m bs) in
    let count : suc m ≡ n - 1 = omega (arith, chosen test _ kind (m + 2) n e) in
    record {
      head = exactly 34 b q refl;
      tail = subst (λ k. list_all is_allowed (take k bs) ≡ true) count
          (quoted m bs (second_of_both (nat_le 1 m && nat_le m 255) (begins_with_quote (drop m bs)) (passed test _ kind (m + 2) n e)) (run_allowed is_file_byte file_allowed bs));
    }

word_covered : (b : ℕ) (bs : List ℕ) (kind : Kind) (n : ℕ) → is_letter b ≡ true → word_at (b ∷ bs) ≡ Some (kind, n) → Covered b bs n
word_covered b bs kind n h e =
    let m = run_length is_word_byte (b ∷ bs) in
    subst (λ k. Covered b bs k) (chosen (nat_le m 64) _ kind m n e) (covered m b bs (word_runs (b ∷ bs) (omega arith) h) (run_allowed is_word_byte word_allowed (b ∷ bs)))

number_covered : (b : ℕ) (bs : List ℕ) (kind : Kind) (n : ℕ) → is_digit b ≡ true → number_at (b ∷ bs) ≡ Some (kind, n) → Covered b bs n
number_covered b bs kind n h e =
    let m = run_length is_digit (b ∷ bs) in
    subst (λ k. Covered b bs k) (chosen (nat_lt (value_from 0 (take m (b ∷ bs))) (2 ^ 64)) _ kind m n e) (covered m b bs (digit_runs (b ∷ bs) (omega arith) h) (run_allowed is_digit digit_allowed (b ∷ bs)))

-- all bytes of a token are allowed: the first tells whether it is a word, a number, a file text or a sign, and each of
-- these goes over bytes of its own
kind_covered : (b : ℕ) (bs : List ℕ) (kind : Kind) (n : ℕ) → kind_at (b ∷ bs) ≡ Some (kind, n) → Covered b bs n
kind_covered b bs kind n e = letter (is_letter b) refl
  where
    found : (o : Option Kind) → domain_operator_at (b ∷ bs) ≡ o → is_letter b ≡ true → option_map_or (λ k. Some (k, 3)) o (word_at (b ∷ bs)) ≡ Some (kind, n) → Covered b bs n
    found (Some k) p h e = subst (λ m. Covered b bs m) (ap count_of e) (operator_covered b bs k p)
    found None p h e = word_covered b bs kind n h e

    sign : (v : Bool) → is_sign_byte b ≡ v → is_letter b ≡ false → is_digit b ≡ false → eqb b 34 ≡ false → Covered b bs n
    sign v h l d q =
        let f = sym (kind_sign (b ∷ bs) (omega arith) l d q) ∙ e in
        let count : 0 ≡ n - 1 = omega (arith, chosen (is_sign_byte b) _ kind 1 n f) in
        record {
          head = sign_allowed b (passed (is_sign_byte b) _ kind 1 n f);
          tail = subst (λ k. list_all is_allowed (take k bs) ≡ true) count refl;
        }

    quote : (v : Bool) → eqb b 34 ≡ v → is_letter b ≡ false → is_digit b ≡ false → Covered b bs n
    quote true h l d = file_covered b bs kind n h (sym (kind_quote (b ∷ bs) (omega arith) l d h) ∙ e)
    quote false h l d = sign (is_sign_byte b) refl l d h

    digit : (v : Bool) → is_digit b ≡ v → is_letter b ≡ false → Covered b bs n
    digit true h l = number_covered b bs kind n h (sym (kind_digit (b ∷ bs) (omega arith) l h) ∙ e)
    digit false h l = quote (eqb b 34) refl l h

    letter : (v : Bool) → is_letter b ≡ v → Covered b bs n
    letter true h = found (domain_operator_at (b ∷ bs)) refl h (sym (kind_letter (b ∷ bs) (omega arith) h) ∙ e)
    letter false h = digit (is_digit b) refl h

-- ---- both splittings
-- where all bytes are allowed, a comment runs as far either way
same_runs : (bs : List ℕ) → list_all is_allowed bs ≡ true → run_length (λ c. not (eqb c 10)) bs ≡ run_length is_comment_byte bs
same_runs [] h = refl
same_runs (b ∷ bs) h = rw (first_of_both (is_allowed b) (list_all is_allowed bs) h) (ap (λ r. cond (not (eqb b 10)) (r + 1) 0) (same_runs bs (second_of_both (is_allowed b) (list_all is_allowed bs) h)))

some_tokens : {xs ys : List Token} → Some xs ≡ Some ys → xs ≡ ys
some_tokens e = cc

-- tokens up to a clean end
abbrev clean : List Token → Place → Lexed
clean ts place = record { tokens = ts; ending = EndsAt place }

-- one step of each
split_blank : (b : ℕ) (bs : List ℕ) (from : Place) → is_blank b ≡ true → tokens_from 0 from (b ∷ bs) ≡ tokens_from 0 (behind b from) bs
split_blank b bs from p = rw p refl

split_comment : (b : ℕ) (bs : List ℕ) (from : Place) → is_blank b ≡ false → eqb b 35 ≡ true → tokens_from 0 from (b ∷ bs) ≡ tokens_from (run_length (λ c. not (eqb c 10)) bs) (behind b from) bs
split_comment b bs from p q = rw (p, q) refl

split_token : (b : ℕ) (bs : List ℕ) (from : Place) (x : Kind × ℕ) → is_blank b ≡ false → eqb b 35 ≡ false → kind_at (b ∷ bs) ≡ Some x → tokens_from 0 from (b ∷ bs) ≡ with_token from x.0 (tokens_from (x.1 - 1) (behind b from) bs)
split_token b bs from x p q k = rw (p, q) (rw k refl)

split_none : (b : ℕ) (bs : List ℕ) (from : Place) → is_blank b ≡ false → eqb b 35 ≡ false → kind_at (b ∷ bs) ≡ None → tokens_from 0 from (b ∷ bs) ≡ None
split_none b bs from p q k = rw (p, q) (rw k refl)

lexed_blank : (b : ℕ) (bs : List ℕ) (from : Place) → is_blank b ≡ true → lexed_from 0 from (b ∷ bs) ≡ lexed_from 0 (behind b from) bs
lexed_blank b bs from p = rw p refl

lexed_comment : (b : ℕ) (bs : List ℕ) (from : Place) → is_blank b ≡ false → eqb b 35 ≡ true → lexed_from 0 from (b ∷ bs) ≡ lexed_from (run_length is_comment_byte bs) (behind b from) bs
lexed_comment b bs from p q = rw (p, q) refl

lexed_token : (b : ℕ) (bs : List ℕ) (from : Place) (x : Kind × ℕ) → is_blank b ≡ false → eqb b 35 ≡ false → kind_at (b ∷ bs) ≡ Some x → lexed_from 0 from (b ∷ bs) ≡ before from x.0 (lexed_from (x.1 - 1) (behind b from) bs)
lexed_token b bs from x p q k = rw (p, q) (rw k refl)

lexed_none : (b : ℕ) (bs : List ℕ) (from : Place) → is_blank b ≡ false → eqb b 35 ≡ false → kind_at (b ∷ bs) ≡ None → lexed_from 0 from (b ∷ bs) ≡ broken (token_fault from b bs)
lexed_none b bs from p q k = rw (p, q) (rw k refl)

-- the tokens of allowed bytes are lexed up to the end
abbrev LexesAll : List ℕ → Type 0
LexesAll bs = (k : ℕ) (from : Place) (ts : List Token) → list_all is_allowed bs ≡ true → tokens_from k from bs ≡ Some ts → (place : Place) × (lexed_from k from bs ≡ clean ts place)

-- one byte more: behind a blank, a comment or a token both splittings go on at the same byte
lexes_step : (b : ℕ) (bs : List ℕ) (from : Place) (ts : List Token) → LexesAll bs → list_all is_allowed (b ∷ bs) ≡ true → tokens_from 0 from (b ∷ bs) ≡ Some ts → (place : Place) × (lexed_from 0 from (b ∷ bs) ≡ clean ts place)
lexes_step b bs from ts ih a e = blank (is_blank b) refl
  where
    rest : list_all is_allowed bs ≡ true
    rest = second_of_both (is_allowed b) (list_all is_allowed bs) a

    inner : (x : Kind × ℕ) (o : Option (List Token)) → kind_at (b ∷ bs) ≡ Some x → is_blank b ≡ false → eqb b 35 ≡ false → tokens_from (x.1 - 1) (behind b from) bs ≡ o → with_token from x.0 o ≡ Some ts → (place : Place) × (lexed_from 0 from (b ∷ bs) ≡ clean ts place)
    inner x None k p q t e = absurd (none_some e)
    inner x (Some us) k p q t e =
        let more = ih (x.1 - 1) (behind b from) us rest t in
        (more.0, lexed_token b bs from x p q k ∙ ap (before from x.0) more.1 ∙ ap (λ zs. clean zs more.0) (some_tokens e))

    token : (o : Option (Kind × ℕ)) → kind_at (b ∷ bs) ≡ o → is_blank b ≡ false → eqb b 35 ≡ false → (place : Place) × (lexed_from 0 from (b ∷ bs) ≡ clean ts place)
    token None k p q = absurd (none_some (sym (split_none b bs from p q k) ∙ e))
    token (Some x) k p q = inner x (tokens_from (x.1 - 1) (behind b from) bs) k p q refl (sym (split_token b bs from x p q k) ∙ e)

    comment : (v : Bool) → eqb b 35 ≡ v → is_blank b ≡ false → (place : Place) × (lexed_from 0 from (b ∷ bs) ≡ clean ts place)
    comment true q p =
        let more = ih (run_length (λ c. not (eqb c 10)) bs) (behind b from) ts rest (sym (split_comment b bs from p q) ∙ e) in
        (more.0, lexed_comment b bs from p q ∙ ap (λ n. lexed_from n (behind b from) bs) (sym (same_runs bs rest)) ∙ more.1)
    comment false q p = token (kind_at (b ∷ bs)) refl p q

    blank : (v : Bool) → is_blank b ≡ v → (place : Place) × (lexed_from 0 from (b ∷ bs) ≡ clean ts place)
    blank true p = let more = ih 0 (behind b from) ts rest (sym (split_blank b bs from p) ∙ e) in (more.0, lexed_blank b bs from p ∙ more.1)
    blank false p = comment (eqb b 35) refl p

lexes_all : (bs : List ℕ) (k : ℕ) (from : Place) (ts : List Token) → list_all is_allowed bs ≡ true → tokens_from k from bs ≡ Some ts → (place : Place) × (lexed_from k from bs ≡ clean ts place)
lexes_all [] k from ts a e = (from, ap (λ zs. clean zs from) (some_tokens e))
lexes_all (b ∷ bs) (suc k) from ts a e = lexes_all bs k (behind b from) ts (second_of_both (is_allowed b) (list_all is_allowed bs) a) e
lexes_all (b ∷ bs) zero from ts a e = lexes_step b bs from ts (λ k f us x y. lexes_all bs k f us x y) a e

-- what is lexed up to the end has only allowed bytes, and these tokens
record Clean (bs : List ℕ) (k : ℕ) (from : Place) (ts : List Token) : Type 0 where
  allowed : list_all is_allowed bs ≡ true
  split : tokens_from k from bs ≡ Some ts

abbrev tokens_in : Lexed → List Token
tokens_in found = found.tokens

abbrev ends_clean : Ending → Bool
ends_clean (EndsAt place) = true
ends_clean (Broken fault) = false

abbrev EndsAll : List ℕ → Type 0
EndsAll bs = (k : ℕ) (from : Place) (ts : List Token) (place : Place) → list_all is_allowed (take k bs) ≡ true → lexed_from k from bs ≡ clean ts place → Clean bs k from ts

-- one byte more: a blank, a comment or a token has allowed bytes, and what is lexed behind it comes to the end as well
ends_step : (b : ℕ) (bs : List ℕ) (from : Place) (ts : List Token) (place : Place) → EndsAll bs → lexed_from 0 from (b ∷ bs) ≡ clean ts place → Clean (b ∷ bs) zero from ts
ends_step b bs from ts place ih e = blank (is_blank b) refl
  where
    token : (o : Option (Kind × ℕ)) → kind_at (b ∷ bs) ≡ o → is_blank b ≡ false → eqb b 35 ≡ false → Clean (b ∷ bs) zero from ts
    token None k p q = absurd (false≢true (ap (λ f. ends_clean f.ending) (sym (lexed_none b bs from p q k) ∙ e)))
    token (Some x) k p q =
        let found = lexed_from (x.1 - 1) (behind b from) bs in
        let f : before from x.0 found ≡ clean ts place = sym (lexed_token b bs from x p q k) ∙ e in
        let bytes = kind_covered b bs x.0 x.1 k in
        let more = ih (x.1 - 1) (behind b from) found.tokens place bytes.tail (ap (λ z. record { tokens = found.tokens; ending = z.ending }) f) in
        record {
          allowed = both (is_allowed b) (list_all is_allowed bs) bytes.head more.allowed;
          split = split_token b bs from x p q k ∙ ap (with_token from x.0) more.split ∙ ap (λ z. Some (tokens_in z)) f;
        }

    comment : (v : Bool) → eqb b 35 ≡ v → is_blank b ≡ false → Clean (b ∷ bs) zero from ts
    comment true q p =
        let more = ih (run_length is_comment_byte bs) (behind b from) ts place (run_allowed is_comment_byte comment_allowed bs) (sym (lexed_comment b bs from p q) ∙ e) in
        record {
          allowed = both (is_allowed b) (list_all is_allowed bs) (exactly 35 b q refl) more.allowed;
          split = split_comment b bs from p q ∙ ap (λ n. tokens_from n (behind b from) bs) (same_runs bs more.allowed) ∙ more.split;
        }
    comment false q p = token (kind_at (b ∷ bs)) refl p q

    blank : (v : Bool) → is_blank b ≡ v → Clean (b ∷ bs) zero from ts
    blank true p =
        let more = ih 0 (behind b from) ts place refl (sym (lexed_blank b bs from p) ∙ e) in
        record { allowed = both (is_allowed b) (list_all is_allowed bs) (blank_allowed b p) more.allowed; split = split_blank b bs from p ∙ more.split }
    blank false p = comment (eqb b 35) refl p

ends_all : (bs : List ℕ) (k : ℕ) (from : Place) (ts : List Token) (place : Place) → list_all is_allowed (take k bs) ≡ true → lexed_from k from bs ≡ clean ts place → Clean bs k from ts
ends_all [] k from ts place a e = record { allowed = refl; split = ap (λ f. Some (tokens_in f)) e }
ends_all (b ∷ bs) (suc k) from ts place a e =
    let more = ends_all bs k (behind b from) ts place (second_of_both (is_allowed b) (list_all is_allowed (take k bs)) a) e in
    record { allowed = both (is_allowed b) (list_all is_allowed bs) (first_of_both (is_allowed b) (list_all is_allowed (take k bs)) a) more.allowed; split = more.split }
ends_all (b ∷ bs) zero from ts place a e = ends_step b bs from ts place (λ k f us q x y. ends_all bs k f us q x y) e

-- ---- a whole text
pub split_where_lexed : (bytes : List ℕ) (ts : List Token) (place : Place) → lexed_of bytes ≡ record { tokens = ts; ending = EndsAt place } → tokens_of bytes ≡ Some ts
unfolding tokens_of lexed_of
split_where_lexed bytes ts place e = let c = ends_all bytes 0 (record { line = 1; column = 1 }) ts place refl e in rw c.allowed c.split

pub lexed_where_split : (bytes : List ℕ) (ts : List Token) → tokens_of bytes ≡ Some ts → (place : Place) × (lexed_of bytes ≡ record { tokens = ts; ending = EndsAt place })
unfolding tokens_of lexed_of
lexed_where_split bytes ts e = by (list_all is_allowed bytes) refl e
  where
    by : (v : Bool) → list_all is_allowed bytes ≡ v → cond v (tokens_from 0 (record { line = 1; column = 1 }) bytes) None ≡ Some ts → (place : Place) × (lexed_from 0 (record { line = 1; column = 1 }) bytes ≡ record { tokens = ts; ending = EndsAt place })
    by true h e = lexes_all bytes 0 (record { line = 1; column = 1 }) ts h e
    by false h e = absurd (none_some e)
