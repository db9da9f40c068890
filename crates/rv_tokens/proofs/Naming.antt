-- The names among the tokens of a text: each begins with a letter, has at most 64 bytes of words, and is no reserved word. By induction on how the text is split.
use Rattle.std.proofs.Common.{◌≡◌, ◌≤◌, ◌+◌, ◌-◌, ◌^◌, ℕ, Bool, true, false, cond, not, ◌&&◌, eqb, nat_eq, nat_le, nat_lt, List, [], ◌∷◌, ◌++◌, length, take, Option, Some, None, refl, sym, ap, subst, zero, suc, arith, add-one, unwrap_or}
use Rattle.std.proofs.lemmas.Bool.{false≢true, leb-true}
use Rattle.std.proofs.lemmas.List.{length-take}
use Rattle.std.specs.List.{list_all}
use Rattle.std.specs.Option.{option_map_or}
use Rattle.lang_model.specs.declared.syntax.Place.{Place}
use Rattle.lang_model.specs.declared.token.Kind.{Kind}
use Rattle.lang_model.specs.declared.token.Kind.TheVariants.{Keyword, Base as BASE, Word, Number, File, Sign}
use Rattle.lang_model.specs.declared.token.Token.{Token}
use Rattle.lang_model.specs.Taken.{TakesAt}
use Rattle.lang_model.specs.Tokens.{is_allowed, is_blank, is_letter, is_digit, is_word_byte, is_sign_byte, same_text, found_in, reserved_words, domain_operators, domain_operator_at, file_at, word_kind, value_from, behind, run_length, kind_at, with_token, tokens_from, tokens_of}
use Rattle.rv_tokens.specs.Lexing.{word_at, number_at}
use Rattle.rv_tokens.proofs.Lexing.{kind_letter, kind_digit, kind_quote, kind_sign}

-- a name
pub record IsName (text : List ℕ) : Type 0 where
  pub head : ℕ
  pub tail : List ℕ
  pub is : text ≡ head ∷ tail
  pub letter : is_letter head ≡ true
  pub word : list_all is_word_byte tail ≡ true
  pub short : length text ≤ 64
  -- and it is no reserved word
  pub free : word_kind text ≡ Word text

-- the token is no name, or a proper one
abbrev pub NamesWell : Kind → Type 0
NamesWell (Word text) = IsName text
NamesWell _ = Unit {0}

-- so are all tokens
abbrev pub AllNamed : List Token → Type 0
AllNamed [] = Unit {0}
AllNamed (t ∷ ts) = NamesWell t.kind × AllNamed ts

-- the same of what may be found
abbrev FoundNamed : Option (Kind × ℕ) → Type 0
FoundNamed None = Unit {0}
FoundNamed (Some x) = NamesWell x.0

abbrev SomeNamed : Option (List Token) → Type 0
SomeNamed None = Unit {0}
SomeNamed (Some ts) = AllNamed ts

-- whether a token is no name
abbrev is_reserved : Kind → Bool
is_reserved (Word text) = false
is_reserved _ = true

reserved_named : (k : Kind) → is_reserved k ≡ true → NamesWell k
reserved_named (Word text) h = absurd (false≢true h)
reserved_named (Keyword w) h = tt
reserved_named (BASE b) h = tt
reserved_named (Number n) h = tt
reserved_named (File t) h = tt
reserved_named (Sign s) h = tt

both_true : (p q : Bool) → (p && q) ≡ true → (p ≡ true) × (q ≡ true)
both_true true q h = (refl, h)
both_true false q h = absurd (false≢true h)

-- ---- reserved words and domain operators
-- what an entry of such a table is
abbrev EntryNamed : Option Kind → Type 0
EntryNamed None = Unit {0}
EntryNamed (Some k) = NamesWell k

found_reserved : (text : List ℕ) (entries : List (List ℕ × Kind)) → list_all (λ (e : List ℕ × Kind). is_reserved e.1) entries ≡ true → EntryNamed (found_in text entries)
found_reserved text [] h = tt
found_reserved text (e ∷ es) h = by (same_text e.0 text) (both_true (is_reserved e.1) (list_all (λ (z : List ℕ × Kind). is_reserved z.1) es) h).0 (found_reserved text es (both_true (is_reserved e.1) (list_all (λ (z : List ℕ × Kind). is_reserved z.1) es) h).1)
  where
    by : (v : Bool) → is_reserved e.1 ≡ true → EntryNamed (found_in text es) → EntryNamed (cond v (Some e.1) (found_in text es))
    by true k more = reserved_named e.1 k
    by false k more = more

operators_reserved : list_all (λ (e : List ℕ × Kind). is_reserved e.1) domain_operators ≡ true
unfolding domain_operators
operators_reserved = refl

words_reserved : list_all (λ (e : List ℕ × Kind). is_reserved e.1) reserved_words ≡ true
unfolding reserved_words
words_reserved = refl

operator_named : (bs : List ℕ) → EntryNamed (domain_operator_at bs)
unfolding domain_operator_at
operator_named [] = tt
operator_named (a ∷ []) = tt
operator_named (a ∷ b ∷ []) = tt
operator_named (a ∷ b ∷ c ∷ bs) = by (nat_eq (run_length is_word_byte bs) 0)
  where
    by : (v : Bool) → EntryNamed (cond v (found_in (a ∷ b ∷ c ∷ []) domain_operators) None)
    by true = found_reserved (a ∷ b ∷ c ∷ []) domain_operators operators_reserved
    by false = tt

-- ---- words
run_passes : (p : ℕ → Bool) (bs : List ℕ) → list_all p (take (run_length p bs) bs) ≡ true
run_passes p [] = refl
run_passes p (b ∷ bs) = by (p b) refl (run_passes p bs)
  where
    by : (v : Bool) → p b ≡ v → list_all p (take (run_length p bs) bs) ≡ true → list_all p (take (cond v (run_length p bs + 1) 0) (b ∷ bs)) ≡ true
    by true h more = rw (add-one (run_length p bs)) (rw h more)
    by false h more = refl

-- what the table says of a word
by_table : (w : List ℕ) (o : Option Kind) → found_in w reserved_words ≡ o → word_kind w ≡ unwrap_or o (Word w)
unfolding word_kind
by_table w o h = ap (λ o. unwrap_or o (Word w)) h

-- a word that is not reserved
word_named : (w : List ℕ) (head : ℕ) (tail : List ℕ) → w ≡ head ∷ tail → is_letter head ≡ true → list_all is_word_byte tail ≡ true → length w ≤ 64 → NamesWell (word_kind w)
word_named w head tail e l a s = by (found_in w reserved_words) refl (found_reserved w reserved_words words_reserved)
  where
    by : (o : Option Kind) → found_in w reserved_words ≡ o → EntryNamed o → NamesWell (word_kind w)
    by None h n = subst NamesWell (sym (by_table w None h)) (record { head = head; tail = tail; is = e; letter = l; word = a; short = s; free = by_table w None h })
    by (Some k) h n = subst NamesWell (sym (by_table w (Some k) h)) n

word_found : (b : ℕ) (bs : List ℕ) → is_letter b ≡ true → FoundNamed (word_at (b ∷ bs))
word_found b bs h = subst (λ n. FoundNamed (cond (nat_le n 64) (Some (word_kind (take n (b ∷ bs)), n)) None)) (sym count) (by (nat_le (suc (run_length is_word_byte bs)) 64) refl)
  where
    count : run_length is_word_byte (b ∷ bs) ≡ suc (run_length is_word_byte bs)
    count = rw h (add-one (run_length is_word_byte bs))

    by : (v : Bool) → nat_le (suc (run_length is_word_byte bs)) 64 ≡ v → FoundNamed (cond v (Some (word_kind (b ∷ take (run_length is_word_byte bs) bs), suc (run_length is_word_byte bs))) None)
    by true k = word_named (b ∷ take (run_length is_word_byte bs) bs) b (take (run_length is_word_byte bs) bs) refl h (run_passes is_word_byte bs) (omega (arith, length-take (run_length is_word_byte bs) bs, leb-true (suc (run_length is_word_byte bs)) 64 k))
    by false k = tt

-- ---- the token that begins some bytes
letter_found : (b : ℕ) (bs : List ℕ) → is_letter b ≡ true → FoundNamed (option_map_or (λ kind. Some (kind, 3)) (domain_operator_at (b ∷ bs)) (word_at (b ∷ bs)))
letter_found b bs h = by (domain_operator_at (b ∷ bs)) (operator_named (b ∷ bs)) (word_found b bs h)
  where
    by : (o : Option Kind) → EntryNamed o → FoundNamed (word_at (b ∷ bs)) → FoundNamed (option_map_or (λ kind. Some (kind, 3)) o (word_at (b ∷ bs)))
    by None n w = w
    by (Some k) n w = n

one_found : (v : Bool) (k : Kind) (n : ℕ) → NamesWell k → FoundNamed (cond v (Some (k, n)) None)
one_found true k n h = h
one_found false k n h = tt

number_found : (bs : List ℕ) → FoundNamed (number_at bs)
number_found bs = one_found (nat_lt (value_from 0 (take (run_length is_digit bs) bs)) (2 ^ 64)) (Number (value_from 0 (take (run_length is_digit bs) bs))) (run_length is_digit bs) tt

file_found : (bs : List ℕ) → FoundNamed (file_at bs)
unfolding file_at
file_found bs = one_found _ _ _ tt

kind_found : (b : ℕ) (bs : List ℕ) → FoundNamed (kind_at (b ∷ bs))
kind_found b bs = by (is_letter b) (is_digit b) (eqb b 34) refl refl refl
  where
    by : (u v w : Bool) → is_letter b ≡ u → is_digit b ≡ v → eqb b 34 ≡ w → FoundNamed (kind_at (b ∷ bs))
    by true v w h k m = subst FoundNamed (sym (kind_letter (b ∷ bs) (omega arith) h)) (letter_found b bs h)
    by false true w h k m = subst FoundNamed (sym (kind_digit (b ∷ bs) (omega arith) h k)) (number_found (b ∷ bs))
    by false false true h k m = subst FoundNamed (sym (kind_quote (b ∷ bs) (omega arith) h k m)) (file_found bs)
    by false false false h k m = subst FoundNamed (sym (kind_sign (b ∷ bs) (omega arith) h k m)) (one_found (is_sign_byte b) (Sign b) 1 tt)

-- ---- the tokens of a text
with_named : (at : Place) (kind : Kind) (o : Option (List Token)) → NamesWell kind → SomeNamed o → SomeNamed (with_token at kind o)
with_named at kind None h n = tt
with_named at kind (Some ts) h n = (h, n)

-- the names among the tokens are proper, by induction on the bytes: blanks and comments are passed over, and each token
-- that is found at a byte is proper
from_named : (k : ℕ) (at : Place) (bs : List ℕ) → SomeNamed (tokens_from k at bs)
from_named zero at [] = tt
from_named (suc k) at [] = tt
from_named (suc k) at (b ∷ bs) = from_named k (behind b at) bs
from_named zero at (b ∷ bs) = by (is_blank b) (eqb b 35) (kind_at (b ∷ bs)) (kind_found b bs) (λ k. from_named k (behind b at) bs)
  where
    by : (v w : Bool) (o : Option (Kind × ℕ)) → FoundNamed o → ((k : ℕ) → SomeNamed (tokens_from k (behind b at) bs)) →
        SomeNamed (cond v (tokens_from 0 (behind b at) bs) (cond w (tokens_from (run_length (λ c. not (eqb c 10)) bs) (behind b at) bs)
        (option_map_or (λ t. with_token at t.0 (tokens_from (t.1 - 1) (behind b at) bs)) o None)))
    by true w o f more = more 0
    by false true o f more = more (run_length (λ c. not (eqb c 10)) bs)
    by false false None f more = tt
    by false false (Some t) f more = with_named at t.0 (tokens_from (t.1 - 1) (behind b at) bs) f (more (t.1 - 1))

pub all_named : (bytes : List ℕ) (ts : List Token) → tokens_of bytes ≡ Some ts → AllNamed ts
unfolding tokens_of
all_named bytes ts e = subst SomeNamed e (by (list_all is_allowed bytes) (from_named 0 (record { line = 1; column = 1 }) bytes))
  where
    by : (v : Bool) → SomeNamed (tokens_from 0 (record { line = 1; column = 1 }) bytes) → SomeNamed (cond v (tokens_from 0 (record { line = 1; column = 1 }) bytes) None)
    by true h = h
    by false h = tt

-- those behind some of them
pub named_behind : (xs ys : List Token) → AllNamed (xs ++ ys) → AllNamed ys
named_behind [] ys h = h
named_behind (x ∷ xs) ys h = named_behind xs ys h.1

-- the first of them, and the rest
pub named_first : (at : Place) (kind : Kind) (tokens rest : List Token) → TakesAt at kind tokens rest → AllNamed tokens → NamesWell kind × AllNamed rest
named_first at kind tokens rest t h = subst AllNamed t h
