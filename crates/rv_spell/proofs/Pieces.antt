-- How the pieces of a printed text are split into tokens: a name behind which no name goes on, a sign, a base name or domain operator before its parenthesis, and signs ^.
use Rattle.std.proofs.Common.{◌≡◌, ◌+◌, ◌-◌, ℕ, Bool, true, false, cond, not, ◌&&◌, ◌||◌, eqb, nat_eq, nat_le, List, [], ◌∷◌, ◌++◌, length, take, replicate, Option, Some, None, option_map, refl, sym, ap, ◌∙◌, subst, zero, suc, arith, add-one}
use Rattle.std.proofs.lemmas.Bool.{false≢true, le-leb, eqb-true}
use Rattle.std.proofs.Math.Seq.{take-append_seam}
use Rattle.std.specs.List.{list_all}
use Rattle.std.specs.Option.{option_map_or}
use Rattle.lang_model.specs.declared.syntax.Place.{Place}
use Rattle.lang_model.specs.declared.syntax.Op2.{Op2}
use Rattle.lang_model.specs.declared.syntax.Op2.TheVariants.{Or, And, Times, Under, Over}
use Rattle.lang_model.specs.declared.syntax.Base.{Base}
use Rattle.lang_model.specs.declared.syntax.Base.TheVariants.{L, O, I, Ln1, On1, L1n, O1n, Dom, Ran, Trans, Refl, Epsi, Point, Atom, Init, Next, Inj, Empty, Unival, Less, Hasse, Quot, Syq, Eq, Incl, Ubd, Lbd, Least, Greatest, Sup, Inf, P1, P2, I1, I2}
use Rattle.lang_model.specs.declared.token.Kind.{Kind}
use Rattle.lang_model.specs.declared.token.Kind.TheVariants.{Base as BASE, Word, Sign}
use Rattle.lang_model.specs.declared.token.Token.{Token}
use Rattle.lang_model.specs.Taken.{Carets}
use Rattle.lang_model.specs.Tokens.{is_allowed, is_blank, is_letter, is_word_byte, same_text, found_in, reserved_words, domain_operators, domain_operator_at, word_kind, behind, run_length, kind_at, with_token, tokens_from}
use Rattle.lang_model.specs.BaseNames.{base_text}
use Rattle.lang_model.specs.Printing.{sign_of}
use Rattle.rv_spell.specs.Again.{ends_names}
use Rattle.rv_tokens.specs.Lexing.{word_at}
use Rattle.rv_tokens.proofs.Lexing.{kind_letter}
use Rattle.rv_tokens.proofs.Naming.{IsName}
use Rattle.rv_tokens.proofs.Agreeing.{both, word_allowed}

-- From a place on the bytes have the tokens that `put` sets before those of the bytes left, from the place `end` on.
abbrev pub Lexes : Place → List ℕ → (List Token → List Token) → Place → List ℕ → Type 0
Lexes at bytes put end left = tokens_from 0 at bytes ≡ option_map put (tokens_from 0 end left)

-- a token before others
abbrev pub token : Place → Kind → List Token → List Token
token at kind rest = record { at = at; kind = kind } ∷ rest

both_mapped : (p q : List Token → List Token) (o : Option (List Token)) → option_map p (option_map q o) ≡ option_map (λ r. p (q r)) o
both_mapped p q None = refl
both_mapped p q (Some r) = refl

-- one piece behind another
pub then : (p q : List Token → List Token) (a b c : Place) (x y z : List ℕ) → Lexes a x p b y → Lexes b y q c z → Lexes a x (λ r. p (q r)) c z
then p q a b c x y z h k = h ∙ ap (option_map p) k ∙ both_mapped p q (tokens_from 0 c z)

pub nothing : (at : Place) (bytes : List ℕ) → Lexes at bytes (λ r. r) at bytes
nothing at bytes = by (tokens_from 0 at bytes)
  where
    by : (o : Option (List Token)) → o ≡ option_map (λ r. r) o
    by None = refl
    by (Some r) = refl

-- ---- signs
pub open_lexes : (at : Place) (bs : List ℕ) → Lexes at (40 ∷ bs) (token at (Sign 40)) (behind 40 at) bs
unfolding kind_at
open_lexes at bs = refl

pub close_lexes : (at : Place) (bs : List ℕ) → Lexes at (41 ∷ bs) (token at (Sign 41)) (behind 41 at) bs
unfolding kind_at
close_lexes at bs = refl

pub bracket_lexes : (at : Place) (bs : List ℕ) → Lexes at (91 ∷ bs) (token at (Sign 91)) (behind 91 at) bs
unfolding kind_at
bracket_lexes at bs = refl

pub unbracket_lexes : (at : Place) (bs : List ℕ) → Lexes at (93 ∷ bs) (token at (Sign 93)) (behind 93 at) bs
unfolding kind_at
unbracket_lexes at bs = refl

pub comma_lexes : (at : Place) (bs : List ℕ) → Lexes at (44 ∷ bs) (token at (Sign 44)) (behind 44 at) bs
unfolding kind_at
comma_lexes at bs = refl

pub stop_lexes : (at : Place) (bs : List ℕ) → Lexes at (46 ∷ bs) (token at (Sign 46)) (behind 46 at) bs
unfolding kind_at
stop_lexes at bs = refl

pub minus_lexes : (at : Place) (bs : List ℕ) → Lexes at (45 ∷ bs) (token at (Sign 45)) (behind 45 at) bs
unfolding kind_at
minus_lexes at bs = refl

pub caret_lexes : (at : Place) (bs : List ℕ) → Lexes at (94 ∷ bs) (token at (Sign 94)) (behind 94 at) bs
unfolding kind_at
caret_lexes at bs = refl

pub operator_lexes : (op : Op2) (at : Place) (bs : List ℕ) → Lexes at (sign_of op ∷ bs) (token at (Sign (sign_of op))) (behind (sign_of op) at) bs
unfolding kind_at
operator_lexes Or at bs = refl
operator_lexes And at bs = refl
operator_lexes Times at bs = refl
operator_lexes Under at bs = refl
operator_lexes Over at bs = refl

-- no operator goes on with a name
pub operator_ends : (op : Op2) (bs : List ℕ) → ends_names (sign_of op ∷ bs) ≡ true
operator_ends Or bs = refl
operator_ends And bs = refl
operator_ends Times bs = refl
operator_ends Under bs = refl
operator_ends Over bs = refl

-- each operator's sign is an allowed byte
pub operator_allowed : (op : Op2) → is_allowed (sign_of op) ≡ true
operator_allowed Or = refl
operator_allowed And = refl
operator_allowed Times = refl
operator_allowed Under = refl
operator_allowed Over = refl

-- ---- signs ^
abbrev pub carets : ℕ → Place → List Token → List Token
carets zero at rest = rest
carets (suc n) at rest = token at (Sign 94) (carets n (behind 94 at) rest)

-- the place behind them
abbrev pub behind_carets : ℕ → Place → Place
behind_carets zero at = at
behind_carets (suc n) at = behind_carets n (behind 94 at)

pub carets_lex : (n : ℕ) (at : Place) (bs : List ℕ) → Lexes at (replicate n 94 ++ bs) (carets n at) (behind_carets n at) bs
carets_lex zero at bs = nothing at bs
carets_lex (suc n) at bs = then (token at (Sign 94)) (carets n (behind 94 at)) at (behind 94 at) (behind_carets n (behind 94 at)) (94 ∷ (replicate n 94 ++ bs)) (replicate n 94 ++ bs) bs (caret_lexes at (replicate n 94 ++ bs)) (carets_lex n (behind 94 at) bs)

pub carets_spell : (n : ℕ) (at : Place) (rest : List Token) → Carets n (carets n at rest) rest
carets_spell zero at rest = refl
carets_spell (suc n) at rest = (carets n (behind 94 at) rest, (at, refl), carets_spell n (behind 94 at) rest)

pub carets_allowed : (n : ℕ) → list_all is_allowed (replicate n 94) ≡ true
carets_allowed zero = refl
carets_allowed (suc n) = carets_allowed n

-- ---- names
-- the place behind a text
abbrev pub past : Place → List ℕ → Place
past at [] = at
past at (b ∷ bs) = past (behind b at) bs

-- a byte that passes a test is none that does not
apart : (p : ℕ → Bool) (n b : ℕ) → p b ≡ true → p n ≡ false → eqb b n ≡ false
apart p n b h k = by (eqb b n) refl
  where
    by : (v : Bool) → eqb b n ≡ v → v ≡ false
    by true e = absurd (false≢true (sym k ∙ ap p (sym (eqb-true b n e)) ∙ h))
    by false e = refl

letter_no_blank : (b : ℕ) → is_letter b ≡ true → is_blank b ≡ false
letter_no_blank b h = rw (apart is_letter 9 b h refl, apart is_letter 10 b h refl, apart is_letter 13 b h refl, apart is_letter 32 b h refl) refl

letter_in_word : (b : ℕ) → is_letter b ≡ true → is_word_byte b ≡ true
letter_in_word b h = rw h refl

neither : (v w : Bool) → not (v || w) ≡ true → (v ≡ false) × (w ≡ false)
neither true w h = absurd (false≢true h)
neither false true h = absurd (false≢true h)
neither false false h = (refl, refl)

both_hold : (v w : Bool) → (v && w) ≡ true → (v ≡ true) × (w ≡ true)
both_hold true w h = (refl, h)
both_hold false w h = absurd (false≢true h)

-- how far the word runs
word_run : (t bs : List ℕ) → list_all is_word_byte t ≡ true → ends_names bs ≡ true → run_length is_word_byte (t ++ bs) ≡ length t
word_run [] [] h e = refl
word_run [] (b ∷ bs) h e = ap (λ v. cond v (run_length is_word_byte bs + 1) 0) (neither (is_word_byte b) (eqb b 45) e).0
word_run (x ∷ t) bs h e = ap (λ v. cond v (run_length is_word_byte (t ++ bs) + 1) 0) (both_hold (is_word_byte x) (list_all is_word_byte t) h).0 ∙ ap (λ n. n + 1) (word_run t bs (both_hold (is_word_byte x) (list_all is_word_byte t) h).1 e) ∙ add-one (length t)

-- no domain operator has these bytes, since its second is a minus
no_match : (x z a b c : ℕ) → eqb b 45 ≡ false → same_text (x ∷ 45 ∷ z ∷ []) (a ∷ b ∷ c ∷ []) ≡ false
no_match x z a b c h = ap (λ v. eqb x a && (v && (eqb z c && true))) (other b h) ∙ by (eqb x a)
  where
    other : (b : ℕ) → eqb b 45 ≡ false → eqb 45 b ≡ false
    other b h = turned (eqb 45 b) refl
      where
        turned : (v : Bool) → eqb 45 b ≡ v → v ≡ false
        turned true e = absurd (false≢true (sym h ∙ ap (λ z. eqb z 45) (sym (eqb-true 45 b e))))
        turned false e = refl

    by : (v : Bool) → (v && false) ≡ false
    by true = refl
    by false = refl

passed_over : (v : Bool) (k : Kind) (o : Option Kind) → v ≡ false → o ≡ None → cond v (Some k) o ≡ None
passed_over v k o h e = ap (λ u. cond u (Some k) o) h ∙ e

no_operator_of : (a b c : ℕ) → eqb b 45 ≡ false → found_in (a ∷ b ∷ c ∷ []) domain_operators ≡ None
unfolding domain_operators
no_operator_of a b c h =
    passed_over (same_text (112 ∷ 45 ∷ 49 ∷ []) (a ∷ b ∷ c ∷ [])) (BASE P1) _ (no_match 112 49 a b c h)
    (passed_over (same_text (112 ∷ 45 ∷ 50 ∷ []) (a ∷ b ∷ c ∷ [])) (BASE P2) _ (no_match 112 50 a b c h)
    (passed_over (same_text (105 ∷ 45 ∷ 49 ∷ []) (a ∷ b ∷ c ∷ [])) (BASE I1) _ (no_match 105 49 a b c h)
    (passed_over (same_text (105 ∷ 45 ∷ 50 ∷ []) (a ∷ b ∷ c ∷ [])) (BASE I2) None (no_match 105 50 a b c h) refl)))

no_operator : (a b c : ℕ) (bs : List ℕ) → eqb b 45 ≡ false → domain_operator_at (a ∷ b ∷ c ∷ bs) ≡ None
unfolding domain_operator_at
no_operator a b c bs h = by (nat_eq (run_length is_word_byte bs) 0)
  where
    by : (v : Bool) → cond v (found_in (a ∷ b ∷ c ∷ []) domain_operators) None ≡ None
    by true = no_operator_of a b c h
    by false = refl

word_no_minus : (b : ℕ) → is_word_byte b ≡ true → eqb b 45 ≡ false
word_no_minus b h = apart is_word_byte 45 b h refl

name_no_operator : (h : ℕ) (t bs : List ℕ) → list_all is_word_byte t ≡ true → ends_names bs ≡ true → domain_operator_at (h ∷ (t ++ bs)) ≡ None
unfolding domain_operator_at
name_no_operator h [] [] a e = refl
name_no_operator h [] (b ∷ []) a e = refl
name_no_operator h [] (b ∷ c ∷ bs) a e = no_operator h b c bs (neither (is_word_byte b) (eqb b 45) e).1
name_no_operator h (x ∷ []) [] a e = refl
name_no_operator h (x ∷ []) (b ∷ bs) a e = no_operator h x b bs (word_no_minus x (both_hold (is_word_byte x) true a).0)
name_no_operator h (x ∷ y ∷ t) bs a e = no_operator h x y (t ++ bs) (word_no_minus x (both_hold (is_word_byte x) (list_all is_word_byte (y ∷ t)) a).0)

name_run : (name : List ℕ) (n : IsName name) (bs : List ℕ) → ends_names bs ≡ true → run_length is_word_byte (name ++ bs) ≡ length name
name_run name n bs e = word_run name bs (subst (λ w. list_all is_word_byte w ≡ true) (sym n.is) (rw (letter_in_word n.head n.letter) n.word)) e

name_read : (name : List ℕ) (n : IsName name) (bs : List ℕ) → ends_names bs ≡ true → word_at (name ++ bs) ≡ Some (Word name, length name)
name_read name n bs e =
    ap (λ k. cond (nat_le k 64) (Some (word_kind (take k (name ++ bs)), k)) None) (name_run name n bs e)
    ∙ ap (λ v. cond v (Some (word_kind (take (length name) (name ++ bs)), length name)) None) (le-leb (length name) 64 n.short)
    ∙ ap (λ w. Some (word_kind w, length name)) (take-append_seam name bs)
    ∙ ap (λ (k : Kind). Some (k, length name)) n.free

-- behind the first byte of a name its others are passed over
passed_by : (t : List ℕ) (at : Place) (bs : List ℕ) → tokens_from (length t) at (t ++ bs) ≡ tokens_from 0 (past at t) bs
passed_by [] at bs = refl
passed_by (b ∷ t) at bs = passed_by t (behind b at) bs

-- the tokens from what was found on
abbrev found_token : ℕ → List ℕ → Place → List ℕ → Option (Kind × ℕ) → Option (List Token)
found_token h t at bs o = option_map_or (λ x. with_token at x.0 (tokens_from (x.1 - 1) (behind h at) (t ++ bs))) o None

one_less : (n : ℕ) → suc n - 1 ≡ n
one_less n = omega arith

-- a word whose first byte is told apart
word_lexes : (h : ℕ) (t : List ℕ) (kind : Kind) (at : Place) (bs : List ℕ) → is_blank h ≡ false → eqb h 35 ≡ false → kind_at (h ∷ (t ++ bs)) ≡ Some (kind, suc (length t)) → Lexes at ((h ∷ t) ++ bs) (token at kind) (past at (h ∷ t)) bs
word_lexes h t kind at bs blank remark k =
    ap (λ v. cond v (tokens_from 0 (behind h at) (t ++ bs)) (cond (eqb h 35) (tokens_from (run_length (λ c. not (eqb c 10)) (t ++ bs)) (behind h at) (t ++ bs)) (found_token h t at bs (kind_at (h ∷ (t ++ bs)))))) blank
    ∙ ap (λ v. cond v (tokens_from (run_length (λ c. not (eqb c 10)) (t ++ bs)) (behind h at) (t ++ bs)) (found_token h t at bs (kind_at (h ∷ (t ++ bs))))) remark
    ∙ ap (found_token h t at bs) k
    ∙ ap (λ n. with_token at kind (tokens_from n (behind h at) (t ++ bs))) (one_less (length t))
    ∙ ap (with_token at kind) (passed_by t (behind h at) bs)

headed_lexes : (h : ℕ) (t : List ℕ) (n : IsName (h ∷ t)) (at : Place) (bs : List ℕ) → is_letter h ≡ true → list_all is_word_byte t ≡ true → ends_names bs ≡ true → Lexes at ((h ∷ t) ++ bs) (token at (Word (h ∷ t))) (past at (h ∷ t)) bs
headed_lexes h t n at bs l a e =
    word_lexes h t (Word (h ∷ t)) at bs (letter_no_blank h l) (apart is_letter 35 h l refl)
    (kind_letter (h ∷ (t ++ bs)) (omega arith) l ∙ ap (λ o. option_map_or (λ kind. Some (kind, 3)) o (word_at (h ∷ (t ++ bs)))) (name_no_operator h t bs a e) ∙ name_read (h ∷ t) n bs e)

pub name_lexes : (name : List ℕ) → IsName name → (at : Place) (bs : List ℕ) → ends_names bs ≡ true → Lexes at (name ++ bs) (token at (Word name)) (past at name) bs
name_lexes name n at bs e = subst (λ w. Lexes at (w ++ bs) (token at (Word w)) (past at w) bs) (sym n.is) (headed_lexes n.head n.tail (subst IsName n.is n) at bs n.letter n.word e)

pub name_allowed : (name : List ℕ) → IsName name → list_all is_allowed name ≡ true
name_allowed name n = subst (λ w. list_all is_allowed w ≡ true) (sym n.is) (words_allowed (n.head ∷ n.tail) (rw (letter_in_word n.head n.letter) n.word))
  where
    words_allowed : (w : List ℕ) → list_all is_word_byte w ≡ true → list_all is_allowed w ≡ true
    words_allowed [] h = refl
    words_allowed (b ∷ bs) h = both (is_allowed b) (list_all is_allowed bs) (word_allowed b (both_hold (is_word_byte b) (list_all is_word_byte bs) h).0) (words_allowed bs (both_hold (is_word_byte b) (list_all is_word_byte bs) h).1)

-- ---- base names and domain operators
base_kind : (base : Base) (bs : List ℕ) → kind_at (base_text base ++ 40 ∷ bs) ≡ Some (BASE base, length (base_text base))
unfolding kind_at word_kind reserved_words domain_operator_at domain_operators
base_kind L bs = kind_letter (76 ∷ 40 ∷ bs) (omega arith) refl ∙ ap (λ o. option_map_or (λ kind. Some (kind, 3)) o (word_at (76 ∷ 40 ∷ bs))) (name_no_operator 76 [] (40 ∷ bs) refl refl)
base_kind O bs = kind_letter (79 ∷ 40 ∷ bs) (omega arith) refl ∙ ap (λ o. option_map_or (λ kind. Some (kind, 3)) o (word_at (79 ∷ 40 ∷ bs))) (name_no_operator 79 [] (40 ∷ bs) refl refl)
base_kind I bs = kind_letter (73 ∷ 40 ∷ bs) (omega arith) refl ∙ ap (λ o. option_map_or (λ kind. Some (kind, 3)) o (word_at (73 ∷ 40 ∷ bs))) (name_no_operator 73 [] (40 ∷ bs) refl refl)
base_kind Ln1 bs = refl
base_kind On1 bs = refl
base_kind L1n bs = refl
base_kind O1n bs = refl
base_kind Dom bs = refl
base_kind Ran bs = refl
base_kind Trans bs = refl
base_kind Refl bs = refl
base_kind Epsi bs = refl
base_kind Point bs = refl
base_kind Atom bs = refl
base_kind Init bs = refl
base_kind Next bs = refl
base_kind Inj bs = refl
base_kind Empty bs = refl
base_kind Unival bs = refl
base_kind Less bs = refl
base_kind Hasse bs = refl
base_kind Quot bs = refl
base_kind Syq bs = refl
base_kind Eq bs = kind_letter (101 ∷ 113 ∷ 40 ∷ bs) (omega arith) refl ∙ ap (λ o. option_map_or (λ kind. Some (kind, 3)) o (word_at (101 ∷ 113 ∷ 40 ∷ bs))) (name_no_operator 101 (113 ∷ []) (40 ∷ bs) refl refl)
base_kind Incl bs = refl
base_kind Ubd bs = refl
base_kind Lbd bs = refl
base_kind Least bs = refl
base_kind Greatest bs = refl
base_kind Sup bs = refl
base_kind Inf bs = refl
base_kind P1 bs = refl
base_kind P2 bs = refl
base_kind I1 bs = refl
base_kind I2 bs = refl

-- a base name or domain operator before its parenthesis is split off as one token, name by name
pub base_lexes : (base : Base) (at : Place) (bs : List ℕ) → Lexes at (base_text base ++ 40 ∷ bs) (token at (BASE base)) (past at (base_text base)) (40 ∷ bs)
base_lexes L at bs = word_lexes 76 [] (BASE L) at (40 ∷ bs) refl refl (base_kind L bs)
base_lexes O at bs = word_lexes 79 [] (BASE O) at (40 ∷ bs) refl refl (base_kind O bs)
base_lexes I at bs = word_lexes 73 [] (BASE I) at (40 ∷ bs) refl refl (base_kind I bs)
base_lexes Ln1 at bs = word_lexes 76 (110 ∷ 49 ∷ []) (BASE Ln1) at (40 ∷ bs) refl refl (base_kind Ln1 bs)
base_lexes On1 at bs = word_lexes 79 (110 ∷ 49 ∷ []) (BASE On1) at (40 ∷ bs) refl refl (base_kind On1 bs)
base_lexes L1n at bs = word_lexes 76 (49 ∷ 110 ∷ []) (BASE L1n) at (40 ∷ bs) refl refl (base_kind L1n bs)
base_lexes O1n at bs = word_lexes 79 (49 ∷ 110 ∷ []) (BASE O1n) at (40 ∷ bs) refl refl (base_kind O1n bs)
base_lexes Dom at bs = word_lexes 100 (111 ∷ 109 ∷ []) (BASE Dom) at (40 ∷ bs) refl refl (base_kind Dom bs)
base_lexes Ran at bs = word_lexes 114 (97 ∷ 110 ∷ []) (BASE Ran) at (40 ∷ bs) refl refl (base_kind Ran bs)
base_lexes Trans at bs = word_lexes 116 (114 ∷ 97 ∷ 110 ∷ 115 ∷ []) (BASE Trans) at (40 ∷ bs) refl refl (base_kind Trans bs)
base_lexes Refl at bs = word_lexes 114 (101 ∷ 102 ∷ 108 ∷ []) (BASE Refl) at (40 ∷ bs) refl refl (base_kind Refl bs)
base_lexes Epsi at bs = word_lexes 101 (112 ∷ 115 ∷ 105 ∷ []) (BASE Epsi) at (40 ∷ bs) refl refl (base_kind Epsi bs)
base_lexes Point at bs = word_lexes 112 (111 ∷ 105 ∷ 110 ∷ 116 ∷ []) (BASE Point) at (40 ∷ bs) refl refl (base_kind Point bs)
base_lexes Atom at bs = word_lexes 97 (116 ∷ 111 ∷ 109 ∷ []) (BASE Atom) at (40 ∷ bs) refl refl (base_kind Atom bs)
base_lexes Init at bs = word_lexes 105 (110 ∷ 105 ∷ 116 ∷ []) (BASE Init) at (40 ∷ bs) refl refl (base_kind Init bs)
base_lexes Next at bs = word_lexes 110 (101 ∷ 120 ∷ 116 ∷ []) (BASE Next) at (40 ∷ bs) refl refl (base_kind Next bs)
base_lexes Inj at bs = word_lexes 105 (110 ∷ 106 ∷ []) (BASE Inj) at (40 ∷ bs) refl refl (base_kind Inj bs)
base_lexes Empty at bs = word_lexes 101 (109 ∷ 112 ∷ 116 ∷ 121 ∷ []) (BASE Empty) at (40 ∷ bs) refl refl (base_kind Empty bs)
base_lexes Unival at bs = word_lexes 117 (110 ∷ 105 ∷ 118 ∷ 97 ∷ 108 ∷ []) (BASE Unival) at (40 ∷ bs) refl refl (base_kind Unival bs)
base_lexes Less at bs = word_lexes 108 (101 ∷ 115 ∷ 115 ∷ []) (BASE Less) at (40 ∷ bs) refl refl (base_kind Less bs)
base_lexes Hasse at bs = word_lexes 104 (97 ∷ 115 ∷ 115 ∷ 101 ∷ []) (BASE Hasse) at (40 ∷ bs) refl refl (base_kind Hasse bs)
base_lexes Quot at bs = word_lexes 113 (117 ∷ 111 ∷ 116 ∷ []) (BASE Quot) at (40 ∷ bs) refl refl (base_kind Quot bs)
base_lexes Syq at bs = word_lexes 115 (121 ∷ 113 ∷ []) (BASE Syq) at (40 ∷ bs) refl refl (base_kind Syq bs)
base_lexes Eq at bs = word_lexes 101 (113 ∷ []) (BASE Eq) at (40 ∷ bs) refl refl (base_kind Eq bs)
base_lexes Incl at bs = word_lexes 105 (110 ∷ 99 ∷ 108 ∷ []) (BASE Incl) at (40 ∷ bs) refl refl (base_kind Incl bs)
base_lexes Ubd at bs = word_lexes 117 (98 ∷ 100 ∷ []) (BASE Ubd) at (40 ∷ bs) refl refl (base_kind Ubd bs)
base_lexes Lbd at bs = word_lexes 108 (98 ∷ 100 ∷ []) (BASE Lbd) at (40 ∷ bs) refl refl (base_kind Lbd bs)
base_lexes Least at bs = word_lexes 108 (101 ∷ 97 ∷ 115 ∷ 116 ∷ []) (BASE Least) at (40 ∷ bs) refl refl (base_kind Least bs)
base_lexes Greatest at bs = word_lexes 103 (114 ∷ 101 ∷ 97 ∷ 116 ∷ 101 ∷ 115 ∷ 116 ∷ []) (BASE Greatest) at (40 ∷ bs) refl refl (base_kind Greatest bs)
base_lexes Sup at bs = word_lexes 115 (117 ∷ 112 ∷ []) (BASE Sup) at (40 ∷ bs) refl refl (base_kind Sup bs)
base_lexes Inf at bs = word_lexes 105 (110 ∷ 102 ∷ []) (BASE Inf) at (40 ∷ bs) refl refl (base_kind Inf bs)
base_lexes P1 at bs = word_lexes 112 (45 ∷ 49 ∷ []) (BASE P1) at (40 ∷ bs) refl refl (base_kind P1 bs)
base_lexes P2 at bs = word_lexes 112 (45 ∷ 50 ∷ []) (BASE P2) at (40 ∷ bs) refl refl (base_kind P2 bs)
base_lexes I1 at bs = word_lexes 105 (45 ∷ 49 ∷ []) (BASE I1) at (40 ∷ bs) refl refl (base_kind I1 bs)
base_lexes I2 at bs = word_lexes 105 (45 ∷ 50 ∷ []) (BASE I2) at (40 ∷ bs) refl refl (base_kind I2 bs)

-- and all its bytes are allowed
pub base_allowed : (base : Base) → list_all is_allowed (base_text base) ≡ true
base_allowed L = refl
base_allowed O = refl
base_allowed I = refl
base_allowed Ln1 = refl
base_allowed On1 = refl
base_allowed L1n = refl
base_allowed O1n = refl
base_allowed Dom = refl
base_allowed Ran = refl
base_allowed Trans = refl
base_allowed Refl = refl
base_allowed Epsi = refl
base_allowed Point = refl
base_allowed Atom = refl
base_allowed Init = refl
base_allowed Next = refl
base_allowed Inj = refl
base_allowed Empty = refl
base_allowed Unival = refl
base_allowed Less = refl
base_allowed Hasse = refl
base_allowed Quot = refl
base_allowed Syq = refl
base_allowed Eq = refl
base_allowed Incl = refl
base_allowed Ubd = refl
base_allowed Lbd = refl
base_allowed Least = refl
base_allowed Greatest = refl
base_allowed Sup = refl
base_allowed Inf = refl
base_allowed P1 = refl
base_allowed P2 = refl
base_allowed I1 = refl
base_allowed I2 = refl
