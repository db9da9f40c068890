-- One step over a text: a blank, a comment, a token or a flaw.
use Rattle.std.proofs.Common.{◌≡◌, ◌<◌, ◌≤◌, ◌+◌, ◌-◌, ℕ, true, false, eqb, List, [], ◌∷◌, ◌++◌, length, drop, get_or, Some, None, refl, sym, ap, ◌∙◌, arith, zero, suc, add-one, append_assoc}
use Rattle.lang_model.specs.declared.syntax.Place.{Place}
use Rattle.lang_model.specs.declared.token.Kind.{Kind}
use Rattle.lang_model.specs.declared.token.Token.{Token}
use Rattle.lang_model.specs.Tokens.{behind, behind_all, run_length, kind_at, is_blank}
use Rattle.lang_model.specs.Lexed.{Lexed, is_comment_byte, lexed_from, before, broken, token_fault}
use Rattle.rv_tokens.specs.LexerAnswers.{put_before}

-- inside of a token only the place goes on
skipped_by : (k : ℕ) (at : Place) (bs : List ℕ) → lexed_from k at bs ≡ lexed_from 0 (behind_all k at bs) (drop k bs)
skipped_by zero at [] = refl
skipped_by zero at (b ∷ bs) = refl
skipped_by (suc k) at [] = refl
skipped_by (suc k) at (b ∷ bs) = skipped_by k (behind b at) bs

went_on : (n m : ℕ) (at : Place) (b : ℕ) (bs : List ℕ) → n ≡ m + 1 → lexed_from m (behind b at) bs ≡ lexed_from 0 (behind_all n at (b ∷ bs)) (drop n (b ∷ bs))
went_on n m at b bs e = skipped_by m (behind b at) bs ∙ sym (ap (λ k. lexed_from 0 (behind_all k at (b ∷ bs)) (drop k (b ∷ bs))) (e ∙ add-one m))

pub lexes_blank : (at : Place) (bs : List ℕ) → 0 < length bs → is_blank (get_or bs 0 0) ≡ true → lexed_from 0 at bs ≡ lexed_from 0 (behind_all 1 at bs) (drop 1 bs)
lexes_blank at [] l h = absurd (omega arith)
lexes_blank at (b ∷ bs) l h = rw h refl ∙ went_on 1 0 at b bs refl

pub lexes_comment : (at : Place) (bs : List ℕ) (n : ℕ) → 0 < length bs → is_blank (get_or bs 0 0) ≡ false → eqb (get_or bs 0 0) 35 ≡ true → n ≡ run_length is_comment_byte (drop 1 bs) + 1 → lexed_from 0 at bs ≡ lexed_from 0 (behind_all n at bs) (drop n bs)
lexes_comment at [] n l h k e = absurd (omega arith)
lexes_comment at (b ∷ bs) n l h k e = rw (h, k) refl ∙ went_on n (run_length is_comment_byte bs) at b bs e

pub lexes_token : (at : Place) (bs : List ℕ) (kind : Kind) (n : ℕ) → 0 < length bs → is_blank (get_or bs 0 0) ≡ false → eqb (get_or bs 0 0) 35 ≡ false → kind_at bs ≡ Some (kind, n) → 1 ≤ n → lexed_from 0 at bs ≡ before at kind (lexed_from 0 (behind_all n at bs) (drop n bs))
lexes_token at [] kind n l h k e p = absurd (omega arith)
lexes_token at (b ∷ bs) kind n l h k e p = rw (h, k) (rw e refl) ∙ ap (before at kind) (went_on n (n - 1) at b bs (omega arith))

pub lexes_flaw : (at : Place) (bs : List ℕ) → 0 < length bs → is_blank (get_or bs 0 0) ≡ false → eqb (get_or bs 0 0) 35 ≡ false → kind_at bs ≡ None → lexed_from 0 at bs ≡ broken (token_fault at (get_or bs 0 0) (drop 1 bs))
lexes_flaw at [] l h k e = absurd (omega arith)
lexes_flaw at (b ∷ bs) l h k e = rw (h, k) (rw e refl)

pub put_before_token : (front : List Token) (at : Place) (kind : Kind) (found : Lexed) → put_before front (before at kind found) ≡ put_before (front ++ record { at = at; kind = kind } ∷ []) found
put_before_token front at kind found = ap (λ ts. record { tokens = ts; ending = found.ending }) (sym (append_assoc front (record { at = at; kind = kind } ∷ []) found.tokens))
