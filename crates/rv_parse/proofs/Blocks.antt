-- Blocks: one step of their reader each, and that the tokens of any block fit.
use Rattle.std.proofs.Common.{◌≡◌, ℕ, false, List, [], ◌∷◌, ◌++◌, refl, sym, ap, ◌∙◌, subst, append_assoc}
use Rattle.std.proofs.lemmas.Bool.{false≢true}
use Rattle.std.proofs.lemmas.List.{append-nil}
use Rattle.lang_model.specs.declared.syntax.Place.{Place}
use Rattle.lang_model.specs.declared.syntax.Let.{Let}
use Rattle.lang_model.specs.declared.token.Keyword.TheVariants.{Let as LET, Commit as COMMIT}
use Rattle.lang_model.specs.declared.token.Kind.{Kind}
use Rattle.lang_model.specs.declared.token.Kind.TheVariants.{Keyword as KEYWORD, Word, Sign}
use Rattle.lang_model.specs.declared.token.Token.{Token}
use Rattle.lang_model.specs.Taken.{TakesAt, Takes}
use Rattle.lang_model.specs.Lexed.{Ending}
use Rattle.lang_model.specs.Spelling.{OrLevel, SpellsLet, SpelledLets, one_let, SpelledMoreLets, no_let, last_sign, more_lets}
use Rattle.lang_model.specs.Stop.{Part, NamePart, SignPart, WordPart, ExprPart, LetsPart, MoreLets, NotBegun, is_word, let_parts, lets_step, stop_of}
use Rattle.rv_parse.specs.Readers.{begins, begins_word}
use Rattle.rv_parse.proofs.Leaves.{reads_sign, reads_word}
use Rattle.rv_parse.proofs.Optional.{BegunBy, dropped_at, dropped_end, drop_sign, enter_sign}
use Rattle.rv_parse.proofs.Fitting.{Closed, closed_word, closed_semicolon, fits_whole}

-- ---- a further assignment
begun_lets : BegunBy MoreLets 59 (LetsPart ∷ [])
begun_lets = record { by_sign = λ k. refl; optional = refl }

pub drop_more_lets : (tokens : List Token) (e : Ending) (behind : List Part) → begins 59 tokens ≡ false → stop_of (MoreLets ∷ behind) tokens e ≡ stop_of behind tokens e
drop_more_lets = drop_sign MoreLets 59 _ begun_lets

pub enter_more_lets : (at : Place) (tokens rest : List Token) (e : Ending) (behind : List Part) → TakesAt at (Sign 59) tokens rest → stop_of (MoreLets ∷ behind) tokens e ≡ stop_of (LetsPart ∷ behind) rest e
enter_more_lets = enter_sign MoreLets 59 _ begun_lets

pub drop_lets : (tokens : List Token) (e : Ending) (behind : List Part) → begins_word LET tokens ≡ false → stop_of (LetsPart ∷ behind) tokens e ≡ stop_of behind tokens e
drop_lets [] e behind h = dropped_end LetsPart e behind refl
drop_lets (t ∷ ts) e behind h = dropped_at LetsPart t ts e behind refl (at t.kind h)
  where
    at : (kind : Kind) → is_word LET kind ≡ false → lets_step kind ≡ NotBegun
    at (KEYWORD LET) h = absurd (false≢true (sym h))
    at (KEYWORD _) h = refl
    at _ h = refl

pub enter_lets : (at : Place) (tokens rest : List Token) (e : Ending) (behind : List Part) → TakesAt at (KEYWORD LET) tokens rest → stop_of (LetsPart ∷ behind) tokens e ≡ stop_of (let_parts ++ behind) rest e
enter_lets at tokens rest e behind t = rw t refl

-- the first assignment
pub lets_first : (x : Let) (new ls : List Let) (start mid end : List Token) → new ≡ x ∷ [] → SpellsLet x start mid → SpelledMoreLets ls mid end → SpelledLets (new ++ ls) start end
lets_first x new ls start mid end eq h more = subst (λ xs. SpelledLets (xs ++ ls) start end) (sym eq) (one_let x ls start mid end h more)

-- one more assignment
pub lets_step_on : (x : Let) (items new ls : List Let) (start rest mid after end : List Token) → new ≡ items ++ x ∷ [] → Takes (Sign 59) rest mid → SpellsLet x mid after
    → ((xs : List Let) (z : List Token) → SpelledMoreLets xs rest z → SpelledLets (items ++ xs) start z) → SpelledMoreLets ls after end → SpelledLets (new ++ ls) start end
lets_step_on x items new ls start rest mid after end eq sign h so_far more =
    subst (λ xs. SpelledLets xs start end) (sym (ap (λ xs. xs ++ ls) eq ∙ append_assoc items (x ∷ []) ls)) (so_far (x ∷ ls) end (more_lets (x ∷ ls) rest mid end sign (one_let x ls mid after end h more)))

-- no further assignment
pub lets_all : (items : List Let) (start rest end : List Token) → ((xs : List Let) (z : List Token) → SpelledMoreLets xs rest z → SpelledLets (items ++ xs) start z) → SpelledMoreLets [] rest end → SpelledLets items start end
lets_all items start rest end so_far more = subst (λ xs. SpelledLets xs start end) (append-nil items) (so_far [] end more)

-- ---- whole blocks
reads_name : (name : List ℕ) (at : Place) (tokens rest : List Token) (e : Ending) (behind : List Part) → TakesAt at (Word name) tokens rest → stop_of (NamePart ∷ behind) tokens e ≡ stop_of behind rest e
reads_name name at tokens rest e behind t = rw t refl

fits_let : (l : Let) (tokens rest : List Token) → SpellsLet l tokens rest → Closed rest → (e : Ending) (behind : List Part) → stop_of (WordPart LET ∷ NamePart ∷ SignPart 61 ∷ ExprPart OrLevel 0 ∷ behind) tokens e ≡ stop_of behind rest e
fits_let l tokens rest s c e behind =
    reads_word LET s.3.0 tokens s.0 e (NamePart ∷ SignPart 61 ∷ ExprPart OrLevel 0 ∷ behind) s.3.1 ∙ reads_name l.name l.at s.0 s.1 e (SignPart 61 ∷ ExprPart OrLevel 0 ∷ behind) s.4
    ∙ reads_sign 61 s.5.0 s.1 s.2 e (ExprPart OrLevel 0 ∷ behind) s.5.1 ∙ fits_whole s.6 c e behind

-- behind an assignment stands a semicolon or COMMIT
closed_lets : {ls : List Let} {tokens rest : List Token} → SpelledMoreLets ls tokens rest → (at : Place) (end : List Token) → TakesAt at (KEYWORD COMMIT) rest end → Closed tokens
closed_lets (no_let tokens rest eq) at end t = subst Closed eq (closed_word COMMIT at rest end t)
closed_lets (last_sign tokens rest sign) at end t = closed_semicolon sign.0 tokens rest sign.1
closed_lets (more_lets ls tokens mid rest sign ms) at end t = closed_semicolon sign.0 tokens mid sign.1

-- where a further assignment may come, its LET is as one that must come
lets_begin : {ls : List Let} {tokens rest : List Token} → SpelledLets ls tokens rest → (e : Ending) (behind : List Part) → stop_of (LetsPart ∷ behind) tokens e ≡ stop_of (WordPart LET ∷ let_parts ++ behind) tokens e
lets_begin (one_let l ls tokens mid rest s m) e behind = enter_lets s.3.0 tokens s.0 e behind s.3.1 ∙ sym (reads_word LET s.3.0 tokens s.0 e (let_parts ++ behind) s.3.1)

mutual
  pub fits_lets : {ls : List Let} {tokens rest : List Token} → SpelledLets ls tokens rest → (at : Place) (end : List Token) → TakesAt at (KEYWORD COMMIT) rest end → (e : Ending) (behind : List Part) → stop_of (WordPart LET ∷ let_parts ++ behind) tokens e ≡ stop_of behind rest e
  fits_lets (one_let l ls tokens mid rest s m) at end t e behind = fits_let l tokens mid s (closed_lets m at end t) e (MoreLets ∷ behind) ∙ fits_more_lets m at end t e behind

  fits_more_lets : {ls : List Let} {tokens rest : List Token} → SpelledMoreLets ls tokens rest → (at : Place) (end : List Token) → TakesAt at (KEYWORD COMMIT) rest end → (e : Ending) (behind : List Part) → stop_of (MoreLets ∷ behind) tokens e ≡ stop_of behind rest e
  fits_more_lets (no_let tokens rest eq) at end t e behind = subst (λ z. stop_of (MoreLets ∷ behind) z e ≡ stop_of behind rest e) eq (drop_more_lets rest e behind (ap (begins 59) t))
  fits_more_lets (last_sign tokens rest sign) at end t e behind = enter_more_lets sign.0 tokens rest e behind sign.1 ∙ drop_lets rest e behind (ap (begins_word LET) t)
  fits_more_lets (more_lets ls tokens mid rest sign ms) at end t e behind = enter_more_lets sign.0 tokens mid e behind sign.1 ∙ lets_begin ms e behind ∙ fits_lets ms at end t e behind
