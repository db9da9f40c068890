-- Tokens spell one block alone.
-- 1. Behind an assignment stands a ';' or COMMIT, with which no expression goes on: so where it ends is decided.
-- 2. Behind a ';' stands LET, or COMMIT, which ends the block.
use Rattle.std.proofs.Common.{◌≡◌, List, ◌∷◌, map, refl, sym, ◌∙◌, subst}
use Rattle.lang_model.specs.declared.syntax.Place.{Place}
use Rattle.lang_model.specs.declared.syntax.Let.{Let}
use Rattle.lang_model.specs.declared.token.Keyword.TheVariants.{Let as LET, Commit as COMMIT}
use Rattle.lang_model.specs.declared.token.Kind.TheVariants.{Keyword as KEYWORD}
use Rattle.lang_model.specs.declared.token.Token.{Token}
use Rattle.lang_model.specs.Taken.{TakesAt}
use Rattle.lang_model.specs.Spelling.{OrLevel, SpellsLet, SpelledLets, one_let, SpelledMoreLets, no_let, last_sign, more_lets}
use Rattle.rv_spell.specs.Again.{Ends}
use Rattle.rv_spell.specs.Plain.{let_tree}
use Rattle.rv_spell.proofs.Apart.{one_kind, one_place, one_rest, one_word}
use Rattle.rv_spell.proofs.Unambiguous.{agree}
use Rattle.rv_spell.proofs.OneStmt.{differ, ends_keyword, ends_semicolon}

agree_let : (l m : Let) (tokens others rest behind : List Token) → SpellsLet l tokens rest → SpellsLet m others behind → tokens ≡ others → Ends OrLevel rest → Ends OrLevel behind → (let_tree l ≡ let_tree m) × (rest ≡ behind)
agree_let l m tokens others rest behind s u q h h' =
    let e1 = one_rest s.3.1 u.3.1 q in
    let a = agree s.6 u.6 (one_rest s.5.1 u.5.1 (one_rest s.4 u.4 e1)) h h' in
    ((λ i. record { at = one_place s.4 u.4 e1 i; name = one_word l.name m.name (one_kind s.4 u.4 e1) i; value = a.same i }), a.left)

-- behind an assignment stands a ';' or COMMIT
lets_end : {at : Place} {ls : List Let} {tokens rest end : List Token} → SpelledMoreLets ls tokens rest → TakesAt at (KEYWORD COMMIT) rest end → Ends OrLevel tokens
lets_end (no_let tokens rest e) t = subst (Ends OrLevel) e (ends_keyword t)
lets_end (last_sign tokens rest sign) t = ends_semicolon sign.1
lets_end (more_lets ls tokens mid rest sign ms) t = ends_semicolon sign.1

-- a block begins with LET
first_let : {ls : List Let} {tokens rest : List Token} → SpelledLets ls tokens rest → (at : Place) × (more : List Token) × TakesAt at (KEYWORD LET) tokens more
first_let (one_let l ls tokens mid rest s m) = (s.3.0, s.0, s.3.1)

pub record AgreesLets (ls ms : List Let) (rest others : List Token) : Type 0 where
  pub same : map let_tree ls ≡ map let_tree ms
  pub left : rest ≡ others

mutual
  pub agree_lets : {ls : List Let} {tokens rest : List Token} → SpelledLets ls tokens rest → {ms : List Let} {others behind : List Token} → SpelledLets ms others behind → tokens ≡ others
      → {at at' : Place} {x x' : List Token} → TakesAt at (KEYWORD COMMIT) rest x → TakesAt at' (KEYWORD COMMIT) behind x' → AgreesLets ls ms rest behind
  agree_lets (one_let l ls tokens mid rest s m) (one_let l' ls' others mid' behind u n) q t t' =
      let a = agree_let l l' tokens others mid mid' s u q (lets_end m t) (lets_end n t') in
      let b = agree_more_lets m n a.1 t t' in
      record { same = (λ i. a.0 i ∷ b.same i); left = b.left }

  agree_more_lets : {ls : List Let} {tokens rest : List Token} → SpelledMoreLets ls tokens rest → {ms : List Let} {others behind : List Token} → SpelledMoreLets ms others behind → tokens ≡ others
      → {at at' : Place} {x x' : List Token} → TakesAt at (KEYWORD COMMIT) rest x → TakesAt at' (KEYWORD COMMIT) behind x' → AgreesLets ls ms rest behind
  agree_more_lets (no_let tokens rest e) (no_let others behind e') q t t' = record { same = refl; left = e ∙ q ∙ sym e' }
  agree_more_lets (no_let tokens rest e) (last_sign others behind sign') q t t' = absurd (differ t sign'.1 (e ∙ q) refl)
  agree_more_lets (no_let tokens rest e) (more_lets ms others mid' behind sign' us) q t t' = absurd (differ t sign'.1 (e ∙ q) refl)
  agree_more_lets (last_sign tokens rest sign) (no_let others behind e') q t t' = absurd (differ t' sign.1 (e' ∙ sym q) refl)
  agree_more_lets (last_sign tokens rest sign) (last_sign others behind sign') q t t' = record { same = refl; left = one_rest sign.1 sign'.1 q }
  agree_more_lets (last_sign tokens rest sign) (more_lets ms others mid' behind sign' us) q t t' = absurd (differ t (first_let us).2 (one_rest sign.1 sign'.1 q) refl)
  agree_more_lets (more_lets ls tokens mid rest sign ts) (no_let others behind e') q t t' = absurd (differ t' sign.1 (e' ∙ sym q) refl)
  agree_more_lets (more_lets ls tokens mid rest sign ts) (last_sign others behind sign') q t t' = absurd (differ t' (first_let ts).2 (sym (one_rest sign.1 sign'.1 q)) refl)
  agree_more_lets (more_lets ls tokens mid rest sign ts) (more_lets ms others mid' behind sign' us) q t t' = agree_lets ts us (one_rest sign.1 sign'.1 q) t t'
