use Rattle.std.proofs.Common.{◌∙◌, Some, None, cond, get_or, sym, ap, subst}
use Rattle.std.proofs.lemmas.Bool.{eq-eqb, ne_eqb}
use Rattle.std.proofs.lemmas.List.{take_rest}
use Rattle.std.specs.Option.{option_map_or}
use Rattle.lang_model.specs.declared.token.Kind.{Kind}
use Rattle.lang_model.specs.declared.token.Kind.TheVariants.{Sign}
use Rattle.lang_model.specs.Tokens.{file_at}
use Rattle.rv_tokens.specs.Lexing.{Finds, word_at}
use Rattle.rv_tokens.proofs.Lexing.{kind_letter, kind_digit, kind_quote, kind_sign}
use Rattle.rv_tokens.proofs.tokens.kind_at.Goals as goal

pub returns-in-Some-clause-kind : goal.returns-in-Some-clause-kind
returns-in-Some-clause-kind c =
    let bs = c.args.bytes.now in
    kind_letter bs c.requires (sym c.if-is_letter.ensures) ∙ ap (λ o. option_map_or (λ (k : Kind). Some (k, 3)) o (word_at bs)) (sym c.in-Some.ensures.value) ∙ ap (λ (k : Kind). Some (k, 3)) (sym c.kind_of.ensures)

pub returns-in-None-clause-kind : goal.returns-in-None-clause-kind
returns-in-None-clause-kind c =
    let bs = c.args.bytes.now in
    subst (λ o. Finds o c.word_at.result) (sym (kind_letter bs c.requires (sym c.if-is_letter.ensures) ∙ ap (λ o. option_map_or (λ (k : Kind). Some (k, 3)) o (word_at bs)) (sym c.in-None.ensures.value))) c.word_at.ensures.kind

pub returns-then-is_digit-clause-kind : goal.returns-then-is_digit-clause-kind
returns-then-is_digit-clause-kind c = subst (λ o. Finds o c.number_at.result) (sym (kind_digit c.args.bytes.now c.requires (sym c.if-is_letter.ensures) (sym c.if-is_digit.ensures))) c.number_at.ensures.kind

pub returns-then-first-eq34-clause-kind : goal.returns-then-first-eq34-clause-kind
returns-then-first-eq34-clause-kind c =
    let bs = c.args.bytes.now in
    subst (λ o. Finds o c.file_at.result) (sym (kind_quote bs c.requires (sym c.if-is_letter.ensures) (sym c.if-is_digit.ensures) (eq-eqb _ 34 c.if-first-eq34.true) ∙ ap file_at (sym (take_rest bs 1)))) c.file_at.ensures.kind

pub returns-then-is_sign-clause-kind : goal.returns-then-is_sign-clause-kind
returns-then-is_sign-clause-kind c =
    kind_sign c.args.bytes.now c.requires (sym c.if-is_letter.ensures) (sym c.if-is_digit.ensures) (ne_eqb _ 34 c.if-first-eq34.false) ∙ ap (λ b. cond b (Some (Sign (get_or c.args.bytes.now 0 0), 1)) None) (sym c.if-is_sign.ensures)

pub returns-clause-kind : goal.returns-clause-kind
returns-clause-kind c =
    kind_sign c.args.bytes.now c.requires (sym c.if-is_letter.ensures) (sym c.if-is_digit.ensures) (ne_eqb _ 34 c.if-first-eq34.false) ∙ ap (λ b. cond b (Some (Sign (get_or c.args.bytes.now 0 0), 1)) None) (sym c.if-is_sign.ensures)
