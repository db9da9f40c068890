use Rattle.std.proofs.Common.{◌≡◌, ◌∙◌, ◌+◌, ◌-◌, length, drop, take, sym, ap, arith}
use Rattle.std.proofs.lemmas.Grind.{common_steps}
use Rattle.std.proofs.lemmas.Bool.{eq-eqb, ne_eqb}
use Rattle.lang_model.specs.Tokens.{run_length}
use Rattle.lang_model.specs.Lexed.{is_comment_byte}
use Rattle.rv_tokens.proofs.Lexemes.{lexes_blank, lexes_comment, lexes_token}
use Rattle.rv_tokens.proofs.lexer.next_lexeme.Goals as goal

pub returns-then-is_blank : goal.returns-then-is_blank
returns-then-is_blank c = ((omega arith, omega arith), lexes_blank c.args.at c.args.bytes.now c.requires.first (sym c.if-is_blank.ensures))

pub returns-then-first-eq35 : goal.returns-then-first-eq35
returns-then-first-eq35 c =
    let bs = c.args.bytes.now in
    let whole : take (length bs - 1) (drop 1 bs) ≡ drop 1 bs = grind (arith, common_steps) in (
      (omega arith, omega (arith, c.run-count.ensures.within)),
      lexes_comment c.args.at bs (c.run-count.result + 1) c.requires.first (sym c.if-is_blank.ensures) (eq-eqb _ 35 c.if-first-eq35.true)
          (ap (λ n. n + 1) (c.run-count.ensures.value ∙ ap (run_length is_comment_byte) whole)),
    )

pub returns-in-Ok : goal.returns-in-Ok
returns-in-Ok c =
    let bs = c.args.bytes.now in
    (c.in-Ok.ensures.within, lexes_token c.args.at bs c.in-Ok.kind c.in-Ok.count c.requires.first (sym c.if-is_blank.ensures) (ne_eqb _ 35 c.if-first-eq35.false) c.in-Ok.ensures.kind c.in-Ok.ensures.within.0)
