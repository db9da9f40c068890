use Rattle.std.proofs.Common.{◌≡◌, ◌∙◌, None, cond, take, drop, sym, ap, arith}
use Rattle.std.proofs.lemmas.Bool.{eq-eqb, ne_eqb}
use Rattle.std.proofs.lemmas.List.{take_rest}
use Rattle.lang_model.specs.Tokens.{run_length, is_word_byte, found_in, domain_operators}
use Rattle.rv_tokens.proofs.Lexing.{operator_short, operator_long}
use Rattle.rv_tokens.proofs.tokens.domain_operator_at.Goals as goal

pub returns-then-bytes-lt3-clause-value : goal.returns-then-bytes-lt3-clause-value
returns-then-bytes-lt3-clause-value c = sym (operator_short c.args.bytes.now c.if-bytes-lt3.true)

pub returns-then-run-ne0-clause-value : goal.returns-then-run-ne0-clause-value
returns-then-run-ne0-clause-value c =
    let bs = c.args.bytes.now in
    let runs : c.run.result ≡ run_length is_word_byte (drop 3 bs) = c.run.ensures.value ∙ ap (run_length is_word_byte) (take_rest bs 3) in
    sym (operator_long bs (omega arith) ∙ ap (λ b. cond b (found_in (take 3 bs) domain_operators) None) (ne_eqb (run_length is_word_byte (drop 3 bs)) 0 (λ e. c.if-run-ne0.true (runs ∙ e))))

pub returns-clause-value : goal.returns-clause-value
returns-clause-value c =
    let bs = c.args.bytes.now in
    let runs : c.run.result ≡ run_length is_word_byte (drop 3 bs) = c.run.ensures.value ∙ ap (run_length is_word_byte) (take_rest bs 3) in
    c.domain_operator.ensures ∙ sym (operator_long bs (omega arith) ∙ ap (λ b. cond b (found_in (take 3 bs) domain_operators) None) (eq-eqb (run_length is_word_byte (drop 3 bs)) 0 (sym runs ∙ c.if-run-ne0.false)))
