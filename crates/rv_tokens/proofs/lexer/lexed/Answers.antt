use Rattle.std.proofs.Common.{length, sym, ap, arith}
use Rattle.lang_model.specs.declared.token.Token.{Token}
use Rattle.lang_model.specs.Lexed.{lexed_from, lexed_of}
use Rattle.rv_tokens.specs.LexerAnswers.{put_before}
use Rattle.rv_tokens.proofs.lexer.lexed.Goals as goal

pub each-init : goal.each-init
unfolding lexed_of
each-init c = record {
  within = omega arith;
  same = ap (λ ts. put_before ts (lexed_from 0 (record { line = 1; column = 1 }) c.args.bytes.now)) (sym c.new-out.ensures.items);
  count = omega (arith, ap (length {A = Token}) c.new-out.ensures.items);
  line = omega arith;
  column = omega arith;
}
