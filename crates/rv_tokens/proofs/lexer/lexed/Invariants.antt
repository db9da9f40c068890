use Rattle.std.proofs.Common.{◌≡◌, ◌+◌, ◌-◌, ◌≤◌, length, drop}
use Rattle.lang_model.specs.Lexed.{lexed_from, lexed_of}
use Rattle.rv_tokens.specs.LexerAnswers.{put_before}
use Rattle.rv_tokens.proofs.lexer.lexed.Given as goal

abbrev pub invariant-each : goal.invariant-each
invariant-each l = record {
  within : l.i ≤ length l.bytes;
  same : lexed_of l.bytes ≡ put_before l.out.items (lexed_from 0 l.at (drop l.i l.bytes));
  count : length l.out.items ≤ l.i;
  line : l.at.line ≤ 1 + l.i;
  column : l.at.column ≤ 1 + l.i;
}

abbrev pub decreases-each : goal.decreases-each
decreases-each l = length l.bytes - l.i
