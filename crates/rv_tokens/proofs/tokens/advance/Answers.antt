use Rattle.std.proofs.Common.{◌-◌, ◌∙◌, drop, sym, arith}
use Rattle.rv_tokens.proofs.Lexing.{behind_none}
use Rattle.rv_tokens.proofs.tokens.advance.Goals as goal

pub returns-clause-place : goal.returns-clause-place
returns-clause-place c = sym (c.each.invariant.place ∙ behind_none c.each.place (drop c.each.k c.args.bytes.now) (c.args.n - c.each.k) (omega arith))
