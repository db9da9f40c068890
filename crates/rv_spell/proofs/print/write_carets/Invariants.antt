use Rattle.std.proofs.Common.{◌≡◌, ◌++◌, replicate}
use Rattle.rv_spell.proofs.print.write_carets.Given as goal

abbrev pub invariant-each : goal.invariant-each
invariant-each l = l.text.items ≡ l.fn.text.items ++ replicate l.counter 94
