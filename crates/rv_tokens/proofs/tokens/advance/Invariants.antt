use Rattle.std.proofs.Common.{◌≡◌, ◌+◌, ◌-◌, ◌≤◌, drop}
use Rattle.lang_model.specs.Tokens.{behind_all}
use Rattle.rv_tokens.proofs.tokens.advance.Given as goal

abbrev pub invariant-each : goal.invariant-each
invariant-each l = record {
  place : behind_all l.n l.fn.at l.bytes ≡ behind_all (l.n - l.k) l.place (drop l.k l.bytes);
  line : l.place.line ≤ l.fn.at.line + l.k;
  column : l.place.column ≤ l.fn.at.column + l.k;
}
