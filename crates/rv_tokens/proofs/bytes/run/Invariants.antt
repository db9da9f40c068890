use Rattle.std.proofs.Common.{◌≡◌, ◌+◌, ◌-◌, ◌≤◌, length, drop}
use Rattle.lang_model.specs.Tokens.{run_length}
use Rattle.rv_tokens.specs.Lexing.{passes}
use Rattle.rv_tokens.proofs.bytes.run.Given as goal

abbrev pub invariant-each : goal.invariant-each
invariant-each l = record {
  so_far : run_length (passes l.class) l.bytes ≡ l.n + run_length (passes l.class) (drop l.n l.bytes);
  within : l.n ≤ length l.bytes;
}

abbrev pub decreases-each : goal.decreases-each
decreases-each l = length l.bytes - l.n
