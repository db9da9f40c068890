use Rattle.std.proofs.Common.{◌≡◌, ◌*◌, ◌-◌, ◌++◌}
use Rattle.rv_generate.specs.Generator.{after, rows_text}
use Rattle.rv_generate.proofs.scripts.push_rows.Given as goal

abbrev pub invariant-rows : goal.invariant-rows
invariant-rows l = record {
  text : l.out.items ≡ l.fn.out.items ++ rows_text l.fn.draws.state (l.vertex - 1);
  draws : l.draws.state ≡ after l.fn.draws.state (2 * l.vertex);
}
