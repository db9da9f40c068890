use Rattle.std.proofs.Common.{◌≡◌, ◌*◌, ◌%◌, ◌^◌}
use Rattle.rv_generate.specs.Generator.{after, scripts_from, texts_of}
use Rattle.rv_generate.proofs.scripts.generate.Given as goal

abbrev pub invariant-scripts : goal.invariant-scripts
invariant-scripts l = record {
  texts : texts_of l.scripts.items ≡ scripts_from (l.fn.number % 2 ^ 32) l.made;
  draws : l.draws.state ≡ after (l.fn.number % 2 ^ 32) (128 * l.made);
}
