use Rattle.rel_values.proofs.Univalence.{Apart}
use Rattle.rel_values.proofs.univalent.rows_differ.Given as goal

abbrev pub invariant-pairs : goal.invariant-pairs
invariant-pairs l = Apart l.k l.fn.pairs
