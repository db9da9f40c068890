use Rattle.rel_model.specs.Listed.{AreWithin}
use Rattle.bench_engine.proofs.chance.random_pairs.Given as goal

abbrev pub invariant-pairs : goal.invariant-pairs
invariant-pairs l = AreWithin l.side l.side l.pairs.items
