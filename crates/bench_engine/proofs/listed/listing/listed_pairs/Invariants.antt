use Rattle.rel_model.specs.Listed.{AreWithin}
use Rattle.bench_engine.proofs.listed.listing.listed_pairs.Given as goal

abbrev pub invariant-rows : goal.invariant-rows
invariant-rows l = AreWithin l.shape.rows l.shape.cols l.pairs.items
