use Rattle.rel_model.specs.Listed.{AreWithin}
use Rattle.bench_engine.proofs.listed.listing.push_row.Given as goal

abbrev pub invariant-columns : goal.invariant-columns
invariant-columns l = AreWithin l.shape.rows l.shape.cols l.pairs.items
