use Rattle.rel_model.specs.Listed.{AreWithin}
use Rattle.bench_engine.proofs.kernels.graphs.edges.Given as goal

abbrev pub invariant-vertices : goal.invariant-vertices
invariant-vertices l = AreWithin l.vertices l.vertices l.pairs.items
