use Rattle.std.proofs.Common.{◌≡◌}
use Rattle.rel_model.specs.Worker.{Stands}
use Rattle.bench_engine.proofs.eval.alone.unions_alone.Given as goal

abbrev pub invariant-links : goal.invariant-links
invariant-links g l =
    let w = g.E.Core.worker l.engine in
    Stands w l.fn.r × Stands w l.all × (l.all.rows ≡ l.fn.r.rows) × (l.all.cols ≡ l.fn.r.cols)
