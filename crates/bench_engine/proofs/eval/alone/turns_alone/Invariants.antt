use Rattle.std.proofs.Common.{◌≡◌}
use Rattle.rel_model.specs.Worker.{Stands}
use Rattle.bench_engine.proofs.eval.alone.turns_alone.Given as goal

abbrev pub invariant-turns : goal.invariant-turns
invariant-turns g l =
    let w = g.E.Core.worker l.engine in
    Stands w l.fn.r × Stands w l.x × (l.x.rows ≡ 1) × (l.x.cols ≡ 1)
