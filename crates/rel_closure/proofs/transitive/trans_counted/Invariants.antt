use Rattle.std.proofs.Common.{◌≡◌, ◌≤◌, ◌-◌, ◌*◌, ◌^◌, max}
use Rattle.rel_model.specs.Closures.{walks_within}
use Rattle.rel_model.specs.Worker.{set_of, Keeps, Gives, MakesAtMost, MissesNothing, height_of}
use Rattle.rel_closure.proofs.transitive.trans_counted.Given as goal

abbrev pub invariant-squares : goal.invariant-squares
invariant-squares g l = record {
  gives : Gives (g.C.Core.worker l.core) l.r.rows l.r.cols (walks_within l.reach (set_of (g.C.Core.worker l.fn.core) l.r)) l.walks;
  keeps : Keeps (g.C.Core.worker l.fn.core) (g.C.Core.worker l.core);
  rises : l.fn.steps ≤ l.steps;
  power : 2 ^ (l.steps - l.fn.steps) ≡ l.reach;
  rounds : l.steps - l.fn.steps ≤ height_of l.r.rows;
  digits : l.reach ≤ max 1 (2 * l.r.rows - 1);
  nothing : l.r.rows ≤ 1 → MakesAtMost 0 (g.C.Core.worker l.fn.core) (g.C.Core.worker l.core);
  misses : MissesNothing (g.C.Core.worker l.fn.core) (g.C.Core.worker l.core);
  room : MakesAtMost ((l.steps - l.fn.steps) * (20 * 8 ^ height_of l.r.rows)) (g.C.Core.worker l.fn.core) (g.C.Core.worker l.core);
}

abbrev pub decreases-squares : goal.decreases-squares
decreases-squares g l = l.r.rows - l.reach
