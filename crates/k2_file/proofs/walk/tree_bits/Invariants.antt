use Rattle.rel_model.specs.Worker.{set_of, Keeps, MakesAtMost, MissesNothing}
use Rattle.k2_file.proofs.WriteWalk.{Walk}
use Rattle.k2_file.proofs.walk.tree_bits.Given as goal

-- the walk has come to this level
abbrev pub invariant-levels : goal.invariant-levels
invariant-levels g l = record {
  walk : Walk (g.E.Core.worker l.engine) g.E.Core.least l.level (set_of (g.E.Core.worker l.fn.engine) l.fn.rel) l.squares.items l.tree.items;
  keeps : Keeps (g.E.Core.worker l.fn.engine) (g.E.Core.worker l.engine);
  room : MakesAtMost 0 (g.E.Core.worker l.fn.engine) (g.E.Core.worker l.engine);
  misses : MissesNothing (g.E.Core.worker l.fn.engine) (g.E.Core.worker l.engine);
}

abbrev pub decreases-levels : goal.decreases-levels
decreases-levels g l = l.level
