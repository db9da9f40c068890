use Rattle.std.proofs.Common.{◌≡◌}
use Rattle.rel_model.specs.Quads.{QuadStands}
use Rattle.rel_model.specs.Worker.{Stands, Keeps}
use Rattle.test_trees.specs.Staying.{Stays}
use Rattle.test_trees.proofs.making.quad_of.Given as goal

abbrev pub invariant-cols : goal.invariant-cols
invariant-cols g l = QuadStands l.nodes l.q × (l.q.height ≡ l.fn.height) × Stays l.fn.nodes l.nodes × Stands (g.P.Core.worker l.plain) l.r × Keeps (g.P.Core.worker l.fn.plain) (g.P.Core.worker l.plain)

abbrev pub invariant-rows : goal.invariant-rows
invariant-rows g l = QuadStands l.nodes l.q × (l.q.height ≡ l.fn.height) × Stays l.fn.nodes l.nodes × Stands (g.P.Core.worker l.plain) l.r × Keeps (g.P.Core.worker l.fn.plain) (g.P.Core.worker l.plain)
