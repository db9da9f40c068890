use Rattle.rel_model.specs.Quads.{QuadStands}
use Rattle.rel_model.specs.Worker.{Stands, Keeps}
use Rattle.test_trees.proofs.making.has_the_cells.Given as goal

abbrev pub invariant-cols : goal.invariant-cols
invariant-cols g l = QuadStands l.nodes l.q × Stands (g.P.Core.worker l.plain) l.r × Keeps (g.P.Core.worker l.fn.plain) (g.P.Core.worker l.plain)

abbrev pub invariant-rows : goal.invariant-rows
invariant-rows g l = QuadStands l.nodes l.q × Stands (g.P.Core.worker l.plain) l.r × Keeps (g.P.Core.worker l.fn.plain) (g.P.Core.worker l.plain)
