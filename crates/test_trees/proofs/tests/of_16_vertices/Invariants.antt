use Rattle.std.proofs.Common.{◌≡◌}
use Rattle.rel_model.specs.Quads.{QuadStands}
use Rattle.test_trees.specs.Staying.{Stays}
use Rattle.test_trees.proofs.tests.of_16_vertices.Given as goal

abbrev pub invariant-vertices : goal.invariant-vertices
invariant-vertices g l = QuadStands l.nodes l.q × (l.q.height ≡ 4) × Stays l.fn.nodes l.nodes
