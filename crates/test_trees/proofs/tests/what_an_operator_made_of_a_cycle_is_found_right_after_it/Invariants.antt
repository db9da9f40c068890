use Rattle.std.proofs.Common.{◌≡◌}
use Rattle.rel_model.specs.Quads.{QuadStands}
use Rattle.test_trees.proofs.tests.what_an_operator_made_of_a_cycle_is_found_right_after_it.Given as goal

abbrev pub invariant-operators : goal.invariant-operators
invariant-operators g l = QuadStands l.nodes l.cycle × QuadStands l.nodes l.square × (l.square.height ≡ l.cycle.height)

abbrev pub invariant-turned : goal.invariant-turned
invariant-turned g l = QuadStands l.nodes l.cycle × QuadStands l.nodes l.square × (l.square.height ≡ l.cycle.height)
