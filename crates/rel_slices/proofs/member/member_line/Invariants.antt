use Rattle.std.proofs.Common.{◌≤◌, ◌+◌, ◌-◌}
use Rattle.rel_model.specs.Roots.{tree_room}
use Rattle.rel_model.specs.Worker.{GivesQuad, Keeps, MissesNothing, MakesAtMost}
use Rattle.rel_slices.specs.Members.{member_cells}
use Rattle.rel_slices.proofs.member.member_line.Given as goal

abbrev pub invariant-doublings : goal.invariant-doublings
invariant-doublings g l = record {
  gives : GivesQuad (g.Q.Core.worker l.q) l.height (member_cells l.height l.fn.i) l.quad;
  above : l.fn.i + 1 ≤ l.height;
  keeps : Keeps (g.Q.Core.worker l.fn.q) (g.Q.Core.worker l.q);
  misses : MissesNothing (g.Q.Core.worker l.fn.q) (g.Q.Core.worker l.q);
  space : MakesAtMost (tree_room (l.height - g.Q.Core.least)) (g.Q.Core.worker l.fn.q) (g.Q.Core.worker l.q);
}
