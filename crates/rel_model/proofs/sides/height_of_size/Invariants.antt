use Rattle.std.proofs.Common.{◌≡◌, ◌≤◌}
use Rattle.rel_model.proofs.Powers.{powers_below}
use Rattle.rel_model.proofs.sides.height_of_size.Given as goal

abbrev pub invariant-powers : goal.invariant-powers
invariant-powers l = (l.height ≡ powers_below l.fn.size l.k) × (l.height ≤ l.k)
