use Rattle.std.proofs.Common.{◌≡◌, ◌≤◌, ◌^◌}
use Rattle.rel_model.specs.Cells.{bits_cells}
use Rattle.rel_model.specs.Choice.{count_below}
use Rattle.rel_domains.specs.Ranks.{first_column}
use Rattle.rel_domains.proofs.element.count_in.Given as goal

abbrev pub invariant-elements : goal.invariant-elements
invariant-elements l = (l.count ≡ count_below l.x (first_column (bits_cells (2 ^ l.fn.least) l.fn.vector))) × (l.count ≤ l.x)
