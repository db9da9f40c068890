use Rattle.std.proofs.Common.{◌^◌}
use Rattle.rel_model.specs.Cells.{bits_cells}
use Rattle.rel_domains.specs.Ranks.{first_column}
use Rattle.rel_domains.proofs.Ranking.{AreRanked}
use Rattle.rel_domains.proofs.element.ranks_in.Given as goal

abbrev pub invariant-elements : goal.invariant-elements
invariant-elements l = AreRanked (2 ^ l.fn.least) l.fn.row l.fn.before (first_column (bits_cells (2 ^ l.fn.least) l.fn.vector)) l.x l.bits l.rank
