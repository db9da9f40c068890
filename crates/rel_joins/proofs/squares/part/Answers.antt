use Rattle.rel_joins.proofs.Tiling.{part_window}
use Rattle.rel_joins.proofs.squares.part.Goals as goal

pub returns-clause-cells : goal.returns-clause-cells
returns-clause-cells c = part_window c.args.from c.args.rows.now
