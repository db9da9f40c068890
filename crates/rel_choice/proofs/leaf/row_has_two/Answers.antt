use Rattle.std.proofs.Common.{◌∙◌}
use Rattle.rel_model.specs.Cells.{bits_cells}
use Rattle.rel_choice.proofs.Doubles.{line-two}
use Rattle.rel_choice.proofs.leaf.row_has_two.Goals as goal

pub returns-in-Some : goal.returns-in-Some
returns-in-Some c = c.is_some.ensures ∙ line-two c.args.side c.in-Some.first (bits_cells c.args.side c.args.bits c.args.row) c.column_in-in-Some.result c.in-Some.ensures c.column_in-in-Some.ensures
