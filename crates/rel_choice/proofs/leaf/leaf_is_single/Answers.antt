use Rattle.std.proofs.Common.{◌∙◌, sym, ap, not}
use Rattle.rel_model.specs.Cells.{bits_cells}
use Rattle.rel_model.proofs.Somes.{some_from}
use Rattle.rel_choice.specs.Lines.{passes_twice}
use Rattle.rel_choice.proofs.leaf.leaf_is_single.Goals as goal

pub returns-then-row_has_two : goal.returns-then-row_has_two
returns-then-row_has_two c =
    sym (ap not (some_from c.args.side (λ i. passes_twice c.args.side (bits_cells c.args.side c.args.bits i)) c.rows.row c.rows-test.true (sym c.row_has_two.ensures ∙ c.if-row_has_two.true)))
