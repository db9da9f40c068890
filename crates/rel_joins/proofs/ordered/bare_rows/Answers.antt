use Rattle.std.proofs.Common.{◌∙◌, List, ap, sym}
use Rattle.rel_model.specs.Cells.{Cells}
use Rattle.bit_rows.specs.declared.row.Row.{Row}
use Rattle.bit_rows.specs.Rows.{rows_cells}
use Rattle.bit_rows.proofs.Clearing.{replicated, zero_row}
use Rattle.rel_joins.proofs.ordered.bare_rows.Goals as goal

pub returns-in-Ok-clause-bare : goal.returns-in-Ok-clause-bare
returns-in-Ok-clause-bare c = λ x j l. ap (λ (rows : List Row). rows_cells rows x j) (c.in-Ok.ensures.items_if_clones_equal (λ y h. h)) ∙ ap (λ (f : Cells). f x j) (replicated c.args.count _ (sym zero_row))
