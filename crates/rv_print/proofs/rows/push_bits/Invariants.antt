use Rattle.std.proofs.Common.{◌≡◌, ◌++◌}
use Rattle.rel_model.specs.Cells.{bits_cells}
use Rattle.rv_print.specs.Marks.{marks}
use Rattle.rv_print.proofs.rows.push_bits.Given as goal

abbrev pub invariant-cells : goal.invariant-cells
invariant-cells l = l.out.items ≡ l.fn.out.items ++ marks (bits_cells l.fn.side l.fn.bits l.fn.row) l.j
