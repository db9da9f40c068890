use Rattle.std.proofs.Common.{◌≡◌, ◌∙◌, ◌^◌, ap, sym, arith}
use Rattle.rel_model.specs.Cells.{bits_cells}
use Rattle.rel_order.specs.Steps.{ascending}
use Rattle.rel_order.proofs.Ascending.{leaf_ascending, four_bits, eight_bits}
use Rattle.rel_order.proofs.numbers.leaf_word.Goals as goal

pub returns-in-2-clause-cells : goal.returns-in-2-clause-cells
returns-in-2-clause-cells c =
    ap (λ k. bits_cells (2 ^ k) 0x8ce) c.in-2.is ∙ leaf_ascending 4 0x8ce four_bits ∙ ap (λ k. ascending (2 ^ k)) (sym c.in-2.is)

pub returns-in_default-clause-cells : goal.returns-in_default-clause-cells
returns-in_default-clause-cells c =
    let e : c.args.least ≡ 3 = omega arith in
    ap (λ k. bits_cells (2 ^ k) 0x80c0e0f0f8fcfe) e ∙ leaf_ascending 8 0x80c0e0f0f8fcfe eight_bits ∙ ap (λ k. ascending (2 ^ k)) (sym e)
