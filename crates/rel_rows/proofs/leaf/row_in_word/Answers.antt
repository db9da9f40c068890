use Rattle.std.proofs.Common.{◌<◌, ◌*◌, ◌/◌, ◌%◌, ◌^◌, ◌∙◌, sym, ap, subst}
use Rattle.rel_model.specs.Cells.{bits_cells}
use Rattle.rel_rows.proofs.Bits.{one-shifted, taken-cells, taken-small}
use Rattle.rel_rows.proofs.leaf.row_in_word.Goals as goal

pub returns-clause-cells : goal.returns-clause-cells
returns-clause-cells c =
    let a = c.args in
    ap (λ n. bits_cells a.side (a.bits / 2 ^ (a.side * a.row) % n)) (one-shifted a.side c.requires.small) ∙ taken-cells a.bits a.side a.row c.requires.within

pub returns-clause-none_past : goal.returns-clause-none_past
returns-clause-none_past c =
    let a = c.args in
    subst (λ n. a.bits / 2 ^ (a.side * a.row) % n < 2 ^ (a.side * a.side)) (sym (one-shifted a.side c.requires.small)) (taken-small a.bits a.side a.row c.requires.within)
