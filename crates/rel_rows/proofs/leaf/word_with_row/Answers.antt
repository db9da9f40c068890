use Rattle.std.proofs.Common.{◌<◌, ◌*◌, ◌%◌, ◌^◌, ◌∙◌, sym, ap, subst, bit_or}
use Rattle.rel_model.specs.Cells.{bits_cells}
use Rattle.rel_rows.proofs.Bits.{one-shifted, put-whole, put-cells, put-small}
use Rattle.rel_rows.proofs.leaf.word_with_row.Goals as goal

pub returns-clause-cells : goal.returns-clause-cells
returns-clause-cells c =
    let a = c.args in
    ap (λ n. bits_cells a.side (bit_or a.bits (a.line % n * 2 ^ (a.side * a.row) % 18446744073709551616))) (one-shifted a.side c.requires.small)
    ∙ ap (λ w. bits_cells a.side (bit_or a.bits w)) (put-whole a.line a.side a.row c.requires.within c.requires.small) ∙ put-cells a.bits a.line a.side a.row c.requires.within

pub returns-clause-none_past : goal.returns-clause-none_past
returns-clause-none_past c =
    let a = c.args in
    subst (λ n. bit_or a.bits (a.line % n * 2 ^ (a.side * a.row) % 18446744073709551616) < 2 ^ (a.side * a.side)) (sym (one-shifted a.side c.requires.small))
    (subst (λ w. bit_or a.bits w < 2 ^ (a.side * a.side)) (sym (put-whole a.line a.side a.row c.requires.within c.requires.small)) (put-small a.bits a.line a.side a.row c.requires.within c.requires.none_past))
