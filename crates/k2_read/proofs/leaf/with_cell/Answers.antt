-- The bit of the cell.
use Rattle.std.proofs.Common.{◌<◌, ◌+◌, ◌*◌, ◌^◌, ◌∙◌, sym, ap, subst, bit_or}
use Rattle.rel_model.specs.Cells.{bits_cells}
use Rattle.k2_file.proofs.ReadLeaves.{cell-set, bit-shifted, bit-small, place-below, place-few}
use Rattle.k2_read.proofs.leaf.with_cell.Goals as goal

pub returns-clause-cells : goal.returns-clause-cells
returns-clause-cells c =
    let m = c.args.side in
    let i = c.args.cell.0 in
    let j = c.args.cell.1 in
    ap (λ w. bits_cells m (bit_or c.args.word w)) (bit-shifted (m * i + j) (place-few m i j c.requires.side c.if-side-cell.false c.if-side-cell-2.false))
    ∙ cell-set m c.args.word i j c.if-side-cell-2.false

pub returns-clause-none_past : goal.returns-clause-none_past
returns-clause-none_past c =
    let m = c.args.side in
    let i = c.args.cell.0 in
    let j = c.args.cell.1 in
    subst (λ w. bit_or c.args.word w < 2 ^ (m * m)) (sym (bit-shifted (m * i + j) (place-few m i j c.requires.side c.if-side-cell.false c.if-side-cell-2.false)))
    (bit-small (m * m) c.args.word (m * i + j) c.requires.none_past (place-below m i j c.if-side-cell.false c.if-side-cell-2.false))
