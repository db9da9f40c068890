use Rattle.std.proofs.Common.{◌≡◌, ◌==◌, ◌<◌, ◌+◌, ◌*◌, ◌/◌, ◌%◌, ◌^◌, ◌∙◌, ℕ, bit_and, ap, arith}
use lib.Bits.{and_mask}
use Rattle.rel_model.specs.Cells.{bits_cells}
use Rattle.rv_print.specs.Marks.{mark}
use Rattle.rv_print.proofs.Marking.{bits-mark, marks-more}
use Rattle.rv_print.proofs.rows.push_bits.Goals as goal

pub cells-preserved : goal.cells-preserved
cells-preserved c =
    let inside : c.cells.j < c.args.side = omega (arith, c.cells-test.true, c.requires.cols) in
    let rest = c.args.bits / 2 ^ (c.args.side * c.args.row + c.cells.j) in
    let low : bit_and rest 1 ≡ rest % 2 = and_mask rest 1 in
    let shown = bits-mark c.args.side c.args.bits c.args.row c.cells.j c.mark_of-mark.result c.requires.row inside (c.mark_of-mark.ensures ∙ ap (λ (n : ℕ). mark (n == 1)) low) in
    marks-more (bits_cells c.args.side c.args.bits c.args.row) c.cells.j c.mark_of-mark.result c.args.out.now.items c.cells.out.items c.push.new.self.items shown c.in_ok-push.ensures.items c.cells.invariant
