use Rattle.std.proofs.Common.{◌≡◌, ◌∙◌, ap, sym, ℕ, arith}
use Rattle.rel_model.specs.Cells.{some_below, bits_cells}
use Rattle.rel_model.proofs.Somes.{some_from}
use Rattle.k2_file.specs.Squares.{window_cells}
use Rattle.k2_file.proofs.WritePieces.{piece-in}
use Rattle.k2_file.proofs.WriteSquares.{none-more}
use Rattle.k2_file.proofs.windows.row_has_cell.Goals as goal

pub returns-then-cell : goal.returns-then-cell
returns-then-cell c =
    let v = c.args.window in
    sym (some_from c.args.side (window_cells c.args.side v c.args.i) c.columns.j c.columns-test.true
    (piece-in c.args.side v.row v.col (bits_cells v.side v.bits) c.args.i c.columns.j c.requires.row c.columns-test.true ∙ sym c.cell.ensures ∙ c.if-cell.true))

pub columns-preserved : goal.columns-preserved
columns-preserved c =
    let v = c.args.window in
    none-more c.columns.j (window_cells c.args.side v c.args.i)
    (piece-in c.args.side v.row v.col (bits_cells v.side v.bits) c.args.i c.columns.j c.requires.row c.columns-test.true ∙ sym c.cell.ensures ∙ c.if-cell.false) c.columns.invariant

pub returns : goal.returns
returns c =
    let e : c.columns.j ≡ c.args.side = omega (arith, c.columns-test.false, c.columns.auto.j-end) in
    sym (ap (λ (n : ℕ). some_below n (window_cells c.args.side c.args.window c.args.i)) (sym e) ∙ c.columns.invariant)
