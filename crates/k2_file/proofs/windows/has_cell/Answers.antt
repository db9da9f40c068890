use Rattle.std.proofs.Common.{◌≡◌, ◌∙◌, ap, sym, ℕ, arith}
use Rattle.rel_model.specs.Cells.{some_below}
use Rattle.rel_model.proofs.Somes.{some_from}
use Rattle.k2_file.specs.Squares.{some_cell, window_cells}
use Rattle.k2_file.proofs.WriteSquares.{none-more}
use Rattle.k2_file.proofs.windows.has_cell.Goals as goal

pub returns-then-row_has_cell : goal.returns-then-row_has_cell
unfolding some_cell
returns-then-row_has_cell c =
    sym (some_from c.args.side (λ (i : ℕ). some_below c.args.side (window_cells c.args.side c.args.window i)) c.rows.i c.rows-test.true (sym c.row_has_cell.ensures ∙ c.if-row_has_cell.true))

pub rows-preserved : goal.rows-preserved
rows-preserved c = none-more c.rows.i (λ (i : ℕ). some_below c.args.side (window_cells c.args.side c.args.window i)) (sym c.row_has_cell.ensures ∙ c.if-row_has_cell.false) c.rows.invariant

pub returns : goal.returns
unfolding some_cell
returns c =
    let e : c.rows.i ≡ c.args.side = omega (arith, c.rows-test.false, c.rows.auto.i-end) in
    sym (ap (λ (n : ℕ). some_below n (λ (i : ℕ). some_below c.args.side (window_cells c.args.side c.args.window i))) (sym e) ∙ c.rows.invariant)
