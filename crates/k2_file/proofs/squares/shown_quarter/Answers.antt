use Rattle.std.proofs.Common.{sym, subst}
use Rattle.rel_model.specs.Cells.{Cells}
use Rattle.k2_file.specs.Squares.{ShowsWindow}
use Rattle.k2_file.proofs.WriteSquares.{quarter-cells}
use Rattle.k2_file.proofs.squares.shown_quarter.Goals as goal

pub returns : goal.returns
returns c =
    subst (λ (f : Cells). ShowsWindow c.args.height f c.shown_window.result) (sym (quarter-cells c.args.height c.args.below c.args.right c.args.window c.requires.below c.requires.right)) c.shown_window.ensures
