use Rattle.std.proofs.Common.{◌+◌, subst}
use Rattle.k2_file.specs.Squares.{IsSquare}
use Rattle.k2_file.specs.declared.squares.Square.{Square}
use Rattle.k2_file.proofs.WriteSquares.{window-small}
use Rattle.k2_file.proofs.squares.quarters_of.Goals as goal

pub window_quarters-requires-clause-small : goal.window_quarters-requires-clause-small
window_quarters-requires-clause-small g c =
    window-small c.args.height c.in-Part.window (subst (λ (s : Square). IsSquare (g.E.Core.worker c.args.engine.now) g.E.Core.least (c.args.height + 1) s) c.in-Part.is c.requires)
