use Rattle.rel_model.specs.Worker.{quad_set}
use Rattle.k2_file.proofs.WriteSquares.{leaf-window}
use Rattle.k2_file.proofs.squares.leaf_window.Goals as goal

pub returns-clause-window : goal.returns-clause-window
returns-clause-window g c =
    leaf-window g.E.Core.least c.args.quad.height c.small_side-side.result c.bits.result (quad_set (g.E.Core.worker c.args.engine.now) c.args.quad) c.requires.leaf g.met.E.Quads.least_limit c.small_side-side.ensures c.bits.ensures.cells
