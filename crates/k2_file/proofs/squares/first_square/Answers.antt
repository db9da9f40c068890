use Rattle.std.proofs.Common.{◌<◌, ◌∙◌, ◌^◌, ℕ, sym, subst, arith}
use Rattle.rel_model.specs.Cells.{Cells}
use Rattle.rel_model.specs.Relation.{has}
use Rattle.rel_model.specs.Roots.{height_over}
use Rattle.rel_model.specs.Worker.{set_of, quad_set}
use Rattle.rel_model.proofs.Heights.{height_over-low}
use Rattle.rel_steps.proofs.Given.{gives_quad_set}
use Rattle.k2_file.specs.Squares.{piece, Shows}
use Rattle.k2_file.proofs.WriteHeights.{file_height-tree, file_height-leaf}
use Rattle.k2_file.proofs.WriteSquares.{leaf-is_window, leaf-shows, shows-at}
use Rattle.k2_file.proofs.squares.first_square.Goals as goal

pub shown_window-requires-clause-window : goal.shown_window-requires-clause-window
shown_window-requires-clause-window g c =
    let small = file_height-leaf g.E.Core.least c.args.rel.rows c.args.rel.cols g.met.E.Quads.least_limit (sym c.root-quad.ensures.same_height ∙ c.if-quad-bottom.true ∙ c.bottom.ensures) in
    leaf-is_window g.E.Core.least c.args.height (quad_set (g.E.Core.worker c.args.engine.now) c.root-quad.result) c.leaf_window-window.result (omega (arith, small, c.requires.height)) c.leaf_window-window.ensures.window

pub shown_window-requires-clause-small : goal.shown_window-requires-clause-small
shown_window-requires-clause-small g c =
    let small = file_height-leaf g.E.Core.least c.args.rel.rows c.args.rel.cols g.met.E.Quads.least_limit (sym c.root-quad.ensures.same_height ∙ c.if-quad-bottom.true ∙ c.bottom.ensures) in
    omega (arith, small, c.requires.height)

pub returns-then-quad-bottom-clause-shows : goal.returns-then-quad-bottom-clause-shows
returns-then-quad-bottom-clause-shows g c =
    let w = g.E.Core.worker c.args.engine.now in
    let R = set_of w c.args.rel in
    let v = g.E.Core.worker c.leaf_window-window.new.engine in
    let least : ℕ = g.E.Core.least in
    subst (λ (f : Cells). Shows v least c.args.height (piece (2 ^ c.args.height) 0 0 f) c.shown_window.result) (gives_quad_set w (height_over least c.args.rel.rows c.args.rel.cols) (has R) c.root-quad.result c.root-quad.ensures)
    (leaf-shows v least c.args.height (quad_set w c.root-quad.result) c.leaf_window-window.result c.shown_window.result c.leaf_window-window.ensures.window c.shown_window.ensures)

pub returns-clause-shows : goal.returns-clause-shows
returns-clause-shows g c =
    let w = g.E.Core.worker c.args.engine.now in
    let R = set_of w c.args.rel in
    let q = c.root-quad.result in
    let least : ℕ = g.E.Core.least in
    let over : ℕ = height_over least c.args.rel.rows c.args.rel.cols in
    let low = height_over-low least c.args.rel.rows c.args.rel.cols in
    let here = c.bottom.ensures in
    let at = c.root-quad.ensures.same_height in
    let other = c.if-quad-bottom.false in
    let above : least < over = omega (arith, low, here, at, other) in
    shows-at (g.E.Core.worker c.shown_quad.new.engine) least q.height c.args.height (quad_set w q) (has R) c.shown_quad.result
    (at ∙ file_height-tree least c.args.rel.rows c.args.rel.cols above ∙ sym c.requires.height) (gives_quad_set w over (has R) q c.root-quad.ensures) c.shown_quad.ensures.shows
