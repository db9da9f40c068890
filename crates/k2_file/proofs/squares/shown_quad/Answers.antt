use Rattle.std.proofs.Common.{refl, arith}
use Rattle.rel_model.specs.Worker.{quad_set}
use Rattle.k2_file.proofs.WriteSquares.{leaf-is_window, leaf-shows, none-shown, full-quad}
use Rattle.k2_file.proofs.squares.shown_quad.Goals as goal

pub shown_window-requires-clause-window : goal.shown_window-requires-clause-window
shown_window-requires-clause-window g c =
    let limit = g.met.E.Quads.least_limit in
    let here = c.bottom.ensures in
    leaf-is_window g.E.Core.least c.args.quad.height (quad_set (g.E.Core.worker c.args.engine.now) c.args.quad) c.leaf_window-window.result (omega (arith, limit, here, c.if-quad-bottom.true)) c.leaf_window-window.ensures.window

pub returns-then-quad-bottom-clause-shows : goal.returns-then-quad-bottom-clause-shows
returns-then-quad-bottom-clause-shows g c =
    leaf-shows (g.E.Core.worker c.leaf_window-window.new.engine) g.E.Core.least c.args.quad.height (quad_set (g.E.Core.worker c.args.engine.now) c.args.quad) c.leaf_window-window.result c.shown_window.result c.leaf_window-window.ensures.window c.shown_window.ensures

pub returns-then-is_empty-clause-shows : goal.returns-then-is_empty-clause-shows
returns-then-is_empty-clause-shows g c =
    let low = g.met.E.Quads.low_height c.args.engine.now c.args.quad c.requires.stands in
    let high = g.met.E.Quads.high_height c.args.engine.now c.args.quad c.requires.stands in
    none-shown (g.E.Core.worker c.args.engine.now) c.args.quad (c.is_empty.ensures.empty c.if-is_empty.true) (g.met.E.Quads.none c.args.engine.now c.args.quad.height low high)

pub returns-clause-shows : goal.returns-clause-shows
returns-clause-shows g c =
    let w = g.E.Core.worker c.args.engine.now in
    let q = c.args.quad in
    let low = g.met.E.Quads.low_height c.args.engine.now q c.requires.stands in
    let high = g.met.E.Quads.high_height c.args.engine.now q c.requires.stands in
    let here = c.bottom.ensures in
    let other = c.if-quad-bottom.false in
    record {
      square = (c.requires.stands, refl, omega (arith, low, here, other));
      means = refl;
      some = full-quad w q c.requires.stands (g.met.E.Quads.square c.args.engine.now q c.requires.stands) (g.met.E.Quads.none c.args.engine.now q.height low high)
          (g.met.E.Quads.one_name c.args.engine.now q (record { height = q.height; name = 0 })) (c.is_empty.ensures.filled c.if-is_empty.false);
    }
