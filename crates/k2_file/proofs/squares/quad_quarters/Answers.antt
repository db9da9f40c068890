use Rattle.k2_file.proofs.WriteSquares.{four-shown}
use Rattle.k2_file.proofs.squares.quad_quarters.Goals as goal

pub returns-clause-shows : goal.returns-clause-shows
returns-clause-shows g c =
    let four = c.quarters.result in
    four-shown (g.E.Core.worker c.args.engine.now) (g.E.Core.worker c.quarters.new.self) (g.E.Core.worker c.shown_quad-north_west.new.engine) (g.E.Core.worker c.shown_quad-north_east.new.engine)
    (g.E.Core.worker c.shown_quad-south_west.new.engine) (g.E.Core.worker c.shown_quad-south_east.new.engine) g.E.Core.least c.args.quad four
    c.shown_quad-north_west.result c.shown_quad-north_east.result c.shown_quad-south_west.result c.shown_quad-south_east.result
    c.quarters.ensures.quarters c.shown_quad-north_west.ensures.keeps c.shown_quad-north_east.ensures.keeps c.shown_quad-south_west.ensures.keeps c.shown_quad-south_east.ensures.keeps
    c.shown_quad-north_west.ensures.shows c.shown_quad-north_east.ensures.shows c.shown_quad-south_west.ensures.shows c.shown_quad-south_east.ensures.shows
