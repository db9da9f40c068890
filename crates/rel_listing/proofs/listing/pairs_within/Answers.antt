use Rattle.std.proofs.Common.{ap}
use Rattle.rel_model.specs.Cells.{Cells}
use Rattle.rel_model.specs.Relation.{has}
use Rattle.rel_model.specs.Roots.{height_over}
use Rattle.rel_model.specs.Worker.{set_of}
use Rattle.rel_steps.proofs.Given.{gives_quad_set}
use Rattle.rel_listing.proofs.Lists.{listed}
use Rattle.rel_listing.proofs.listing.pairs_within.Goals as goal

pub returns-clause-value : goal.returns-clause-value
returns-clause-value g c =
    let w = g.Q.Core.worker c.args.q.now in
    let r = c.args.r in
    let h = height_over g.Q.Core.least r.rows r.cols in
    listed (set_of w r) c.new-pairs.result.items c.list_root.new.pairs.items (g.met.Q.Core.valid c.args.q.now r c.requires) c.new-pairs.ensures.items
    (λ i j. ap (λ (f : Cells). f i j) (gives_quad_set w h (has (set_of w r)) c.root-quad.result c.root-quad.ensures))
    c.in-Ok.ensures.pairs
