use Rattle.std.proofs.Common.{◌≤◌, sym, subst}
use Rattle.rel_model.specs.Relation.{size_limit}
use Rattle.rel_model.specs.Worker.{set_of}
use Rattle.k2_file.proofs.WriteHeights.{file_height-sizes}
use Rattle.k2_write.specs.Visiting.{part_pairs, Visited, VisitedSet}
use Rattle.k2_write.proofs.Entering.{if_ok, set_visited}
use Rattle.k2_write.proofs.listing.visit_rel.Goals as goal

pub returns-clause-value : goal.returns-clause-value
returns-clause-value g c =
    let w0 = g.E.Core.worker c.args.engine.now in
    let w1 = g.E.Core.worker c.first_square-first.new.engine in
    let w2 = g.E.Core.worker c.visit_part.new.engine in
    let r = set_of w0 c.args.rel in
    let h = c.height_of_file-height.result in
    let first = c.first_square-first.result in
    let rows = g.met.E.Core.row_size c.args.engine.now c.args.rel c.requires in
    let cols = g.met.E.Core.col_size c.args.engine.now c.args.rel c.requires in
    let is = file_height-sizes h c.args.rel.rows c.args.rel.cols r.rows r.cols c.height_of_file-height.ensures.value rows cols in
    if_ok c.visit_part.result (Visited w1 w2 g.E.Core.least c.args.visits.now c.visit_part.new.visits h (part_pairs w1 h first)) (VisitedSet w0 w2 g.E.Core.least c.args.visits.now c.visit_part.new.visits r)
    (λ n x. set_visited w0 w1 w2 g.E.Core.least h r first c.args.visits.now c.visit_part.new.visits n is
    (record {
      valid = g.met.E.Core.valid c.args.engine.now c.args.rel c.requires;
      rows = subst (λ z. z ≤ size_limit) (sym rows) (g.met.E.Core.row_limit c.args.engine.now c.args.rel c.requires);
      cols = subst (λ z. z ≤ size_limit) (sym cols) (g.met.E.Core.col_limit c.args.engine.now c.args.rel c.requires);
    })
    c.first_square-first.ensures.keeps c.first_square-first.ensures.shows x)
    c.visit_part.ensures.value
