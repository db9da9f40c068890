use Rattle.std.proofs.Common.{◌≡◌, ◌∙◌, ap, arith}
use Rattle.rel_model.specs.Cells.{Cells}
use Rattle.rel_model.specs.Relation.{has}
use Rattle.rel_model.specs.Roots.{height_over}
use Rattle.rel_model.specs.Worker.{set_of, quad_set}
use Rattle.rel_steps.proofs.Given.{gives_quad_set}
use Rattle.rel_rows.specs.Rows.{added_cells}
use Rattle.rel_rows.proofs.Roots.{added-within, added-gives, row_in_root, root_room, line_lower}
use Rattle.rel_rows.proofs.adding.with_row.Given.{Over}
use Rattle.rel_rows.proofs.adding.with_row.Goals.{In-Ok}
use Rattle.rel_rows.proofs.adding.with_row.Goals as goal

pub with_line-requires-clause-no_higher : goal.with_line-requires-clause-no_higher
with_line-requires-clause-no_higher g c =
    let r = c.args.r in
    let line = c.args.line in
    let least = g.Q.Core.least in
    let low = line_lower least r.rows r.cols (g.met.Q.Core.col_limit c.args.q.now r c.requires.standing) in
    let one = ap (λ x. height_over least x line.cols) c.requires.one_row in
    let wide = ap (λ x. height_over least 1 x) c.requires.cols in
    omega (arith, low, one, wide, c.root-added.ensures.same_height, c.root-quad.ensures.same_height)

pub with_line-requires-clause-within : goal.with_line-requires-clause-within
with_line-requires-clause-within g c =
    let r = c.args.r in
    row_in_root g.Q.Core.least r.rows r.cols c.root-quad.result.height c.args.i (g.met.Q.Core.row_limit c.args.q.now r c.requires.standing) c.root-quad.ensures.same_height c.requires.within

-- the quad has the cells of the relation and of the line
whole : (g : Over) (c : In-Ok g) → quad_set (g.Q.Core.worker c.with_line.new.q) c.in-Ok.whole ≡ added_cells c.args.i (has (set_of (g.Q.Core.worker c.args.q.now) c.args.line)) (has (set_of (g.Q.Core.worker c.args.q.now) c.args.r))
whole g c =
    let w = g.Q.Core.worker c.args.q.now in
    let r = c.args.r in
    let line = c.args.line in
    let i = c.args.i in
    let quad = c.root-quad.result in
    let added = c.root-added.result in
    gives_quad_set (g.Q.Core.worker c.with_line.new.q) quad.height (added_cells i (quad_set w added) (quad_set w quad)) c.in-Ok.whole c.in-Ok.ensures.value
    ∙ ap (λ (x : Cells). added_cells i x (quad_set w quad)) (gives_quad_set w (height_over g.Q.Core.least line.rows line.cols) (has (set_of w line)) added c.root-added.ensures)
    ∙ ap (added_cells i (has (set_of w line))) (gives_quad_set w (height_over g.Q.Core.least r.rows r.cols) (has (set_of w r)) quad c.root-quad.ensures)

pub rel-requires-clause-within : goal.rel-requires-clause-within
rel-requires-clause-within g c =
    let w = g.Q.Core.worker c.args.q.now in
    let r = c.args.r in
    let line = c.args.line in
    let old = c.args.q.now in
    added-within (set_of w r) (set_of w line) c.args.i r.rows r.cols (quad_set (g.Q.Core.worker c.with_line.new.q) c.in-Ok.whole)
    (g.met.Q.Core.valid old r c.requires.standing) (g.met.Q.Core.valid old line c.requires.line)
    (g.met.Q.Core.row_size old r c.requires.standing) (g.met.Q.Core.col_size old r c.requires.standing) (g.met.Q.Core.col_size old line c.requires.line ∙ c.requires.cols) c.requires.within
    (whole g (goal.at.rel-requires-clause-within g c).In-Ok)

pub returns-in-Ok-clause-value : goal.returns-in-Ok-clause-value
returns-in-Ok-clause-value g c =
    let w = g.Q.Core.worker c.args.q.now in
    let r = c.args.r in
    let line = c.args.line in
    let old = c.args.q.now in
    added-gives (g.Q.Core.worker c.with_line.new.q) (set_of w r) (set_of w line) c.args.i r.rows r.cols (quad_set (g.Q.Core.worker c.with_line.new.q) c.in-Ok.whole) c.rel.result
    (g.met.Q.Core.row_size old r c.requires.standing) (g.met.Q.Core.col_size old r c.requires.standing)
    (whole g (goal.at.returns-in-Ok-clause-value g c).In-Ok) c.rel.ensures

pub returns-in-Ok-clause-room : goal.returns-in-Ok-clause-room
returns-in-Ok-clause-room g c =
    let p = root_room g.Q.Core.least c.args.r.rows c.args.r.cols c.root-quad.result.height c.root-quad.ensures.same_height in
    omega (arith, p, c.in-Ok.ensures.room)

pub returns-in-Err-clause-room : goal.returns-in-Err-clause-room
returns-in-Err-clause-room g c =
    let p = root_room g.Q.Core.least c.args.r.rows c.args.r.cols c.root-quad.result.height c.root-quad.ensures.same_height in
    omega (arith, p, c.with_line.ensures.room)
