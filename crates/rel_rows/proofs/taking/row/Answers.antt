use Rattle.std.proofs.Common.{◌≡◌, ◌^◌, ◌∙◌, ap, arith}
use Rattle.rel_model.specs.Relation.{has}
use Rattle.rel_model.specs.Roots.{height_over}
use Rattle.rel_model.specs.Worker.{set_of, quad_set}
use Rattle.rel_steps.proofs.Given.{gives_has, gives_quad_set}
use Rattle.rel_rows.specs.Rows.{row_cells}
use Rattle.rel_rows.proofs.Roots.{row-within, row-gives, row_in_root, root_room, root_narrow, root_wide}
use Rattle.rel_rows.proofs.taking.row.Given.{Over}
use Rattle.rel_rows.proofs.taking.row.Goals.{In-Ok}
use Rattle.rel_rows.proofs.taking.row.Goals as goal

pub row_within-requires-clause-fits : goal.row_within-requires-clause-fits
row_within-requires-clause-fits g c =
    let r = c.args.r in
    root_wide g.Q.Core.least r.rows r.cols c.root-quad.result.height (g.met.Q.Core.col_limit c.args.q.now r c.requires.standing) c.root-quad.ensures.same_height

pub row_within-requires-clause-narrow : goal.row_within-requires-clause-narrow
row_within-requires-clause-narrow g c =
    let r = c.args.r in
    let w = g.Q.Core.worker c.args.q.now in
    let h = height_over g.Q.Core.least r.rows r.cols in
    let quad = c.root-quad.result in
    root_narrow (set_of w r) (2 ^ quad.height) r.cols (quad_set w quad) (g.met.Q.Core.valid c.args.q.now r c.requires.standing) (g.met.Q.Core.col_size c.args.q.now r c.requires.standing)
    (gives_quad_set w h (has (set_of w r)) quad c.root-quad.ensures) (g.met.Q.Quads.square c.args.q.now quad (gives_has w h (has (set_of w r)) quad c.root-quad.ensures))

pub row_within-requires-clause-within : goal.row_within-requires-clause-within
row_within-requires-clause-within g c =
    let r = c.args.r in
    row_in_root g.Q.Core.least r.rows r.cols c.root-quad.result.height c.args.i (g.met.Q.Core.row_limit c.args.q.now r c.requires.standing) c.root-quad.ensures.same_height c.requires.within

-- the quad of the row has its cells
line : (g : Over) (c : In-Ok g) → quad_set (g.Q.Core.worker c.row_within.new.q) c.in-Ok.line ≡ row_cells c.args.i (has (set_of (g.Q.Core.worker c.args.q.now) c.args.r))
line g c =
    let w = g.Q.Core.worker c.args.q.now in
    let r = c.args.r in
    let quad = c.root-quad.result in
    gives_quad_set (g.Q.Core.worker c.row_within.new.q) (height_over g.Q.Core.least 1 r.cols) (row_cells c.args.i (quad_set w quad)) c.in-Ok.line c.in-Ok.ensures.value
    ∙ ap (row_cells c.args.i) (gives_quad_set w (height_over g.Q.Core.least r.rows r.cols) (has (set_of w r)) quad c.root-quad.ensures)

pub rel-requires-clause-within : goal.rel-requires-clause-within
rel-requires-clause-within g c =
    let w = g.Q.Core.worker c.args.q.now in
    let r = c.args.r in
    row-within (set_of w r) c.args.i r.cols (quad_set (g.Q.Core.worker c.row_within.new.q) c.in-Ok.line) (g.met.Q.Core.valid c.args.q.now r c.requires.standing) (g.met.Q.Core.col_size c.args.q.now r c.requires.standing)
    (line g (goal.at.rel-requires-clause-within g c).In-Ok)

pub returns-in-Ok-clause-value : goal.returns-in-Ok-clause-value
returns-in-Ok-clause-value g c =
    let w = g.Q.Core.worker c.args.q.now in
    let r = c.args.r in
    row-gives (g.Q.Core.worker c.row_within.new.q) (set_of w r) c.args.i r.cols (quad_set (g.Q.Core.worker c.row_within.new.q) c.in-Ok.line) c.rel.result (g.met.Q.Core.col_size c.args.q.now r c.requires.standing)
    (line g (goal.at.returns-in-Ok-clause-value g c).In-Ok) c.rel.ensures

pub returns-in-Ok-clause-room : goal.returns-in-Ok-clause-room
returns-in-Ok-clause-room g c =
    let p = root_room g.Q.Core.least c.args.r.rows c.args.r.cols c.root-quad.result.height c.root-quad.ensures.same_height in
    omega (arith, p, c.in-Ok.ensures.room)

pub returns-in-Err-clause-room : goal.returns-in-Err-clause-room
returns-in-Err-clause-room g c =
    let p = root_room g.Q.Core.least c.args.r.rows c.args.r.cols c.root-quad.result.height c.root-quad.ensures.same_height in
    omega (arith, p, c.row_within.ensures.room)
