use Rattle.std.proofs.Common.{◌≡◌, ◌-◌, refl, sym, ap, arith}
use Rattle.rel_model.specs.Cells.{no_cells}
use Rattle.rel_model.specs.Trees.{top_height}
use Rattle.rel_model.specs.Worker.{quad_set}
use Rattle.rel_steps.proofs.Empty.{empty_given}
use Rattle.rel_steps.proofs.Given.{kept_set}
use Rattle.rel_steps.proofs.Making.{begun, goes_on, stops}
use Rattle.rel_rows.specs.Rooms.{strip}
use Rattle.rel_rows.specs.Rows.{row_cells}
use Rattle.rel_rows.proofs.Steps.{strip-step, same_quad, gives_same, makes_same, makes_at, row_parts, ends_by}
use Rattle.rel_rows.proofs.strips.+row.Goals as goal

pub row_over-side_of-half-requires : goal.row_over-side_of-half-requires
unfolding top_height
row_over-side_of-half-requires g t c = g.met.Q.Quads.high_height c.quarters.new.self c.quarters.result.nw c.quarters.ensures.quarters.nw

pub row_of_two-returns-in_err-left : goal.row_of_two-returns-in_err-left
row_of_two-returns-in_err-left g t c =
    let r = strip-step c.args.west.height g.Q.Core.least (g.met.Q.Quads.low_height c.args.q.now c.args.west c.requires.west_stands) in
    stops c.from_residual.result c.from_residual.ensures.1 (omega (arith, r)) (begun {h = 0} _) c.in_err-left.ensures

pub row_of_two-returns-then-east-west : goal.row_of_two-returns-then-east-west
row_of_two-returns-then-east-west g t c =
    let a = c.args in
    let low = g.met.Q.Quads.low_height a.q.now a.west c.requires.west_stands in
    let high = g.met.Q.Quads.high_height a.q.now a.west c.requires.west_stands in
    let r = strip-step a.west.height g.Q.Core.least low in
    let u1 = goes_on (begun _) c.in_ok-left.ensures in
    let old = g.Q.Core.worker a.q.now in
    let same : a.west ≡ a.east = sym (same_quad a.east a.west c.requires.one_height c.if-east-west.true) in
    let east = gives_same (ap (λ x. row_cells a.i (quad_set old x)) same) u1.are.0 in
    let none = empty_given _ a.west.height no_cells _ c.empty-none.ensures (g.met.Q.Quads.none c.row_in_quad.new.q a.west.height low high) refl in
    let e = c.corner.ensures in
    ends_by 3 c.corner.result (omega (arith, r)) (row_parts a.west.height a.i (quad_set old a.west) (quad_set old a.east)) u1 u1.are.0 east none none e.value e.keeps e.room e.cause

pub row_of_two-returns-in_err-right : goal.row_of_two-returns-in_err-right
row_of_two-returns-in_err-right g t c =
    let least = g.Q.Core.least in
    let r = strip-step c.args.west.height least (g.met.Q.Quads.low_height c.args.q.now c.args.west c.requires.west_stands) in
    let u1 = goes_on (begun _) c.in_ok-left.ensures in
    stops c.from_residual-in_err-right.result c.from_residual-in_err-right.ensures.1 (omega (arith, r)) u1 (makes_at (λ x. strip (x - least)) c.requires.one_height c.in_err-right.ensures)

pub row_of_two-returns : goal.row_of_two-returns
row_of_two-returns g t c =
    let a = c.args in
    let least = g.Q.Core.least in
    let low = g.met.Q.Quads.low_height a.q.now a.west c.requires.west_stands in
    let high = g.met.Q.Quads.high_height a.q.now a.west c.requires.west_stands in
    let r = strip-step a.west.height least low in
    let old = g.Q.Core.worker a.q.now in
    let u1 = goes_on (begun _) c.in_ok-left.ensures in
    let kept = kept_set old (g.Q.Core.worker c.row_in_quad.new.q) a.east u1.keeps c.requires.east_stands in
    let u2 = goes_on u1 (makes_same (ap (row_cells a.i) kept) (makes_at (λ x. strip (x - least)) c.requires.one_height c.in_ok-right.ensures)) in
    let none = empty_given _ a.west.height no_cells _ c.empty-none.ensures (g.met.Q.Quads.none c.row_in_quad-2.new.q a.west.height low high) refl in
    let e = c.corner-2.ensures in
    ends_by 3 c.corner-2.result (omega (arith, r)) (row_parts a.west.height a.i (quad_set old a.west) (quad_set old a.east)) u2 u2.are.1.0 u2.are.0 none none e.value e.keeps e.room e.cause
