use Rattle.std.proofs.Common.{◌<◌, ◌-◌, ◌*◌, ℕ, arith}
use Rattle.rel_model.specs.Trees.{top_height}
use Rattle.rel_steps.proofs.Given.{kept_quad}
use Rattle.rel_steps.proofs.Making.{goes_on, stops}
use Rattle.rel_rows.specs.Rooms.{strip}
use Rattle.rel_rows.proofs.Steps.{makes_at, ends_by, goes_on_two, failed_two}
use Rattle.rel_rows.proofs.Corners.{CrossesLow, crosses_low, CrossesOver, crosses_over, makes_two_at}
use Rattle.rel_rows.proofs.merging.+line.Given.{Over}
use Rattle.rel_rows.proofs.merging.+line.Goals.{with_low_line-After-side_of-half, with_line_over-After-side_of-half}
use Rattle.rel_rows.proofs.merging.+line.Goals as goal

-- ---- a lower line
pub with_low_line-side_of-half-requires : goal.with_low_line-side_of-half-requires
unfolding top_height
with_low_line-side_of-half-requires g t c = g.met.Q.Quads.high_height c.quarters.new.self c.quarters.result.nw c.quarters.ensures.quarters.nw

low : (g : Over) (t : ℕ) (c : with_low_line-After-side_of-half g t) → CrossesLow g.Q.Core.least c.args.i c.side_of-half.result (g.Q.Core.worker c.args.q.now) (g.Q.Core.worker c.quarters.new.self) c.args.quad c.args.line c.quarters.result
low g t c =
    let a = c.args in
    let e = c.quarters.ensures in
    let u = g.Q.Core.worker a.q.now in
    let v = g.Q.Core.worker c.quarters.new.self in
    crosses_low g.Q.Core.least a.i c.side_of-half.result u v a.quad a.line c.quarters.result c.requires.over c.requires.low c.requires.line_stands
    (g.met.Q.Quads.square c.quarters.new.self a.line (kept_quad u v a.line e.keeps c.requires.line_stands)) c.side_of-half.ensures e.quarters e.keeps e.room e.misses

pub with_low_line-returns-in_err-north : goal.with_low_line-returns-in_err-north
with_low_line-returns-in_err-north g t c =
    let p = low g t (goal.at.with_low_line-returns-in_err-north g t c).After-side_of-half in
    let r = p.room in
    stops c.from_residual.result c.from_residual.ensures.1 (omega (arith, r)) p.begun c.in_err-north.ensures

pub with_low_line-returns-then-i-half : goal.with_low_line-returns-then-i-half
with_low_line-returns-then-i-half g t c =
    let p = low g t (goal.at.with_low_line-returns-then-i-half g t c).After-side_of-half in
    let r = p.room in
    let u1 = goes_on p.begun c.in_ok-north.ensures in
    let f = c.corner.ensures in
    ends_by 3 c.corner.result (omega (arith, r)) (p.north c.if-i-half.true) u1 u1.are.0 u1.are.1.1.1.0 u1.are.1.1.0 u1.are.1.0 f.value f.keeps f.room f.cause

pub with_low_line-returns-in_err-south : goal.with_low_line-returns-in_err-south
with_low_line-returns-in_err-south g t c =
    let p = low g t (goal.at.with_low_line-returns-in_err-south g t c).After-side_of-half in
    let r = p.room in
    stops c.from_residual-in_err-south.result c.from_residual-in_err-south.ensures.1 (omega (arith, r)) p.begun (makes_at (λ x. strip (x - g.Q.Core.least)) p.level c.in_err-south.ensures)

pub with_low_line-returns : goal.with_low_line-returns
with_low_line-returns g t c =
    let p = low g t (goal.at.with_low_line-returns g t c).After-side_of-half in
    let r = p.room in
    let u1 = goes_on p.begun (makes_at (λ x. strip (x - g.Q.Core.least)) p.level c.in_ok-south.ensures) in
    let f = c.corner-2.ensures in
    ends_by 3 c.corner-2.result (omega (arith, r)) (p.south (omega (arith, c.if-i-half.false))) u1 u1.are.1.1.1.1.0 u1.are.1.1.1.0 u1.are.0 u1.are.1.0 f.value f.keeps f.room f.cause

-- ---- a line as high
pub with_line_over-side_of-half-requires : goal.with_line_over-side_of-half-requires
unfolding top_height
with_line_over-side_of-half-requires g t c = g.met.Q.Quads.high_height c.quarters.new.self c.quarters.result.nw c.quarters.ensures.quarters.nw

over : (g : Over) (t : ℕ) (c : with_line_over-After-side_of-half g t)
    → CrossesOver g.Q.Core.least c.args.i c.side_of-half.result (g.Q.Core.worker c.args.q.now) (g.Q.Core.worker c.quarters-2.new.self) c.args.quad c.args.line c.quarters.result c.quarters-2.result
over g t c =
    let a = c.args in
    let e = c.quarters.ensures in
    let f = c.quarters-2.ensures in
    crosses_over g.Q.Core.least a.i c.side_of-half.result (g.Q.Core.worker a.q.now) (g.Q.Core.worker c.quarters.new.self) (g.Q.Core.worker c.quarters-2.new.self) a.quad a.line c.quarters.result c.quarters-2.result
    c.requires.over c.requires.one_height c.requires.line_stands c.side_of-half.ensures e.quarters e.keeps e.room e.misses f.quarters f.keeps f.room f.misses

-- no quarter is as high as a square may be
below : (g : Over) (t : ℕ) (c : with_line_over-After-side_of-half g t) → c.quarters.result.nw.height < top_height
below g t c = let n = c.quarters.ensures.quarters.nw_height in let h = g.met.Q.Quads.high_height c.args.q.now c.args.quad c.requires.stands in omega (arith, n, h)

pub with_line_over-returns-in_err-north : goal.with_line_over-returns-in_err-north
with_line_over-returns-in_err-north g t c =
    let p = over g t (goal.at.with_line_over-returns-in_err-north g t c).After-side_of-half in
    let r = p.room in
    stops c.from_residual.result c.from_residual.ensures.1 (omega (arith, r)) p.begun (failed_two c.in_err-north.ensures)

pub with_line_over-corner-requires-clause-below : goal.with_line_over-corner-requires-clause-below
with_line_over-corner-requires-clause-below g t c =
    let b = below g t (goal.at.with_line_over-corner-requires-clause-below g t c).After-side_of-half in
    let h = c.in_ok-north.ensures.value.0.same_height in
    omega (arith, b, h)

pub with_line_over-returns-then-i-half : goal.with_line_over-returns-then-i-half
with_line_over-returns-then-i-half g t c =
    let p = over g t (goal.at.with_line_over-returns-then-i-half g t c).After-side_of-half in
    let r = p.room in
    let u1 = goes_on_two p.begun c.in_ok-north.ensures in
    let f = c.corner.ensures in
    ends_by 3 c.corner.result (omega (arith, r)) (p.north c.if-i-half.true) u1 u1.are.1.0 u1.are.0 u1.are.1.1.1.0 u1.are.1.1.0 f.value f.keeps f.room f.cause

pub with_line_over-returns-in_err-south : goal.with_line_over-returns-in_err-south
with_line_over-returns-in_err-south g t c =
    let p = over g t (goal.at.with_line_over-returns-in_err-south g t c).After-side_of-half in
    let r = p.room in
    stops c.from_residual-in_err-south.result c.from_residual-in_err-south.ensures.1 (omega (arith, r)) p.begun (failed_two (makes_two_at (λ x. 2 * strip (x - g.Q.Core.least)) p.level c.in_err-south.ensures))

pub with_line_over-corner-requires-2-clause-below : goal.with_line_over-corner-requires-2-clause-below
with_line_over-corner-requires-2-clause-below g t c = below g t (goal.at.with_line_over-corner-requires-2-clause-below g t c).After-side_of-half

pub with_line_over-returns : goal.with_line_over-returns
with_line_over-returns g t c =
    let p = over g t (goal.at.with_line_over-returns g t c).After-side_of-half in
    let r = p.room in
    let u1 = goes_on_two p.begun (makes_two_at (λ x. 2 * strip (x - g.Q.Core.least)) p.level c.in_ok-south.ensures) in
    let f = c.corner-2.ensures in
    ends_by 3 c.corner-2.result (omega (arith, r)) (p.south (omega (arith, c.if-i-half.false))) u1 u1.are.1.1.1.1.1.0 u1.are.1.1.1.1.0 u1.are.1.0 u1.are.0 f.value f.keeps f.room f.cause
