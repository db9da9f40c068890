use Rattle.std.proofs.Common.{◌≡◌, ◌+◌, ◌-◌, ◌^◌, ◌∙◌, ℕ, ap, arith, rules}
use Rattle.rel_domains.specs.Rules.{rule_cells}
use Rattle.rel_domains.proofs.Places.{side_step}
use Rattle.rel_domains.proofs.Windows.{square_parts, like}
use Rattle.rel_domains.proofs.Steps.{room_step, room_some}
use Rattle.rel_steps.proofs.Making.{begun, goes_on, failed, stops, four_stand, ends, corner_made}
use Rattle.rel_domains.proofs.square.+square.Given.{Over}
use Rattle.rel_domains.proofs.square.+square.Goals.{After-side_of-half}
use Rattle.rel_domains.proofs.square.+square.Goals as goal

-- half the side is that of the height below
half : (g : Over) (t : ℕ) (c : After-side_of-half g t) → c.side_of-half.result ≡ 2 ^ (g.Q.Core.least + (c.args.depth - 1))
half g t c = c.side_of-half.ensures ∙ ap (λ k. 2 ^ k) (omega (arith, c.bottom.ensures, c.if-depth-eq0.false))

pub square-requires : goal.square-requires
square-requires g t c κs within =
    let s = side_step g.Q.Core.least c.args.depth c.if-depth-eq0.false in
    let h = half g t (goal.at.square-requires g t c).After-side_of-half in
    (search rules, (within, (omega (arith, c.requires.high, c.if-depth-eq0.false), (c.requires.rule, (omega (arith, s, h, c.requires.row), omega (arith, s, h, c.requires.col))))))

pub square-requires-2 : goal.square-requires-2
square-requires-2 g t c κs within =
    let s = side_step g.Q.Core.least c.args.depth c.if-depth-eq0.false in
    let h = half g t (goal.at.square-requires-2 g t c).After-side_of-half in
    (search rules, (within, (omega (arith, c.requires.high, c.if-depth-eq0.false), (c.requires.rule, (omega (arith, s, h, c.requires.row), omega (arith, s, h, c.requires.col))))))

pub square-requires-3 : goal.square-requires-3
square-requires-3 g t c κs within =
    let s = side_step g.Q.Core.least c.args.depth c.if-depth-eq0.false in
    let h = half g t (goal.at.square-requires-3 g t c).After-side_of-half in
    (search rules, (within, (omega (arith, c.requires.high, c.if-depth-eq0.false), (c.requires.rule, (omega (arith, s, h, c.requires.row), omega (arith, s, h, c.requires.col))))))

pub square-requires-4 : goal.square-requires-4
square-requires-4 g t c κs within =
    let s = side_step g.Q.Core.least c.args.depth c.if-depth-eq0.false in
    let h = half g t (goal.at.square-requires-4 g t c).After-side_of-half in
    (search rules, (within, (omega (arith, c.requires.high, c.if-depth-eq0.false), (c.requires.rule, (omega (arith, s, h, c.requires.row), omega (arith, s, h, c.requires.col))))))

-- ---- a leaf
pub returns-in_err-leaf : goal.returns-in_err-leaf
returns-in_err-leaf g t c =
    let r = room_some c.args.depth in
    let e = c.in_err-leaf.ensures in
    stops c.from_residual.result c.from_residual.ensures.1 (omega (arith, r)) (begun {h = 0} _) (failed 1 e.keeps e.room e.cause)

-- ---- a quarter is missed
pub returns-in_err-nw : goal.returns-in_err-nw
returns-in_err-nw g t c =
    let r = room_step c.args.depth c.if-depth-eq0.false in
    stops c.from_residual-in_err-nw.result c.from_residual-in_err-nw.ensures.1 (omega (arith, r)) (begun {h = 0} _) c.in_err-nw.ensures

pub returns-in_err-ne : goal.returns-in_err-ne
returns-in_err-ne g t c =
    let r = room_step c.args.depth c.if-depth-eq0.false in
    let u1 = goes_on (begun _) c.in_ok-nw.ensures in
    stops c.from_residual-in_err-ne.result c.from_residual-in_err-ne.ensures.1 (omega (arith, r)) u1 c.in_err-ne.ensures

pub returns-in_err-sw : goal.returns-in_err-sw
returns-in_err-sw g t c =
    let r = room_step c.args.depth c.if-depth-eq0.false in
    let u1 = goes_on (begun _) c.in_ok-nw.ensures in
    let u2 = goes_on u1 c.in_ok-ne.ensures in
    stops c.from_residual-in_err-sw.result c.from_residual-in_err-sw.ensures.1 (omega (arith, r)) u2 c.in_err-sw.ensures

pub returns-in_err-se : goal.returns-in_err-se
returns-in_err-se g t c =
    let r = room_step c.args.depth c.if-depth-eq0.false in
    let u1 = goes_on (begun _) c.in_ok-nw.ensures in
    let u2 = goes_on u1 c.in_ok-ne.ensures in
    let u3 = goes_on u2 c.in_ok-sw.ensures in
    stops c.from_residual-in_err-se.result c.from_residual-in_err-se.ensures.1 (omega (arith, r)) u3 c.in_err-se.ensures

-- ---- the corner is missed
pub returns-in_err-twice : goal.returns-in_err-twice
returns-in_err-twice g t c =
    let r = room_step c.args.depth c.if-depth-eq0.false in
    let u1 = goes_on (begun _) c.in_ok-nw.ensures in
    let u2 = goes_on u1 c.in_ok-ne.ensures in
    let e = c.in_err-twice.ensures in
    stops c.from_residual-in_err-twice.result c.from_residual-in_err-twice.ensures.1 (omega (arith, r)) u2 (failed 3 e.keeps e.room e.cause)

pub returns-in_err-regular : goal.returns-in_err-regular
returns-in_err-regular g t c =
    let r = room_step c.args.depth c.if-depth-eq0.false in
    let u1 = goes_on (begun _) c.in_ok-nw.ensures in
    let u2 = goes_on u1 c.in_ok-ne.ensures in
    let u3 = goes_on u2 c.in_ok-sw.ensures in
    let e = c.in_err-regular.ensures in
    stops c.from_residual-in_err-regular.result c.from_residual-in_err-regular.ensures.1 (omega (arith, r)) u3 (failed 3 e.keeps e.room e.cause)

pub returns-in_err-corner : goal.returns-in_err-corner
returns-in_err-corner g t c =
    let r = room_step c.args.depth c.if-depth-eq0.false in
    let u1 = goes_on (begun _) c.in_ok-nw.ensures in
    let u2 = goes_on u1 c.in_ok-ne.ensures in
    let u3 = goes_on u2 c.in_ok-sw.ensures in
    let u4 = goes_on u3 c.in_ok-se.ensures in
    let e = c.in_err-corner.ensures in
    stops c.from_residual-in_err-corner.result c.from_residual-in_err-corner.ensures.1 (omega (arith, r)) u4 (failed 3 e.keeps e.room e.cause)

-- ---- the corner is made
pub returns-then-repeats : goal.returns-then-repeats
returns-then-repeats g t c =
    let h = half g t (goal.at.returns-then-repeats g t c).After-side_of-half in
    let f = rule_cells c.args.shape.rows c.args.shape.cols c.args.rule in
    let p = square_parts g.Q.Core.least c.args.depth c.side_of-half.result c.args.row c.args.col f c.if-depth-eq0.false h in
    let r = room_step c.args.depth c.if-depth-eq0.false in
    let u1 = goes_on (begun _) c.in_ok-nw.ensures in
    let u2 = goes_on u1 c.in_ok-ne.ensures in
    let same = c.repeats.ensures c.if-repeats.true in
    let e = c.in_ok-twice.ensures in
    ends 3 (omega (arith, r)) p u2 u2.are.1.0 u2.are.0 (like (c.args.row + c.side_of-half.result) c.args.col c.args.row c.args.col f h (same c.args.col) u2.are.1.0) (like (c.args.row + c.side_of-half.result) (c.args.col + c.side_of-half.result) c.args.row (c.args.col + c.side_of-half.result) f h (same (c.args.col + c.side_of-half.result)) u2.are.0) e.value e.keeps e.room e.cause

pub returns-then-goes_on : goal.returns-then-goes_on
returns-then-goes_on g t c =
    let h = half g t (goal.at.returns-then-goes_on g t c).After-side_of-half in
    let f = rule_cells c.args.shape.rows c.args.shape.cols c.args.rule in
    let p = square_parts g.Q.Core.least c.args.depth c.side_of-half.result c.args.row c.args.col f c.if-depth-eq0.false h in
    let r = room_step c.args.depth c.if-depth-eq0.false in
    let u1 = goes_on (begun _) c.in_ok-nw.ensures in
    let u2 = goes_on u1 c.in_ok-ne.ensures in
    let u3 = goes_on u2 c.in_ok-sw.ensures in
    let e = c.in_ok-regular.ensures in
    ends 3 (omega (arith, r)) p u3 u3.are.1.1.0 u3.are.1.0 u3.are.0 (like (c.args.row + c.side_of-half.result) (c.args.col + c.side_of-half.result) c.args.row c.args.col f h (c.goes_on.ensures c.if-goes_on.true) u3.are.1.1.0) e.value e.keeps e.room e.cause

pub returns : goal.returns
returns g t c =
    let h = half g t (goal.at.returns g t c).After-side_of-half in
    let f = rule_cells c.args.shape.rows c.args.shape.cols c.args.rule in
    let p = square_parts g.Q.Core.least c.args.depth c.side_of-half.result c.args.row c.args.col f c.if-depth-eq0.false h in
    let r = room_step c.args.depth c.if-depth-eq0.false in
    let u1 = goes_on (begun _) c.in_ok-nw.ensures in
    let u2 = goes_on u1 c.in_ok-ne.ensures in
    let u3 = goes_on u2 c.in_ok-sw.ensures in
    let u4 = goes_on u3 c.in_ok-se.ensures in
    let e = c.in_ok-corner.ensures in
    corner_made (omega (arith, r)) p u4 e.value e.keeps e.room e.cause

-- ---- what the corner asks for
pub corner-requires : goal.corner-requires
corner-requires g t c =
    let u1 = goes_on (begun _) c.in_ok-nw.ensures in
    let u2 = goes_on u1 c.in_ok-ne.ensures in
    let a = u2.are in
    let h = c.in_ok-nw.ensures.value.same_height in
    let f = four_stand a.1.0 a.0 a.1.0 a.0 in
    record { nw_stands = f.nw_stands; ne_stands = f.ne_stands; sw_stands = f.sw_stands; se_stands = f.se_stands; ne_height = f.ne_height; sw_height = f.sw_height; se_height = f.se_height; below = omega (arith, h, c.requires.high, c.if-depth-eq0.false) }

pub corner-requires-then-goes_on : goal.corner-requires-then-goes_on
corner-requires-then-goes_on g t c =
    let u1 = goes_on (begun _) c.in_ok-nw.ensures in
    let u2 = goes_on u1 c.in_ok-ne.ensures in
    let u3 = goes_on u2 c.in_ok-sw.ensures in
    let a = u3.are in
    let h = c.in_ok-nw.ensures.value.same_height in
    let f = four_stand a.1.1.0 a.1.0 a.0 a.1.1.0 in
    record { nw_stands = f.nw_stands; ne_stands = f.ne_stands; sw_stands = f.sw_stands; se_stands = f.se_stands; ne_height = f.ne_height; sw_height = f.sw_height; se_height = f.se_height; below = omega (arith, h, c.requires.high, c.if-depth-eq0.false) }

pub corner-requires-2 : goal.corner-requires-2
corner-requires-2 g t c =
    let u1 = goes_on (begun _) c.in_ok-nw.ensures in
    let u2 = goes_on u1 c.in_ok-ne.ensures in
    let u3 = goes_on u2 c.in_ok-sw.ensures in
    let u4 = goes_on u3 c.in_ok-se.ensures in
    let a = u4.are in
    let h = c.in_ok-nw.ensures.value.same_height in
    let f = four_stand a.1.1.1.0 a.1.1.0 a.1.0 a.0 in
    record { nw_stands = f.nw_stands; ne_stands = f.ne_stands; sw_stands = f.sw_stands; se_stands = f.se_stands; ne_height = f.ne_height; sw_height = f.sw_height; se_height = f.se_height; below = omega (arith, h, c.requires.high, c.if-depth-eq0.false) }
