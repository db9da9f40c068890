use Rattle.std.proofs.Common.{◌≡◌, ◌<◌, ◌+◌, ◌-◌, ◌*◌, ℕ, length, refl, arith}
use Rattle.rel_model.specs.Cells.{no_cells}
use Rattle.rel_model.specs.Trees.{top_height}
use Rattle.rel_steps.proofs.Empty.{empty_given}
use Rattle.rel_steps.proofs.Making.{begun, goes_on, stops, four_stand}
use Rattle.rel_rows.specs.Rooms.{strip}
use Rattle.rel_rows.proofs.Steps.{strip-down, ends_by}
use Rattle.rel_images.specs.Lines.{bits_of}
use Rattle.rel_images.proofs.Roots.{empty_named, leaf_named, named_parts, over_leaf}
use Rattle.rel_images.proofs.Steps.{half_under}
use Rattle.rel_images.proofs.naming.+named.Given.{Over}
use Rattle.rel_images.proofs.naming.+named.Goals.{Else-height-bottom}
use Rattle.rel_images.proofs.naming.+named.Goals as goal

pub returns-then-ys-k-eq0 : goal.returns-then-ys-k-eq0
returns-then-ys-k-eq0 g t c =
    let a = c.args in
    empty_named g.Q.Core.lean g.Q.Core.least a.height a.k _ (g.Q.Core.worker a.q.now) a.ys.now c.empty.result c.empty.ensures (g.met.Q.Quads.none a.q.now a.height c.requires.low c.requires.high) c.requires.marked c.if-ys-k-eq0.true

pub returns-then-height-bottom : goal.returns-then-height-bottom
returns-then-height-bottom g t c =
    let a = c.args in
    let b = c.bottom.ensures in
    let e = c.if-height-bottom.true in
    leaf_named g.Q.Core.lean g.Q.Core.least a.height a.k (g.Q.Core.worker a.q.now) (g.Q.Core.worker c.named_leaf.new.q) a.ys.now c.named_leaf.result (omega (arith, e, b)) c.named_leaf.ensures

pub named-requires : goal.named-requires
named-requires g t c κs within =
    let a = c.args in
    let over = over_leaf a.height c.bottom.result g.Q.Core.least c.if-height-bottom.false c.bottom.ensures c.requires.low in
    let d = c.decreases in
    let high = c.requires.high in
    let falls : a.height - 1 < t = omega (arith, over, d) in
    let p = (half_under g.Q.Core.least a.height (length a.ys.now) a.k a.ys.now over c.requires.marked c.requires.within).0 in
    (falls, (within, (omega (arith, over), (omega (arith, high), (p.marked, p.from)))))

pub named-requires-2 : goal.named-requires-2
named-requires-2 g t c κs within =
    let a = c.args in
    let over = over_leaf a.height c.bottom.result g.Q.Core.least c.if-height-bottom.false c.bottom.ensures c.requires.low in
    let d = c.decreases in
    let high = c.requires.high in
    let falls : a.height - 1 < t = omega (arith, over, d) in
    let p = (half_under g.Q.Core.least a.height (length a.ys.now) a.k a.ys.now over c.requires.marked c.requires.within).1 in
    (falls, (within, (omega (arith, over), (omega (arith, high), (p.marked, p.from)))))

room : (g : Over) (t : ℕ) (c : Else-height-bottom g t) → strip (c.args.height - g.Q.Core.least) ≡ 2 * strip (c.args.height - 1 - g.Q.Core.least) + 3
room g t c =
    let over = over_leaf c.args.height c.bottom.result g.Q.Core.least c.if-height-bottom.false c.bottom.ensures c.requires.low in
    strip-down (c.args.height - 1) c.args.height g.Q.Core.least (omega (arith, over)) over

pub returns-in_err-west : goal.returns-in_err-west
returns-in_err-west g t c =
    let r = room g t (goal.at.returns-in_err-west g t c).Else-height-bottom in
    stops c.from_residual.result c.from_residual.ensures.1 (omega (arith, r)) (begun {h = 0} _) c.in_err-west.ensures

pub returns-in_err-east : goal.returns-in_err-east
returns-in_err-east g t c =
    let r = room g t (goal.at.returns-in_err-east g t c).Else-height-bottom in
    let u1 = goes_on (begun _) c.in_ok-west.ensures in
    stops c.from_residual-in_err-east.result c.from_residual-in_err-east.ensures.1 (omega (arith, r)) u1 c.in_err-east.ensures

pub corner-requires : goal.corner-requires
unfolding top_height
corner-requires g t c =
    let a = c.args in
    let over = over_leaf a.height c.bottom.result g.Q.Core.least c.if-height-bottom.false c.bottom.ensures c.requires.low in
    let high = c.requires.high in
    let u1 = goes_on (begun _) c.in_ok-west.ensures in
    let u2 = goes_on u1 c.in_ok-east.ensures in
    let none = empty_given _ (a.height - 1) no_cells _ c.empty-none.ensures (g.met.Q.Quads.none c.named-2.new.q (a.height - 1) (omega (arith, over)) (omega (arith, high))) refl in
    let f = four_stand u2.are.1.0 u2.are.0 none none in
    let e = u2.are.1.0.same_height in
    record { nw_stands = f.nw_stands; ne_stands = f.ne_stands; sw_stands = f.sw_stands; se_stands = f.se_stands; ne_height = f.ne_height; sw_height = f.sw_height; se_height = f.se_height; below = omega (arith, e, over, high) }

pub returns : goal.returns
returns g t c =
    let a = c.args in
    let over = over_leaf a.height c.bottom.result g.Q.Core.least c.if-height-bottom.false c.bottom.ensures c.requires.low in
    let high = c.requires.high in
    let r = room g t (goal.at.returns g t c).Else-height-bottom in
    let u1 = goes_on (begun _) c.in_ok-west.ensures in
    let u2 = goes_on u1 c.in_ok-east.ensures in
    let none = empty_given _ (a.height - 1) no_cells _ c.empty-none.ensures (g.met.Q.Quads.none c.named-2.new.q (a.height - 1) (omega (arith, over)) (omega (arith, high))) refl in
    let e = c.corner.ensures in
    ends_by 3 c.corner.result (omega (arith, r)) (named_parts g.Q.Core.least a.height a.k (bits_of a.ys.now) over) u2 u2.are.1.0 u2.are.0 none none e.value e.keeps e.room e.cause
