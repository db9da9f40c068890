use Rattle.std.proofs.Common.{◌<◌, ◌≤◌, ◌-◌, ◌^◌, ℕ, length, arith}
use Rattle.rel_model.specs.Trees.{top_height}
use Rattle.rel_images.specs.Lines.{bits_of}
use Rattle.rel_images.proofs.Roots.{line_named, west_line, west_narrow, west_named, over_leaf}
use Rattle.rel_images.proofs.Steps.{half_under}
use Rattle.rel_images.proofs.naming.+named_within.Goals as goal

pub returns-then-height-bottom : goal.returns-then-height-bottom
returns-then-height-bottom g t c =
    let a = c.args in
    let b = c.bottom.ensures in
    let e = c.if-height-bottom.true in
    line_named g.Q.Core.lean g.Q.Core.least a.cols a.height _ (g.Q.Core.worker a.q.now) (g.Q.Core.worker c.named.new.q) c.named.result c.requires.limit c.requires.low c.requires.fits (λ l. absurd (omega (arith, l, e, b))) c.named.ensures

pub returns-then-cols-half : goal.returns-then-cols-half
returns-then-cols-half g t c =
    let a = c.args in
    let m = c.if-cols-half.true in
    let s = c.side_of-half.ensures in
    line_named g.Q.Core.lean g.Q.Core.least a.cols a.height _ (g.Q.Core.worker a.q.now) (g.Q.Core.worker c.named-then-cols-half.new.q) c.named-then-cols-half.result c.requires.limit c.requires.low c.requires.fits (λ l. omega (arith, m, s)) c.named-then-cols-half.ensures

pub side_of-half-requires : goal.side_of-half-requires
unfolding top_height
side_of-half-requires g t c = let high = c.requires.high in omega (arith, high)

pub named_within-requires : goal.named_within-requires
named_within-requires g t c κs within =
    let a = c.args in
    let least : ℕ = g.Q.Core.least in
    let over = over_leaf a.height c.bottom.result least c.if-height-bottom.false c.bottom.ensures c.requires.low in
    let d = c.decreases in
    let high = c.requires.high in
    let m = c.if-cols-half.false in
    let s = c.side_of-half.ensures in
    let falls : a.height - 1 < t = omega (arith, over, d) in
    let p = (half_under least a.height (length a.ys.now) a.k a.ys.now over c.requires.marked c.requires.within).0 in
    let fits : a.cols ≤ 2 ^ (a.height - 1) = omega (arith, m, s) in
    let narrow = west_narrow least a.height a.k a.cols (bits_of a.ys.now) over fits c.requires.narrow in
    (falls, (within, (omega (arith, over), (omega (arith, high), (p.marked, (p.from, (c.requires.limit, (fits, narrow))))))))

pub returns : goal.returns
returns g t c =
    let a = c.args in
    let over = over_leaf a.height c.bottom.result g.Q.Core.least c.if-height-bottom.false c.bottom.ensures c.requires.low in
    let m = c.if-cols-half.false in
    let s = c.side_of-half.ensures in
    west_named g.Q.Core.lean g.Q.Core.least a.height a.k a.cols _ _ (bits_of a.ys.now) (g.Q.Core.worker a.q.now) (g.Q.Core.worker c.named_within.new.q) c.named_within.result
    (west_line g.Q.Core.least a.height a.k a.cols (bits_of a.ys.now) over (omega (arith, m, s)) c.requires.narrow) c.named_within.ensures
