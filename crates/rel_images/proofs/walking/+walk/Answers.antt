use Rattle.std.proofs.Common.{◌<◌, ◌+◌, ◌*◌, ◌∙◌, ℕ, length, arith}
use Rattle.rel_model.specs.Worker.{quad_set}
use Rattle.rel_model.proofs.Workers.{keeps_trans}
use Rattle.rel_steps.proofs.Given.{kept_quad}
use Rattle.rel_images.specs.Lines.{turned_cells}
use Rattle.rel_images.proofs.Steps.{walks_nothing, walks_leaf, walks_four, image_bits-empty, image_bits-unmet, image_bits-leaf, FourUnder, four_under, half_within}
use Rattle.rel_images.proofs.Roots.{over_leaf}
use Rattle.rel_images.proofs.walking.+walk.Given.{Over}
use Rattle.rel_images.proofs.walking.+walk.Goals.{visit-After-turned_quarters}
use Rattle.rel_images.proofs.walking.+walk.Goals as goal

pub walk-returns-then-is_empty : goal.walk-returns-then-is_empty
walk-returns-then-is_empty g t c =
    let a = c.args in
    let laws = g.met.Q.Quads in
    let o = a.q.now in
    walks_nothing _ a.fuel (g.Q.Core.worker o) a.ys.now (image_bits-empty g.Q.Core.least a.i a.j a.turned a.xs.now (g.Q.Core.worker o) a.quad (laws.none o a.quad.height (laws.low_height o a.quad c.requires.stands) (laws.high_height o a.quad c.requires.stands)) (c.is_empty.ensures.empty c.if-is_empty.true))

pub walk-returns-then-xs-i-eq0 : goal.walk-returns-then-xs-i-eq0
walk-returns-then-xs-i-eq0 g t c =
    let a = c.args in
    let w = g.Q.Core.worker a.q.now in
    walks_nothing _ a.fuel w a.ys.now (image_bits-unmet g.Q.Core.least a.i a.j a.quad.height a.xs.now (turned_cells a.turned (quad_set w a.quad)) c.requires.marked c.if-xs-i-eq0.true)

pub visit-returns-then-quad-bottom : goal.visit-returns-then-quad-bottom
visit-returns-then-quad-bottom g t c =
    let a = c.args in
    let w = g.Q.Core.worker a.q.now in
    walks_leaf _ _ a.fuel w (g.Q.Core.worker c.walk_leaf.new.q) a.ys.now c.walk_leaf.new.ys (image_bits-leaf g.Q.Core.least a.i a.j a.quad.height a.xs.now (turned_cells a.turned (quad_set w a.quad)) (c.if-quad-bottom.true ∙ c.bottom.ensures)) c.walk_leaf.ensures.adds c.walk_leaf.ensures.reads

pub visit-meets_both-ahead-requires : goal.visit-meets_both-ahead-requires
visit-meets_both-ahead-requires g t c =
    let a = c.args in
    let low = g.met.Q.Quads.low_height a.q.now a.quad c.requires.stands in
    half_within g.Q.Core.least a.quad.height (length a.xs.now) a.i (over_leaf a.quad.height c.bottom.result g.Q.Core.least c.if-quad-bottom.false c.bottom.ensures low) c.requires.from

under : (g : Over) (t : ℕ) (c : visit-After-turned_quarters g t) → FourUnder g.Q.Core.least (length c.args.xs.now) (length c.args.ys.now) c.args.i c.args.j c.args.xs.now c.turned_quarters.result
under g t c =
    let a = c.args in
    let q = c.turned_quarters.ensures.quarters in
    let four = c.turned_quarters.result in
    four_under g.Q.Core.least (length a.xs.now) (length a.ys.now) a.i a.j a.xs.now a.turned (g.Q.Core.worker a.q.now) (g.Q.Core.worker c.turned_quarters.new.q) a.quad four
    (g.met.Q.Quads.low_height c.turned_quarters.new.q four.nw q.nw) q (record { marked = c.requires.marked; from = c.requires.from; to = c.requires.to })

pub visit-walk-left-requires : goal.visit-walk-left-requires
visit-walk-left-requires g t c κs within =
    let p = (under g t (goal.at.visit-walk-left-requires g t c).After-turned_quarters).nw in
    let q = c.turned_quarters.ensures.quarters in
    let e = q.nw_height in
    let d = c.decreases in
    let falls : 2 * c.turned_quarters.result.nw.height + 1 < t = omega (arith, e, d) in
    (falls, (within, (q.nw, (p.marked, (p.from, p.to)))))

pub visit-walk-left-requires-2 : goal.visit-walk-left-requires-2
visit-walk-left-requires-2 g t c κs within =
    let p = (under g t (goal.at.visit-walk-left-requires-2 g t c).After-turned_quarters).ne in
    let q = c.turned_quarters.ensures.quarters in
    let e = q.ne_height in
    let d = c.decreases in
    let falls : 2 * c.turned_quarters.result.ne.height + 1 < t = omega (arith, e, d) in
    let to = p.to in
    (falls, (within, (kept_quad _ _ _ c.walk-left.ensures.reads.keeps q.ne, (p.marked, (p.from, omega (arith, to, c.walk-left.ensures.len))))))

pub visit-walk-left-requires-3 : goal.visit-walk-left-requires-3
visit-walk-left-requires-3 g t c κs within =
    let p = (under g t (goal.at.visit-walk-left-requires-3 g t c).After-turned_quarters).sw in
    let q = c.turned_quarters.ensures.quarters in
    let e = q.sw_height in
    let d = c.decreases in
    let falls : 2 * c.turned_quarters.result.sw.height + 1 < t = omega (arith, e, d) in
    let kept = keeps_trans _ _ _ c.walk-left.ensures.reads.keeps c.walk-left-2.ensures.reads.keeps in
    let to = p.to in
    (falls, (within, (kept_quad _ _ _ kept q.sw, (p.marked, (p.from, omega (arith, to, c.walk-left.ensures.len, c.walk-left-2.ensures.len))))))

pub visit-walk-requires : goal.visit-walk-requires
visit-walk-requires g t c κs within =
    let p = (under g t (goal.at.visit-walk-requires g t c).After-turned_quarters).se in
    let q = c.turned_quarters.ensures.quarters in
    let e = q.se_height in
    let d = c.decreases in
    let falls : 2 * c.turned_quarters.result.se.height + 1 < t = omega (arith, e, d) in
    let kept = keeps_trans _ _ _ (keeps_trans _ _ _ c.walk-left.ensures.reads.keeps c.walk-left-2.ensures.reads.keeps) c.walk-left-3.ensures.reads.keeps in
    let to = p.to in
    (falls, (within, (kept_quad _ _ _ kept q.se, (p.marked, (p.from, omega (arith, to, c.walk-left.ensures.len, c.walk-left-2.ensures.len, c.walk-left-3.ensures.len))))))

pub visit-returns : goal.visit-returns
visit-returns g t c =
    let a = c.args in
    let q = c.turned_quarters.ensures.quarters in
    let four = c.turned_quarters.result in
    let low = g.met.Q.Quads.low_height c.turned_quarters.new.q four.nw q.nw in
    walks_four g.Q.Core.least a.i a.j a.fuel c.walk-left.result c.walk-left-2.result c.walk-left-3.result c.walk.result a.turned a.xs.now a.ys.now c.walk-left.new.ys c.walk-left-2.new.ys c.walk-left-3.new.ys c.walk.new.ys a.quad four
    (g.Q.Core.worker a.q.now) (g.Q.Core.worker c.turned_quarters.new.q) (g.Q.Core.worker c.walk-left.new.q) (g.Q.Core.worker c.walk-left-2.new.q) (g.Q.Core.worker c.walk-left-3.new.q) (g.Q.Core.worker c.walk.new.q)
    low q c.turned_quarters.ensures.reads c.walk-left.ensures c.walk-left-2.ensures c.walk-left-3.ensures c.walk.ensures
