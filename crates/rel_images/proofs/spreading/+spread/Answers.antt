use Rattle.std.proofs.Common.{◌<◌, ◌≤◌, ◌+◌, ◌-◌, ◌*◌, ◌^◌, ◌∙◌, ℕ, length, refl, sym, subst, arith}
use Rattle.rel_model.specs.Worker.{quad_set}
use Rattle.rel_steps.proofs.Given.{kept_quad}
use Rattle.rel_images.proofs.Words.{leaf-side}
use Rattle.rel_images.proofs.Steps.{spread_none, spread_leaf, spread_low, spread_two, place_west, place_east}
use Rattle.rel_images.proofs.spreading.+spread.Goals as goal

pub returns-then-is_empty-clause-adds : goal.returns-then-is_empty-clause-adds
returns-then-is_empty-clause-adds g t c =
    let laws = g.met.Q.Quads in
    let o = c.args.q.now in
    let p = c.args.quad in
    spread_none g.Q.Core.least c.args.height c.args.k (g.Q.Core.worker o) p c.args.xs.now (laws.none o p.height (laws.low_height o p c.requires.stands) (laws.high_height o p c.requires.stands)) (c.is_empty.ensures.empty c.if-is_empty.true)

pub first_line-requires-clause-small : goal.first_line-requires-clause-small
first_line-requires-clause-small g t c = leaf-side c.args.height g.Q.Core.least c.side_of-side.result (c.if-height-bottom.true ∙ c.bottom.ensures) g.met.Q.Quads.least_limit c.side_of-side.ensures

pub add_line-requires-clause-small : goal.add_line-requires-clause-small
add_line-requires-clause-small g t c = leaf-side c.args.height g.Q.Core.least c.side_of-side.result (c.if-height-bottom.true ∙ c.bottom.ensures) g.met.Q.Quads.least_limit c.side_of-side.ensures

pub returns-then-height-bottom-clause-adds : goal.returns-then-height-bottom-clause-adds
returns-then-height-bottom-clause-adds g t c =
    spread_leaf g.Q.Core.least c.side_of-side.result c.args.k c.args.height c.first_line.result c.bits-bits.result (quad_set (g.Q.Core.worker c.args.q.now) c.args.quad) c.args.xs.now c.add_line.new.xs
    (c.if-height-bottom.true ∙ c.bottom.ensures) c.side_of-side.ensures c.bits-bits.ensures.cells c.first_line.ensures.bits c.add_line.ensures

pub spread-requires : goal.spread-requires
spread-requires g t c κs within =
    let least : ℕ = g.Q.Core.least in
    let low = g.met.Q.Quads.low_height c.args.q.now c.args.quad c.requires.stands in
    let less = c.if-quad-height.true in
    let d = c.decreases in
    let high = c.requires.high in
    let falls : c.args.height - 1 < t = omega (arith, less, d) in
    let place = place_west least (c.args.height - 1) (c.args.height - 1) c.args.height c.args.k (length c.args.xs.now) (omega (arith, low, less)) (omega (arith, less)) refl c.requires.within in
    (falls, (within, (c.requires.stands, (omega (arith, less), (omega (arith, high), place)))))

pub returns-then-quad-height-clause-adds : goal.returns-then-quad-height-clause-adds
returns-then-quad-height-clause-adds g t c =
    let low = g.met.Q.Quads.low_height c.args.q.now c.args.quad c.requires.stands in
    let less = c.if-quad-height.true in
    spread_low g.Q.Core.least c.args.height c.args.k (quad_set (g.Q.Core.worker c.args.q.now) c.args.quad) c.args.quad.height c.args.xs.now c.spread.new.xs (omega (arith, low, less)) (omega (arith, less)) (omega (arith, less))
    (g.met.Q.Quads.square c.args.q.now c.args.quad c.requires.stands) c.spread.ensures.adds

pub spread-requires-2 : goal.spread-requires-2
spread-requires-2 g t c κs within =
    let least : ℕ = g.Q.Core.least in
    let q = c.quarters.ensures.quarters in
    let e = q.nw_height in
    let low = g.met.Q.Quads.low_height c.quarters.new.self c.quarters.result.nw q.nw in
    let same = c.requires.no_higher in
    let d = c.decreases in
    let high = c.requires.high in
    let falls : c.args.height - 1 < t = omega (arith, e, same, d) in
    let place = place_west least (c.args.height - 1) (c.args.height - 1) c.args.height c.args.k (length c.args.xs.now) (omega (arith, low, e, same)) (omega (arith, e, same)) refl c.requires.within in
    (falls, (within, (q.nw, (omega (arith, e, same), (omega (arith, high), place)))))

pub spread-requires-3 : goal.spread-requires-3
spread-requires-3 g t c κs within =
    let least : ℕ = g.Q.Core.least in
    let q = c.quarters.ensures.quarters in
    let e = q.ne_height in
    let low = g.met.Q.Quads.low_height c.quarters.new.self c.quarters.result.ne q.ne in
    let same = c.requires.no_higher in
    let d = c.decreases in
    let high = c.requires.high in
    let falls : c.args.height - 1 < t = omega (arith, e, same, d) in
    let place = place_east least (c.args.height - 1) (c.args.height - 1) c.args.height c.args.k (length c.args.xs.now) (omega (arith, low, e, same)) (omega (arith, e, same)) refl c.requires.within in
    let stands = kept_quad (g.Q.Core.worker c.quarters.new.self) (g.Q.Core.worker c.spread-2.new.q) c.quarters.result.ne c.spread-2.ensures.reads.keeps q.ne in
    (falls, (within, (stands, (omega (arith, e, same), (omega (arith, high), subst (λ (n : ℕ). (2 * c.args.k + 1 + 1) * 2 ^ (c.args.height - 1 - least) ≤ n) (sym c.spread-2.ensures.adds.len) place)))))

pub returns-clause-adds : goal.returns-clause-adds
returns-clause-adds g t c =
    let q = c.quarters.ensures.quarters in
    let e = q.nw_height in
    let low = g.met.Q.Quads.low_height c.quarters.new.self c.quarters.result.nw q.nw in
    let same = c.requires.no_higher in
    let over = c.if-quad-height.false in
    spread_two g.Q.Core.least c.args.height c.args.k c.args.quad c.quarters.result (g.Q.Core.worker c.args.q.now) (g.Q.Core.worker c.quarters.new.self) (g.Q.Core.worker c.spread-2.new.q) c.args.xs.now c.spread-2.new.xs c.spread-3.new.xs
    (omega (arith, low, e, same)) (omega (arith, e, same)) (omega (arith, same, over)) q c.spread-2.ensures.reads.keeps c.spread-2.ensures.adds c.spread-3.ensures.adds
