use Rattle.std.proofs.Common.{rules, ◌≡◌, ◌≤◌, ◌+◌, ◌-◌, ◌*◌, ◌^◌, ◌∙◌, length, ℕ, ap, arith}
use Rattle.rel_model.specs.Trees.{top_height}
use Rattle.rel_model.specs.Worker.{listed_room}
use Rattle.rel_steps.proofs.Making.{begun, goes_on, failed, stops, four_stand, corner_made}
use Rattle.rel_domains.proofs.Places.{cells_step}
use Rattle.rel_domains.proofs.Fewness.{room_of_parts}
use Rattle.rel_domains.proofs.Quartering.{AreFour, AreSpans, four_of, spans, places_parts, leaf_given}
use Rattle.rel_domains.proofs.Steps.{room_step, room_some}
use Rattle.rel_domains.proofs.build.+build.Given.{Over}
use Rattle.rel_domains.proofs.build.+build.Goals.{After-cut_at-3}
use Rattle.rel_domains.proofs.build.+build.Goals as goal

-- ---- four parts
part : (g : Over) (t : ℕ) (c : After-cut_at-3 g t) → c.cells_of-part.result ≡ 4 ^ (g.Q.Core.least + (c.args.depth - 1))
part g t c = c.cells_of-part.ensures.value ∙ ap (λ k. 4 ^ k) (omega (arith, c.bottom.ensures, c.if-depth-eq0.false))

four : (g : Over) (t : ℕ) (c : After-cut_at-3 g t) → AreFour c.args.base c.cells_of-part.result c.args.places.now c.cut_at-2.result.0.now c.cut_at-2.result.1.now c.cut_at-3.result.0.now c.cut_at-3.result.1.now
four g t c = four_of g.Q.Core.least c.args.depth c.args.base c.cells_of-part.result c.args.places.now _ _ _ _ _ _ c.if-depth-eq0.false (part g t c) c.requires.from c.cut_at.ensures c.cut_at-2.ensures c.cut_at-3.ensures

parts : (g : Over) (t : ℕ) (c : After-cut_at-3 g t) → AreSpans c.args.base c.cells_of-part.result (4 ^ (g.Q.Core.least + (c.args.depth - 1))) c.cut_at-2.result.0.now c.cut_at-2.result.1.now c.cut_at-3.result.0.now c.cut_at-3.result.1.now
parts g t c = spans c.args.base c.cells_of-part.result _ c.args.places.now _ _ _ _ (part g t c) (four g t c)

fits : (g : Over) (t : ℕ) (c : After-cut_at-3 g t) → c.args.base + 3 * c.cells_of-part.result + 4 ^ (g.Q.Core.least + (c.args.depth - 1)) ≤ 4 ^ top_height
fits g t c = omega (arith, part g t c, c.requires.base, cells_step g.Q.Core.least c.args.depth c.if-depth-eq0.false)

pub build-requires : goal.build-requires
build-requires g t c κs within =
    let at = (goal.at.build-requires g t c).After-cut_at-3 in
    (search rules, (within, (omega (arith, c.requires.high), (omega (arith, fits g t at), (c.cut_at-2.ensures.front_order, ((parts g t at).nw_span, c.requires.known))))))

pub build-requires-2 : goal.build-requires-2
build-requires-2 g t c κs within =
    let at = (goal.at.build-requires-2 g t c).After-cut_at-3 in
    (search rules, (within, (omega (arith, c.requires.high), (omega (arith, fits g t at), (c.cut_at-2.ensures.back_order, ((parts g t at).ne_span, c.in_ok-nw.ensures.known))))))

pub build-requires-3 : goal.build-requires-3
build-requires-3 g t c κs within =
    let at = (goal.at.build-requires-3 g t c).After-cut_at-3 in
    (search rules, (within, (omega (arith, c.requires.high), (omega (arith, fits g t at), (c.cut_at-3.ensures.front_order, ((parts g t at).sw_span, c.in_ok-ne.ensures.known))))))

pub build-requires-4 : goal.build-requires-4
build-requires-4 g t c κs within =
    let at = (goal.at.build-requires-4 g t c).After-cut_at-3 in
    (search rules, (within, (omega (arith, c.requires.high), (omega (arith, fits g t at), (c.cut_at-3.ensures.back_order, ((parts g t at).se_span, c.in_ok-sw.ensures.known))))))

-- ---- how few nodes
few : (g : Over) (t : ℕ) (c : After-cut_at-3 g t) → listed_room (length c.cut_at-2.result.0.now) (c.args.depth - 1) + (listed_room (length c.cut_at-2.result.1.now) (c.args.depth - 1)
    + (listed_room (length c.cut_at-3.result.0.now) (c.args.depth - 1) + (listed_room (length c.cut_at-3.result.1.now) (c.args.depth - 1) + 3))) ≤ listed_room (length c.args.places.now) c.args.depth
few g t c = room_of_parts c.args.places.now _ _ _ _ _ _ c.args.depth c.cut_at.ensures.parts c.cut_at-2.ensures.parts c.cut_at-3.ensures.parts (search rules) c.if-depth-eq0.false

pub returns-in_err-ne-clause-few : goal.returns-in_err-ne-clause-few
returns-in_err-ne-clause-few g t c = omega (arith, few g t (goal.at.returns-in_err-ne-clause-few g t c).After-cut_at-3, c.in_ok-nw.ensures.few, c.in_err-ne.ensures.few)

pub returns-in_err-sw-clause-few : goal.returns-in_err-sw-clause-few
returns-in_err-sw-clause-few g t c = omega (arith, few g t (goal.at.returns-in_err-sw-clause-few g t c).After-cut_at-3, c.in_ok-nw.ensures.few, c.in_ok-ne.ensures.few, c.in_err-sw.ensures.few)

pub returns-in_err-se-clause-few : goal.returns-in_err-se-clause-few
returns-in_err-se-clause-few g t c = omega (arith, few g t (goal.at.returns-in_err-se-clause-few g t c).After-cut_at-3, c.in_ok-nw.ensures.few, c.in_ok-ne.ensures.few, c.in_ok-sw.ensures.few, c.in_err-se.ensures.few)

pub returns-in_err-corner-clause-few : goal.returns-in_err-corner-clause-few
returns-in_err-corner-clause-few g t c = omega (arith, few g t (goal.at.returns-in_err-corner-clause-few g t c).After-cut_at-3, c.in_ok-nw.ensures.few, c.in_ok-ne.ensures.few, c.in_ok-sw.ensures.few, c.in_ok-se.ensures.few, c.in_err-corner.ensures.room)

pub returns-clause-few : goal.returns-clause-few
returns-clause-few g t c = omega (arith, few g t (goal.at.returns-clause-few g t c).After-cut_at-3, c.in_ok-nw.ensures.few, c.in_ok-ne.ensures.few, c.in_ok-sw.ensures.few, c.in_ok-se.ensures.few, c.in_ok-corner.ensures.room)

-- ---- a leaf
pub returns-in_err-leaf-clause-makes : goal.returns-in_err-leaf-clause-makes
returns-in_err-leaf-clause-makes g t c =
    let r = room_some c.args.depth in
    let e = c.in_err-leaf.ensures in
    stops c.from_residual.result c.from_residual.ensures.1 (omega (arith, r)) (begun {h = 0} _) (failed 1 e.keeps e.room e.cause)

pub returns-then-depth-eq0-clause-makes : goal.returns-then-depth-eq0-clause-makes
returns-then-depth-eq0-clause-makes g t c =
    let r = room_some c.args.depth in
    let e = c.in_ok-leaf.ensures in
    record {
      value = leaf_given _ g.Q.Core.least (c.bottom.result + c.args.depth) c.args.depth c.args.base _ c.args.places.now c.in_ok-leaf.leaf (omega (arith, c.if-depth-eq0.true)) (omega (arith, c.bottom.ensures, c.if-depth-eq0.true)) c.leaf_word.ensures.cells e.value;
      keeps = e.keeps;
      room = omega (arith, r, e.room);
      cause = e.cause;
    }

-- ---- a quarter is missed
pub returns-in_err-nw-clause-makes : goal.returns-in_err-nw-clause-makes
returns-in_err-nw-clause-makes g t c =
    let r = room_step c.args.depth c.if-depth-eq0.false in
    stops c.from_residual-in_err-nw.result c.from_residual-in_err-nw.ensures.1 (omega (arith, r)) (begun {h = 0} _) c.in_err-nw.ensures.makes

pub returns-in_err-ne-clause-makes : goal.returns-in_err-ne-clause-makes
returns-in_err-ne-clause-makes g t c =
    let r = room_step c.args.depth c.if-depth-eq0.false in
    let u1 = goes_on (begun _) c.in_ok-nw.ensures.makes in
    stops c.from_residual-in_err-ne.result c.from_residual-in_err-ne.ensures.1 (omega (arith, r)) u1 c.in_err-ne.ensures.makes

pub returns-in_err-sw-clause-makes : goal.returns-in_err-sw-clause-makes
returns-in_err-sw-clause-makes g t c =
    let r = room_step c.args.depth c.if-depth-eq0.false in
    let u1 = goes_on (begun _) c.in_ok-nw.ensures.makes in
    let u2 = goes_on u1 c.in_ok-ne.ensures.makes in
    stops c.from_residual-in_err-sw.result c.from_residual-in_err-sw.ensures.1 (omega (arith, r)) u2 c.in_err-sw.ensures.makes

pub returns-in_err-se-clause-makes : goal.returns-in_err-se-clause-makes
returns-in_err-se-clause-makes g t c =
    let r = room_step c.args.depth c.if-depth-eq0.false in
    let u1 = goes_on (begun _) c.in_ok-nw.ensures.makes in
    let u2 = goes_on u1 c.in_ok-ne.ensures.makes in
    let u3 = goes_on u2 c.in_ok-sw.ensures.makes in
    stops c.from_residual-in_err-se.result c.from_residual-in_err-se.ensures.1 (omega (arith, r)) u3 c.in_err-se.ensures.makes

-- ---- the corner
pub returns-in_err-corner-clause-makes : goal.returns-in_err-corner-clause-makes
returns-in_err-corner-clause-makes g t c =
    let r = room_step c.args.depth c.if-depth-eq0.false in
    let u1 = goes_on (begun _) c.in_ok-nw.ensures.makes in
    let u2 = goes_on u1 c.in_ok-ne.ensures.makes in
    let u3 = goes_on u2 c.in_ok-sw.ensures.makes in
    let u4 = goes_on u3 c.in_ok-se.ensures.makes in
    let e = c.in_err-corner.ensures in
    stops c.from_residual-in_err-corner.result c.from_residual-in_err-corner.ensures.1 (omega (arith, r)) u4 (failed 3 e.keeps e.room e.cause)

pub returns-clause-makes : goal.returns-clause-makes
returns-clause-makes g t c =
    let at = (goal.at.returns-clause-makes g t c).After-cut_at-3 in
    let p = places_parts g.Q.Core.least c.args.depth c.args.base c.cells_of-part.result c.args.places.now _ _ _ _ c.if-depth-eq0.false (part g t at) (four g t at) in
    let r = room_step c.args.depth c.if-depth-eq0.false in
    let u1 = goes_on (begun _) c.in_ok-nw.ensures.makes in
    let u2 = goes_on u1 c.in_ok-ne.ensures.makes in
    let u3 = goes_on u2 c.in_ok-sw.ensures.makes in
    let u4 = goes_on u3 c.in_ok-se.ensures.makes in
    let e = c.in_ok-corner.ensures in
    corner_made (omega (arith, r)) p u4 e.value e.keeps e.room e.cause

pub corner-requires : goal.corner-requires
corner-requires g t c =
    let u1 = goes_on (begun _) c.in_ok-nw.ensures.makes in
    let u2 = goes_on u1 c.in_ok-ne.ensures.makes in
    let u3 = goes_on u2 c.in_ok-sw.ensures.makes in
    let u4 = goes_on u3 c.in_ok-se.ensures.makes in
    let a = u4.are in
    let h = a.1.1.1.0.same_height in
    let f = four_stand a.1.1.1.0 a.1.1.0 a.1.0 a.0 in
    record { nw_stands = f.nw_stands; ne_stands = f.ne_stands; sw_stands = f.sw_stands; se_stands = f.se_stands; ne_height = f.ne_height; sw_height = f.sw_height; se_height = f.se_height; below = omega (arith, h, c.requires.high, c.if-depth-eq0.false) }
