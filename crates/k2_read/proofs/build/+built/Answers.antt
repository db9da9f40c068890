-- A number is none, or noted, or a leaf, or the corner of its quarters.
use Rattle.std.proofs.Common.{rules, ◌<◌, ◌≤◌, ◌+◌, ◌-◌, ◌∙◌, ℕ, refl, sym, arith}
use Rattle.std.proofs.lemmas.List.{length-map}
use Rattle.rel_model.specs.Worker.{listed_room}
use Rattle.rel_steps.proofs.Making.{begun, goes_on, failed, stops, corner_made}
use Rattle.run_model.specs.SharedFiles.{cells_told}
use Rattle.k2_file.proofs.ReadBuilding.{high-top, below-top}
use Rattle.k2_parts.specs.Told.{quadrant_told, quadrants_told}
use Rattle.k2_read.specs.Numbers.{cells_under}
use Rattle.k2_read.proofs.Making.{given-made, none-made, leaf-made, leaf-inside, parts-of}
use Rattle.k2_read.proofs.Noted.{noted-later, noted-more}
use Rattle.k2_read.proofs.Numbers.{AreNumbers, number-below, parts-numbers}
use Rattle.k2_read.proofs.Rooms.{room-leaf, room-parts}
use Rattle.k2_read.proofs.build.+built.Given.{Over}
use Rattle.k2_read.proofs.build.+built.Goals.{built_anew-After-quarters-quadrant}
use Rattle.k2_read.proofs.build.+built.Goals as goal

-- ---- the number is none, or noted
pub built-returns-then-number-eq0-clause-makes : goal.built-returns-then-number-eq0-clause-makes
built-returns-then-number-eq0-clause-makes g t c =
    none-made (quadrants_told c.args.quads.now) g.E.Core.lean _ c.args.height c.args.height c.args.height c.args.number (g.E.Core.worker c.args.engine.now) refl c.if-number-eq0.true
    (g.met.E.Quads.none c.args.engine.now c.args.height c.requires.low (high-top c.args.height c.requires.high))

pub built-bounds : goal.built-bounds
built-bounds g t c =
    let l = number-below (quadrants_told c.args.quads.now) c.args.height c.args.number c.requires.number in
    let m = length-map c.args.quads.now quadrant_told in
    omega (arith, l, m, c.requires.places)

pub built-returns-in-Some-clause-makes : goal.built-returns-in-Some-clause-makes
built-returns-in-Some-clause-makes g t c =
    let quads = quadrants_told c.args.quads.now in
    given-made g.E.Core.lean (listed_room (cells_under quads c.args.height c.args.number) (c.args.height - g.E.Core.least)) c.args.height (cells_told quads c.args.height c.args.number) (g.E.Core.worker c.args.engine.now) c.in-Some.quad
    (c.requires.noted.given c.args.number c.in-Some.quad c.in-Some.is c.if-number-eq0.false c.args.height c.requires.number)

pub built-bounds-noted-number-2 : goal.built-bounds-noted-number-2
built-bounds-noted-number-2 g t c =
    let l = number-below (quadrants_told c.args.quads.now) c.args.height c.args.number c.requires.number in
    let m = length-map c.args.quads.now quadrant_told in
    let n = c.built_anew.auto.noted in
    omega (arith, l, m, n, c.requires.places)

pub built-returns-clause-noted : goal.built-returns-clause-noted
built-returns-clause-noted g t c =
    let l = number-below (quadrants_told c.args.quads.now) c.args.height c.args.number c.requires.number in
    let m = length-map c.args.quads.now quadrant_told in
    let n = c.built_anew.auto.noted in
    noted-more (g.E.Core.worker c.built_anew.new.engine) (quadrants_told c.args.quads.now) c.built_anew.new.noted c.args.number c.args.height c.in_ok-quad.quad (omega (arith, l, m, n, c.requires.places))
    c.requires.number c.in_ok-quad.ensures.makes.value c.in_ok-quad.ensures.noted

-- ---- a leaf
pub built_anew-built_leaf-requires-clause-inside :
    goal.built_anew-built_leaf-requires-clause-inside
built_anew-built_leaf-requires-clause-inside g t c =
    leaf-inside (quadrants_told c.args.quads.now) g.E.Core.least c.args.height c.args.number (c.if-height-bottom.true ∙ c.bottom.ensures)

pub built_anew-returns-in_err-leaf-clause-makes : goal.built_anew-returns-in_err-leaf-clause-makes
built_anew-returns-in_err-leaf-clause-makes g t c =
    let r = room-leaf (quadrants_told c.args.quads.now) c.args.height c.args.number (c.args.height - g.E.Core.least) c.requires.number c.requires.some in
    stops c.from_residual.result c.from_residual.ensures.1 (omega (arith, r)) (begun {h = 0} _) c.in_err-leaf.ensures

pub built_anew-returns-then-height-bottom-clause-makes :
    goal.built_anew-returns-then-height-bottom-clause-makes
built_anew-returns-then-height-bottom-clause-makes g t c =
    let quads = quadrants_told c.args.quads.now in
    leaf-made quads g.E.Core.lean _ g.E.Core.least c.args.height c.args.height c.args.number _ _ c.in_ok-leaf.leaf (sym (c.if-height-bottom.true ∙ c.bottom.ensures))
    (room-leaf quads c.args.height c.args.number (c.args.height - g.E.Core.least) c.requires.number c.requires.some) c.in_ok-leaf.ensures

pub built_anew-returns-then-height-bottom-clause-noted :
    goal.built_anew-returns-then-height-bottom-clause-noted
built_anew-returns-then-height-bottom-clause-noted g t c = noted-later _ _ _ _ c.in_ok-leaf.ensures.keeps c.requires.noted

-- ---- four quarters
over : (g : Over) (t : ℕ) (c : built_anew-After-quarters-quadrant g t) → g.E.Core.least < c.args.height
over g t c = omega (arith, c.requires.low, c.bottom.ensures, c.if-height-bottom.false)

numbers : (g : Over) (t : ℕ) (c : built_anew-After-quarters-quadrant g t) → AreNumbers (quadrants_told c.args.quads.now) (c.args.height - 1) (quadrant_told c.quarters-quadrant.result)
numbers g t c =
    let o = over g t c in
    parts-numbers (quadrants_told c.args.quads.now) c.args.height c.args.number (quadrant_told c.quarters-quadrant.result) c.quarters-quadrant.ensures c.requires.number (λ z. omega (arith, z, o)) c.requires.some

pub built_anew-quarters-quadrant-requires-clause-high :
    goal.built_anew-quarters-quadrant-requires-clause-high
built_anew-quarters-quadrant-requires-clause-high g t c =
    let l = number-below (quadrants_told c.args.quads.now) c.args.height c.args.number c.requires.number in
    let m = length-map c.args.quads.now quadrant_told in
    omega (arith, l, m)

room : (g : Over) (t : ℕ) (c : built_anew-After-quarters-quadrant g t) →
    listed_room (cells_under (quadrants_told c.args.quads.now) (c.args.height - 1) c.quarters-quadrant.result.nw) (c.args.height - 1 - g.E.Core.least)
    + (listed_room (cells_under (quadrants_told c.args.quads.now) (c.args.height - 1) c.quarters-quadrant.result.ne) (c.args.height - 1 - g.E.Core.least)
    + (listed_room (cells_under (quadrants_told c.args.quads.now) (c.args.height - 1) c.quarters-quadrant.result.sw) (c.args.height - 1 - g.E.Core.least)
    + (listed_room (cells_under (quadrants_told c.args.quads.now) (c.args.height - 1) c.quarters-quadrant.result.se) (c.args.height - 1 - g.E.Core.least) + 3)))
    ≤ listed_room (cells_under (quadrants_told c.args.quads.now) c.args.height c.args.number) (c.args.height - g.E.Core.least)
room g t c =
    room-parts (quadrants_told c.args.quads.now) c.args.height g.E.Core.least c.args.number (quadrant_told c.quarters-quadrant.result) c.quarters-quadrant.ensures c.requires.number c.requires.some (over g t c)

pub built_anew-built-requires : goal.built_anew-built-requires
built_anew-built-requires g t c κs within =
    let at = (goal.at.built_anew-built-requires g t c).After-quarters-quadrant in
    let o = over g t at in
    (search rules, (within, (omega (arith, o), (omega (arith, c.requires.high), ((numbers g t at).nw_is, (omega (arith, c.requires.places), c.requires.noted))))))

pub built_anew-built-requires-2 : goal.built_anew-built-requires-2
built_anew-built-requires-2 g t c κs within =
    let at = (goal.at.built_anew-built-requires-2 g t c).After-quarters-quadrant in
    let o = over g t at in
    (search rules, (within, (omega (arith, o), (omega (arith, c.requires.high), ((numbers g t at).ne_is, (omega (arith, c.requires.places, c.built.auto.noted), c.in_ok-nw.ensures.noted))))))

pub built_anew-built-requires-3 : goal.built_anew-built-requires-3
built_anew-built-requires-3 g t c κs within =
    let at = (goal.at.built_anew-built-requires-3 g t c).After-quarters-quadrant in
    let o = over g t at in
    (search rules, (within, (omega (arith, o), (omega (arith, c.requires.high), ((numbers g t at).sw_is, (omega (arith, c.requires.places, c.built.auto.noted, c.built-2.auto.noted), c.in_ok-ne.ensures.noted))))))

pub built_anew-built-requires-4 : goal.built_anew-built-requires-4
built_anew-built-requires-4 g t c κs within =
    let at = (goal.at.built_anew-built-requires-4 g t c).After-quarters-quadrant in
    let o = over g t at in
    (search rules, (within, (omega (arith, o), (omega (arith, c.requires.high), ((numbers g t at).se_is, (omega (arith, c.requires.places, c.built.auto.noted, c.built-2.auto.noted, c.built-3.auto.noted), c.in_ok-sw.ensures.noted))))))

pub built_anew-returns-in_err-nw-clause-makes : goal.built_anew-returns-in_err-nw-clause-makes
built_anew-returns-in_err-nw-clause-makes g t c =
    let r = room g t (goal.at.built_anew-returns-in_err-nw-clause-makes g t c).After-quarters-quadrant in
    stops c.from_residual-in_err-nw.result c.from_residual-in_err-nw.ensures.1 (omega (arith, r)) (begun {h = 0} _) c.in_err-nw.ensures.makes

pub built_anew-returns-in_err-ne-clause-makes : goal.built_anew-returns-in_err-ne-clause-makes
built_anew-returns-in_err-ne-clause-makes g t c =
    let r = room g t (goal.at.built_anew-returns-in_err-ne-clause-makes g t c).After-quarters-quadrant in
    let u1 = goes_on (begun _) c.in_ok-nw.ensures.makes in
    stops c.from_residual-in_err-ne.result c.from_residual-in_err-ne.ensures.1 (omega (arith, r)) u1 c.in_err-ne.ensures.makes

pub built_anew-returns-in_err-sw-clause-makes : goal.built_anew-returns-in_err-sw-clause-makes
built_anew-returns-in_err-sw-clause-makes g t c =
    let r = room g t (goal.at.built_anew-returns-in_err-sw-clause-makes g t c).After-quarters-quadrant in
    let u1 = goes_on (begun _) c.in_ok-nw.ensures.makes in
    let u2 = goes_on u1 c.in_ok-ne.ensures.makes in
    stops c.from_residual-in_err-sw.result c.from_residual-in_err-sw.ensures.1 (omega (arith, r)) u2 c.in_err-sw.ensures.makes

pub built_anew-returns-in_err-se-clause-makes : goal.built_anew-returns-in_err-se-clause-makes
built_anew-returns-in_err-se-clause-makes g t c =
    let r = room g t (goal.at.built_anew-returns-in_err-se-clause-makes g t c).After-quarters-quadrant in
    let u1 = goes_on (begun _) c.in_ok-nw.ensures.makes in
    let u2 = goes_on u1 c.in_ok-ne.ensures.makes in
    let u3 = goes_on u2 c.in_ok-sw.ensures.makes in
    stops c.from_residual-in_err-se.result c.from_residual-in_err-se.ensures.1 (omega (arith, r)) u3 c.in_err-se.ensures.makes

-- ---- the corner
pub built_anew-corner-requires-clause-below : goal.built_anew-corner-requires-clause-below
built_anew-corner-requires-clause-below g t c =
    let h = c.in_ok-nw.ensures.makes.value.same_height in
    let o = over g t (goal.at.built_anew-corner-requires-clause-below g t c).After-quarters-quadrant in
    below-top c.in_ok-nw.nw.height (omega (arith, h, o, c.requires.high))

pub built_anew-returns-in_err-corner-clause-makes :
    goal.built_anew-returns-in_err-corner-clause-makes
built_anew-returns-in_err-corner-clause-makes g t c =
    let r = room g t (goal.at.built_anew-returns-in_err-corner-clause-makes g t c).After-quarters-quadrant in
    let u1 = goes_on (begun _) c.in_ok-nw.ensures.makes in
    let u2 = goes_on u1 c.in_ok-ne.ensures.makes in
    let u3 = goes_on u2 c.in_ok-sw.ensures.makes in
    let u4 = goes_on u3 c.in_ok-se.ensures.makes in
    let e = c.in_err-corner.ensures in
    stops c.from_residual-in_err-corner.result c.from_residual-in_err-corner.ensures.1 (omega (arith, r)) u4 (failed 3 e.keeps e.room e.cause)

pub built_anew-returns-clause-makes : goal.built_anew-returns-clause-makes
built_anew-returns-clause-makes g t c =
    let at = (goal.at.built_anew-returns-clause-makes g t c).After-quarters-quadrant in
    let r = room g t at in
    let o = over g t at in
    let p = parts-of (quadrants_told c.args.quads.now) c.args.height c.args.number (quadrant_told c.quarters-quadrant.result) c.quarters-quadrant.ensures (λ z. omega (arith, z, o)) in
    let u1 = goes_on (begun _) c.in_ok-nw.ensures.makes in
    let u2 = goes_on u1 c.in_ok-ne.ensures.makes in
    let u3 = goes_on u2 c.in_ok-sw.ensures.makes in
    let u4 = goes_on u3 c.in_ok-se.ensures.makes in
    let e = c.in_ok-corner.ensures in
    corner_made (omega (arith, r)) p u4 e.value e.keeps e.room e.cause

pub built_anew-returns-clause-noted : goal.built_anew-returns-clause-noted
built_anew-returns-clause-noted g t c = noted-later _ _ _ _ c.in_ok-corner.ensures.keeps c.in_ok-se.ensures.noted
