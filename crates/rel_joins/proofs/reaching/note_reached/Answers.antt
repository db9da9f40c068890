use Rattle.std.proofs.Common.{◌∙◌, sym, arith}
use Rattle.rel_joins.proofs.Reaches.{row_begun, place_followed, ends_below, read_inside}
use Rattle.rel_joins.proofs.reaching.note_reached.Goals as goal

pub places-init : goal.places-init
places-init c =
    let b = row_begun c.requires.within c.requires.order c.requires.closing (omega (arith, c.len-place.ensures)) c.in-Some.ensures.adds in
    (c.note_all.ensures.size, b.0, b.1)

pub note_all-requires-in-places-clause-ends : goal.note_all-requires-in-places-clause-ends
note_all-requires-in-places-clause-ends c = ends_below c.args.pairs.now (sym c.places.invariant.0) c.requires.within

pub note_all-requires-in-places-clause-within : goal.note_all-requires-in-places-clause-within
note_all-requires-in-places-clause-within c =
    let l = c.places-test.true in
    let d = read_inside c.index.result.now c.index.ensures c.requires.within c.requires.order c.places.invariant.2 (omega (arith, l, c.len.ensures)) in
    omega (arith, d, c.places.invariant.0)

pub places-preserved : goal.places-preserved
places-preserved c =
    let l = c.places-test.true in
    let s = place_followed c.index.result.now c.index.ensures c.requires.within c.requires.order c.places.invariant.2 (omega (arith, l, c.len.ensures)) c.in-Some-note_all.ensures.adds in
    (c.note_all-in-places.ensures.size ∙ c.places.invariant.0, s.0, s.1)
