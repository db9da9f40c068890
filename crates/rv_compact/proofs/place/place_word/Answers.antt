use Rattle.std.proofs.Common.{ℕ, List, ◌<◌, ◌+◌, length, set, refl, sym, subst}
use Rattle.rel_model.specs.Words.{IsSound, stored_count}
use Rattle.rv_compact.specs.Copies.{Places}
use Rattle.rv_compact.proofs.Placed.{way_on, way_placed, way_ended}
use Rattle.rv_compact.proofs.place.place_word.Goals as goal

pub returns-then-found-eq0 : goal.returns-then-found-eq0
returns-then-found-eq0 c =
    let e = c.places.invariant.1 in
    subst (λ (ws : List ℕ). Places ws (set c.places.nodes (2 + c.places.place) c.args.word) c.args.word (2 + c.places.place)) e
    (way_placed c.places.nodes c.args.word c.places._step c.places.place _ _ (subst IsSound (sym e) c.requires.sound) c.places.invariant.0 refl c.if-found-eq0.true c.requires.some c.ranges.word.fits)

pub places-preserved : goal.places-preserved
places-preserved c =
    (way_on c.places.nodes c.args.word c.places._step c.places.place _ _ _ c.places.invariant.0 refl c.if-found-eq0.false c.if-found-word.false c.next-place.ensures, c.places.invariant.1)

pub returns : goal.returns
returns c =
    absurd (way_ended c.places.nodes c.args.word c.places._step c.places.place _ c.places.invariant.0 c.places-test.false
    (subst (λ (ws : List ℕ). stored_count ws + 2 < length ws) (sym c.places.invariant.1) c.requires.vacant))
