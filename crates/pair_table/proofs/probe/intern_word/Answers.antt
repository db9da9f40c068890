use Rattle.std.proofs.Common.{◌∙◌}
use Rattle.pair_table.proofs.Ways.{way_on, way_ended, steps_on}
use Rattle.pair_table.proofs.probe.intern_word.Goals.{then-found-eq0+else-found-eq0-2, else-found-eq0}
use Rattle.pair_table.proofs.probe.intern_word.Goals as goal

pub places-preserved : goal.places-preserved
places-preserved c = elim c.if-found-eq0.branch [
  | then-found-eq0+else-found-eq0-2 w ↦
      let a = c.load_word-found.ensures in
      let b = w.exchange_word-found.ensures in
      let s = b.tries.lost w.if-found-eq0-2.false in
      rw w.seat-is (
        way_on _ c.places.seat.me.0 _ _ _ c.places.place _ w.exchange_word-found.result _ c.places.invariant.0 (steps_on _ _ _ a.sees.steps b.tries.steps) (s.1 ∙ a.sees.made) (b.tries.last ∙ a.sees.last)
            w.if-found-eq0-2.false (λ e. c.if-found-word.false (w.found-is ∙ e)) s.0 c.next-place.ensures,
        b.of ∙ a.of ∙ c.places.invariant.1,
        b.held ∙ a.held ∙ c.places.invariant.2,
      )
  | else-found-eq0 w ↦
      let a = c.load_word-found.ensures in
      rw w.seat-is (
        way_on _ c.places.seat.me.0 _ _ _ c.places.place _ c.load_word-found.result _ c.places.invariant.0 a.sees.steps a.sees.made a.sees.last
            w.if-found-eq0.false (λ e. c.if-found-word.false (w.found-is ∙ e)) a.sees.there c.next-place.ensures,
        a.of ∙ c.places.invariant.1,
        a.held ∙ c.places.invariant.2,
      )
]

pub returns-clause-interns : goal.returns-clause-interns
returns-clause-interns c = way_ended _ _ _ _ _ _ c.places.invariant.0 c.places-test.false
