use Rattle.std.proofs.Common.{◌≡◌, ◌≤◌, ◌+◌, ◌∙◌, ℕ, [], ◌∷◌, length, vec_len, Some, refl, ap, subst, arith, length-append}
use Rattle.std.specs.Prelude.{slice_get}
use Rattle.std.proofs.lemmas.Option.{slice_get_read}
use Rattle.rv_sessions.specs.Telling.{input_of}
use Rattle.rv_sessions.specs.Noting.{outcome_in}
use Rattle.rv_sessions.proofs.Noting.{begins, goes_on}
use Rattle.rv_sessions.proofs.session.run_items.Goals as goal

pub items-init : goal.items-init
items-init g c =
    let a = c.args in
    let bare = c.requires.bare in
    record {
      ran = begins g.E.Core.least (input_of a.setting.now.files.now a.setting.now.turns) a.checked.now a.number (g.E.Core.worker a.seat.now.engine) a.seat.now.pass c.new-snaps.result a.lists.now c.new-snaps.ensures bare;
      count = ap length bare.outcomes;
      replies = bare.replies_len;
      saves = none (vec_len a.lists.now.saves) bare.saves_len;
      outcomes = bare.outcomes_len;
      replies_room = refl;
      saves_room = refl;
      outcomes_room = refl;
    }
  where
    none : (n : ℕ) → n ≡ 0 → n ≤ 0
    none n e = omega arith

pub items-preserved : goal.items-preserved
items-preserved g c =
    let a = c.args in
    let w = g.E.Core.worker in
    let k = c.items in
    let v = k.invariant in
    let t = c.run_item-told in
    let n = c.note in
    let there = subst (λ l. slice_get l k.i ≡ Some c.index-items-i.result) (c.as_slice-items.ensures.value ∙ ap (λ s. s.items.items) c.script.ensures.script)
    (slice_get_read c.as_slice-items.result.now (length c.as_slice-items.result.now) k.i c.index-items-i.result refl c.items-test.true c.index-items-i.is) in
    record {
      ran = goes_on g.E.Core.least (input_of a.setting.now.files.now a.setting.now.turns) a.checked.now a.number k.i c.index-items-i.result (w a.seat.now.engine) (w k.seat.engine) (w t.new.seat.engine)
          a.seat.now.pass k.seat.pass t.new.seat.pass k.snaps t.new.snaps k.lists n.new.lists t.result v.ran v.count there t.ensures n.ensures.outcome n.ensures.text n.ensures.saved;
      count = ap length n.ensures.outcome ∙ (length-append k.lists.outcomes.items (outcome_in t.result ∷ []) ∙ ap (λ m. m + 1) v.count);
      replies = n.ensures.replies_len ∙ ap (λ m. m + 1) v.replies;
      saves = more (vec_len n.new.lists.saves) (vec_len k.lists.saves) k.i n.ensures.saves_len v.saves;
      outcomes = n.ensures.outcomes_len ∙ ap (λ m. m + 1) v.outcomes;
      replies_room = n.ensures.replies_capacity ∙ v.replies_room;
      saves_room = n.ensures.saves_capacity ∙ v.saves_room;
      outcomes_room = n.ensures.outcomes_capacity ∙ v.outcomes_room;
    }
  where
    more : (a b i : ℕ) → a ≤ b + 1 → b ≤ i → a ≤ i + 1
    more a b i h l = omega arith
