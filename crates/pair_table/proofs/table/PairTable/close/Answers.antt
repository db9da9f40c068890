use Rattle.std.proofs.Common.{◌≡◌, ◌∙◌, sym, ap, subst, List, ℕ, ◌+◌, ◌≢◌, arith}
use Rattle.rel_model.specs.Views.{Table, View}
use Rattle.pair_table.specs.Held.{view_of}
use Rattle.rel_model.specs.Views.{IsClosed}
use Rattle.pair_table.specs.Memos.{IsStillTaken, IsStillThere}
use Rattle.pair_table.proofs.Memoing.{taken_in_end, there_in_end}
use Rattle.pair_table.proofs.Wrapping.{one_table, closed_from}
use Rattle.pair_table.proofs.table.PairTable.close.Goals as goal

pub close_with-closed-requires : goal.close_with-closed-requires
close_with-closed-requires c = one_table _ _ (ap (λ (v : View). v.house) c.seat.view_is ∙ c.requires.of.one_house ∙ sym (ap (λ (t : Table). t.house) c.self.view_is))

pub returns-in-Ok-clause-closed : goal.returns-in-Ok-clause-closed
returns-in-Ok-clause-closed c =
    let e = c.self.invariant.seats_are in
    let b : c.self.inside.table.shared.key.bits ≡ c.args.self.bits = c.self.invariant.bits_are ∙ ap (λ (t : Table). t.bits) c.self.view_is in
    let w : c.seat.inside.spare + 1 ≡ c.self.inside.seats = ap (λ (v : View). v.spare + 1) c.seat.view_is ∙ c.requires.whole ∙ sym (ap (λ (t : Table). t.seats) c.self.view_is) in
    rw (← c.seat.view_is, ← b)
    (subst (λ (ws : List ℕ). IsClosed c.self.inside.table.shared.key.bits (view_of c.seat.inside.inner.table_id c.seat.inside.inner.me c.seat.inside.spare c.seat.inside.refused) ws) (sym c.in-Ok.ensures)
    (closed_from c.seat.inside.inner.table_id c.seat.inside.inner.me c.seat.inside.spare c.seat.inside.refused c.self.inside.table.shared.key c.seat.inside.inner.id _ _ c.close_with-closed.ensures.values.2 c.seat.invariant (w ∙ sym e)))

pub returns-in-Ok-clause-taken : goal.returns-in-Ok-clause-taken
returns-in-Ok-clause-taken c =
    let b : c.self.inside.table.shared.key.bits ≡ c.args.self.bits = c.self.invariant.bits_are ∙ ap (λ (t : Table). t.bits) c.self.view_is in
    rw (← c.seat.view_is, ← b)
    (subst (λ (ws : List ℕ). IsStillTaken c.self.inside.table.shared.key.bits ws c.seat.inside.inner.me.0.last) (sym c.in-Ok.ensures)
    (taken_in_end c.self.inside.table.shared.key _ _ c.seat.inside.inner.id c.seat.inside.inner.me.0 c.close_with-closed.ensures.values.2))

pub returns-in-Ok-clause-there : goal.returns-in-Ok-clause-there
returns-in-Ok-clause-there c o =
    let b : c.self.inside.table.shared.key.bits ≡ c.args.self.bits = c.self.invariant.bits_are ∙ ap (λ (t : Table). t.bits) c.self.view_is in
    let one : c.self.inside.table.shared.key.seats ≡ 1 = c.self.invariant.seats_are ∙ ap (λ (t : Table). t.seats) c.self.view_is ∙ o in
    let live : c.seat.inside.inner.me.0.parts ≢ 0 = (λ z. let p = c.seat.invariant.parts in omega arith) in
    rw (← c.seat.view_is, ← b)
    (subst (λ (ws : List ℕ). IsStillThere c.self.inside.table.shared.key.bits ws c.seat.inside.inner.me.0.last) (sym c.in-Ok.ensures)
    (there_in_end c.self.inside.table.shared.key _ _ c.seat.inside.inner.id c.seat.inside.inner.me.0 c.close_with-closed.ensures.values.2 one live))
