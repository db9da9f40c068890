use Rattle.std.proofs.Common.{◌≡◌, ◌∙◌, ap, subst}
use Rattle.rel_model.specs.Views.{Table, IsOf}
use Rattle.rel_model.specs.Quads.{Keeper}
use Rattle.fork_quads.proofs.Crewing.{house_of-injective}
use Rattle.test_crew.proofs.tests.worked.Goals as goal

-- the house stays over all that the crew does, so the seat is still of the table
pub returns : goal.returns
returns g c =
    let now : Table = c.takes_apart.new.quads.table in
    let made : Table = c.new-crew.result.table in
    let kept : now ≡ made = house_of-injective now made c.takes_apart.ensures.house in
    record { of = subst (λ (t : Table). IsOf c.into_seat.result t) (kept ∙ ap (λ (w : Keeper). w.table) c.new-crew.ensures) c.into_seat.ensures.of }
