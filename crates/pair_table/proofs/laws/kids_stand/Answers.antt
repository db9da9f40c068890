use Rattle.std.proofs.Common.{refl, subst}
use Rattle.rel_model.specs.Words.{IsDistinct}
use Rattle.rel_model.specs.Views.{View}
use Rattle.rel_model.proofs.TreeLaws.{parts_stand}
use Rattle.pair_table.proofs.laws.kids_stand.Goals as goal

pub returns : goal.returns
returns c depth name s =
    let d : IsDistinct c.args.seat.now.words = subst (λ (v : View). IsDistinct v.words) c.seat.view_is c.seat.invariant.canonical in
    let p = parts_stand c.args.seat.now.words d depth name s in
    (p.0, p.1, refl)
