use Rattle.std.proofs.Common.{ap, subst}
use Rattle.rel_model.specs.Trees.{cells}
use Rattle.rel_model.specs.Words.{IsDistinct}
use Rattle.rel_model.specs.Views.{View}
use Rattle.rel_model.proofs.TreeLaws.{one_set_one_name}
use Rattle.pair_table.proofs.laws.names_are_sets.Goals as goal

pub returns : goal.returns
returns c depth a b s t =
    let d : IsDistinct c.args.seat.now.words = subst (λ (v : View). IsDistinct v.words) c.seat.view_is c.seat.invariant.canonical in
    (ap (cells c.args.seat.now.words depth), one_set_one_name c.args.seat.now.words d depth a b s t)
