use Rattle.std.proofs.Common.{◌∙◌, map, sym}
use Rattle.rel_slices.specs.Thin.{value_of}
use Rattle.rv_eval.proofs.Calling.{same_length}
use Rattle.rv_eval.proofs.Basing.{other_count}
use Rattle.rv_eval.proofs.Performing.{performs_as}
use Rattle.rv_eval.proofs.bases.base_call.Goals as goal

pub returns-else-values-eq2 : goal.returns-else-values-eq2
returns-else-values-eq2 g c =
    let w = g.E.Core.worker c.args.engine.now in
    let same = same_length (value_of w) c.args.values.now in
    let other = other_count c.args.at c.args.base (map (value_of w) c.args.values.now) (λ e. c.if-values-eq1.false (sym same ∙ e)) (λ e. c.if-values-eq2.false (sym same ∙ e)) in
    performs_as other c.none_given.ensures
