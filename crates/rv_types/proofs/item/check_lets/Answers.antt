use Rattle.std.proofs.Common.{◌∙◌, ◌+◌, drop, sym, ap}
use Rattle.lang_model.specs.Checking.{let_faults}
use Rattle.rv_types.specs.Found.{told, noted}
use Rattle.rv_types.specs.Scopes.{scope_of}
use Rattle.rv_types.proofs.Items.{noted-let}
use Rattle.rv_types.proofs.item.check_lets.Goals as goal

pub lets-preserved : goal.lets-preserved
lets-preserved c =
    let S = scope_of c.args.scope.now in
    let ls = c.args.lets.now in
    let k = c.lets.assignment-index in
    c.lets.invariant ∙ noted-let S (told c.lets.found) ls k c.assignment-item.result c.lets-test.true c.assignment-item.is ∙ ap (λ u. noted u (let_faults S (drop (k + 1) ls))) (sym c.check_alone-found.ensures)
