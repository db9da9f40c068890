use Rattle.std.proofs.Common.{◌∙◌, ◌∷◌, [], sym, ap}
use Rattle.rel_slices.specs.Thin.{value_of, value_rows, value_cols}
use Rattle.lang_model.specs.Mean.{based}
use Rattle.rv_eval.proofs.Operating.{stands_of_whole}
use Rattle.rv_eval.proofs.Performing.{performs_as}
use Rattle.rv_eval.proofs.bases.square_value.Goals as goal

pub square_base-requires-clause-standing : goal.square_base-requires-clause-standing
square_base-requires-clause-standing g c = stands_of_whole (g.E.Core.worker c.args.engine.now) c.args.r.now c.square-whole.result c.square-whole.ensures c.requires.standing

pub square_base-requires-clause-square : goal.square_base-requires-clause-square
square_base-requires-clause-square g c = ap value_rows (sym c.square-whole.ensures) ∙ c.requires.square ∙ ap value_cols c.square-whole.ensures

pub returns : goal.returns
returns g c =
    let w = g.E.Core.worker c.args.engine.now in
    performs_as (ap (λ x. based c.args.at c.args.base (value_of w x ∷ [])) c.square-whole.ensures) c.square_base.ensures
