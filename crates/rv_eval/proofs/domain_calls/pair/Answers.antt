use Rattle.std.proofs.Common.{◌∙◌, ◌*◌, max, sym, refl}
use Rattle.rel_slices.specs.Thin.{value_rows, value_cols}
use Rattle.rv_eval.proofs.Domains.{limited_ends, limited_fits, pair_fits, pair_misfit}
use Rattle.rv_eval.proofs.Operating.{type_of_fit, unequal_sizes}
use Rattle.rv_eval.proofs.Costing.{wide_by}
use Rattle.rv_eval.proofs.Performing.{fault_performs}
use Rattle.rv_eval.proofs.domain_calls.pair.Goals as goal

pub pair-requires-clause-rows : goal.pair-requires-clause-rows
pair-requires-clause-rows g c = sym c.shape_in-a.ensures.rows ∙ c.if-a-b.true ∙ c.shape_in-b.ensures.rows

pub returns-then-a-b : goal.returns-then-a-b
returns-then-a-b g c =
    let w = g.E.Core.worker c.args.engine.now in
    let v = g.E.Core.worker c.pair.new.engine in
    let x = c.args.r.now in
    let y = c.args.s.now in
    let t = type_of_fit w x (g.met.E.Core.valid c.args.engine.now) (g.met.E.Core.row_size c.args.engine.now) (g.met.E.Core.col_size c.args.engine.now) c.requires.left in
    let u = type_of_fit w y (g.met.E.Core.valid c.args.engine.now) (g.met.E.Core.row_size c.args.engine.now) (g.met.E.Core.col_size c.args.engine.now) c.requires.right in
    let rows = sym c.shape_in-a.ensures.rows ∙ c.if-a-b.true ∙ c.shape_in-b.ensures.rows in
    let is = pair_fits c.args.at t u rows in
    let less = wide_by g.E.Core.least (value_rows x) (max (value_cols x) (value_cols y)) (value_cols x * value_cols y) _ _ _ refl refl refl in
    record {
      ends = limited_ends w v _ c.args.at _ _ _ _ _ _ less (g.met.E.Core.row_limit c.pair.new.engine) (g.met.E.Core.col_limit c.pair.new.engine) (λ a b. b) _ c.pair.result c.lift_domain.result is c.lift_domain.ensures c.pair.ensures.operates;
      fits = limited_fits w v _ c.args.at _ _ _ _ _ c.pair.result c.lift_domain.result c.lift_domain.ensures c.pair.ensures.operates;
    }

pub returns-else-a-b : goal.returns-else-a-b
returns-else-a-b g c =
    let a = c.shape_in-a.ensures in
    let b = c.shape_in-b.ensures in
    fault_performs (pair_misfit c.args.at a.typed b.typed (unequal_sizes _ _ c.if-a-b.false)) c.no_pair.ensures
