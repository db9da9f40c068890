use Rattle.std.proofs.Common.{◌∙◌, sym, ap}
use Rattle.rel_slices.specs.Thin.{value_rows, value_cols}
use Rattle.lang_model.specs.Types.{known, takes}
use Rattle.rv_eval.proofs.Operating.{link_misfit}
use Rattle.rv_eval.proofs.Performing.{fault_performs}
use Rattle.rv_eval.proofs.operators.link.Goals as goal

pub applied-requires-clause-takes : goal.applied-requires-clause-takes
applied-requires-clause-takes g c =
    let x = c.args.r.now in
    let y = c.args.s.now in
    let op = c.args.op in
    let a = c.shape_in-a.result in
    let b = c.shape_in-b.result in
    sym (ap (λ k. takes op (known k a.cols) (known b.rows b.cols)) c.shape_in-a.ensures.rows ∙ ap (λ k. takes op (known (value_rows x) k) (known b.rows b.cols)) c.shape_in-a.ensures.cols
    ∙ ap (λ k. takes op (known (value_rows x) (value_cols x)) (known k b.cols)) c.shape_in-b.ensures.rows ∙ ap (λ k. takes op (known (value_rows x) (value_cols x)) (known (value_rows y) k)) c.shape_in-b.ensures.cols)
    ∙ sym c.takes.ensures ∙ c.if-takes.true

pub returns-else-takes : goal.returns-else-takes
returns-else-takes g c =
    let a = c.shape_in-a.ensures in
    let b = c.shape_in-b.ensures in
    let apart = sym c.takes.ensures ∙ c.if-takes.false in
    fault_performs (link_misfit c.args.at c.args.op a.typed b.typed apart) c.mismatch.ensures
