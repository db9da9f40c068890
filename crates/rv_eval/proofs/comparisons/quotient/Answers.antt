use Rattle.std.proofs.Common.{◌∙◌, sym}
use Rattle.rv_eval.proofs.Domains.{syq_fits, syq_misfit}
use Rattle.rv_eval.proofs.Costing.{wide_by}
use Rattle.rv_eval.proofs.Performing.{lifted_performs, fault_performs}
use Rattle.rv_eval.proofs.comparisons.quotient.Goals as goal

pub syq-requires-clause-rows : goal.syq-requires-clause-rows
syq-requires-clause-rows g c = sym c.shape_in-a.ensures.rows ∙ c.if-a-b.true ∙ c.shape_in-b.ensures.rows

pub returns-then-a-b : goal.returns-then-a-b
returns-then-a-b g c =
    let a = c.shape_in-a.ensures in
    let b = c.shape_in-b.ensures in
    let is = syq_fits c.args.at a.typed b.typed c.if-a-b.true in
    lifted_performs is c.lift.ensures (wide_by g.E.Core.least _ _ _ _ _ _ a.rows a.cols b.cols) c.syq.ensures.operates

pub returns-else-a-b : goal.returns-else-a-b
returns-else-a-b g c =
    let a = c.shape_in-a.ensures in
    let b = c.shape_in-b.ensures in
    let is = syq_misfit c.args.at a.typed b.typed c.if-a-b.false in
    fault_performs is c.not_alike.ensures
