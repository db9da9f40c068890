use Rattle.std.proofs.Common.{◌≡◌, ◌%◌, ◌∙◌, sym, ap, arith}
use Rattle.rel_model.proofs.Members.{type-transpose}
use Rattle.rel_slices.specs.Thin.{value_of, value_rows, value_cols}
use Rattle.rel_values.proofs.Operating.{turned_odd}
use Rattle.lang_model.specs.declared.syntax.Op2.TheVariants.{Times}
use Rattle.lang_model.specs.Mean.{linked}
use Rattle.lang_model.specs.Rooms.{plain_cost}
use Rattle.rv_eval.specs.Turned.{dearer}
use Rattle.rv_eval.proofs.Costing.{plain_of, product_of}
use Rattle.rv_eval.proofs.Operating.{type_of_fit, link_fits, link_misfit, equal_sizes, unequal_sizes}
use Rattle.rv_eval.proofs.Performing.{lifted_performs, fault_performs}
use Rattle.rv_eval.proofs.operators.link_turned_once.Goals as goal

pub compose_turned-requires-clause-rows : goal.compose_turned-requires-clause-rows
compose_turned-requires-clause-rows g c = sym c.shape_in-a.ensures.rows ∙ c.if-a-b.true ∙ c.shape_in-b.ensures.rows

pub returns-then-a-b : goal.returns-then-a-b
returns-then-a-b g c =
    let e = c.args.engine.now in
    let laws = g.met.E.Core in
    let w = g.E.Core.worker e in
    let x = c.args.r.now in
    let y = c.args.s.now in
    let r = value_of w x in
    let s = value_of w y in
    let t = type_of_fit w x (laws.valid e) (laws.row_size e) (laws.col_size e) c.requires.left in
    let u = type_of_fit w y (laws.valid e) (laws.row_size e) (laws.col_size e) c.requires.right in
    let turned = type-transpose (value_rows x) (value_cols x) r t in
    let once : 1 % 2 ≡ 1 = omega arith in
    let rows : value_rows x ≡ value_rows y = sym c.shape_in-a.ensures.rows ∙ c.if-a-b.true ∙ c.shape_in-b.ensures.rows in
    let is = ap (λ z. dearer (plain_cost r.rows r.cols) (linked c.args.at Times z s)) (turned_odd 1 r once t.valid) ∙ ap (dearer (plain_cost r.rows r.cols)) (link_fits c.args.at Times turned u (equal_sizes (value_rows x) (value_rows y) rows)) in
    let p = plain_of g.E.Core.least _ _ _ _ t.row_size t.col_size in
    let q = product_of g.E.Core.least _ _ _ _ _ _ turned.row_size turned.col_size u.col_size in
    lifted_performs is c.lift.ensures (omega (arith, p, q)) c.compose_turned.ensures.operates

pub returns : goal.returns
returns g c =
    let w = g.E.Core.worker c.args.engine.now in
    let r = value_of w c.args.r.now in
    let s = value_of w c.args.s.now in
    let a = c.shape_in-a in
    let b = c.shape_in-b in
    let t = a.ensures.typed in
    let turned = type-transpose a.result.rows a.result.cols r t in
    let once : 1 % 2 ≡ 1 = omega arith in
    let is = ap (λ z. dearer (plain_cost r.rows r.cols) (linked c.args.at Times z s)) (turned_odd 1 r once t.valid) ∙ ap (dearer (plain_cost r.rows r.cols)) (link_misfit c.args.at Times turned b.ensures.typed (unequal_sizes a.result.rows b.result.rows c.if-a-b.false)) in
    fault_performs is c.mismatch.ensures
