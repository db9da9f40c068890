use Rattle.std.proofs.Common.{◌≡◌, ◌%◌, ◌∙◌, sym, subst, arith}
use Rattle.rel_model.specs.Relation.{Relation}
use Rattle.rel_slices.specs.Thin.{value_of}
use Rattle.rel_values.proofs.Operating.{turned_even, turned_odd}
use Rattle.lang_model.specs.declared.syntax.Op2.TheVariants.{Times}
use Rattle.lang_model.specs.Mean.{linked}
use Rattle.lang_model.specs.Rooms.{plain_cost}
use Rattle.rv_eval.specs.Ends.{Performs}
use Rattle.rv_eval.specs.Turned.{dearer}
use Rattle.rv_eval.proofs.Operating.{type_of_fit}
use Rattle.rv_eval.proofs.Starting.{dearer_performs}
use Rattle.rv_eval.proofs.operators.link_turned.Goals as goal

pub returns-then-start-eq0 : goal.returns-then-start-eq0
returns-then-start-eq0 g c =
    let e = c.args.engine.now in
    let laws = g.met.E.Core in
    let w = g.E.Core.worker e in
    let r = value_of w c.args.r.now in
    let s = value_of w c.args.s.now in
    let t = type_of_fit w c.args.r.now (laws.valid e) (laws.row_size e) (laws.col_size e) c.requires.left in
    let even : c.args.start.times % 2 ≡ 0 = (let q = c.if-start-eq0.true in omega (arith, q)) in
    subst (λ (x : Relation). Performs g.E.Core.least w (g.E.Core.worker c.link.new.engine) (dearer (plain_cost r.rows r.cols) (linked c.args.start.link.now.at Times x s)) c.link.result) (sym (turned_even c.args.start.times r even t.valid))
    (dearer_performs (linked c.args.start.link.now.at Times r s) (plain_cost r.rows r.cols) c.link.ensures)

pub returns : goal.returns
returns g c =
    let e = c.args.engine.now in
    let laws = g.met.E.Core in
    let w = g.E.Core.worker e in
    let r = value_of w c.args.r.now in
    let s = value_of w c.args.s.now in
    let t = type_of_fit w c.args.r.now (laws.valid e) (laws.row_size e) (laws.col_size e) c.requires.left in
    let odd : c.args.start.times % 2 ≡ 1 = (let q = c.if-start-eq0.false in omega (arith, q)) in
    let once : 1 % 2 ≡ 1 = omega arith in
    subst (λ (x : Relation). Performs g.E.Core.least w (g.E.Core.worker c.link_turned_once.new.engine) (dearer (plain_cost r.rows r.cols) (linked c.args.start.link.now.at Times x s)) c.link_turned_once.result) (turned_odd 1 r once t.valid ∙ sym (turned_odd c.args.start.times r odd t.valid))
    c.link_turned_once.ensures
