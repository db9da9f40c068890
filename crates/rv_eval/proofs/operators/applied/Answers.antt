use Rattle.std.proofs.Common.{◌≡◌, ◌∙◌, true, sym, ap}
use Rattle.lang_model.specs.declared.syntax.Op2.{Op2}
use Rattle.lang_model.specs.Types.{known, takes}
use Rattle.rel_model.specs.Algebra.{HasType}
use Rattle.rel_slices.specs.declared.thin.Value.{Value}
use Rattle.rel_slices.specs.Thin.{value_of, value_rows, value_cols}
use Rattle.rel_values.specs.Values.{Fits}
use Rattle.rv_eval.proofs.Operating.{type_of_fit, linked_as, both_fit, one_fits}
use Rattle.rv_eval.proofs.Costing.{plain_of, product_of, wide_by}
use Rattle.rv_eval.proofs.Performing.{lifted_performs}
use Rattle.rv_eval.proofs.operators.applied.Given.{Over}
use Rattle.rv_eval.proofs.operators.applied.Goals as goal

-- the sizes of an operand
typed : (g : Over) (engine : _) (v : Value) → Fits (g.E.Core.worker engine) v
    → HasType (value_rows v) (value_cols v) (value_of (g.E.Core.worker engine) v)
typed g engine v fits =
    let laws = g.met.E.Core in
    type_of_fit (g.E.Core.worker engine) v (laws.valid engine) (laws.row_size engine) (laws.col_size engine) fits

-- the operator of an arm takes the operands as well
taken : (x y : Value) {op same : Op2} → op ≡ same
    → takes op (known (value_rows x) (value_cols x)) (known (value_rows y) (value_cols y)) ≡ true
    → takes same (known (value_rows x) (value_cols x)) (known (value_rows y) (value_cols y)) ≡ true
taken x y is t =
    ap (λ o. takes o (known (value_rows x) (value_cols x)) (known (value_rows y) (value_cols y))) (sym is) ∙ t

pub returns-in-Or : goal.returns-in-Or
returns-in-Or g c =
    let t = typed g c.args.engine.now c.args.r.now c.requires.left in
    let u = typed g c.args.engine.now c.args.s.now c.requires.right in
    let is = linked_as c.args.at t u c.requires.takes c.in-Or.is in
    lifted_performs is c.lift.ensures (plain_of g.E.Core.least _ _ _ _ t.row_size t.col_size) c.union.ensures.operates

pub returns-in-And : goal.returns-in-And
returns-in-And g c =
    let t = typed g c.args.engine.now c.args.r.now c.requires.left in
    let u = typed g c.args.engine.now c.args.s.now c.requires.right in
    let is = linked_as c.args.at t u c.requires.takes c.in-And.is in
    let room = plain_of g.E.Core.least _ _ _ _ t.row_size t.col_size in
    lifted_performs is c.lift-in-And.ensures room c.inter.ensures.operates

pub returns-in-Times : goal.returns-in-Times
returns-in-Times g c =
    let t = typed g c.args.engine.now c.args.r.now c.requires.left in
    let u = typed g c.args.engine.now c.args.s.now c.requires.right in
    let is = linked_as c.args.at t u c.requires.takes c.in-Times.is in
    let room = product_of g.E.Core.least _ _ _ _ _ _ t.row_size t.col_size u.col_size in
    lifted_performs is c.lift-in-Times.ensures room c.compose.ensures.operates

pub returns-in-Under : goal.returns-in-Under
returns-in-Under g c =
    let t = typed g c.args.engine.now c.args.r.now c.requires.left in
    let u = typed g c.args.engine.now c.args.s.now c.requires.right in
    let is = linked_as c.args.at t u c.requires.takes c.in-Under.is in
    let room = wide_by g.E.Core.least _ _ _ _ _ _ t.row_size t.col_size u.col_size in
    lifted_performs is c.lift-in-Under.ensures room c.right.ensures.operates

pub returns-in-Over : goal.returns-in-Over
returns-in-Over g c =
    let t = typed g c.args.engine.now c.args.r.now c.requires.left in
    let u = typed g c.args.engine.now c.args.s.now c.requires.right in
    let is = linked_as c.args.at t u c.requires.takes c.in-Over.is in
    let room = wide_by g.E.Core.least _ _ _ _ _ _ t.row_size t.col_size u.row_size in
    lifted_performs is c.lift-in-Over.ensures room c.left.ensures.operates

pub union-requires : goal.union-requires
union-requires g c =
    let x = c.args.r.now in
    let y = c.args.s.now in
    let t = taken x y c.in-Or.is c.requires.takes in
    let fit = both_fit (value_rows x) (value_cols x) (value_rows y) (value_cols y) t in
    record { left = c.requires.left; right = c.requires.right; rows = fit.0; cols = fit.1 }

pub inter-requires : goal.inter-requires
inter-requires g c =
    let x = c.args.r.now in
    let y = c.args.s.now in
    let t = taken x y c.in-And.is c.requires.takes in
    let fit = both_fit (value_rows x) (value_cols x) (value_rows y) (value_cols y) t in
    record { left = c.requires.left; right = c.requires.right; rows = fit.0; cols = fit.1 }

pub compose-requires-clause-middle : goal.compose-requires-clause-middle
compose-requires-clause-middle g c =
    let x = c.args.r.now in
    let y = c.args.s.now in
    one_fits (value_cols x) (value_rows y) (taken x y c.in-Times.is c.requires.takes)

pub right-requires-clause-rows : goal.right-requires-clause-rows
right-requires-clause-rows g c =
    let x = c.args.r.now in
    let y = c.args.s.now in
    one_fits (value_rows x) (value_rows y) (taken x y c.in-Under.is c.requires.takes)

pub left-requires-clause-cols : goal.left-requires-clause-cols
left-requires-clause-cols g c =
    let x = c.args.r.now in
    let y = c.args.s.now in
    one_fits (value_cols x) (value_cols y) (taken x y c.in-Over.is c.requires.takes)
