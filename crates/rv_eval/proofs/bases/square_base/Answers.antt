use Rattle.std.proofs.Common.{refl}
use Rattle.rel_model.specs.declared.Rel.{Rel}
use Rattle.rel_model.specs.Algebra.{HasType}
use Rattle.rel_model.specs.Worker.{Stands, set_of}
use Rattle.rel_model.specs.Operators.{identity}
use Rattle.rel_model.specs.Closures.{transitive_closure, reflexive_closure}
use Rattle.rel_model.specs.Orders.{less, hasse, classes}
use Rattle.lang_model.specs.Rooms.{wide_cost, order_cost}
use Rattle.lang_model.specs.declared.syntax.Base.TheVariants.{I, Trans, Refl, Less, Hasse, Quot}
use Rattle.lang_model.specs.Outcomes.{Makes}
use Rattle.lang_model.specs.Mean.{based}
use Rattle.rv_eval.proofs.Costing.{wide_of, wide_itself}
use Rattle.rv_eval.proofs.Bounding.{order_of_derived, order_of_wide, order_of_classes}
use Rattle.rv_eval.proofs.Basing.{square_is, side_is, last_square}
use Rattle.rv_eval.proofs.Performing.{whole_performs}
use Rattle.rv_eval.proofs.bases.square_base.Given.{Over}
use Rattle.rv_eval.proofs.bases.square_base.Goals as goal

-- the sizes of the operand
typed : (g : Over) (engine : _) (r : Rel) → Stands (g.E.Core.worker engine) r
    → HasType r.rows r.cols (set_of (g.E.Core.worker engine) r)
typed g engine r s = record {
  valid = g.met.E.Core.valid engine r s;
  row_size = g.met.E.Core.row_size engine r s;
  col_size = g.met.E.Core.col_size engine r s;
}

pub returns-in-I : goal.returns-in-I
unfolding based
returns-in-I g c =
    let t = typed g c.args.engine.now c.args.r c.requires.standing in
    let is = square_is c.args.at I (λ r m n. Makes (identity m) (wide_cost m m m)) t c.requires.square c.in-I.is refl in
    let e = c.identity.ensures in
    whole_performs _ _ c.identity.result is c.as_whole.ensures c.lift.ensures
    (wide_of g.E.Core.least _ _ _ _ _ _ refl refl refl) e.value e.keeps e.room e.cause

pub returns-in-Trans : goal.returns-in-Trans
unfolding based
returns-in-Trans g c =
    let t = typed g c.args.engine.now c.args.r c.requires.standing in
    let is = square_is c.args.at Trans (λ r m n. Makes (transitive_closure r) (wide_cost m m m))
    t c.requires.square c.in-Trans.is refl in
    let e = c.trans.ensures in
    whole_performs _ _ c.trans.result is c.as_whole-in-Trans.ensures c.lift-in-Trans.ensures
    (wide_of g.E.Core.least _ _ _ _ _ _ refl refl refl) e.value e.keeps e.room e.cause

pub returns-in-Less : goal.returns-in-Less
unfolding based
returns-in-Less g c =
    let t = typed g c.args.engine.now c.args.r c.requires.standing in
    let is = square_is c.args.at Less (λ r m n. Makes (less m) (order_cost m m m))
    t c.requires.square c.in-Less.is refl in
    let e = c.less.ensures in
    whole_performs _ _ c.less.result is c.as_whole-in-Less.ensures c.lift-in-Less.ensures
    (order_of_derived g.E.Core.least _ _ _ _ _ _ refl refl refl) e.value e.keeps e.room e.cause

pub returns-in-Hasse : goal.returns-in-Hasse
unfolding based
returns-in-Hasse g c =
    let t = typed g c.args.engine.now c.args.r c.requires.standing in
    let square = c.requires.square in
    let is = square_is c.args.at Hasse (λ r m n. Makes (hasse r) (order_cost m m m)) t square c.in-Hasse.is refl in
    let e = c.hasse.ensures in
    whole_performs _ _ c.hasse.result is c.as_whole-in-Hasse.ensures c.lift-in-Hasse.ensures
    (order_of_wide g.E.Core.least _ _ _ _ _ _ refl square square) e.value e.keeps e.room e.cause

pub returns-in-Quot : goal.returns-in-Quot
unfolding based
returns-in-Quot g c =
    let t = typed g c.args.engine.now c.args.r c.requires.standing in
    let square = c.requires.square in
    let is = side_is c.args.at Quot _ (λ r m n. Makes (classes r) (order_cost m m m)) t square c.in-Quot.is refl in
    let e = c.quot.ensures in
    whole_performs _ _ c.quot.result is c.as_whole-in-Quot.ensures c.lift-in-Quot.ensures
    (order_of_classes g.E.Core.least _ _ _ _ _ _ refl square square) e.value e.keeps e.room e.cause

pub returns-in_default : goal.returns-in_default
unfolding based
returns-in_default g c =
    let t = typed g c.args.engine.now c.args.r c.requires.standing in
    let d = c.in_default in
    let last = last_square c.args.base c.requires.demands d.not-I d.not-Trans d.not-Less d.not-Hasse d.not-Quot in
    let is = square_is c.args.at Refl (λ r m n. Makes (reflexive_closure r) (wide_cost m m m))
    t c.requires.square last refl in
    let e = c.refl.ensures in
    whole_performs _ _ c.refl.result is c.as_whole-in_default.ensures c.lift-in_default.ensures
    (wide_itself g.E.Core.least _ _ _) e.value e.keeps e.room e.cause
