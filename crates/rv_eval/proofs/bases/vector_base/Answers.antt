use Rattle.std.proofs.Common.{◌^◌, ◌∙◌, refl}
use Rattle.rel_model.specs.Domains.{membership}
use Rattle.rel_model.specs.Choice.{point, init, next, inj}
use Rattle.lang_model.specs.Rooms.{wide_cost}
use Rattle.lang_model.specs.declared.syntax.Base.TheVariants.{Epsi, Point, Init, Next, Inj}
use Rattle.lang_model.specs.Outcomes.{Makes}
use Rattle.lang_model.specs.Mean.{based, limited}
use Rattle.rv_eval.proofs.Costing.{wide_by}
use Rattle.rv_eval.proofs.Domains.{limited_ends, limited_fits}
use Rattle.rv_eval.proofs.Basing.{vector_is, last_vector}
use Rattle.rv_eval.proofs.Performing.{lifted_performs}
use Rattle.rv_eval.proofs.bases.vector_base.Goals as goal

pub returns-in-Epsi : goal.returns-in-Epsi
unfolding based
returns-in-Epsi g c =
    let w = g.E.Core.worker c.args.engine.now in
    let v = g.E.Core.worker c.epsi.new.engine in
    let at = c.args.at in
    let s = c.shape_in-shape.ensures in
    let m = c.shape_in-shape.result.rows in
    let one = s.cols ∙ c.requires.one_column in
    let is = vector_is at Epsi _ (λ r m n. limited at (2 ^ m) (Makes (membership m) (wide_cost m n (2 ^ m))))
    s.typed one c.in-Epsi.is refl in
    let less = wide_by g.E.Core.least m 1 (2 ^ m) m _ (2 ^ m) refl one refl in
    record {
      ends = limited_ends w v _ at _ _ _ _ _ _ less (g.met.E.Core.row_limit c.epsi.new.engine) (g.met.E.Core.col_limit c.epsi.new.engine) (λ a b. b) _ c.epsi.result c.lift_domain.result is c.lift_domain.ensures c.epsi.ensures.operates;
      fits = limited_fits w v _ at _ _ _ _ _ c.epsi.result c.lift_domain.result c.lift_domain.ensures c.epsi.ensures.operates;
    }

pub returns-in-Point : goal.returns-in-Point
unfolding based
returns-in-Point g c =
    let s = c.shape_in-shape.ensures in
    let one = s.cols ∙ c.requires.one_column in
    let is = vector_is c.args.at Point _ (λ r m n. Makes (point r) (wide_cost m n 1)) s.typed one c.in-Point.is refl in
    lifted_performs is c.lift.ensures (wide_by g.E.Core.least _ _ 1 _ _ 1 s.rows s.cols refl) c.point.ensures.operates

pub returns-in-Init : goal.returns-in-Init
unfolding based
returns-in-Init g c =
    let s = c.shape_in-shape.ensures in
    let one = s.cols ∙ c.requires.one_column in
    let is = vector_is c.args.at Init _ (λ r m n. Makes (init r) (wide_cost m n 1)) s.typed one c.in-Init.is refl in
    let room = wide_by g.E.Core.least _ _ 1 _ _ 1 s.rows s.cols refl in
    lifted_performs is c.lift-in-Init.ensures room c.init.ensures.operates

pub returns-in-Next : goal.returns-in-Next
unfolding based
returns-in-Next g c =
    let s = c.shape_in-shape.ensures in
    let one = s.cols ∙ c.requires.one_column in
    let is = vector_is c.args.at Next _ (λ r m n. Makes (next r) (wide_cost m n 1)) s.typed one c.in-Next.is refl in
    let room = wide_by g.E.Core.least _ _ 1 _ _ 1 s.rows s.cols refl in
    lifted_performs is c.lift-in-Next.ensures room c.next.ensures.operates

pub returns-in_default : goal.returns-in_default
unfolding based
returns-in_default g c =
    let s = c.shape_in-shape.ensures in
    let one = s.cols ∙ c.requires.one_column in
    let d = c.in_default in
    let last = last_vector c.args.base c.requires.demands d.not-Epsi d.not-Point d.not-Init d.not-Next in
    let is = vector_is c.args.at Inj _ (λ r m n. Makes (inj r) (wide_cost m n 1)) s.typed one last refl in
    let room = wide_by g.E.Core.least _ _ 1 _ _ 1 s.rows s.cols refl in
    lifted_performs is c.lift-in_default.ensures room c.inj.ensures.operates
