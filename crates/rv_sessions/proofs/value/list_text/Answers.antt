use Rattle.std.proofs.Common.{◌≤◌, ◌∙◌, length, Err, refl, sym, ap, subst}
use Rattle.rel_model.specs.Relation.{Relation}
use Rattle.rel_slices.specs.Thin.{value_of}
use Rattle.rel_slices.proofs.Valuing.{value_same}
use Rattle.run_model.specs.Page.{listing}
use Rattle.run_model.specs.declared.outcome.Outcome.TheVariants.{TooLarge}
use Rattle.run_model.specs.declared.outcome.Unit.TheVariants.{Pairs}
use Rattle.run_model.specs.Limits.{list_limit}
use Rattle.rel_values.proofs.Operating.{fits_stays}
use Rattle.rv_eval.proofs.Operating.{type_of_fit}
use Rattle.rv_print.proofs.Left.{with_pairs-same}
use Rattle.rv_sessions.specs.Showing.{IsShown}
use Rattle.rv_sessions.specs.declared.form.Form.TheVariants.{Listing}
use Rattle.rv_sessions.proofs.Shown.{within_due}
use Rattle.rv_sessions.proofs.value.list_text.Goals as goal

pub pairs_within-requires : goal.pairs_within-requires
pairs_within-requires g c = c.requires.stands

pub unlisted-requires : goal.unlisted-requires
unlisted-requires g c =
    let w = g.E.Core.worker in
    fits_stays (w c.args.engine.now) (w c.pairs_within.new.engine) c.args.value.now c.pairs_within.ensures.reads.keeps c.requires

pub returns-in_default-clause-shown : goal.returns-in_default-clause-shown
returns-in_default-clause-shown g c =
    let w = g.E.Core.worker in
    subst (λ (r : Relation). IsShown Listing r (Err c.unlisted.result))
    (value_same (w c.args.engine.now) (w c.pairs_within.new.engine) c.args.value.now c.pairs_within.ensures.reads.keeps c.requires.stands) c.unlisted.ensures.shown

pub returns-in-Ok-clause-shown : goal.returns-in-Ok-clause-shown
returns-in-Ok-clause-shown g c =
    let e = c.args.engine.now in
    let w = g.E.Core.worker in
    let x = c.args.value.now in
    let r = value_of (w e) x in
    let t = type_of_fit (w e) x (g.met.E.Core.valid e) (g.met.E.Core.row_size e) (g.met.E.Core.col_size e) c.requires in
    let shape = c.shape_of.result in
    let within = subst (λ ps. length ps ≤ list_limit) c.in-Some.ensures.value c.in-Some.ensures.few in (
      within_due list_limit (length r.pairs) (TooLarge (length r.pairs) Pairs) r within,
      c.in-Ok.ensures ∙ ap listing (with_pairs-same r shape.rows shape.cols c.as_slice.result.now
          (t.row_size ∙ sym c.shape_of.ensures.rows) (t.col_size ∙ sym c.shape_of.ensures.cols)
          (c.as_slice.ensures.value ∙ c.in-Some.ensures.value)),
    )
