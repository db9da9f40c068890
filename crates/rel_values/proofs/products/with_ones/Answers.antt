use Rattle.std.proofs.Common.{◌≡◌, ◌∙◌, ℕ, refl, ap, arith}
use Rattle.rel_model.specs.Relation.{Relation}
use Rattle.rel_model.specs.Operators.{compose, full}
use Rattle.rel_model.specs.Roots.{relation_room}
use Rattle.rel_model.specs.Worker.{product_room}
use Rattle.rel_slices.specs.Thin.{value_of, value_rows, value_cols}
use Rattle.rel_slices.proofs.Costs.{value_row_limit, value_col_limit}
use Rattle.rel_slices.proofs.Valuing.{value_same, value_type, dom_full}
use Rattle.rel_values.proofs.Operating.{begun, goes_on, stops, after}
use Rattle.rel_values.proofs.Sizes.{ones_cost}
use Rattle.rel_values.proofs.products.with_ones.Goals as goal

pub returns-in_err-ones : goal.returns-in_err-ones
returns-in_err-ones g c =
    let laws = g.met.E.Core in
    let engine = c.args.engine.now in
    let o = g.E.Core.worker engine in
    let v = c.args.v.now in
    let a = c.in_err-ones.ensures in
    let r = ones_cost g.E.Core.least (value_rows v) (value_cols v) g.met.E.Engine.leaf_height (value_row_limit o v (laws.row_limit engine) c.requires.fits.stands) (value_col_limit o v (laws.col_limit engine) c.requires.fits.stands) in
    let q = ap (λ (z : ℕ). relation_room g.E.Core.least z 1) c.shape_of.ensures.cols in
    record { operates = stops _ c.from_residual.result c.from_residual.ensures.1 (omega (arith, r, q)) (begun o) a.keeps a.room a.cause }

pub returns : goal.returns
returns g c =
    let laws = g.met.E.Core in
    let engine = c.args.engine.now in
    let o = g.E.Core.worker engine in
    let w1 = g.E.Core.worker c.full.new.core in
    let v = c.args.v.now in
    let a = c.in_ok-ones.ensures in
    let stands = c.requires.fits.stands in
    let r = ones_cost g.E.Core.least (value_rows v) (value_cols v) g.met.E.Engine.leaf_height (value_row_limit o v (laws.row_limit engine) stands) (value_col_limit o v (laws.col_limit engine) stands) in
    let q = ap (λ (z : ℕ). relation_room g.E.Core.least z 1) c.shape_of.ensures.cols in
    let p = ap (product_room (value_rows v) (value_cols v)) a.value.col_size in
    let ones : value_of w1 c.in_ok-ones.ones ≡ full (value_cols v) 1 = a.value.means ∙ ap (λ (z : ℕ). full z 1) c.shape_of.ensures.cols in
    record {
      operates = after c.compose.result (goes_on _ (begun o) a.keeps a.room a.cause) c.compose.ensures.operates refl a.value.col_size
          (ap (λ (z : Relation). compose z (value_of w1 c.in_ok-ones.ones)) (value_same o w1 v a.keeps stands) ∙ ap (compose (value_of o v)) ones
          ∙ dom_full (value_rows v) (value_cols v) (value_of o v) (value_type o v (λ r s. record { valid = laws.valid engine r s; row_size = laws.row_size engine r s; col_size = laws.col_size engine r s }) stands))
          (omega (arith, r, q, p));
    }
