use Rattle.std.proofs.Common.{◌≡◌, ◌*◌, ◌≤◌, ◌∙◌, ℕ, List, refl, sym, ap, subst}
use Rattle.rel_model.specs.Listed.{AreWithin}
use Rattle.rel_slices.specs.Thin.{value_of}
use Rattle.rel_slices.proofs.Valuing.{value_stays, value_same}
use Rattle.run_model.specs.Due.{printed}
use Rattle.run_model.specs.Texts.{matrix}
use Rattle.run_model.specs.declared.outcome.Outcome.TheVariants.{TooLarge}
use Rattle.run_model.specs.declared.outcome.Unit.TheVariants.{Cells}
use Rattle.run_model.specs.Limits.{print_limit}
use Rattle.rv_eval.proofs.Operating.{type_of_fit}
use Rattle.rv_print.proofs.Left.{with_pairs-same}
use Rattle.rv_sessions.proofs.Shown.{within_due, printed_due, print_due}
use Rattle.rv_sessions.proofs.value.marked_text.Goals as goal

pub pairs-requires : goal.pairs-requires
pairs-requires g c = c.requires.stands

pub matrix_of-requires : goal.matrix_of-requires
matrix_of-requires g c =
    let e = c.args.engine.now in
    let w = g.E.Core.worker in
    let x = c.args.value.now in
    let r = value_of (w e) x in
    let t = type_of_fit (w e) x (g.met.E.Core.valid e) (g.met.E.Core.row_size e) (g.met.E.Core.col_size e) c.requires in
    subst (λ (m : ℕ). AreWithin m c.shape_of-shape.result.cols c.as_slice.result.now) (t.row_size ∙ sym c.shape_of-shape.ensures.rows)
    (subst (λ (n : ℕ). AreWithin r.rows n c.as_slice.result.now) (t.col_size ∙ sym c.shape_of-shape.ensures.cols)
    (subst (AreWithin r.rows r.cols) (sym (c.as_slice.ensures.value ∙ c.in-Ok-pairs.ensures.value)) t.valid.within))

pub returns-in-Err-clause-shown : goal.returns-in-Err-clause-shown
returns-in-Err-clause-shown g c =
    let e = c.args.engine.now in
    let w = g.E.Core.worker in
    let x = c.args.value.now in
    let r = value_of (w e) x in
    let t = type_of_fit (w e) x (g.met.E.Core.valid e) (g.met.E.Core.row_size e) (g.met.E.Core.col_size e) c.requires in
    let s = c.shape_of-shape in
    let due = printed_due r s.result.rows s.result.cols (t.row_size ∙ sym s.ensures.rows) (t.col_size ∙ sym s.ensures.cols) in
    print_due print_limit (s.result.rows * s.result.cols) Cells r (printed r) c.print_outcome.result c.in-Err.refused due
    c.in-Err.ensures.over c.print_outcome.ensures

pub returns-in-Ok-matrix_of-clause-shown : goal.returns-in-Ok-matrix_of-clause-shown
returns-in-Ok-matrix_of-clause-shown g c =
    let e = c.args.engine.now in
    let w = g.E.Core.worker in
    let x = c.args.value.now in
    let r = value_of (w e) x in
    let t = type_of_fit (w e) x (g.met.E.Core.valid e) (g.met.E.Core.row_size e) (g.met.E.Core.col_size e) c.requires in
    let s = c.shape_of-shape in
    let rows = t.row_size ∙ sym s.ensures.rows in
    let cols = t.col_size ∙ sym s.ensures.cols in
    let wanted = s.result.rows * s.result.cols in (
      printed_due r s.result.rows s.result.cols rows cols ∙ within_due print_limit wanted (TooLarge wanted Cells) r c.in-Ok.ensures.within,
      c.in-Ok-matrix_of.ensures ∙ ap matrix (with_pairs-same r s.result.rows s.result.cols c.as_slice.result.now rows cols
          (c.as_slice.ensures.value ∙ c.in-Ok-pairs.ensures.value)),
    )
