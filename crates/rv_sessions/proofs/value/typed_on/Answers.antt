use Rattle.std.proofs.Common.{◌∙◌, sym, Ok, refl, arith}
use Rattle.run_model.specs.Due.{Value}
use Rattle.rel_model.proofs.Workers.{keeps_itself}
use Rattle.rel_slices.specs.Thin.{value_of}
use Rattle.rel_values.specs.Values.{Fits}
use Rattle.rv_eval.proofs.Operating.{type_of_fit}
use Rattle.rv_sessions.specs.declared.form.Form.TheVariants.{Typed}
use Rattle.rv_sessions.proofs.Valuing.{shown_over, lacked_over}
use Rattle.rv_sessions.proofs.value.typed_on.Goals as goal

pub returns-in-Err : goal.returns-in-Err
returns-in-Err g c = let s = c.in-Err.ensures in record { came = s.came Value; keeps = s.keeps; room = s.room }

pub returns-in-Ok-shape_text : goal.returns-in-Ok-shape_text
returns-in-Ok-shape_text g c =
    let e = c.any_value_on.new.engine in
    let w = g.E.Core.worker e in
    let x = c.in-Ok.value in
    let s = c.in-Ok.ensures in
    let t = type_of_fit w x (g.met.E.Core.valid e) (g.met.E.Core.row_size e) (g.met.E.Core.col_size e) s.came.0 in
    shown_over Fits value_of Typed (Ok c.in-Ok-shape_text.text.items) s (keeps_itself w) (omega arith) (
      refl,
      c.in-Ok-shape_text.ensures.typed (value_of w x) (t.row_size ∙ sym c.shape_of.ensures.rows)
          (t.col_size ∙ sym c.shape_of.ensures.cols),
    )

pub returns-in-Err-shape_text : goal.returns-in-Err-shape_text
returns-in-Err-shape_text g c =
    let w = g.E.Core.worker c.any_value_on.new.engine in
    lacked_over Fits value_of Typed c.in-Ok.ensures (keeps_itself w) (omega arith)
