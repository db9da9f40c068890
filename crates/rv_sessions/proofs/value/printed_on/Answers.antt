use Rattle.run_model.specs.Due.{printed}
use Rattle.rel_slices.specs.Thin.{value_of}
use Rattle.rel_values.specs.Values.{Fits}
use Rattle.rv_sessions.specs.declared.form.Form.TheVariants.{Matrix}
use Rattle.rv_sessions.specs.Told.{bytes_of}
use Rattle.rv_sessions.proofs.Valuing.{shown_over}
use Rattle.rv_sessions.proofs.value.printed_on.Goals as goal

pub print_text-requires : goal.print_text-requires
print_text-requires g c = c.in-Ok.ensures.came.0

pub returns-in-Err : goal.returns-in-Err
returns-in-Err g c = let s = c.in-Err.ensures in record { came = s.came printed; keeps = s.keeps; room = s.room }

pub returns : goal.returns
returns g c =
    let m = c.print_text.ensures in
    shown_over Fits value_of Matrix (bytes_of c.print_text.result) c.in-Ok.ensures m.keeps m.room m.shown
