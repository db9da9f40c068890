use Rattle.run_model.specs.Due.{listed}
use Rattle.rel_slices.specs.Thin.{value_of}
use Rattle.rel_values.specs.Values.{Fits}
use Rattle.rv_sessions.specs.declared.form.Form.TheVariants.{Listing}
use Rattle.rv_sessions.specs.Told.{bytes_of}
use Rattle.rv_sessions.proofs.Valuing.{shown_over}
use Rattle.rv_sessions.proofs.value.listed_on.Goals as goal

pub list_text-requires : goal.list_text-requires
list_text-requires g c = c.in-Ok.ensures.came.0

pub returns-in-Err : goal.returns-in-Err
returns-in-Err g c = let s = c.in-Err.ensures in record { came = s.came listed; keeps = s.keeps; room = s.room }

pub returns : goal.returns
returns g c =
    let m = c.list_text.ensures in
    shown_over Fits value_of Listing (bytes_of c.list_text.result) c.in-Ok.ensures m.keeps m.room m.shown
