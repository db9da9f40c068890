use Rattle.std.proofs.Common.{Err, ap}
use Rattle.rel_slices.specs.Thin.{value_of}
use Rattle.rel_values.specs.Values.{Fits}
use Rattle.rv_sessions.proofs.Valuing.{valued_over, refused_over}
use Rattle.rv_sessions.proofs.value.any_value_on.Goals as goal

pub returns-in-Ok : goal.returns-in-Ok
returns-in-Ok g c = let s = c.in-Ok.ensures in valued_over Fits value_of s.answer s.fits s.keeps s.room

pub returns-in-Err : goal.returns-in-Err
returns-in-Err g c =
    let s = c.in-Err.ensures in
    refused_over Fits value_of s.answer (λ n. s.compound (ap (λ x. Err x) n)) c.outcome_of.ensures s.keeps s.room
