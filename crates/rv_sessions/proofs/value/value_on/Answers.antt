use Rattle.std.proofs.Common.{Err, ap}
use Rattle.rel_model.specs.Worker.{Stands, set_of}
use Rattle.rv_sessions.proofs.Valuing.{valued_over, refused_over}
use Rattle.rv_sessions.proofs.value.value_on.Goals as goal

pub returns-in-Ok : goal.returns-in-Ok
returns-in-Ok g c = let s = c.in-Ok.ensures in valued_over Stands set_of s.answer s.stands s.keeps s.room

pub returns-in-Err : goal.returns-in-Err
returns-in-Err g c =
    let s = c.in-Err.ensures in
    refused_over Stands set_of s.answer (λ n. s.compound (ap (λ x. Err x) n)) c.outcome_of.ensures s.keeps s.room
