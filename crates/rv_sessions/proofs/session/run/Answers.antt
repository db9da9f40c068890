use Rattle.std.proofs.Common.{subst}
use Rattle.rv_sessions.specs.Sessions.{IsRead}
use Rattle.rv_sessions.specs.Telling.{input_of}
use Rattle.rv_sessions.proofs.Refusing.{ran_bytes, refused_bytes}
use Rattle.rv_sessions.proofs.session.run.Goals as goal

pub returns-in-Ok-clause-ran : goal.returns-in-Ok-clause-ran
returns-in-Ok-clause-ran g c =
    let a = c.args in
    let w = g.E.Core.worker in
    let n = c.run_checked.new.seat in
    ran_bytes g.E.Core.least (input_of a.setting.now.files.now a.setting.now.turns) a.number a.script.now c.in-Ok.checked (w a.seat.now.engine) (w n.engine) a.seat.now.pass n.pass
    c.run_checked.result (subst (IsRead a.script.now) c.in-Ok.is c.read_script.ensures) c.run_checked.ensures.ran

pub returns-in-Err-clause-ran : goal.returns-in-Err-clause-ran
returns-in-Err-clause-ran g c =
    let a = c.args in
    refused_bytes g.E.Core.least (input_of a.setting.now.files.now a.setting.now.turns) a.number a.script.now c.in-Err.outcome (g.E.Core.worker a.seat.now.engine) a.seat.now.pass
    c.not_run.result (subst (IsRead a.script.now) c.in-Err.is c.read_script.ensures) c.not_run.ensures
