use Rattle.rv_sessions.proofs.Refusing.{fault_read, flaw_read}
use Rattle.rv_sessions.proofs.session.read_script.Goals as goal

pub returns-in-Err-check : goal.returns-in-Err-check
returns-in-Err-check c =
    flaw_read c.args.bytes.now c.in-Ok.script c.in-Err-check.flaw c.told_flaw.result c.in-Ok.ensures.spelled c.in-Err-check.ensures.checked c.told_flaw.ensures

pub returns-in-Err : goal.returns-in-Err
returns-in-Err c = fault_read c.args.bytes.now c.in-Err.fault c.told_fault.result c.in-Err.ensures.fault c.told_fault.ensures
