use Rattle.std.proofs.Common.{subst}
use Rattle.rv_io.specs.Reading.{RefusesFile}
use Rattle.rv_ends.specs.Given.{limit_of}
use Rattle.rv_ends.specs.Lines.{Unread, TooLong, cannot_read_line, too_long_line}
use Rattle.relview.proofs.Stopping.{by_either}
use Rattle.relview.proofs.top.refuse_file.Goals as goal

pub returns-in-Fault-clause-stopped : goal.returns-in-Fault-clause-stopped
returns-in-Fault-clause-stopped g c = λ words before now none first refused.
    let name = c.args.halt.name.now in
    let cause = subst (RefusesFile before now name (limit_of name)) c.in-Fault.is refused in
    by_either words before now _ _ c.empty_report.result (cannot_read_line name) 3 c.say_unread-status.result c.empty_report.ensures.empty c.empty_report.ensures.status none
    (Unread name first cause) c.say_unread-status.ensures

pub returns-in-TooLong-clause-stopped : goal.returns-in-TooLong-clause-stopped
returns-in-TooLong-clause-stopped g c = λ words before now none first refused.
    let name = c.args.halt.name.now in
    let cause = subst (RefusesFile before now name (limit_of name)) c.in-TooLong.is refused in
    by_either words before now _ _ c.empty_report-in-TooLong.result (too_long_line name) 3 c.say_too_long-status.result c.empty_report-in-TooLong.ensures.empty
    c.empty_report-in-TooLong.ensures.status none (TooLong name first cause.1) c.say_too_long-status.ensures
