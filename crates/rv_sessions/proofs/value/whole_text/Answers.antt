use Rattle.std.proofs.Common.{◌*◌, ◌∙◌}
use Rattle.rel_model.specs.Worker.{set_of}
use Rattle.run_model.specs.Due.{printed}
use Rattle.run_model.specs.declared.outcome.Outcome.TheVariants.{TooLarge}
use Rattle.run_model.specs.declared.outcome.Unit.TheVariants.{Cells}
use Rattle.run_model.specs.Limits.{print_limit}
use Rattle.rv_sessions.proofs.Shown.{within_due, printed_due, print_due}
use Rattle.rv_sessions.proofs.value.whole_text.Goals as goal

pub returns-in-Ok-clause-shown : goal.returns-in-Ok-clause-shown
returns-in-Ok-clause-shown g c =
    let e = c.args.engine.now in
    let x = c.args.rel in
    let r = set_of (g.E.Core.worker e) x in
    let m = c.in-Ok.ensures in
    let due = printed_due r x.rows x.cols (g.met.E.Core.row_size e x c.requires) (g.met.E.Core.col_size e x c.requires) in
    (due ∙ within_due print_limit (x.rows * x.cols) (TooLarge (x.rows * x.cols) Cells) r m.within, m.text)

pub returns-in-Err-clause-shown : goal.returns-in-Err-clause-shown
returns-in-Err-clause-shown g c =
    let e = c.args.engine.now in
    let x = c.args.rel in
    let r = set_of (g.E.Core.worker e) x in
    let due = printed_due r x.rows x.cols (g.met.E.Core.row_size e x c.requires) (g.met.E.Core.col_size e x c.requires) in
    print_due print_limit (x.rows * x.cols) Cells r (printed r) c.print_outcome.result c.in-Err.refused due
    c.in-Err.ensures.over c.print_outcome.ensures
