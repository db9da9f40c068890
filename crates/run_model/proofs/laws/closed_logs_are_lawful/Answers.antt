use Rattle.run_model.proofs.Whole.{closed_logs_are_legal}
use Rattle.run_model.proofs.laws.closed_logs_are_lawful.Goals as goal

pub returns : goal.returns
returns c = closed_logs_are_legal
