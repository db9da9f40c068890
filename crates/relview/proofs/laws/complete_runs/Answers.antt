use Rattle.relview.proofs.Completing.{complete_runs_law}
use Rattle.relview.proofs.laws.complete_runs.Goals as goal

pub returns : goal.returns
returns c = complete_runs_law
