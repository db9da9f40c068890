use Rattle.relview.proofs.Beginning.{runs_begin_law}
use Rattle.relview.proofs.laws.runs_begin.Goals as goal

pub returns : goal.returns
returns c = runs_begin_law
