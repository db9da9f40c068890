use Rattle.rv_runs.proofs.WholeRuns.{whole_runs}
use Rattle.rv_runs.proofs.whole.batches_make_one_run.Goals as goal

pub returns : goal.returns
returns c = whole_runs
