use Rattle.rv_runs.proofs.PastWords.{words_hold_runs}
use Rattle.rv_runs.proofs.whole.words_hold_runs.Goals as goal

pub returns : goal.returns
returns c = words_hold_runs
