use Rattle.run_model.proofs.WholeWords.{batches_leave_states}
use Rattle.run_model.proofs.laws.batches_leave_states.Goals as goal

pub returns : goal.returns
returns c = batches_leave_states
