use Rattle.run_model.proofs.Taking.{taken_is_change}
use Rattle.run_model.proofs.laws.taken_change_is_that_between.Goals as goal

pub returns : goal.returns
returns c = taken_is_change
