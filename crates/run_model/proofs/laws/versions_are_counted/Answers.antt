use Rattle.run_model.proofs.Counting.{versions_are_counted}
use Rattle.run_model.proofs.laws.versions_are_counted.Goals as goal

pub returns : goal.returns
returns c = versions_are_counted
