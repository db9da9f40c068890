use Rattle.run_model.proofs.Committing.{blocks_are_at_once}
use Rattle.run_model.proofs.laws.blocks_are_at_once.Goals as goal

pub returns : goal.returns
returns c = blocks_are_at_once
