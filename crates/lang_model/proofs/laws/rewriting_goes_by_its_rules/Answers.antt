use Rattle.lang_model.proofs.Stepping.{steps_are_steps}
use Rattle.lang_model.proofs.laws.rewriting_goes_by_its_rules.Goals as goal

pub returns : goal.returns
returns c = steps_are_steps
