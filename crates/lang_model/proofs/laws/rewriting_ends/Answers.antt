use Rattle.lang_model.proofs.Lighter.{steps_end}
use Rattle.lang_model.proofs.laws.rewriting_ends.Goals as goal

pub returns : goal.returns
returns c = steps_end
