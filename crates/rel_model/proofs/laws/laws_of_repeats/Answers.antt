use Rattle.rel_model.proofs.RuleLaws.{repeat_laws}
use Rattle.rel_model.proofs.laws.laws_of_repeats.Goals as goal

pub returns : goal.returns
returns c = repeat_laws
