use Rattle.rel_model.proofs.RuleLaws.{turn_laws}
use Rattle.rel_model.proofs.laws.laws_of_turns.Goals as goal

pub returns : goal.returns
returns c = turn_laws
