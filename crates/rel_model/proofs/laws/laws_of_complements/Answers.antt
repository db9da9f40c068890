use Rattle.rel_model.proofs.RuleLaws.{complement_laws}
use Rattle.rel_model.proofs.laws.laws_of_complements.Goals as goal

pub returns : goal.returns
returns c = complement_laws
