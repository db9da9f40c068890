use Rattle.rel_model.proofs.Walking.{closure_laws}
use Rattle.rel_model.proofs.laws.laws_of_closures.Goals as goal

pub returns : goal.returns
returns c = closure_laws
