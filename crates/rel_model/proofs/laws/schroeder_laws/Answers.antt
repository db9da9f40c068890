use Rattle.rel_model.proofs.AlgebraLaws.{schroeder_laws}
use Rattle.rel_model.proofs.laws.schroeder_laws.Goals as goal

pub returns : goal.returns
returns c = schroeder_laws
