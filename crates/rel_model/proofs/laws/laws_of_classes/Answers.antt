use Rattle.rel_model.proofs.Classing.{class_laws}
use Rattle.rel_model.proofs.laws.laws_of_classes.Goals as goal

pub returns : goal.returns
returns c = class_laws
