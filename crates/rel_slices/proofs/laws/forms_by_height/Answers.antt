use Rattle.rel_slices.proofs.Costs.{formed_room-square, assembly_room-square}
use Rattle.rel_slices.proofs.laws.forms_by_height.Goals as goal

pub returns-clause-formed : goal.returns-clause-formed
returns-clause-formed c = formed_room-square

pub returns-clause-assembly : goal.returns-clause-assembly
returns-clause-assembly c = assembly_room-square
