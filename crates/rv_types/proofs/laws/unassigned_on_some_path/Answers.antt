use Rattle.rv_types.proofs.Unassigned.{unassigned_on_some_path}
use Rattle.rv_types.proofs.laws.unassigned_on_some_path.Goals as goal

pub returns : goal.returns
returns c = unassigned_on_some_path
