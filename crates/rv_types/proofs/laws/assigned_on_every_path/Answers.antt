use Rattle.rv_types.proofs.Paths.{assigned_on_every_path}
use Rattle.rv_types.proofs.laws.assigned_on_every_path.Goals as goal

pub returns : goal.returns
returns c = assigned_on_every_path
