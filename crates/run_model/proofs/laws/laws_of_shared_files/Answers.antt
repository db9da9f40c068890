use Rattle.run_model.proofs.SharedRead.{shared_files_laws}
use Rattle.run_model.proofs.laws.laws_of_shared_files.Goals as goal

pub returns : goal.returns
returns c = shared_files_laws
