use Rattle.rel_domains.proofs.Functions.{injection_laws}
use Rattle.rel_domains.proofs.laws.injections.Goals as goal

pub returns : goal.returns
returns c = injection_laws
