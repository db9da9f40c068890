use Rattle.rel_domains.proofs.Functions.{projection_laws}
use Rattle.rel_domains.proofs.laws.projections.Goals as goal

pub returns : goal.returns
returns c = projection_laws
