use Rattle.rel_domains.proofs.Functions.{membership_law}
use Rattle.rel_domains.proofs.laws.membership.Goals as goal

pub returns : goal.returns
returns c = membership_law
