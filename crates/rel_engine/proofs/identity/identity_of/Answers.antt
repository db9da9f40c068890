use Rattle.rel_engine.proofs.Diagonal.{gives_identity}
use Rattle.rel_engine.proofs.identity.identity_of.Goals as goal

pub returns-in-Ok-clause-value : goal.returns-in-Ok-clause-value
returns-in-Ok-clause-value g c = gives_identity (g.Q.Core.worker c.inl.new.q) c.args.n c.in-Ok.rel c.in-Ok.ensures.value
