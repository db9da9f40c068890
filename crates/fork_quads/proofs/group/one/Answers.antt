use Rattle.fork_quads.proofs.Forking.{one_did}
use Rattle.fork_quads.proofs.group.one.Goals as goal

pub returns-in-Ok : goal.returns-in-Ok
returns-in-Ok g c =
    one_did c.args.nodes.now c.piece-answer.new.nodes c.args.job c.args.number c.in-Ok.quad c.filled.result c.piece-answer.result c.requires.within c.filled.ensures c.in-Ok.is c.requires.can
    c.piece-answer.ensures.value c.piece-answer.ensures.stood c.piece-answer.ensures.keeps c.piece-answer.ensures.counts
