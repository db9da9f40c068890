use Rattle.fork_quads.proofs.Windowing.{windowed_keeps}
use Rattle.fork_quads.proofs.pieces.composed_part.Goals as goal

pub returns-then-job-ge8-clause-keeps : goal.returns-then-job-ge8-clause-keeps
returns-then-job-ge8-clause-keeps c = windowed_keeps c.args.nodes.now c.window_part.new.nodes c.args.job.halving.times c.args.job.a.height c.args.job.cuts c.window_part.ensures.keeps
