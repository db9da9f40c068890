use Rattle.relview.proofs.AtomicRuns.{blocks_are_atomic}
use Rattle.relview.proofs.laws.blocks_are_atomic.Goals as goal

pub returns : goal.returns
returns c = blocks_are_atomic
