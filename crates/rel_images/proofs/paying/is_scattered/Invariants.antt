use Rattle.std.proofs.Common.{◌≡◌, length}
use Rattle.rel_steps.specs.Reading.{OnlyReads}
use Rattle.rel_images.proofs.paying.is_scattered.Given as goal

abbrev pub invariant-descents : goal.invariant-descents
invariant-descents g l = OnlyReads (g.Q.Core.worker l.fn.q) (g.Q.Core.worker l.q) × (length l.seen ≡ 1024)
