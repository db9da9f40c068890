use Rattle.std.proofs.Common.{◌≡◌, length}
use Rattle.rel_steps.specs.Reading.{OnlyReads}
use Rattle.rel_values.proofs.sampling.looks_random.Given as goal

abbrev pub invariant-pieces : goal.invariant-pieces
invariant-pieces g l = OnlyReads (g.Q.Core.worker l.fn.q) (g.Q.Core.worker l.q) × (length l.seen ≡ 64)
