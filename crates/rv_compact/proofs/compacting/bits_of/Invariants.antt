use Rattle.std.proofs.Common.{ℕ, ◌<◌, ◌≤◌, ◌≢◌, ◌^◌}
use Rattle.rv_compact.proofs.compacting.bits_of.Given as goal

-- no number of bits so far is that of the size
abbrev pub invariant-bits : goal.invariant-bits
invariant-bits l = (k : ℕ) → 10 ≤ k → k < l.bits → l.size ≢ 2 ^ k
