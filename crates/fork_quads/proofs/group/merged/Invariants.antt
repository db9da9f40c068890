use Rattle.fork_quads.proofs.Merging.{AreCopied}
use Rattle.fork_quads.proofs.group.merged.Given as goal

abbrev pub invariant-numbers : goal.invariant-numbers
invariant-numbers l = AreCopied l.first l.fn.second l.both l.k
