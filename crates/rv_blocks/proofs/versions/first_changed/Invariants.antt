use Rattle.std.proofs.Common.{◌≡◌, ◌+◌, drop, option_map}
use Rattle.rv_blocks.specs.Changes.{first_other}
use Rattle.rv_blocks.proofs.versions.first_changed.Given as goal

abbrev pub invariant-reads : goal.invariant-reads
invariant-reads l = first_other l.versions l.reads ≡ option_map (λ k. l.i + k) (first_other l.versions (drop l.i l.reads))
