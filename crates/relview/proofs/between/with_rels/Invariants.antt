use Rattle.std.proofs.Common.{◌≡◌, ◌≤◌, length, drop}
use Rattle.relview.specs.Between.{renamed}
use Rattle.relview.proofs.between.with_rels.Given as goal

abbrev pub invariant-names : goal.invariant-names
invariant-names l = (l.left ≤ length l.fn.live) × (l.names ≡ renamed (drop l.left l.fn.live) (drop l.left l.fn.rels))

abbrev pub decreases-names : goal.decreases-names
decreases-names l = l.left
