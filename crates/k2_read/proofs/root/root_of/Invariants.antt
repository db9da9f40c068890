use Rattle.std.proofs.Common.{◌≡◌, drop}
use Rattle.k2_read.specs.Numbers.{root_named}
use Rattle.k2_read.proofs.root.root_of.Given as goal

abbrev pub invariant-roots : goal.invariant-roots
invariant-roots l = root_named l.name (drop l.root-index l.roots) ≡ root_named l.name l.roots
