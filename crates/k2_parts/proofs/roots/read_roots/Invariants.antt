use Rattle.std.proofs.Common.{◌-◌}
use Rattle.k2_parts.proofs.Entering.{IsReading}
use Rattle.k2_parts.proofs.roots.read_roots.Given as goal

-- those that were read, and the rest
abbrev pub invariant-roots : goal.invariant-roots
invariant-roots l = IsReading l.squares l.count l.bytes (l.count - l.counter) l.end l.roots.items
