use Rattle.std.proofs.Common.{◌-◌, ◌*◌, drop}
use Rattle.run_model.specs.SharedFiles.{quadrants_in}
use Rattle.k2_parts.proofs.Listing.{IsReading}
use Rattle.k2_parts.proofs.quads.read_quads.Given as goal

-- those that were read, and the rest
abbrev pub invariant-quads : goal.invariant-quads
invariant-quads l = IsReading (quadrants_in l.count l.bytes) l.done (l.count - l.done) (drop (16 * l.done) l.bytes) l.listing
