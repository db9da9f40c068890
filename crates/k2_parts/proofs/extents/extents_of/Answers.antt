use Rattle.std.proofs.Common.{◌+◌, arith}
use Rattle.k2_parts.specs.Told.{quadrants_told}
use Rattle.k2_parts.proofs.Reaching.{more_extents}
use Rattle.k2_parts.proofs.extents.extents_of.Goals as goal

pub quads-preserved : goal.quads-preserved
quads-preserved c =
    more_extents (quadrants_told c.args.quads.now) c.args.heights.now c.quads.extents.items c.push-in-quads.new.self.items (c.quads.at + 2) (c.quads.at + 1 + 2)
    c.extent_at-extent.result c.quads.invariant c.extent_at-extent.ensures c.in_ok-push-3.ensures.items (omega arith)
