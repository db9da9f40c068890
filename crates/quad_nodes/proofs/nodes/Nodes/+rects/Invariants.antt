use Rattle.std.proofs.Common.{◌+◌, ◌*◌}
use Rattle.quad_nodes.proofs.nodes.Nodes.+rects.Given as goal

abbrev pub decreases-rect : goal.decreases-rect
decreases-rect l = 2 * l.height

abbrev pub decreases-rects_beside : goal.decreases-rects_beside
decreases-rects_beside l = 2 * l.height + 1
