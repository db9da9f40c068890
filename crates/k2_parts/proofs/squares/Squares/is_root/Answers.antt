-- There is a height for each listed quadrant.
use Rattle.std.proofs.Common.{arith}
use Rattle.k2_parts.proofs.Sound.{sound_count}
use Rattle.k2_parts.proofs.squares.Squares.is_root.Goals as goal

pub height_at-requires : goal.height_at-requires
height_at-requires c =
    let many = sound_count c.args.self.now.quads.now c.args.self.now.heights.now c.requires.sound in
    omega (arith, many, c.if-number-self.true)
