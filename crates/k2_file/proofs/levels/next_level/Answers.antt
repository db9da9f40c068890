-- Four bits stand for each corner.
use Rattle.std.proofs.Common.{length, ap, arith}
use Rattle.k2_file.proofs.ReadWalk.{length-quarters}
use Rattle.k2_file.proofs.levels.next_level.Goals as goal

pub chosen_of-requires : goal.chosen_of-requires
chosen_of-requires c =
    let a = ap length c.as_slice.ensures.value in
    let b = ap length c.in_ok-quarters.ensures in
    let n = length-quarters c.side_of.result c.args.corners.now in
    omega (arith, a, b, n, c.requires.bits)
