-- One corner more is chosen where its bit is set.
use Rattle.std.proofs.Common.{◌≡◌, length, arith}
use Rattle.k2_file.specs.Told.{bits_told}
use Rattle.k2_file.proofs.ReadBits.{length-told}
use Rattle.k2_file.proofs.ReadWalk.{chosen-more}
use Rattle.k2_file.proofs.corners.chosen_of.Goals as goal

pub corners-preserved : goal.corners-preserved
corners-preserved c =
    let bits = c.args.bits.now in
    let xs = bits_told bits.count bits.bytes.now in
    let n : length xs ≡ bits.count = length-told bits.count bits.bytes.now bits.fits in
    chosen-more c.args.corners.now xs c.args.from c.corners.i c.corners.out.items c.push_if.new.out.items _ c.is_set.result c.corners.invariant c.corners-test.true
    (omega arith) c.is_set.ensures c.in_ok-push_if.ensures
