-- A cell that is not set or not outside is passed over.
use Rattle.std.proofs.Common.{◌≡◌, length, arith}
use Rattle.k2_file.specs.Told.{bits_told}
use Rattle.k2_file.proofs.ReadBits.{length-told}
use Rattle.k2_file.proofs.ReadWalk.{outside-more}
use Rattle.k2_file.proofs.corners.first_outside.Goals as goal

pub cells-preserved : goal.cells-preserved
cells-preserved c =
    let bits = c.args.bits.now in
    let ps = c.args.cells.now in
    let xs = bits_told bits.count bits.bytes.now in
    let n : length xs ≡ bits.count = length-told bits.count bits.bytes.now bits.fits in
    outside-more c.args.rows c.args.cols c.args.at ps xs c.cells.i _ c.is_set.result c.cells.invariant c.cells-test.true
    (omega (arith, n, c.requires.bits, c.cells-test.true)) c.is_set.ensures c.if-is_set_outside.ensures
