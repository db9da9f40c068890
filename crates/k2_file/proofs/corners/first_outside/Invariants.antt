use Rattle.k2_file.specs.Told.{bits_told}
use Rattle.k2_file.proofs.ReadWalk.{NoneOutside}
use Rattle.k2_file.proofs.corners.first_outside.Given as goal

abbrev pub invariant-cells : goal.invariant-cells
invariant-cells l = NoneOutside l.rows l.cols l.at l.cells (bits_told l.bits.count l.bits.bytes.now) l.i
