use Rattle.k2_file.specs.Told.{bits_told}
use Rattle.k2_file.proofs.ReadWalk.{IsChosen}
use Rattle.k2_file.proofs.corners.chosen_of.Given as goal

abbrev pub invariant-corners : goal.invariant-corners
invariant-corners l = IsChosen l.corners (bits_told l.bits.count l.bits.bytes.now) l.from l.i l.out.items
