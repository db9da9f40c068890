use Rattle.std.proofs.Common.{◌≡◌, ◌≤◌, take, drop}
use Rattle.run_model.specs.Files.{ones}
use Rattle.k2_file.specs.Told.{bits_told}
use Rattle.k2_file.proofs.bits.Bits.ones.Given as goal

abbrev pub invariant-bits : goal.invariant-bits
invariant-bits l = record {
  sum : l.found ≡ ones (take l.i (drop l.from (bits_told l.self.count l.self.bytes.now)));
  few : l.found ≤ l.i;
}
