use Rattle.std.proofs.Common.{◌≡◌, ◌≤◌, ◌*◌, take, drop}
use Rattle.run_model.specs.Files.{ones}
use Rattle.k2_file.specs.Told.{bits_told}
use Rattle.k2_file.proofs.bits.Bits.ones_in_groups.Given as goal

abbrev pub invariant-groups : goal.invariant-groups
invariant-groups l = record {
  sum : l.found ≡ ones (take (4 * l.i) (drop (4 * l.from) (bits_told l.self.count l.self.bytes.now)));
  few : l.found ≤ 4 * l.i;
}
