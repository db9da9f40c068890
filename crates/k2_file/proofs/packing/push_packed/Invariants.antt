use Rattle.std.proofs.Common.{◌≡◌, ◌<◌, ◌^◌, ◌++◌, drop}
use Rattle.run_model.specs.Files.{packed}
use Rattle.k2_file.proofs.packing.push_packed.Given as goal

abbrev pub invariant-bits : goal.invariant-bits
invariant-bits l = record {
  held : l.begun.held < 8;
  value : l.begun.value < 2 ^ l.begun.held;
  bytes : l.out.items ++ packed l.begun.value l.begun.held (drop l.bit-index l.bits) ≡ l.fn.out.items ++ packed 0 0 l.bits;
}
