use Rattle.std.proofs.Common.{◌++◌}
use Rattle.run_model.specs.Files.{packed}
use Rattle.k2_file.proofs.WriteBytes.{packed-more}
use Rattle.k2_file.proofs.packing.push_packed.Goals as goal

pub bits-preserved : goal.bits-preserved
bits-preserved c = record {
  held = c.in_ok-begun.ensures.held;
  value = c.in_ok-begun.ensures.value;
  bytes = packed-more (c.args.out.now.items ++ packed 0 0 c.args.bits.now) c.bits.out.items c.push_bit.new.out.items c.bits.begun.value c.bits.begun.held c.in_ok-begun.begun.value c.in_ok-begun.begun.held c.args.bits.now c.bits.bit-index _
      c.bits-test.true c.in_ok-begun.ensures.bytes c.bits.invariant.bytes;
}
