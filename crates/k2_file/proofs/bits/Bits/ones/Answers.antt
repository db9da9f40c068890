-- One bit more is counted where it is set.
use Rattle.std.proofs.Common.{◌≡◌, ◌+◌, ◌<◌, ◌∙◌, length, get_or, false, sym, ap, arith}
use Rattle.run_model.specs.Files.{number_of_bit}
use Rattle.k2_file.specs.Told.{bits_told}
use Rattle.k2_file.proofs.ReadBits.{length-told, ones-more}
use Rattle.k2_file.proofs.bits.Bits.ones.Goals as goal
use Rattle.k2_file.proofs.bits.Bits.ones.Goals.{then-is_set, else-is_set}

pub bits-preserved : goal.bits-preserved
bits-preserved c =
    let bits = c.args.self.now in
    let xs = bits_told bits.count bits.bytes.now in
    let n : length xs ≡ bits.count = length-told bits.count bits.bytes.now bits.fits in
    let l : c.args.from + c.bits.i < length xs = omega (arith, n) in
    let more = ones-more xs c.args.from c.bits.i l in
    elim c.if-is_set.branch [
      | then-is_set w ↦ (let bit : number_of_bit (get_or xs (c.args.from + c.bits.i) false) ≡ 1 = ap number_of_bit (sym c.is_set.ensures ∙ w.if-is_set.true) in
          record { sum = omega (arith, more, bit, w.found-is, c.bits.invariant.sum); few = omega (arith, w.found-is, c.bits.invariant.few) })
      | else-is_set w ↦ (let bit : number_of_bit (get_or xs (c.args.from + c.bits.i) false) ≡ 0 = ap number_of_bit (sym c.is_set.ensures ∙ w.if-is_set.false) in
          record { sum = omega (arith, more, bit, w.found-is, c.bits.invariant.sum); few = omega (arith, w.found-is, c.bits.invariant.few) })
    ]
