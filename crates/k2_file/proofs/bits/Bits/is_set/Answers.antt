-- The bit that is shifted down is the bit of the byte at its place.
use Rattle.std.proofs.Common.{◌==◌, ◌-◌, ◌/◌, ◌%◌, ◌∙◌, get_or, false, sym, ap}
use Rattle.std.proofs.lemmas.Nat.Bits.{shr_and_one}
use Rattle.k2_file.proofs.ReadBits.{get-told}
use Rattle.k2_file.proofs.bits.Bits.is_set.Goals as goal

pub returns : goal.returns
returns c =
    let bits = c.args.self.now in
    ap (λ n. n == 1) (shr_and_one (get_or bits.bytes.now (c.args.place / 8) 0) (7 - c.args.place % 8))
    ∙ sym (get-told bits.count bits.bytes.now c.args.place false bits.fits c.requires)
