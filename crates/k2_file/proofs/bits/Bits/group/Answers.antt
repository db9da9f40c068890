-- The half of the byte has the four bits.
use Rattle.std.proofs.Common.{◌==◌, ◌+◌, ◌-◌, ◌*◌, ◌/◌, ◌%◌, get_or, ap, refl}
use Rattle.std.proofs.lemmas.Nat.Bits.{shr_and_one}
use Rattle.k2_file.proofs.ReadGroups.{group-told}
use Rattle.k2_file.proofs.bits.Bits.group.Goals as goal

pub returns-clause-bits : goal.returns-clause-bits
returns-clause-bits c =
    let bits = c.args.self.now in
    let byte = get_or bits.bytes.now (c.args.number / 2) 0 in
    let low = 4 * (1 - c.args.number % 2) in
    group-told bits.count bits.bytes.now c.args.number low _ _ _ _ bits.fits c.requires refl
    (ap (λ n. n == 1) (shr_and_one byte (low + 3))) (ap (λ n. n == 1) (shr_and_one byte (low + 2))) (ap (λ n. n == 1) (shr_and_one byte (low + 1))) (ap (λ n. n == 1) (shr_and_one byte low))
