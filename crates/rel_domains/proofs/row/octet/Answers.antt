use Rattle.std.proofs.Common.{◌≡◌, ◌+◌, ◌-◌, ◌*◌, ◌∙◌, eqb, sym, subst, arith}
use Rattle.std.specs.Int.{bit_at}
use Rattle.std.proofs.lemmas.Nat.Bits.{shr_and_one}
use Rattle.rel_domains.proofs.Rows.{octet-0, octet-1, octet-2, octet-all, octet-no}
use Rattle.rel_domains.proofs.row.octet.Goals as goal

pub returns-in-0-clause-bits : goal.returns-in-0-clause-bits
returns-in-0-clause-bits c = λ k l. subst (λ i. eqb (bit_at 170 k) 1 ≡ eqb (bit_at (8 * c.args.block + k) i) 1) (sym c.in-0.is) (octet-0 c.args.block k l)

pub returns-in-1-clause-bits : goal.returns-in-1-clause-bits
returns-in-1-clause-bits c = λ k l. subst (λ i. eqb (bit_at 204 k) 1 ≡ eqb (bit_at (8 * c.args.block + k) i) 1) (sym c.in-1.is) (octet-1 c.args.block k l)

pub returns-in-2-clause-bits : goal.returns-in-2-clause-bits
returns-in-2-clause-bits c = λ k l. subst (λ i. eqb (bit_at 240 k) 1 ≡ eqb (bit_at (8 * c.args.block + k) i) 1) (sym c.in-2.is) (octet-2 c.args.block k l)

pub returns-then-block-i-eq1-clause-bits : goal.returns-then-block-i-eq1-clause-bits
returns-then-block-i-eq1-clause-bits c = λ k l. octet-all c.args.block k c.args.i l (omega arith) (sym (shr_and_one c.args.block (c.args.i - 3)) ∙ c.if-block-i-eq1.true)

pub returns-else-block-i-eq1-clause-bits : goal.returns-else-block-i-eq1-clause-bits
returns-else-block-i-eq1-clause-bits c = λ k l. octet-no c.args.block k c.args.i l (omega arith) (λ e. c.if-block-i-eq1.false (shr_and_one c.args.block (c.args.i - 3) ∙ e))
