use Rattle.std.proofs.Common.{◌≡◌, ◌≤◌, ◌<◌, ◌*◌, ◌%◌, ◌^◌, ◌∙◌, sym, subst, arith, ℕ}
use Rattle.std.proofs.Math.Pow.{pow_mono}
use Rattle.std.proofs.Math.Nat.{mod-eq_of_lt}
use Rattle.pair_table.proofs.table.size_of_bits.Goals as goal

pub returns : goal.returns
returns c =
    let low : 2 ^ 10 ≤ 2 ^ c.args.bits = pow_mono c.requires.low in
    let high : 2 ^ c.args.bits ≤ 2 ^ 24 = pow_mono c.requires.high in
    let one : 1 * 2 ^ c.args.bits ≡ 2 ^ c.args.bits = omega arith in
    let fits : 1 * 2 ^ c.args.bits < 18446744073709551616 = omega arith in
    let e : 1 * 2 ^ c.args.bits % 18446744073709551616 ≡ 2 ^ c.args.bits = mod-eq_of_lt fits ∙ one in
    record {
      size = e;
      large = (let h : 2 ≤ 2 ^ c.args.bits = omega arith in subst (λ (n : ℕ). 2 ≤ n) (sym e) h);
      small = subst (λ (n : ℕ). n ≤ 16777216) (sym e) high;
    }
