use Rattle.std.proofs.Common.{◌≡◌, ◌+◌, ◌-◌, ◌*◌, ◌/◌, ◌%◌, ◌^◌, ◌∙◌, eqb, min, ap, arith}
use Rattle.std.specs.Int.{bit_at}
use Rattle.rel_domains.proofs.Leaves.{shifted}
use Rattle.rel_domains.proofs.Rows.{members-are, members-small}
use Rattle.rel_domains.proofs.row.members.Goals as goal

pub returns-clause-cells : goal.returns-clause-cells
returns-clause-cells c = λ k l.
    let low = c.octet-low.result in
    let high = c.octet-high.result in
    let width = c.min-width.result in
    let wide : width ≡ min c.args.side (c.args.cols - c.args.col) = omega (arith, c.min-width.ensures, c.saturating_sub.ensures) in
    let fits : high * 256 % 18446744073709551616 ≡ high * 2 ^ 8 = omega (arith, c.octet-high.ensures.small) in
    ap (λ n. eqb (bit_at ((low + n) / 2 ^ (c.args.col % 8) % (1 * 2 ^ width % 18446744073709551616)) k) 1) fits
    ∙ ap (λ n. eqb (bit_at ((low + high * 2 ^ 8) / 2 ^ (c.args.col % 8) % n) k) 1) (shifted width (omega (arith, wide, c.requires.side)))
    ∙ members-are low high (c.args.col / 8) c.args.col c.args.i (let e : c.args.col / 8 ≡ c.args.col / 8 = omega arith in e) c.octet-low.ensures.bits c.octet-high.ensures.bits c.octet-low.ensures.small c.args.cols c.args.side width k wide c.requires.side l

pub returns-clause-small : goal.returns-clause-small
returns-clause-small c =
    let width = c.min-width.result in
    let n = (c.octet-low.result + c.octet-high.result * 256 % 18446744073709551616) / 2 ^ (c.args.col % 8) in
    let wide : width ≡ min c.args.side (c.args.cols - c.args.col) = omega (arith, c.min-width.ensures, c.saturating_sub.ensures) in
    let e : n % (1 * 2 ^ width % 18446744073709551616) ≡ n % 2 ^ width = ap (λ m. n % m) (shifted width (omega (arith, wide, c.requires.side))) in
    omega (arith, e, members-small n c.args.side width (c.args.cols - c.args.col) wide)
