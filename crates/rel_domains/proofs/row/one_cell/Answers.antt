use Rattle.std.proofs.Common.{◌<◌, ◌-◌, ◌∙◌, eqb, ap, arith}
use Rattle.std.proofs.lemmas.Nat.{pow_below}
use Rattle.std.specs.Int.{bit_at}
use Rattle.rel_domains.proofs.Leaves.{shifted}
use Rattle.rel_domains.proofs.Rows.{cell-there, cell-none}
use Rattle.rel_domains.proofs.row.one_cell.Goals as goal

pub returns-then-at-cols-clause-cells : goal.returns-then-at-cols-clause-cells
returns-then-at-cols-clause-cells c = λ k l. cell-none c.args.cols c.args.at c.args.col c.args.side k l (λ a b d. omega arith)

pub returns-clause-cells : goal.returns-clause-cells
returns-clause-cells c = λ k l.
    let s : c.args.at - c.args.col < 64 = omega arith in
    ap (λ n. eqb (bit_at n k) 1) (shifted (c.args.at - c.args.col) s) ∙ cell-there c.args.cols c.args.at c.args.col k (omega arith) (omega arith)

pub returns-clause-small : goal.returns-clause-small
returns-clause-small c =
    let s : c.args.at - c.args.col < 64 = omega arith in
    let p = pow_below (c.args.at - c.args.col) c.args.side (omega arith) in
    omega (arith, p, shifted (c.args.at - c.args.col) s)
