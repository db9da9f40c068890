use Rattle.std.proofs.Common.{◌≡◌, ◌<◌, ◌≤◌, ◌+◌, ◌-◌, ◌*◌, ◌^◌, ◌&&◌, ◌||◌, eqb, bit_or, ℕ, sym, subst, arith}
use Rattle.std.specs.Int.{bit_at}
use Rattle.std.proofs.lemmas.Nat.{mul-le}
use Rattle.rel_domains.proofs.Leaves.{shifted, still_small}
use Rattle.rel_domains.proofs.Places.{row_below}
use Rattle.rel_domains.proofs.Ranking.{rank-set}
use Rattle.rel_domains.proofs.element.with_rank.Goals as goal

pub returns-then-rank-row-clause-cells : goal.returns-then-rank-row-clause-cells
returns-then-rank-row-clause-cells c = λ i k a b.
    let m = c.args.side in
    let n : ℕ = m * (c.args.rank - c.args.row) + c.args.x in
    let small : n < m * m = row_below m (c.args.rank - c.args.row) c.args.x (omega (arith, c.if-rank-row.true, c.if-row-rank.true)) c.requires.within in
    let most : m * m ≤ 8 * 8 = mul-le m m 8 8 c.requires.side c.requires.side in
    subst (λ v. eqb (bit_at (bit_or c.args.bits v) (m * i + k)) 1 ≡ (eqb (bit_at c.args.bits (m * i + k)) 1 || (eqb k c.args.x && eqb c.args.rank (c.args.row + i)))) (sym (shifted n (omega (arith, small, most))))
    (rank-set m c.args.bits c.args.row c.args.rank c.args.x c.requires.within c.if-row-rank.true c.if-rank-row.true i k a b)

pub returns-then-rank-row-clause-small : goal.returns-then-rank-row-clause-small
returns-then-rank-row-clause-small c =
    let m = c.args.side in
    let n : ℕ = m * (c.args.rank - c.args.row) + c.args.x in
    let small : n < m * m = row_below m (c.args.rank - c.args.row) c.args.x (omega (arith, c.if-rank-row.true, c.if-row-rank.true)) c.requires.within in
    let most : m * m ≤ 8 * 8 = mul-le m m 8 8 c.requires.side c.requires.side in
    subst (λ v. bit_or c.args.bits v < 2 ^ (m * m)) (sym (shifted n (omega (arith, small, most)))) (still_small (m * m) c.args.bits n c.requires.small small)
