use Rattle.std.proofs.Common.{◌≡◌, ◌<◌, ◌≤◌, ◌+◌, ◌*◌, ◌^◌, ◌∙◌, ◌&&◌, ◌||◌, eqb, sym, ap, subst, arith}
use Rattle.std.proofs.Math.Pow.{pow_mono}
use Rattle.rel_model.specs.Cells.{bits_cells}
use Rattle.rel_domains.specs.Ranks.{first_column}
use Rattle.rel_domains.proofs.Ranking.{AreRanked, count-most, ranked-more, ranked-same, in_word}
use Rattle.rel_model.specs.Trees.{top_height}
use Rattle.std.specs.Int.{bit_at}
use Rattle.rel_domains.proofs.element.ranks_in.Goals as goal
use Rattle.rel_domains.proofs.element.ranks_in.Goals.{then-has_element, else-has_element}

pub side_of-side-requires : goal.side_of-side-requires
unfolding top_height
side_of-side-requires c = let l = c.requires.low in omega arith

pub has_element-requires-clause-side : goal.has_element-requires-clause-side
has_element-requires-clause-side c = let p : 2 ^ c.args.least ≤ 2 ^ 3 = pow_mono {i = c.args.least} {j = 3} c.requires.low in omega (arith, p, c.side_of-side.ensures)

pub with_rank-bits-requires-clause-side : goal.with_rank-bits-requires-clause-side
with_rank-bits-requires-clause-side c = let p : 2 ^ c.args.least ≤ 2 ^ 3 = pow_mono {i = c.args.least} {j = 3} c.requires.low in omega (arith, p, c.side_of-side.ensures)

pub overflow_add-rank : goal.overflow_add-rank
overflow_add-rank c =
    let p : 2 ^ c.args.least ≤ 2 ^ 3 = pow_mono {i = c.args.least} {j = 3} c.requires.low in
    let n = c.elements.invariant.next in
    let m = count-most c.elements.x (first_column (bits_cells (2 ^ c.args.least) c.args.vector)) in
    omega (arith, p, n, m, c.elements-test.true, c.side_of-side.ensures, c.requires.before)

pub elements-preserved : goal.elements-preserved
elements-preserved c =
    let m = 2 ^ c.args.least in
    let f = first_column (bits_cells m c.args.vector) in
    let low : c.elements.x < m = omega (arith, c.elements-test.true, c.side_of-side.ensures) in
    let here : c.has_element.result ≡ f c.elements.x = c.has_element.ensures ∙ ap (λ n. eqb (bit_at c.args.vector (n * c.elements.x)) 1) c.side_of-side.ensures ∙ sym (in_word m c.args.vector c.elements.x low) in
    elim c.if-has_element.branch [
      | then-has_element w ↦ subst (λ b. AreRanked m c.args.row c.args.before f (c.elements.x + 1) b c.if-has_element.rank) (sym w.bits-is)
          (subst (λ r. AreRanked m c.args.row c.args.before f (c.elements.x + 1) w.with_rank-bits.result r) (sym w.rank-is)
          (ranked-more m c.args.row c.args.before f c.elements.x c.elements.bits c.elements.rank w.with_rank-bits.result c.elements.invariant low (sym here ∙ w.if-has_element.true)
          (λ i k a b. subst (λ n. i < n → k < n → eqb (bit_at w.with_rank-bits.result (n * i + k)) 1 ≡ (eqb (bit_at c.elements.bits (n * i + k)) 1 || (eqb k c.elements.x && eqb c.elements.rank (c.args.row + i)))) c.side_of-side.ensures (w.with_rank-bits.ensures.cells i k) a b)
          (subst (λ n. w.with_rank-bits.result < 2 ^ (n * n)) c.side_of-side.ensures w.with_rank-bits.ensures.small)))
      | else-has_element w ↦ subst (λ b. AreRanked m c.args.row c.args.before f (c.elements.x + 1) b c.if-has_element.rank) (sym w.bits-is)
          (subst (λ r. AreRanked m c.args.row c.args.before f (c.elements.x + 1) c.elements.bits r) (sym w.rank-is)
          (ranked-same m c.args.row c.args.before f c.elements.x c.elements.bits c.elements.rank c.elements.invariant (sym here ∙ w.if-has_element.false)))
    ]
