use Rattle.std.proofs.Common.{◌≡◌, ◌<◌, ◌≤◌, ◌+◌, ◌*◌, ◌%◌, ◌^◌, ◌∙◌, sym, ap, subst, arith}
use Rattle.std.proofs.Math.Pow.{pow_mono}
use Rattle.rel_model.specs.Trees.{top_height}
use Rattle.rel_domains.specs.Rules.{rule_cells}
use Rattle.rel_domains.proofs.Rows.{Filled, filled-more, filled-all, filled-small, row_room, row_shifted}
use Rattle.rel_domains.proofs.square.word_at.Goals as goal

pub side_of-side-requires : goal.side_of-side-requires
unfolding top_height
side_of-side-requires c = let l = c.requires.low in omega arith

pub row_at-cells-requires-clause-side : goal.row_at-cells-requires-clause-side
row_at-cells-requires-clause-side c = let p : 2 ^ c.args.least ≤ 2 ^ 3 = pow_mono {i = c.args.least} {j = 3} c.requires.low in omega (arith, p, c.side_of-side.ensures)

pub overflow_shl-bits : goal.overflow_shl-bits
overflow_shl-bits c =
    let p : 2 ^ c.args.least ≤ 2 ^ 3 = pow_mono {i = c.args.least} {j = 3} c.requires.low in
    let r = row_room c.side_of-side.result c.rows.i c.rows-test.true (omega (arith, p, c.side_of-side.ensures)) in
    omega (arith, r, c.rows-test.true)

pub overflow_add-bits : goal.overflow_add-bits
overflow_add-bits c =
    let m = 2 ^ c.args.least in
    let p : 2 ^ c.args.least ≤ 2 ^ 3 = pow_mono {i = c.args.least} {j = 3} c.requires.low in
    let s = c.side_of-side.ensures in
    let low : c.rows.i < m = omega (arith, c.rows-test.true, s) in
    let word : c.row_at-cells.result < 2 ^ m = subst (λ n. c.row_at-cells.result < 2 ^ n) s c.row_at-cells.ensures.small in
    let more = filled-more m c.args.row c.args.col c.rows.i c.rows.bits c.row_at-cells.result (rule_cells c.args.shape.rows c.args.shape.cols c.args.rule) c.rows.invariant (λ k l. c.row_at-cells.ensures.cells k (omega (arith, l, s))) word in
    let e : c.row_at-cells.result * 2 ^ (c.side_of-side.result * c.rows.i) % 18446744073709551616 ≡ c.row_at-cells.result * 2 ^ (m * c.rows.i) = ap (λ n. c.row_at-cells.result * 2 ^ (n * c.rows.i) % 18446744073709551616) s ∙ row_shifted m c.rows.i c.row_at-cells.result low p word in
    let room = row_room m c.rows.i low p in
    let q : 2 ^ (m * (c.rows.i + 1)) ≤ 2 ^ 64 = pow_mono {i = m * (c.rows.i + 1)} {j = 64} (omega (arith, room)) in
    let small = more.small in
    omega (arith, e, small, q)

pub rows-preserved : goal.rows-preserved
rows-preserved c =
    let m = 2 ^ c.args.least in
    let p : 2 ^ c.args.least ≤ 2 ^ 3 = pow_mono {i = c.args.least} {j = 3} c.requires.low in
    let s = c.side_of-side.ensures in
    let low : c.rows.i < m = omega (arith, c.rows-test.true, s) in
    let f = rule_cells c.args.shape.rows c.args.shape.cols c.args.rule in
    let word : c.row_at-cells.result < 2 ^ m = subst (λ n. c.row_at-cells.result < 2 ^ n) s c.row_at-cells.ensures.small in
    let e : c.row_at-cells.result * 2 ^ (c.side_of-side.result * c.rows.i) % 18446744073709551616 ≡ c.row_at-cells.result * 2 ^ (m * c.rows.i) = ap (λ n. c.row_at-cells.result * 2 ^ (n * c.rows.i) % 18446744073709551616) s ∙ row_shifted m c.rows.i c.row_at-cells.result low p word in
    subst (λ w. Filled m c.args.row c.args.col f (c.rows.i + 1) (c.rows.bits + w)) (sym e) (filled-more m c.args.row c.args.col c.rows.i c.rows.bits c.row_at-cells.result f c.rows.invariant (λ k l. c.row_at-cells.ensures.cells k (omega (arith, l, s))) word)

pub returns-clause-cells : goal.returns-clause-cells
returns-clause-cells c = filled-all (2 ^ c.args.least) c.args.row c.args.col c.rows.i c.rows.bits (rule_cells c.args.shape.rows c.args.shape.cols c.args.rule) c.rows.invariant (omega (arith, c.side_of-side.ensures, c.rows.auto.i-end, c.rows-test.false))

pub returns-clause-none_past : goal.returns-clause-none_past
returns-clause-none_past c = filled-small (2 ^ c.args.least) c.args.row c.args.col c.rows.i c.rows.bits (rule_cells c.args.shape.rows c.args.shape.cols c.args.rule) c.rows.invariant (omega (arith, c.side_of-side.ensures, c.rows.auto.i-end, c.rows-test.false))
