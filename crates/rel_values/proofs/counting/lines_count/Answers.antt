use Rattle.std.proofs.Common.{◌≡◌, ◌<◌, ◌≤◌, ◌^◌, ◌∙◌, ℕ, Result, sym, ap, subst, arith}
use Rattle.std.specs.Prelude.{OnErr}
use Rattle.std.proofs.lemmas.Result.{err_from_is_err_and}
use Rattle.rel_model.specs.declared.NoMemory.{NoMemory}
use Rattle.rel_model.specs.Relation.{Relation}
use Rattle.rel_model.specs.Algebra.{HasType}
use Rattle.rel_model.specs.Choice.{count}
use Rattle.rel_choice.specs.Counts.{sum_below}
use Rattle.rel_slices.specs.Thin.{line_of, line_set, thin_of}
use Rattle.rel_slices.proofs.Putting.{stands_line, set_line}
use Rattle.rel_values.proofs.LineCounts.{counted_none, counted_more, count-laid, some-laid, line-limit}
use Rattle.rel_values.proofs.counting.lines_count.Given.{Over}
use Rattle.rel_values.proofs.counting.lines_count.Goals.{In_ok-more}
use Rattle.rel_values.proofs.counting.lines_count.Goals as goal

pub lines-init : goal.lines-init
lines-init g c = counted_none (g.E.Core.worker c.args.engine.now) c.args.s.now

pub count-requires : goal.count-requires
count-requires g c =
    stands_line (g.E.Core.worker c.args.engine.now) _ c.args.s.now c.lines.i _ c.lines.invariant.keeps c.requires c.lines-test.true c.line.ensures

-- what is counted is a line
counts : (g : Over) (c : In_ok-more g) → c.in_ok-more.more ≡ count (line_set (g.E.Core.worker c.args.engine.now) c.args.s.now c.lines.i)
counts g c = c.in_ok-more.ensures.value
    ∙ ap count (set_line (g.E.Core.worker c.args.engine.now) (g.E.Core.worker c.lines.engine) c.args.s.now c.lines.i _ c.lines.invariant.keeps c.requires c.lines-test.true c.line.ensures)

few : (g : Over) (c : In_ok-more g) → c.in_ok-more.more ≤ 2 ^ 24
few g c =
    let laws = g.met.E.Core in
    let e = c.args.engine.now in
    let s = c.args.s.now in
    let k : ℕ = c.lines.i in
    let here = c.requires.lines k c.lines-test.true in
    let t : HasType 1 s.other (line_set (g.E.Core.worker e) s k) = record { valid = laws.valid e (line_of s k) here; row_size = laws.row_size e (line_of s k) here; col_size = laws.col_size e (line_of s k) here } in
    let l = line-limit s.other (line_set (g.E.Core.worker e) s k) t in
    let is = counts g c in
    let limit : s.other ≤ 2 ^ 24 = c.requires.limit in
    omega (arith, l, is, limit)

pub overflow_add-total : goal.overflow_add-total
overflow_add-total g c =
    let l = few g c in
    let n = c.requires.few in
    let i = c.lines-test.true in
    let t = c.lines.invariant.few in
    omega (arith, l, n, i, t)

pub lines-preserved : goal.lines-preserved
lines-preserved g c =
    let n = c.in_ok-more.ensures in
    counted_more (g.E.Core.worker c.args.engine.now) (g.E.Core.worker c.lines.engine) (g.E.Core.worker c.count.new.self) c.args.s.now c.lines.i c.lines.total c.in_ok-more.more c.lines.invariant
    (counts g c) (few g c) n.keeps n.room n.misses

pub returns-clause-value : goal.returns-clause-value
returns-clause-value g c =
    let laws = g.met.E.Core in
    let e = c.args.engine.now in
    let s = c.args.s.now in
    let w = g.E.Core.worker e in
    let end = c.lines.auto.i-end in
    let stop = c.lines-test.false in
    let all : c.lines.i ≡ s.count = omega (arith, end, stop) in
    c.lines.invariant.total_is ∙ ap (λ (x : ℕ). sum_below x (λ k. count (line_set w s k))) all
    ∙ sym (count-laid s.turned s.count s.other (line_set w s)
    (λ k l. record { valid = laws.valid e (line_of s k) (c.requires.lines k l); row_size = laws.row_size e (line_of s k) (c.requires.lines k l); col_size = laws.col_size e (line_of s k) (c.requires.lines k l) }))

pub returns-in_err-more-clause-some : goal.returns-in_err-more-clause-some
returns-in_err-more-clause-some g c =
    let laws = g.met.E.Core in
    let e = c.args.engine.now in
    let s = c.args.s.now in
    let w = g.E.Core.worker e in
    let k : ℕ = c.lines.i in
    let failed = err_from_is_err_and c.from_residual.result c.from_residual.ensures.1 in
    let one : 0 < count (line_set w s k) = subst (λ (r : Relation). 0 < count r) (set_line w (g.E.Core.worker c.lines.engine) s k _ c.lines.invariant.keeps c.requires c.lines-test.true c.line.ensures) c.in_err-more.ensures.some in
    subst (λ (r : Result ℕ NoMemory). OnErr r (0 < count (thin_of w s))) (sym failed.1)
    (some-laid s.turned s.count s.other (line_set w s)
    (λ i l. record { valid = laws.valid e (line_of s i) (c.requires.lines i l); row_size = laws.row_size e (line_of s i) (c.requires.lines i l); col_size = laws.col_size e (line_of s i) (c.requires.lines i l) })
    k c.lines-test.true one)
