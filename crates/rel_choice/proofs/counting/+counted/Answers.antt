use Rattle.std.proofs.Common.{◌≤◌, ◌+◌, ◌*◌, ◌^◌, ◌∙◌, ℕ, sym, arith}
use Rattle.std.specs.HashMap.{get}
use Rattle.rel_model.proofs.Workers.{keeps_trans}
use Rattle.rel_choice.specs.Counts.{same_key}
use Rattle.rel_choice.proofs.QuadCounts.{none-count, leaf-count, kept-count, quarters-count, count-limit, counts-put-later, counts-found}
use Rattle.rel_choice.proofs.counting.+counted.Given.{Over}
use Rattle.rel_choice.proofs.counting.+counted.Goals.{counted_over-In_ok-south_east}
use Rattle.rel_choice.proofs.counting.+counted.Goals as goal

pub counted-returns-then-is_empty-clause-value : goal.counted-returns-then-is_empty-clause-value
counted-returns-then-is_empty-clause-value g t c =
    let l = g.met.Q.Quads.low_height c.args.q.now c.args.quad c.requires.stands in
    let h = g.met.Q.Quads.high_height c.args.q.now c.args.quad c.requires.stands in
    none-count (g.Q.Core.worker c.args.q.now) c.args.quad (c.is_empty.ensures.empty c.if-is_empty.true) (g.met.Q.Quads.none c.args.q.now c.args.quad.height l h)

pub counted-returns-then-quad-bottom-clause-value : goal.counted-returns-then-quad-bottom-clause-value
counted-returns-then-quad-bottom-clause-value g t c =
    c.from.ensures ∙ leaf-count (g.Q.Core.worker c.args.q.now) c.args.quad g.Q.Core.least c.bits-bits.result (c.if-quad-bottom.true ∙ c.bottom.ensures) c.bits-bits.ensures.cells c.bits-bits.ensures.none_past

pub counted-returns-in-Some-clause-value : goal.counted-returns-in-Some-clause-value
counted-returns-in-Some-clause-value g t c =
    counts-found (g.Q.Core.worker c.args.q.now) c.args.quad c.in-Some.found (get same_key c.args.counts.now) c.requires.known (sym c.get.ensures.value ∙ sym c.copied.ensures ∙ c.in-Some.is)

pub counted-returns-clause-known : goal.counted-returns-clause-known
counted-returns-clause-known g t c =
    counts-put-later (g.Q.Core.worker c.args.q.now) (g.Q.Core.worker c.counted_over-2.new.q) c.args.quad c.in_ok-sum.sum (get same_key c.counted_over-2.new.counts) (get same_key c.insert.new.self)
    c.in_ok-sum.ensures.keeps c.requires.stands c.in_ok-sum.ensures.value c.in_ok-sum.ensures.known c.in_ok-insert.ensures.updates.0

-- ---- four counts are few
few : (g : Over) (t : ℕ) (c : counted_over-In_ok-south_east g t) → c.in_ok-north_west.north_west + c.in_ok-north_east.north_east + c.in_ok-south_west.south_west + c.in_ok-south_east.south_east ≤ 4 * 2 ^ 48
few g t c =
    let q = c.quarters_ahead.ensures.quarters in
    let four = c.quarters_ahead.result in
    let h = g.met.Q.Quads.high_height c.quarters_ahead.new.self four.nw q.nw in
    let a = count-limit (g.Q.Core.worker c.quarters_ahead.new.self) four.nw h in
    let b = count-limit (g.Q.Core.worker c.counted.new.q) four.ne (omega (arith, h, q.nw_height, q.ne_height)) in
    let d = count-limit (g.Q.Core.worker c.counted-2.new.q) four.sw (omega (arith, h, q.nw_height, q.sw_height)) in
    let e = count-limit (g.Q.Core.worker c.counted-3.new.q) four.se (omega (arith, h, q.nw_height, q.se_height)) in
    omega (arith, a, b, d, e, c.in_ok-north_west.ensures.value, c.in_ok-north_east.ensures.value, c.in_ok-south_west.ensures.value, c.in_ok-south_east.ensures.value)

pub counted_over-overflow_add-result : goal.counted_over-overflow_add-result
counted_over-overflow_add-result g t c = omega (arith, few g t (goal.at.counted_over-overflow_add-result g t c).In_ok-south_east)

pub counted_over-overflow_add-result-2 : goal.counted_over-overflow_add-result-2
counted_over-overflow_add-result-2 g t c = omega (arith, few g t (goal.at.counted_over-overflow_add-result-2 g t c).In_ok-south_east)

pub counted_over-overflow_add-result-3 : goal.counted_over-overflow_add-result-3
counted_over-overflow_add-result-3 g t c = omega (arith, few g t (goal.at.counted_over-overflow_add-result-3 g t c).In_ok-south_east)

pub counted_over-returns-clause-value : goal.counted_over-returns-clause-value
counted_over-returns-clause-value g t c =
    let w0 = g.Q.Core.worker c.args.q.now in
    let w1 = g.Q.Core.worker c.quarters_ahead.new.self in
    let w2 = g.Q.Core.worker c.counted.new.q in
    let w3 = g.Q.Core.worker c.counted-2.new.q in
    let w4 = g.Q.Core.worker c.counted-3.new.q in
    let q = c.quarters_ahead.ensures.quarters in
    let k2 = c.in_ok-north_west.ensures.keeps in
    let k3 = keeps_trans w1 w2 w3 k2 c.in_ok-north_east.ensures.keeps in
    let k4 = keeps_trans w1 w3 w4 k3 c.in_ok-south_west.ensures.keeps in
    let s = quarters-count w0 w1 c.args.quad c.quarters_ahead.result q in
    let a = c.in_ok-north_west.ensures.value in
    let b = c.in_ok-north_east.ensures.value ∙ kept-count w1 w2 c.quarters_ahead.result.ne k2 q.ne in
    let d = c.in_ok-south_west.ensures.value ∙ kept-count w1 w3 c.quarters_ahead.result.sw k3 q.sw in
    let e = c.in_ok-south_east.ensures.value ∙ kept-count w1 w4 c.quarters_ahead.result.se k4 q.se in
    omega (arith, s, a, b, d, e)

pub counted_over-returns-in_err-north_west-clause-keeps : goal.counted_over-returns-in_err-north_west-clause-keeps
counted_over-returns-in_err-north_west-clause-keeps g t c = keeps_trans _ _ _ c.quarters_ahead.ensures.keeps c.in_err-north_west.ensures.keeps

pub counted_over-returns-in_err-north_west-clause-misses : goal.counted_over-returns-in_err-north_west-clause-misses
counted_over-returns-in_err-north_west-clause-misses g t c = c.in_err-north_west.ensures.misses ∙ c.quarters_ahead.ensures.misses

pub counted_over-returns-in_err-north_east-clause-keeps : goal.counted_over-returns-in_err-north_east-clause-keeps
counted_over-returns-in_err-north_east-clause-keeps g t c = keeps_trans _ _ _ c.quarters_ahead.ensures.keeps (keeps_trans _ _ _ c.in_ok-north_west.ensures.keeps c.in_err-north_east.ensures.keeps)

pub counted_over-returns-in_err-north_east-clause-misses : goal.counted_over-returns-in_err-north_east-clause-misses
counted_over-returns-in_err-north_east-clause-misses g t c = c.in_err-north_east.ensures.misses ∙ c.in_ok-north_west.ensures.misses ∙ c.quarters_ahead.ensures.misses

pub counted_over-returns-in_err-south_west-clause-keeps : goal.counted_over-returns-in_err-south_west-clause-keeps
counted_over-returns-in_err-south_west-clause-keeps g t c = keeps_trans _ _ _ c.quarters_ahead.ensures.keeps (keeps_trans _ _ _ c.in_ok-north_west.ensures.keeps (keeps_trans _ _ _ c.in_ok-north_east.ensures.keeps c.in_err-south_west.ensures.keeps))

pub counted_over-returns-in_err-south_west-clause-misses : goal.counted_over-returns-in_err-south_west-clause-misses
counted_over-returns-in_err-south_west-clause-misses g t c = c.in_err-south_west.ensures.misses ∙ c.in_ok-north_east.ensures.misses ∙ c.in_ok-north_west.ensures.misses ∙ c.quarters_ahead.ensures.misses

pub counted_over-returns-in_err-south_east-clause-keeps : goal.counted_over-returns-in_err-south_east-clause-keeps
counted_over-returns-in_err-south_east-clause-keeps g t c = keeps_trans _ _ _ c.quarters_ahead.ensures.keeps (keeps_trans _ _ _ c.in_ok-north_west.ensures.keeps (keeps_trans _ _ _ c.in_ok-north_east.ensures.keeps (keeps_trans _ _ _ c.in_ok-south_west.ensures.keeps c.in_err-south_east.ensures.keeps)))

pub counted_over-returns-in_err-south_east-clause-misses : goal.counted_over-returns-in_err-south_east-clause-misses
counted_over-returns-in_err-south_east-clause-misses g t c = c.in_err-south_east.ensures.misses ∙ c.in_ok-south_west.ensures.misses ∙ c.in_ok-north_east.ensures.misses ∙ c.in_ok-north_west.ensures.misses ∙ c.quarters_ahead.ensures.misses

pub counted_over-returns-clause-keeps : goal.counted_over-returns-clause-keeps
counted_over-returns-clause-keeps g t c = keeps_trans _ _ _ c.quarters_ahead.ensures.keeps (keeps_trans _ _ _ c.in_ok-north_west.ensures.keeps (keeps_trans _ _ _ c.in_ok-north_east.ensures.keeps (keeps_trans _ _ _ c.in_ok-south_west.ensures.keeps c.in_ok-south_east.ensures.keeps)))

pub counted_over-returns-clause-misses : goal.counted_over-returns-clause-misses
counted_over-returns-clause-misses g t c = c.in_ok-south_east.ensures.misses ∙ c.in_ok-south_west.ensures.misses ∙ c.in_ok-north_east.ensures.misses ∙ c.in_ok-north_west.ensures.misses ∙ c.quarters_ahead.ensures.misses
