use Rattle.std.proofs.Common.{◌∙◌, ◌&&◌, sym, ap}
use Rattle.rel_choice.specs.Lines.{halves_apart}
use Rattle.rel_choice.proofs.RowHalves.{leaf-side}
use Rattle.rel_choice.proofs.Doubles.{none-apart_left, none-apart_right, apart-quarters, kept-halves}
use Rattle.rel_steps.proofs.Given.{kept_quad}
use Rattle.rel_model.proofs.Workers.{keeps_trans}
use Rattle.rel_choice.proofs.lines.+apart.Goals as goal

pub are_apart-returns-then-is_empty-clause-value : goal.are_apart-returns-then-is_empty-clause-value
are_apart-returns-then-is_empty-clause-value g t c =
    let l = g.met.Q.Quads.low_height c.args.q.now c.args.a c.requires.a_stands in
    let h = g.met.Q.Quads.high_height c.args.q.now c.args.a c.requires.a_stands in
    none-apart_left (g.Q.Core.worker c.args.q.now) c.args.a c.args.b (c.is_empty.ensures.empty c.if-is_empty.true) (g.met.Q.Quads.none c.args.q.now c.args.a.height l h)

pub are_apart-returns-then-is_empty-2-clause-value : goal.are_apart-returns-then-is_empty-2-clause-value
are_apart-returns-then-is_empty-2-clause-value g t c =
    let l = g.met.Q.Quads.low_height c.args.q.now c.args.b c.requires.b_stands in
    let h = g.met.Q.Quads.high_height c.args.q.now c.args.b c.requires.b_stands in
    none-apart_right (g.Q.Core.worker c.args.q.now) c.args.a c.args.b (c.is_empty-2.ensures.empty c.if-is_empty-2.true) (g.met.Q.Quads.none c.args.q.now c.args.b.height l h)

pub are_apart-leaves_are_apart-requires : goal.are_apart-leaves_are_apart-requires
are_apart-leaves_are_apart-requires g t c = leaf-side c.args.a.height g.Q.Core.least c.side_of-side.result (c.if-a-bottom.true ∙ c.bottom.ensures) g.met.Q.Quads.least_limit c.side_of-side.ensures

pub are_apart_over-returns-then-not-are_halves_apart-clause-value : goal.are_apart_over-returns-then-not-are_halves_apart-clause-value
are_apart_over-returns-then-not-are_halves_apart-clause-value g t c =
    let u = g.Q.Core.worker c.args.q.now in
    let v = g.Q.Core.worker c.quarters-a_four.new.self in
    let w = g.Q.Core.worker c.quarters-b_four.new.self in
    let fa = c.quarters-a_four.result in
    let fb = c.quarters-b_four.result in
    let e = apart-quarters u v w c.args.a c.args.b fa fb c.quarters-a_four.ensures.quarters c.quarters-b_four.ensures.quarters c.quarters-a_four.ensures.keeps c.quarters-b_four.ensures.keeps c.requires.b_stands c.requires.one_height in
    sym (e ∙ ap (λ x. x && halves_apart w (fa.sw, fa.se) (fb.sw, fb.se)) (sym c.are_halves_apart.ensures.value ∙ c.if-not-are_halves_apart.true))

pub are_apart_over-returns-clause-value : goal.are_apart_over-returns-clause-value
are_apart_over-returns-clause-value g t c =
    let u = g.Q.Core.worker c.args.q.now in
    let v = g.Q.Core.worker c.quarters-a_four.new.self in
    let w = g.Q.Core.worker c.quarters-b_four.new.self in
    let z = g.Q.Core.worker c.are_halves_apart.new.q in
    let fa = c.quarters-a_four.result in
    let fb = c.quarters-b_four.result in
    let p = c.quarters-a_four.ensures.quarters in
    let q = c.quarters-b_four.ensures.quarters in
    let k = c.quarters-b_four.ensures.keeps in
    let e = apart-quarters u v w c.args.a c.args.b fa fb p q c.quarters-a_four.ensures.keeps k c.requires.b_stands c.requires.one_height in
    let s = kept-halves w z (fa.sw, fa.se) (fb.sw, fb.se) c.are_halves_apart.ensures.keeps (kept_quad v w fa.sw k p.sw) (kept_quad v w fa.se k p.se) q.sw q.se in
    c.are_halves_apart-2.ensures.value ∙ s ∙ sym (e ∙ ap (λ x. x && halves_apart w (fa.sw, fa.se) (fb.sw, fb.se)) (sym c.are_halves_apart.ensures.value ∙ c.if-not-are_halves_apart.false))

pub are_apart_over-returns-then-not-are_halves_apart-clause-keeps : goal.are_apart_over-returns-then-not-are_halves_apart-clause-keeps
are_apart_over-returns-then-not-are_halves_apart-clause-keeps g t c = keeps_trans _ _ _ c.quarters-a_four.ensures.keeps (keeps_trans _ _ _ c.quarters-b_four.ensures.keeps c.are_halves_apart.ensures.keeps)

pub are_apart_over-returns-then-not-are_halves_apart-clause-misses : goal.are_apart_over-returns-then-not-are_halves_apart-clause-misses
are_apart_over-returns-then-not-are_halves_apart-clause-misses g t c = c.are_halves_apart.ensures.misses ∙ c.quarters-b_four.ensures.misses ∙ c.quarters-a_four.ensures.misses

pub are_apart_over-returns-clause-keeps : goal.are_apart_over-returns-clause-keeps
are_apart_over-returns-clause-keeps g t c = keeps_trans _ _ _ c.quarters-a_four.ensures.keeps (keeps_trans _ _ _ c.quarters-b_four.ensures.keeps (keeps_trans _ _ _ c.are_halves_apart.ensures.keeps c.are_halves_apart-2.ensures.keeps))

pub are_apart_over-returns-clause-misses : goal.are_apart_over-returns-clause-misses
are_apart_over-returns-clause-misses g t c = c.are_halves_apart-2.ensures.misses ∙ c.are_halves_apart.ensures.misses ∙ c.quarters-b_four.ensures.misses ∙ c.quarters-a_four.ensures.misses

pub are_halves_apart-returns-then-not-are_apart-clause-keeps : goal.are_halves_apart-returns-then-not-are_apart-clause-keeps
are_halves_apart-returns-then-not-are_apart-clause-keeps g t c = c.are_apart.ensures.keeps

pub are_halves_apart-returns-then-not-are_apart-clause-misses : goal.are_halves_apart-returns-then-not-are_apart-clause-misses
are_halves_apart-returns-then-not-are_apart-clause-misses g t c = c.are_apart.ensures.misses

pub are_halves_apart-returns-then-not-are_apart-2-clause-keeps : goal.are_halves_apart-returns-then-not-are_apart-2-clause-keeps
are_halves_apart-returns-then-not-are_apart-2-clause-keeps g t c = keeps_trans _ _ _ c.are_apart.ensures.keeps c.are_apart-2.ensures.keeps

pub are_halves_apart-returns-then-not-are_apart-2-clause-misses : goal.are_halves_apart-returns-then-not-are_apart-2-clause-misses
are_halves_apart-returns-then-not-are_apart-2-clause-misses g t c = c.are_apart-2.ensures.misses ∙ c.are_apart.ensures.misses

pub are_halves_apart-returns-then-not-are_apart-3-clause-keeps : goal.are_halves_apart-returns-then-not-are_apart-3-clause-keeps
are_halves_apart-returns-then-not-are_apart-3-clause-keeps g t c = keeps_trans _ _ _ c.are_apart.ensures.keeps (keeps_trans _ _ _ c.are_apart-2.ensures.keeps c.are_apart-3.ensures.keeps)

pub are_halves_apart-returns-then-not-are_apart-3-clause-misses : goal.are_halves_apart-returns-then-not-are_apart-3-clause-misses
are_halves_apart-returns-then-not-are_apart-3-clause-misses g t c = c.are_apart-3.ensures.misses ∙ c.are_apart-2.ensures.misses ∙ c.are_apart.ensures.misses

pub are_halves_apart-returns-clause-keeps : goal.are_halves_apart-returns-clause-keeps
are_halves_apart-returns-clause-keeps g t c = keeps_trans _ _ _ c.are_apart.ensures.keeps (keeps_trans _ _ _ c.are_apart-2.ensures.keeps (keeps_trans _ _ _ c.are_apart-3.ensures.keeps c.are_apart-4.ensures.keeps))

pub are_halves_apart-returns-clause-misses : goal.are_halves_apart-returns-clause-misses
are_halves_apart-returns-clause-misses g t c = c.are_apart-4.ensures.misses ∙ c.are_apart-3.ensures.misses ∙ c.are_apart-2.ensures.misses ∙ c.are_apart.ensures.misses
