use Rattle.std.proofs.Common.{◌≡◌, ◌≤◌, ◌<◌, ◌+◌, ◌-◌, ◌*◌, ◌^◌, ◌∙◌, ◌==◌, ℕ, [], ◌∷◌, refl, sym, ap, subst, arith}
use Rattle.std.proofs.lemmas.Bool.{eqb-true}
use Rattle.rel_model.specs.Worker.{GivesQuad}
use Rattle.rel_steps.proofs.Given.{gives_has}
use Rattle.rel_steps.proofs.Making.{begun, goes_on, ends}
use Rattle.rel_domains.specs.Curve.{cells_at}
use Rattle.rel_domains.proofs.Knowing.{knows_noted}
use Rattle.rel_domains.proofs.Quartering.{places_parts, leaf_given}
use Rattle.rel_domains.proofs.Single.{pick, four_at, given_if}
use Rattle.rel_domains.proofs.Steps.{room_step, room_some}
use Rattle.rel_domains.proofs.lone.+lone.Goals as goal

pub returns-then-depth-eq0-clause-makes : goal.returns-then-depth-eq0-clause-makes
returns-then-depth-eq0-clause-makes g t c =
    let r = room_some c.args.depth in
    let e = c.in_ok-leaf.ensures in
    record {
      value = leaf_given _ g.Q.Core.least (c.bottom.result + c.args.depth) c.args.depth c.args.base _ (c.args.place ∷ []) c.in_ok-leaf.leaf (omega (arith, c.if-depth-eq0.true)) (omega (arith, c.bottom.ensures, c.if-depth-eq0.true)) c.leaf_word.ensures.cells e.value;
      keeps = e.keeps;
      room = omega (arith, r, e.room);
      cause = e.cause;
    }

pub returns-clause-makes : goal.returns-clause-makes
returns-clause-makes g t c =
    let least = g.Q.Core.least in
    let d : ℕ = c.args.depth - 1 in
    let n : ℕ = 4 ^ (least + d) in
    let base = c.args.base in
    let place = c.args.place in
    let k = c.quarter_of-quarter.result in
    let quad = c.in_ok-quad.quad in
    let made = c.in_ok-quad.ensures.makes in
    let h : c.bottom.result + c.args.depth - 1 ≡ least + d = omega (arith, c.bottom.ensures, c.if-depth-eq0.false) in
    let low : k * n ≤ place - base = subst (λ x. k * 4 ^ x ≤ place - base) h c.quarter_of-quarter.ensures.low in
    let above : place - base < k * n + n = subst (λ x. place - base < k * 4 ^ x + 4 ^ x) h c.quarter_of-quarter.ensures.above in
    let four = four_at base n place k c.quarter_of-quarter.ensures.four (omega (arith, low, c.requires.low)) (omega (arith, above, c.requires.low)) in
    let parts = places_parts least c.args.depth base n (place ∷ []) _ _ _ _ c.if-depth-eq0.false refl four in
    let start : base + k * c.cells_of.result ≡ base + k * n = ap (λ x. base + k * x) (c.cells_of.ensures.value ∙ ap (λ x. 4 ^ x) h) in
    let v = c.lone.new.q in
    let w = g.Q.Core.worker v in
    let law = g.met.Q.Quads in
    let has = gives_has w (least + d) _ quad made.value in
    let none = law.none v quad.height (law.low_height v quad has) (law.high_height v quad has) in
    let nw : GivesQuad w (least + d) (cells_at least d base (pick 0 k place)) c.kept_if-nw.result
    = subst (λ q. GivesQuad w (least + d) (cells_at least d base (pick 0 k place)) q) (sym c.kept_if-nw.ensures) (given_if w least d _ base place quad (k == 0) made.value none (λ e. let m : k * n ≡ 0 * n = ap (λ x. x * n) (eqb-true k 0 e) in start ∙ omega (arith, m))) in
    let ne : GivesQuad w (least + d) (cells_at least d (base + n) (pick 1 k place)) c.kept_if-ne.result
    = subst (λ q. GivesQuad w (least + d) (cells_at least d (base + n) (pick 1 k place)) q) (sym c.kept_if-ne.ensures) (given_if w least d _ (base + n) place quad (k == 1) made.value none (λ e. let m : k * n ≡ 1 * n = ap (λ x. x * n) (eqb-true k 1 e) in start ∙ omega (arith, m))) in
    let sw : GivesQuad w (least + d) (cells_at least d (base + 2 * n) (pick 2 k place)) c.kept_if-sw.result
    = subst (λ q. GivesQuad w (least + d) (cells_at least d (base + 2 * n) (pick 2 k place)) q) (sym c.kept_if-sw.ensures) (given_if w least d _ (base + 2 * n) place quad (k == 2) made.value none (λ e. let m : k * n ≡ 2 * n = ap (λ x. x * n) (eqb-true k 2 e) in start ∙ omega (arith, m))) in
    let se : GivesQuad w (least + d) (cells_at least d (base + 3 * n) (pick 3 k place)) c.kept_if-se.result
    = subst (λ q. GivesQuad w (least + d) (cells_at least d (base + 3 * n) (pick 3 k place)) q) (sym c.kept_if-se.ensures) (given_if w least d _ (base + 3 * n) place quad (k == 3) made.value none (λ e. let m : k * n ≡ 3 * n = ap (λ x. x * n) (eqb-true k 3 e) in start ∙ omega (arith, m))) in
    let r = room_step c.args.depth c.if-depth-eq0.false in
    let e = c.in_ok-corner.ensures in
    ends 3 (omega (arith, r)) parts (goes_on (begun _) made) nw ne sw se e.value e.keeps e.room e.cause

pub returns-clause-known : goal.returns-clause-known
returns-clause-known g t c =
    let made = returns-clause-makes g t c in
    knows_noted c.args.depth c.args.base c.args.place c.in_ok-corner.corner c.in_ok-quad.ensures.known c.in_ok-corner.ensures.keeps c.requires.low made.value c.note.ensures.size c.note.ensures.names
