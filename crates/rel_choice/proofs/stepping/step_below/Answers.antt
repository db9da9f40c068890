use Rattle.std.proofs.Common.{◌≡◌, ◌≤◌, ◌^◌, ◌∙◌, ℕ, refl, sym, ap, subst, arith}
use Rattle.rel_model.specs.Relation.{has, relation_of, size_limit}
use Rattle.rel_model.specs.Operators.{full, inter}
use Rattle.rel_model.specs.Trees.{top_height}
use Rattle.rel_model.specs.Roots.{height_over}
use Rattle.rel_model.specs.Worker.{HasQuad, quad_set, Gives, operator_room}
use Rattle.rel_model.proofs.Heights.{power_up, height_over-rows}
use Rattle.rel_model.proofs.Workers.{keeps_trans}
use Rattle.rel_steps.proofs.Causes.{done_cause}
use Rattle.rel_steps.proofs.Given.{gives_has}
use Rattle.rel_choice.specs.Steps.{step_cells, step_room}
use Rattle.rel_choice.proofs.StepCells.{steps-cut, steps-lie}
use Rattle.rel_choice.proofs.StepQuads.{side-height, cut-set, bound_height}
use Rattle.rel_choice.proofs.stepping.step_below.Given.{Over}
use Rattle.rel_choice.proofs.stepping.step_below.Goals.{After-root-bound, After-side_of-side, After-rel-whole, After-root-quad}
use Rattle.rel_choice.proofs.stepping.step_below.Goals as goal

-- ---- the square
stands : (g : Over) (c : After-root-bound g) → HasQuad (g.Q.Core.worker c.full.new.self) c.root-bound.result
stands g c = gives_has _ _ _ c.root-bound.result c.root-bound.ensures

bound : (g : Over) (c : After-root-bound g) → c.root-bound.result.height ≡ height_over g.Q.Core.least c.args.n c.args.n
bound g c =
    let all = c.in_ok-all.ensures.value in
    bound_height g.Q.Core.least c.args.n c.in_ok-all.all.rows c.in_ok-all.all.cols c.root-bound.result.height all.row_size all.col_size c.root-bound.ensures.same_height

side : (g : Over) (c : After-side_of-side g) → HasQuad (g.Q.Core.worker c.full.new.self) c.root-bound.result
    → c.root-bound.result.height ≡ height_over g.Q.Core.least c.side_of-side.result c.side_of-side.result
unfolding top_height
side g c s =
    let low = g.met.Q.Quads.low_height c.full.new.self c.root-bound.result s in
    let high = g.met.Q.Quads.high_height c.full.new.self c.root-bound.result s in
    side-height g.Q.Core.least c.root-bound.result.height c.side_of-side.result low high c.side_of-side.ensures

side_most : (g : Over) (c : After-side_of-side g) → HasQuad (g.Q.Core.worker c.full.new.self) c.root-bound.result → c.side_of-side.result ≤ size_limit
unfolding top_height
side_most g c s =
    let p = power_up c.root-bound.result.height 24 (g.met.Q.Quads.high_height c.full.new.self c.root-bound.result s) in
    omega (arith, p, c.side_of-side.ensures)

square_room : (g : Over) (c : After-rel-whole g) → c.root-bound.result.height ≡ height_over g.Q.Core.least c.args.n c.args.n
    → operator_room c.rel-whole.result.rows c.rel-whole.result.cols ≡ operator_room (2 ^ height_over g.Q.Core.least c.args.n c.args.n) (2 ^ height_over g.Q.Core.least c.args.n c.args.n)
square_room g c e =
    let whole = c.rel-whole.ensures in
    ap (λ (x : ℕ). operator_room x c.rel-whole.result.cols) (whole.row_size ∙ c.side_of-side.ensures)
    ∙ ap (λ (x : ℕ). operator_room (2 ^ c.root-bound.result.height) x) (whole.col_size ∙ c.side_of-side.ensures) ∙ ap (λ (x : ℕ). operator_room (2 ^ x) (2 ^ x)) e

-- its steps within the first n rows and columns
cut_is : (g : Over) (c : After-root-quad g) → let m = c.side_of-side.result in let n = c.args.n in
    quad_set (g.Q.Core.worker c.inter.new.self) c.root-quad.result ≡ has (inter (relation_of m m (step_cells m)) (relation_of m m (has (full n n))))
cut_is g c =
    cut-set (g.Q.Core.worker c.full.new.self) (g.Q.Core.worker c.steps_of.new.q) (g.Q.Core.worker c.inter.new.self) c.args.n c.side_of-side.result c.root-bound.result.height (height_over g.Q.Core.least c.in_ok-cut.cut.rows c.in_ok-cut.cut.cols)
    c.in_ok-all.all c.rel-whole.result c.rel-within.result c.in_ok-cut.cut c.root-bound.result c.root-quad.result c.in_ok-steps.steps c.side_of-side.ensures c.in_ok-steps.ensures.keeps c.in_ok-all.ensures.value
    (record { means = c.root-bound.ensures.means; same_height = refl }) c.in_ok-steps.ensures.value c.rel-whole.ensures c.rel-within.ensures c.in_ok-cut.ensures.value c.root-quad.ensures

-- ---- what the calls ask for
pub side_of-side-requires : goal.side_of-side-requires
unfolding top_height
side_of-side-requires g c = g.met.Q.Quads.high_height c.full.new.self c.root-bound.result (stands g (goal.at.side_of-side-requires g c).After-root-bound)

pub rel-whole-requires-clause-row_limit : goal.rel-whole-requires-clause-row_limit
rel-whole-requires-clause-row_limit g c = let at = goal.at.rel-whole-requires-clause-row_limit g c in side_most g at.After-side_of-side (stands g at.After-root-bound)

pub rel-whole-requires-clause-col_limit : goal.rel-whole-requires-clause-col_limit
rel-whole-requires-clause-col_limit g c = let at = goal.at.rel-whole-requires-clause-col_limit g c in side_most g at.After-side_of-side (stands g at.After-root-bound)

pub rel-whole-requires-clause-height : goal.rel-whole-requires-clause-height
rel-whole-requires-clause-height g c =
    let at = goal.at.rel-whole-requires-clause-height g c in
    let whole = c.in_ok-steps.ensures.value.whole in
    whole.same_height ∙ side g at.After-side_of-side (stands g at.After-root-bound)

pub rel-within-requires-clause-height : goal.rel-within-requires-clause-height
rel-within-requires-clause-height g c = let at = goal.at.rel-within-requires-clause-height g c in side g at.After-side_of-side (stands g at.After-root-bound)

pub rel-requires-clause-height : goal.rel-requires-clause-height
rel-requires-clause-height g c =
    let at = goal.at.rel-requires-clause-height g c in
    let whole = c.rel-whole.ensures in
    let cut = c.in_ok-cut.ensures.value in
    bound_height g.Q.Core.least c.side_of-side.result c.in_ok-cut.cut.rows c.in_ok-cut.cut.cols c.root-quad.result.height (cut.row_size ∙ whole.row_size) (cut.col_size ∙ whole.col_size) c.root-quad.ensures.same_height
    ∙ sym (side g at.After-side_of-side (stands g at.After-root-bound)) ∙ bound g at.After-root-bound

pub rel-requires-clause-within : goal.rel-requires-clause-within
rel-requires-clause-within g c = steps-lie c.args.n c.side_of-side.result _ (cut_is g (goal.at.rel-requires-clause-within g c).After-root-quad)

-- ---- rooms
pub returns-in_err-all-clause-room : goal.returns-in_err-all-clause-room
unfolding step_room
returns-in_err-all-clause-room g c = omega (arith, c.in_err-all.ensures.room)

pub returns-in_err-steps-clause-room : goal.returns-in_err-steps-clause-room
unfolding step_room
returns-in_err-steps-clause-room g c = omega (arith, bound g (goal.at.returns-in_err-steps-clause-room g c).After-root-bound, c.in_ok-all.ensures.room, c.in_err-steps.ensures.room)

pub returns-in_err-cut-clause-room : goal.returns-in_err-cut-clause-room
unfolding step_room
returns-in_err-cut-clause-room g c =
    let at = goal.at.returns-in_err-cut-clause-room g c in
    let e = bound g at.After-root-bound in
    omega (arith, e, square_room g at.After-rel-whole e, c.in_ok-all.ensures.room, c.in_ok-steps.ensures.room, c.in_err-cut.ensures.room)

pub returns-clause-room : goal.returns-clause-room
unfolding step_room
returns-clause-room g c =
    let at = goal.at.returns-clause-room g c in
    let e = bound g at.After-root-bound in
    omega (arith, e, square_room g at.After-rel-whole e, c.in_ok-all.ensures.room, c.in_ok-steps.ensures.room, c.in_ok-cut.ensures.room)

-- ---- the answer
pub returns-clause-value : goal.returns-clause-value
returns-clause-value g c =
    let at = goal.at.returns-clause-value g c in
    let r = height_over-rows g.Q.Core.least c.args.n c.args.n c.requires in
    let p = ap (λ (x : ℕ). 2 ^ x) (bound g at.After-root-bound) in
    let f = steps-cut c.args.n c.side_of-side.result _ (omega (arith, r, c.side_of-side.ensures, p)) (cut_is g at.After-root-quad) in
    subst (λ z. Gives (g.Q.Core.worker c.inter.new.self) c.args.n c.args.n z c.rel.result) f c.rel.ensures

pub returns-in_err-steps-clause-keeps : goal.returns-in_err-steps-clause-keeps
returns-in_err-steps-clause-keeps g c = keeps_trans _ _ _ c.in_ok-all.ensures.keeps c.in_err-steps.ensures.keeps

pub returns-in_err-cut-clause-keeps : goal.returns-in_err-cut-clause-keeps
returns-in_err-cut-clause-keeps g c = keeps_trans _ _ _ c.in_ok-all.ensures.keeps (keeps_trans _ _ _ c.in_ok-steps.ensures.keeps c.in_err-cut.ensures.keeps)

pub returns-clause-keeps : goal.returns-clause-keeps
returns-clause-keeps g c = keeps_trans _ _ _ c.in_ok-all.ensures.keeps (keeps_trans _ _ _ c.in_ok-steps.ensures.keeps c.in_ok-cut.ensures.keeps)

pub returns-clause-cause : goal.returns-clause-cause
returns-clause-cause g c = done_cause _ _ _ _ (c.in_ok-cut.ensures.cause.done ∙ c.in_ok-steps.ensures.cause.done ∙ c.in_ok-all.ensures.cause.done)
