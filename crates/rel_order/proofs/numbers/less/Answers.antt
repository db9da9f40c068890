use Rattle.std.proofs.Common.{◌^◌, ◌∙◌, ℕ, Some, sym, ap, subst, arith}
use Rattle.rel_model.specs.Quarters.{LiesWithin}
use Rattle.rel_model.specs.Worker.{quad_set, GivesQuad}
use Rattle.rel_steps.proofs.Given.{gives_has, gives_later}
use Rattle.rel_order.specs.Steps.{ascending}
use Rattle.rel_order.proofs.Ascending.{IsHigh, CutRoot, is_high, order_high, side_high, side_most, cut_set, cut_root, tree_rooms, tree_side}
use Rattle.rel_order.proofs.numbers.less.Given.{Over}
use Rattle.rel_order.proofs.numbers.less.Goals.{After-root-height, After-root-quad, In_ok-first}
use Rattle.rel_order.proofs.numbers.less.Goals as goal

-- ---- what stands on the way
high : (g : Over) (c : After-root-height g) → IsHigh g.Q.Core.least c.args.n c.root-height.result.height
high g c =
    let o = c.in_ok-none.ensures.value in
    is_high g.Q.Core.least c.args.n c.root-height.result.height c.in_ok-none.none.rows c.in_ok-none.none.cols g.met.Q.Quads.least_limit c.requires o.row_size o.col_size c.root-height.ensures.same_height

order : (g : Over) (c : In_ok-first g) → IsHigh g.Q.Core.least c.args.n c.root-height.result.height
    → GivesQuad (g.Q.Core.worker c.rect.new.self) c.root-height.result.height (ascending (2 ^ c.root-height.result.height)) c.in_ok-order.order
order g c i =
    let h : ℕ = c.root-height.result.height in
    gives_later (g.Q.Core.worker c.upper.new.q) _ h (ascending (2 ^ h)) c.in_ok-order.order c.in_ok-first.ensures.keeps
    (order_high (g.Q.Core.worker c.upper.new.q) g.Q.Core.least c.args.n h c.bottom.result c.in_ok-order.order i c.bottom.ensures c.in_ok-order.ensures.value)

root : (g : Over) (c : After-root-quad g) → IsHigh g.Q.Core.least c.args.n c.root-height.result.height
    → GivesQuad (g.Q.Core.worker c.rect.new.self) c.root-height.result.height (ascending (2 ^ c.root-height.result.height)) c.in_ok-order.order
    → CutRoot (g.Q.Core.worker c.inter.new.self) g.Q.Core.least c.args.n c.root-height.result.height c.root-quad.result
root g c i q =
    let h : ℕ = c.root-height.result.height in
    let side : ℕ = c.side_of-side.result in
    let found = cut_set (g.Q.Core.worker c.rect.new.self) _ c.args.n h side c.in_ok-order.order c.in_ok-first.first c.rel-all.result c.rel-kept.result c.in_ok-cut.cut c.side_of-side.ensures q c.in_ok-first.ensures.value
    c.rel-all.ensures c.rel-kept.ensures c.in_ok-cut.ensures.value in
    cut_root _ g.Q.Core.least c.args.n h side c.in_ok-cut.cut c.root-quad.result i c.side_of-side.ensures found c.root-quad.ensures

-- ---- the trees of three steps
pub returns-in_err-order-clause-room : goal.returns-in_err-order-clause-room
returns-in_err-order-clause-room g c =
    let t = tree_rooms g.Q.Core.least c.args.n c.root-height.result.height c.bottom.result (high g (goal.at.returns-in_err-order-clause-room g c).After-root-height) c.bottom.ensures in
    omega (arith, t, c.in_ok-none.ensures.room, c.in_err-order.ensures.room)

pub returns-in_err-first-clause-room : goal.returns-in_err-first-clause-room
returns-in_err-first-clause-room g c =
    let t = tree_rooms g.Q.Core.least c.args.n c.root-height.result.height c.bottom.result (high g (goal.at.returns-in_err-first-clause-room g c).After-root-height) c.bottom.ensures in
    omega (arith, t, c.in_ok-none.ensures.room, c.in_ok-order.ensures.room, c.in_err-first.ensures.room)

pub returns-in_err-cut-clause-room : goal.returns-in_err-cut-clause-room
returns-in_err-cut-clause-room g c =
    let i = high g (goal.at.returns-in_err-cut-clause-room g c).After-root-height in
    let t = tree_rooms g.Q.Core.least c.args.n c.root-height.result.height c.bottom.result i c.bottom.ensures in
    let d = tree_side g.Q.Core.least c.args.n c.root-height.result.height c.side_of-side.result c.rel-all.result.rows c.rel-all.result.cols i c.side_of-side.ensures c.rel-all.ensures.row_size c.rel-all.ensures.col_size in
    omega (arith, t, d, c.in_ok-none.ensures.room, c.in_ok-order.ensures.room, c.in_ok-first.ensures.room, c.in_err-cut.ensures.tree)

pub returns-clause-room : goal.returns-clause-room
returns-clause-room g c =
    let i = high g (goal.at.returns-clause-room g c).After-root-height in
    let t = tree_rooms g.Q.Core.least c.args.n c.root-height.result.height c.bottom.result i c.bottom.ensures in
    let d = tree_side g.Q.Core.least c.args.n c.root-height.result.height c.side_of-side.result c.rel-all.result.rows c.rel-all.result.cols i c.side_of-side.ensures c.rel-all.ensures.row_size c.rel-all.ensures.col_size in
    omega (arith, t, d, c.in_ok-none.ensures.room, c.in_ok-order.ensures.room, c.in_ok-first.ensures.room, c.in_ok-cut.ensures.tree)

-- ---- the square
pub rect-requires-clause-row : goal.rect-requires-clause-row
rect-requires-clause-row g c = (high g (goal.at.rect-requires-clause-row g c).After-root-height).covers

pub rect-requires-clause-col : goal.rect-requires-clause-col
rect-requires-clause-col g c = (high g (goal.at.rect-requires-clause-col g c).After-root-height).covers

pub rel-all-requires-clause-row_limit : goal.rel-all-requires-clause-row_limit
rel-all-requires-clause-row_limit g c = side_most _ _ c.root-height.result.height c.side_of-side.result (high g (goal.at.rel-all-requires-clause-row_limit g c).After-root-height) c.side_of-side.ensures

pub rel-all-requires-clause-col_limit : goal.rel-all-requires-clause-col_limit
rel-all-requires-clause-col_limit g c = side_most _ _ c.root-height.result.height c.side_of-side.result (high g (goal.at.rel-all-requires-clause-col_limit g c).After-root-height) c.side_of-side.ensures

pub rel-all-requires-clause-height : goal.rel-all-requires-clause-height
rel-all-requires-clause-height g c =
    let at = goal.at.rel-all-requires-clause-height g c in
    let i = high g at.After-root-height in
    (order g at.In_ok-first i).same_height ∙ sym (side_high _ _ c.root-height.result.height c.side_of-side.result i c.side_of-side.ensures)

pub rel-all-requires-clause-within : goal.rel-all-requires-clause-within
rel-all-requires-clause-within g c =
    let at = goal.at.rel-all-requires-clause-within g c in
    let w = g.Q.Core.worker c.rect.new.self in
    let q = order g at.In_ok-first (high g at.After-root-height) in
    subst (λ (k : ℕ). LiesWithin k k (quad_set w c.in_ok-order.order)) (ap (λ (k : ℕ). 2 ^ k) q.same_height ∙ sym c.side_of-side.ensures)
    (g.met.Q.Quads.square c.rect.new.self c.in_ok-order.order (gives_has w c.root-height.result.height (ascending (2 ^ c.root-height.result.height)) c.in_ok-order.order q))

pub rel-kept-requires-clause-height : goal.rel-kept-requires-clause-height
rel-kept-requires-clause-height g c =
    let i = high g (goal.at.rel-kept-requires-clause-height g c).After-root-height in
    c.in_ok-first.ensures.value.same_height ∙ sym (side_high _ _ c.root-height.result.height c.side_of-side.result i c.side_of-side.ensures)

-- ---- its first rows and columns
pub rel-requires-clause-height : goal.rel-requires-clause-height
rel-requires-clause-height g c =
    let at = goal.at.rel-requires-clause-height g c in
    let i = high g at.After-root-height in
    (root g at.After-root-quad i (order g at.In_ok-first i)).height

pub rel-requires-clause-within : goal.rel-requires-clause-within
rel-requires-clause-within g c =
    let at = goal.at.rel-requires-clause-within g c in
    let i = high g at.After-root-height in
    (root g at.After-root-quad i (order g at.In_ok-first i)).within

pub returns-clause-value : goal.returns-clause-value
returns-clause-value g c =
    let at = goal.at.returns-clause-value g c in
    let i = high g at.After-root-height in
    let r = c.rel.ensures in
    record { means = r.means ∙ ap Some (root g at.After-root-quad i (order g at.In_ok-first i)).is; row_size = r.row_size; col_size = r.col_size }
