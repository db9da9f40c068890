use Rattle.std.proofs.Common.{◌∙◌, ◌^◌, sym, subst, inl, None}
use Rattle.rel_model.specs.Trees.{top_height}
use Rattle.rel_choice.proofs.RowHalves.{leaf-side, none-least, row-first, row-second, row-neither}
use Rattle.rel_model.specs.Worker.{quad_set}
use Rattle.rel_choice.specs.Leasts.{IsLeast, row_meets}
use Rattle.rel_choice.proofs.rows.+row.Goals as goal

pub row_from-returns-then-is_empty-clause-value : goal.row_from-returns-then-is_empty-clause-value
row_from-returns-then-is_empty-clause-value g t c =
    let l = g.met.Q.Quads.low_height c.args.q.now c.args.quad c.requires.stands in
    let h = g.met.Q.Quads.high_height c.args.q.now c.args.quad c.requires.stands in
    none-least (g.Q.Core.worker c.args.q.now) c.args.quad c.args.from c.args.below (g.met.Q.Quads.none c.args.q.now c.args.quad.height l h) (inl (c.is_empty.ensures.empty c.if-is_empty.true))

pub row_from-row_in-requires-clause-small : goal.row_from-row_in-requires-clause-small
row_from-row_in-requires-clause-small g t c = leaf-side c.args.quad.height g.Q.Core.least c.side_of-side.result (c.if-quad-bottom.true ∙ c.bottom.ensures) g.met.Q.Quads.least_limit c.side_of-side.ensures

pub row_over-side_of-half-requires : goal.row_over-side_of-half-requires
unfolding top_height
row_over-side_of-half-requires g t c = g.met.Q.Quads.high_height c.quarters.new.self c.quarters.result.nw c.quarters.ensures.quarters.nw

pub row_over-returns-in-Some-clause-value : goal.row_over-returns-in-Some-clause-value
row_over-returns-in-Some-clause-value g t c =
    row-first (g.Q.Core.worker c.args.q.now) (g.Q.Core.worker c.quarters.new.self) c.args.quad c.quarters.result c.side_of-half.result c.args.from c.args.below c.min.result c.in-Some.found
    c.quarters.ensures.quarters c.side_of-half.ensures c.min.ensures c.in-Some.ensures.value

pub row_over-returns-in_err-found-clause-value : goal.row_over-returns-in_err-found-clause-value
row_over-returns-in_err-found-clause-value g t c =
    let w0 = g.Q.Core.worker c.args.q.now in
    let w1 = g.Q.Core.worker c.quarters.new.self in
    let w2 = g.Q.Core.worker c.row_of_two.new.q in
    let found : IsLeast (row_meets (2 ^ c.args.quad.height) (quad_set w0 c.args.quad)) c.args.from c.args.below None = row-neither w0 w1 w2 c.args.quad c.quarters.result c.side_of-half.result c.args.from c.args.below c.min.result c.saturating_sub.result c.saturating_sub-2.result
    c.quarters.ensures.quarters c.in_default.ensures.keeps c.side_of-half.ensures c.min.ensures c.saturating_sub.ensures c.saturating_sub-2.ensures c.in_default.ensures.value c.in_err-found.ensures.value in
    subst (λ o. IsLeast (row_meets (2 ^ c.args.quad.height) (quad_set w0 c.args.quad)) c.args.from c.args.below o) (sym c.from_residual.ensures) found

pub row_over-returns-clause-value : goal.row_over-returns-clause-value
row_over-returns-clause-value g t c =
    let w0 = g.Q.Core.worker c.args.q.now in
    let w1 = g.Q.Core.worker c.quarters.new.self in
    let w2 = g.Q.Core.worker c.row_of_two.new.q in
    row-second w0 w1 w2 c.args.quad c.quarters.result c.side_of-half.result c.args.from c.args.below c.min.result c.saturating_sub.result c.saturating_sub-2.result c.in_ok-found.found
    c.quarters.ensures.quarters c.in_default.ensures.keeps c.side_of-half.ensures c.min.ensures c.saturating_sub.ensures c.saturating_sub-2.ensures c.in_default.ensures.value c.in_ok-found.ensures.value
