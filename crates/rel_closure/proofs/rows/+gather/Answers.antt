use Rattle.std.proofs.Common.{◌≡◌, ◌<◌, ◌≤◌, ◌+◌, ◌-◌, ◌%◌, ◌^◌, ◌∙◌, ℕ, inl, inr, refl, ap, arith}
use Rattle.rel_model.proofs.Workers.{keeps_itself}
use Rattle.rel_model.specs.Trees.{top_height}
use Rattle.bit_rows.specs.Rows.{rows_cells}
use Rattle.rel_steps.proofs.Causes.{done_cause}
use Rattle.rel_steps.proofs.Making.{begun, goes_on, failed, stops, four_stand, corner_made}
use Rattle.rel_closure.proofs.OverRows.{fits, over_leaf, side_by_8, gathered_parts, clear_value, word_fits, block_value, tree_some, tree_next, below_top, under_top}
use Rattle.rel_closure.proofs.rows.+gather.Goals as goal

-- ---- a block
pub block_at-requires-clause-row_in : goal.block_at-requires-clause-row_in
block_at-requires-clause-row_in g t c =
    let e : 2 ^ c.args.height ≡ 8 = ap (λ (k : ℕ). 2 ^ k) (c.if-height-bottom.true ∙ c.bottom.ensures ∙ c.requires.leaf) in
    let r = c.requires.row_in in
    omega (arith, e, r)

pub block_at-requires-clause-col_in : goal.block_at-requires-clause-col_in
block_at-requires-clause-col_in g t c =
    let e : 2 ^ c.args.height ≡ 8 = ap (λ (k : ℕ). 2 ^ k) (c.if-height-bottom.true ∙ c.bottom.ensures ∙ c.requires.leaf) in
    let r = c.requires.col_in in
    omega (arith, e, r)

pub block-requires : goal.block-requires
block-requires g t c = record { none_past = word_fits g.Q.Core.least c.block_at.result c.requires.leaf (omega arith) }

pub returns-in_err-block : goal.returns-in_err-block
returns-in_err-block g t c =
    let r = tree_some c.args.height in
    let e = c.in_err-block.ensures in
    stops c.from_residual.result c.from_residual.ensures.1 (omega (arith, r)) (begun {h = 0} _) (failed 1 e.keeps e.room e.cause)

pub returns-then-height-bottom : goal.returns-then-height-bottom
returns-then-height-bottom g t c =
    let r = tree_some c.args.height in
    let e = c.in_ok-block.ensures in
    record {
      value = block_value _ g.Q.Core.least c.args.height c.args.row c.args.col c.block_at.result (rows_cells c.args.z.now) c.in_ok-block.block c.requires.leaf (c.if-height-bottom.true ∙ c.bottom.ensures) c.block_at.ensures e.value;
      keeps = e.keeps;
      room = omega (arith, r, e.room);
      cause = e.cause;
    }

-- ---- a square with no cell
pub side_of-side-requires : goal.side_of-side-requires
unfolding top_height
side_of-side-requires g t c = below_top c.args.height c.requires.high

pub is_clear-requires-clause-row_in : goal.is_clear-requires-clause-row_in
is_clear-requires-clause-row_in g t c = let h = c.side_of-side.ensures in let r = c.requires.row_in in omega (arith, h, r)

pub is_clear-requires-clause-col_in : goal.is_clear-requires-clause-col_in
is_clear-requires-clause-col_in g t c = let h = c.side_of-side.ensures in let r = c.requires.col_in in omega (arith, h, r)

pub is_clear-requires-clause-side_on : goal.is_clear-requires-clause-side_on
is_clear-requires-clause-side_on g t c = ap (λ (x : ℕ). x % 8) c.side_of-side.ensures ∙ side_by_8 c.args.height c.requires.low

pub returns-then-is_clear : goal.returns-then-is_clear
returns-then-is_clear g t c =
    let o = c.args.quads.now in
    let low : g.Q.Core.least ≤ c.args.height = (let d = c.requires.leaf in let l = c.requires.low in omega (arith, d, l)) in
    record {
      value = clear_value (g.Q.Core.worker o) c.args.height c.args.row c.args.col c.side_of-side.result (rows_cells c.args.z.now) _ c.empty.ensures (g.met.Q.Quads.none o c.args.height low (below_top c.args.height c.requires.high)) c.side_of-side.ensures (c.is_clear.ensures c.if-is_clear.true);
      keeps = keeps_itself _;
      room = omega arith;
      cause = done_cause _ _ _ _ refl;
    }

-- ---- four quarters
pub side_of-half-requires : goal.side_of-half-requires
unfolding top_height
side_of-half-requires g t c = below_top (c.args.height - 1) (let h = c.requires.high in omega (arith, h))

pub gather-requires : goal.gather-requires
gather-requires g t c κs within =
    let over = over_leaf c.args.height c.bottom.result g.Q.Core.least c.if-height-bottom.false c.bottom.ensures c.requires.leaf c.requires.low in
    let falls : c.args.height - 1 < t = (let k = c.decreases in omega (arith, over, k)) in
    let one : c.args.height - 1 + 1 ≡ c.args.height = omega (arith, over) in
    let f = fits c.args.height (c.args.height - 1) (c.args.height - 1) c.side_of-half.result c.args.row c.args.col c.args.row c.args.col (omega (arith, over)) one one c.side_of-half.ensures c.requires.row_in c.requires.col_in c.requires.col_on (inl refl) (inl refl) in
    (falls, (within, (c.requires.leaf, (c.requires.z_len, (omega (arith, over), (omega (arith, c.requires.high), (f.row_in, (f.col_in, f.col_on))))))))

pub gather-requires-2 : goal.gather-requires-2
gather-requires-2 g t c κs within =
    let over = over_leaf c.args.height c.bottom.result g.Q.Core.least c.if-height-bottom.false c.bottom.ensures c.requires.leaf c.requires.low in
    let falls : c.args.height - 1 < t = (let k = c.decreases in omega (arith, over, k)) in
    let one : c.args.height - 1 + 1 ≡ c.args.height = omega (arith, over) in
    let f = fits c.args.height (c.args.height - 1) (c.args.height - 1) c.side_of-half.result c.args.row c.args.col c.args.row (c.args.col + c.side_of-half.result) (omega (arith, over)) one one c.side_of-half.ensures c.requires.row_in c.requires.col_in c.requires.col_on (inl refl) (inr refl) in
    (falls, (within, (c.requires.leaf, (c.requires.z_len, (omega (arith, over), (omega (arith, c.requires.high), (f.row_in, (f.col_in, f.col_on))))))))

pub gather-requires-3 : goal.gather-requires-3
gather-requires-3 g t c κs within =
    let over = over_leaf c.args.height c.bottom.result g.Q.Core.least c.if-height-bottom.false c.bottom.ensures c.requires.leaf c.requires.low in
    let falls : c.args.height - 1 < t = (let k = c.decreases in omega (arith, over, k)) in
    let one : c.args.height - 1 + 1 ≡ c.args.height = omega (arith, over) in
    let f = fits c.args.height (c.args.height - 1) (c.args.height - 1) c.side_of-half.result c.args.row c.args.col (c.args.row + c.side_of-half.result) c.args.col (omega (arith, over)) one one c.side_of-half.ensures c.requires.row_in c.requires.col_in c.requires.col_on (inr refl) (inl refl) in
    (falls, (within, (c.requires.leaf, (c.requires.z_len, (omega (arith, over), (omega (arith, c.requires.high), (f.row_in, (f.col_in, f.col_on))))))))

pub gather-requires-4 : goal.gather-requires-4
gather-requires-4 g t c κs within =
    let over = over_leaf c.args.height c.bottom.result g.Q.Core.least c.if-height-bottom.false c.bottom.ensures c.requires.leaf c.requires.low in
    let falls : c.args.height - 1 < t = (let k = c.decreases in omega (arith, over, k)) in
    let one : c.args.height - 1 + 1 ≡ c.args.height = omega (arith, over) in
    let f = fits c.args.height (c.args.height - 1) (c.args.height - 1) c.side_of-half.result c.args.row c.args.col (c.args.row + c.side_of-half.result) (c.args.col + c.side_of-half.result) (omega (arith, over)) one one c.side_of-half.ensures c.requires.row_in c.requires.col_in c.requires.col_on (inr refl) (inr refl) in
    (falls, (within, (c.requires.leaf, (c.requires.z_len, (omega (arith, over), (omega (arith, c.requires.high), (f.row_in, (f.col_in, f.col_on))))))))

-- ---- a quarter is missed
pub returns-in_err-nw : goal.returns-in_err-nw
returns-in_err-nw g t c =
    let r = tree_next c.args.height (over_leaf c.args.height c.bottom.result g.Q.Core.least c.if-height-bottom.false c.bottom.ensures c.requires.leaf c.requires.low) in
    stops c.from_residual-in_err-nw.result c.from_residual-in_err-nw.ensures.1 (omega (arith, r)) (begun {h = 0} _) c.in_err-nw.ensures

pub returns-in_err-ne : goal.returns-in_err-ne
returns-in_err-ne g t c =
    let r = tree_next c.args.height (over_leaf c.args.height c.bottom.result g.Q.Core.least c.if-height-bottom.false c.bottom.ensures c.requires.leaf c.requires.low) in
    let u1 = goes_on (begun _) c.in_ok-nw.ensures in
    stops c.from_residual-in_err-ne.result c.from_residual-in_err-ne.ensures.1 (omega (arith, r)) u1 c.in_err-ne.ensures

pub returns-in_err-sw : goal.returns-in_err-sw
returns-in_err-sw g t c =
    let r = tree_next c.args.height (over_leaf c.args.height c.bottom.result g.Q.Core.least c.if-height-bottom.false c.bottom.ensures c.requires.leaf c.requires.low) in
    let u1 = goes_on (begun _) c.in_ok-nw.ensures in
    let u2 = goes_on u1 c.in_ok-ne.ensures in
    stops c.from_residual-in_err-sw.result c.from_residual-in_err-sw.ensures.1 (omega (arith, r)) u2 c.in_err-sw.ensures

pub returns-in_err-se : goal.returns-in_err-se
returns-in_err-se g t c =
    let r = tree_next c.args.height (over_leaf c.args.height c.bottom.result g.Q.Core.least c.if-height-bottom.false c.bottom.ensures c.requires.leaf c.requires.low) in
    let u1 = goes_on (begun _) c.in_ok-nw.ensures in
    let u2 = goes_on u1 c.in_ok-ne.ensures in
    let u3 = goes_on u2 c.in_ok-sw.ensures in
    stops c.from_residual-in_err-se.result c.from_residual-in_err-se.ensures.1 (omega (arith, r)) u3 c.in_err-se.ensures

-- ---- the corner
pub returns-in_err-all : goal.returns-in_err-all
returns-in_err-all g t c =
    let r = tree_next c.args.height (over_leaf c.args.height c.bottom.result g.Q.Core.least c.if-height-bottom.false c.bottom.ensures c.requires.leaf c.requires.low) in
    let u1 = goes_on (begun _) c.in_ok-nw.ensures in
    let u2 = goes_on u1 c.in_ok-ne.ensures in
    let u3 = goes_on u2 c.in_ok-sw.ensures in
    let u4 = goes_on u3 c.in_ok-se.ensures in
    let e = c.in_err-all.ensures in
    stops c.from_residual-in_err-all.result c.from_residual-in_err-all.ensures.1 (omega (arith, r)) u4 (failed 3 e.keeps e.room e.cause)

pub returns : goal.returns
returns g t c =
    let over = over_leaf c.args.height c.bottom.result g.Q.Core.least c.if-height-bottom.false c.bottom.ensures c.requires.leaf c.requires.low in
    let r = tree_next c.args.height over in
    let p = gathered_parts c.args.height c.args.row c.args.col c.side_of-half.result (rows_cells c.args.z.now) over c.side_of-half.ensures in
    let u1 = goes_on (begun _) c.in_ok-nw.ensures in
    let u2 = goes_on u1 c.in_ok-ne.ensures in
    let u3 = goes_on u2 c.in_ok-sw.ensures in
    let u4 = goes_on u3 c.in_ok-se.ensures in
    let e = c.in_ok-all.ensures in
    corner_made (omega (arith, r)) p u4 e.value e.keeps e.room e.cause

pub corner-requires : goal.corner-requires
corner-requires g t c =
    let u1 = goes_on (begun _) c.in_ok-nw.ensures in
    let u2 = goes_on u1 c.in_ok-ne.ensures in
    let u3 = goes_on u2 c.in_ok-sw.ensures in
    let u4 = goes_on u3 c.in_ok-se.ensures in
    let a = u4.are in
    let f = four_stand a.1.1.1.0 a.1.1.0 a.1.0 a.0 in
    let below = under_top c.in_ok-nw.nw.height c.args.height c.in_ok-nw.ensures.value.same_height c.requires.low c.requires.high in
    record { nw_stands = f.nw_stands; ne_stands = f.ne_stands; sw_stands = f.sw_stands; se_stands = f.se_stands; ne_height = f.ne_height; sw_height = f.sw_height; se_height = f.se_height; below = below }
