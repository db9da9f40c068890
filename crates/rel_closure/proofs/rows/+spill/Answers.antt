use Rattle.std.proofs.Common.{◌≡◌, ◌<◌, ◌^◌, ◌∙◌, ℕ, ap, arith, ◌+◌, inl, inr, refl}
use Rattle.rel_model.specs.Trees.{top_height}
use Rattle.bit_rows.specs.Rows.{rows_cells}
use Rattle.rel_steps.proofs.Given.{kept_quad}
use Rattle.rel_steps.proofs.Reading.{reads, reads_itself, reads_on}
use Rattle.rel_closure.proofs.OverRows.{fits, spilled_none, spilled_block, spilled_four}
use Rattle.rel_closure.proofs.rows.+spill.Goals as goal

pub returns-then-is_empty-clause-cells : goal.returns-then-is_empty-clause-cells
returns-then-is_empty-clause-cells g t c =
    let laws = g.met.Q.Quads in
    let o = c.args.quads.now in
    let q = c.args.q in
    spilled_none (g.Q.Core.worker o) q c.args.row c.args.col (rows_cells c.args.z.now) (laws.none o q.height (laws.low_height o q c.requires.stands) (laws.high_height o q c.requires.stands)) (c.is_empty.ensures.empty c.if-is_empty.true)

pub returns-then-is_empty-clause-reads : goal.returns-then-is_empty-clause-reads
returns-then-is_empty-clause-reads g t c = reads_itself (g.Q.Core.worker c.args.quads.now)

pub add_block-requires-clause-row_in : goal.add_block-requires-clause-row_in
add_block-requires-clause-row_in g t c =
    let e : 2 ^ c.args.q.height ≡ 8 = ap (λ (k : ℕ). 2 ^ k) (c.if-q-bottom.true ∙ c.bottom.ensures ∙ c.requires.leaf) in
    let r = c.requires.row_in in
    omega (arith, e, r)

pub add_block-requires-clause-col_in : goal.add_block-requires-clause-col_in
add_block-requires-clause-col_in g t c =
    let e : 2 ^ c.args.q.height ≡ 8 = ap (λ (k : ℕ). 2 ^ k) (c.if-q-bottom.true ∙ c.bottom.ensures ∙ c.requires.leaf) in
    let r = c.requires.col_in in
    omega (arith, e, r)

pub returns-then-q-bottom-clause-cells : goal.returns-then-q-bottom-clause-cells
returns-then-q-bottom-clause-cells g t c =
    spilled_block (g.Q.Core.worker c.args.quads.now) c.args.q g.Q.Core.least c.bits-bits.result c.args.row c.args.col (rows_cells c.args.z.now) (rows_cells c.add_block.new.z) c.requires.leaf c.bits-bits.ensures.cells c.add_block.ensures.cells

pub returns-then-q-bottom-clause-reads : goal.returns-then-q-bottom-clause-reads
returns-then-q-bottom-clause-reads g t c = record { keeps = c.bits-bits.ensures.keeps; room = c.bits-bits.ensures.room; misses = c.bits-bits.ensures.misses }

pub side_of-half-requires : goal.side_of-half-requires
unfolding top_height
side_of-half-requires g t c = g.met.Q.Quads.high_height c.quarters.new.self c.quarters.result.nw c.quarters.ensures.quarters.nw

pub spill-requires : goal.spill-requires
spill-requires g t c κs within =
    let q = c.quarters.ensures.quarters in
    let four = c.quarters.result in
    let e = q.nw_height in
    let low = g.met.Q.Quads.low_height c.quarters.new.self four.nw q.nw in
    let falls : four.nw.height < t = (let d = c.decreases in omega (arith, e, d)) in
    let f = fits c.args.q.height four.nw.height four.nw.height c.side_of-half.result c.args.row c.args.col c.args.row c.args.col (omega (arith, low, c.requires.leaf)) q.nw_height e c.side_of-half.ensures c.requires.row_in c.requires.col_in c.requires.col_on (inl refl) (inl refl) in
    (falls, (within, (q.nw, (c.requires.leaf, (c.requires.z_len, (f.row_in, (f.col_in, f.col_on)))))))

pub spill-requires-2 : goal.spill-requires-2
spill-requires-2 g t c κs within =
    let q = c.quarters.ensures.quarters in
    let four = c.quarters.result in
    let e = q.ne_height in
    let low = g.met.Q.Quads.low_height c.quarters.new.self four.nw q.nw in
    let falls : four.ne.height < t = (let d = c.decreases in omega (arith, e, d)) in
    let f = fits c.args.q.height four.nw.height four.ne.height c.side_of-half.result c.args.row c.args.col c.args.row (c.args.col + c.side_of-half.result) (omega (arith, low, c.requires.leaf)) q.nw_height e c.side_of-half.ensures c.requires.row_in c.requires.col_in c.requires.col_on (inl refl) (inr refl) in
    (falls, (within, (kept_quad _ _ _ c.spill.ensures.reads.keeps q.ne, (c.requires.leaf, (c.spill.ensures.len, (f.row_in, (f.col_in, f.col_on)))))))

pub spill-requires-3 : goal.spill-requires-3
spill-requires-3 g t c κs within =
    let q = c.quarters.ensures.quarters in
    let four = c.quarters.result in
    let e = q.sw_height in
    let low = g.met.Q.Quads.low_height c.quarters.new.self four.nw q.nw in
    let falls : four.sw.height < t = (let d = c.decreases in omega (arith, e, d)) in
    let f = fits c.args.q.height four.nw.height four.sw.height c.side_of-half.result c.args.row c.args.col (c.args.row + c.side_of-half.result) c.args.col (omega (arith, low, c.requires.leaf)) q.nw_height e c.side_of-half.ensures c.requires.row_in c.requires.col_in c.requires.col_on (inr refl) (inl refl) in
    (falls, (within, (kept_quad _ _ _ c.spill-2.ensures.reads.keeps (kept_quad _ _ _ c.spill.ensures.reads.keeps q.sw), (c.requires.leaf, (c.spill-2.ensures.len, (f.row_in, (f.col_in, f.col_on)))))))

pub spill-requires-4 : goal.spill-requires-4
spill-requires-4 g t c κs within =
    let q = c.quarters.ensures.quarters in
    let four = c.quarters.result in
    let e = q.se_height in
    let low = g.met.Q.Quads.low_height c.quarters.new.self four.nw q.nw in
    let falls : four.se.height < t = (let d = c.decreases in omega (arith, e, d)) in
    let f = fits c.args.q.height four.nw.height four.se.height c.side_of-half.result c.args.row c.args.col (c.args.row + c.side_of-half.result) (c.args.col + c.side_of-half.result) (omega (arith, low, c.requires.leaf)) q.nw_height e c.side_of-half.ensures c.requires.row_in c.requires.col_in c.requires.col_on (inr refl) (inr refl) in
    (falls, (within, (kept_quad _ _ _ c.spill-3.ensures.reads.keeps (kept_quad _ _ _ c.spill-2.ensures.reads.keeps (kept_quad _ _ _ c.spill.ensures.reads.keeps q.se)), (c.requires.leaf, (c.spill-3.ensures.len, (f.row_in, (f.col_in, f.col_on)))))))

pub returns-clause-cells : goal.returns-clause-cells
returns-clause-cells g t c =
    spilled_four (g.Q.Core.worker c.args.quads.now) (g.Q.Core.worker c.quarters.new.self) (g.Q.Core.worker c.spill.new.quads) (g.Q.Core.worker c.spill-2.new.quads) (g.Q.Core.worker c.spill-3.new.quads) c.args.q c.quarters.result c.args.row c.args.col c.side_of-half.result
    (rows_cells c.args.z.now) (rows_cells c.spill.new.z) (rows_cells c.spill-2.new.z) (rows_cells c.spill-3.new.z) (rows_cells c.spill-4.new.z)
    c.quarters.ensures.quarters (g.met.Q.Quads.square c.quarters.new.self) c.side_of-half.ensures
    c.spill.ensures.reads.keeps c.spill-2.ensures.reads.keeps c.spill-3.ensures.reads.keeps
    c.spill.ensures.cells c.spill-2.ensures.cells c.spill-3.ensures.cells c.spill-4.ensures.cells

pub returns-clause-reads : goal.returns-clause-reads
returns-clause-reads g t c =
    let q = reads c.quarters.ensures.keeps c.quarters.ensures.room c.quarters.ensures.misses in
    reads_on q (reads_on c.spill.ensures.reads (reads_on c.spill-2.ensures.reads (reads_on c.spill-3.ensures.reads c.spill-4.ensures.reads)))
