use Rattle.std.proofs.Common.{rules, ◌≡◌, ◌∙◌, ◌++◌, ◌^◌, ℕ, sym, ap, subst, arith, append_assoc}
use Rattle.std.specs.Prelude.{OnOk}
use Rattle.rel_model.specs.Cells.{Cells}
use Rattle.rel_model.specs.Trees.{top_height}
use Rattle.rel_model.specs.Worker.{quad_set}
use Rattle.rv_print.specs.Marks.{marks}
use Rattle.rv_print.proofs.Chains.{where_same}
use Rattle.rv_print.proofs.Marking.{leaf-side, twice-side, two-halves}
use Rattle.rv_print.proofs.Standing.{zero_set, keeps_quad, keeps_quad_set}
use Rattle.rv_print.proofs.rows.+cells.Goals as goal

pub push_cells-returns-then-is_empty-clause-text : goal.push_cells-returns-then-is_empty-clause-text
push_cells-returns-then-is_empty-clause-text g t c =
    let w = g.E.Core.worker c.args.engine.now in
    let low = g.met.E.Quads.low_height c.args.engine.now c.args.quad c.requires.stands in
    let high = g.met.E.Quads.high_height c.args.engine.now c.args.quad c.requires.stands in
    let none = zero_set w c.args.quad (c.is_empty.ensures.empty c.if-is_empty.true) (g.met.E.Quads.none c.args.engine.now c.args.quad.height low high) in
    subst (λ (f : Cells). OnOk c.push_none.result (c.push_none.new.out.items ≡ c.args.out.now.items ++ marks (f c.args.row) c.args.cols)) (sym none) c.push_none.ensures

pub push_cells-push_bits-requires-clause-small : goal.push_cells-push_bits-requires-clause-small
push_cells-push_bits-requires-clause-small g t c =
    leaf-side c.args.quad.height g.E.Core.least c.side_of-side.result (c.if-quad-bottom.true ∙ c.bottom.ensures) g.met.E.Quads.least_limit c.side_of-side.ensures

pub push_half-side_of-half-requires : goal.push_half-side_of-half-requires
unfolding top_height
push_half-side_of-half-requires g t c = g.met.E.Quads.high_height c.quarters.new.self c.quarters.result.nw c.quarters.ensures.quarters.nw

pub push_two-side_of-half-requires : goal.push_two-side_of-half-requires
unfolding top_height
push_two-side_of-half-requires g t c = g.met.E.Quads.high_height c.args.engine.now c.args.west c.requires.west_stands

pub push_two-returns-clause-text : goal.push_two-returns-clause-text
push_two-returns-clause-text g t c =
    let w = g.E.Core.worker c.args.engine.now in
    let v = g.E.Core.worker c.push_cells.new.engine in
    let old = c.args.out.now.items in
    let row = c.args.row in
    let west : Cells = quad_set w c.args.west in
    let cut = c.min.result in
    let rest = c.saturating_sub.result in
    let same = keeps_quad_set w v c.args.east c.in_ok-push_cells.ensures.keeps c.requires.east_stands in
    let both = ap (λ zs. zs ++ marks (quad_set v c.args.east row) rest) c.in_ok-push_cells.ensures.text
    ∙ append_assoc old (marks (west row) cut) (marks (quad_set v c.args.east row) rest)
    ∙ ap (λ zs. old ++ zs) (ap (λ (f : Cells). marks (west row) cut ++ marks (f row) rest) same
    ∙ two-halves west (quad_set w c.args.east) (2 ^ c.args.west.height) row c.args.cols c.side_of-half.result cut rest c.side_of-half.ensures c.min.ensures c.saturating_sub.ensures) in
    where_same _ _ _ _ both c.push_cells-2.ensures.text

pub push_cells-push_half-requires : goal.push_cells-push_half-requires
push_cells-push_half-requires g t c κs within =
    let low = g.met.E.Quads.low_height c.args.engine.now c.args.quad c.requires.stands in
    let here = c.bottom.ensures in
    let other = c.if-quad-bottom.false in
    (search rules, (within, (c.requires.stands, (omega (arith, low, here, other), (c.requires.row, c.requires.cols)))))

pub push_half-push_two-requires : goal.push_half-push_two-requires
push_half-push_two-requires g t c κs within =
    let q = c.quarters.ensures.quarters in
    let north = c.quarters.result.nw.height in
    let one : c.quarters.result.ne.height ≡ north = omega (arith, q.nw_height, q.ne_height) in
    let side = twice-side c.args.quad.height north q.nw_height in
    (search rules, (within, (q.nw, (q.ne, (one, (omega (arith, c.if-row-half.true, c.side_of-half.ensures), omega (arith, side, c.requires.cols)))))))

pub push_half-push_two-requires-else-row-half : goal.push_half-push_two-requires-else-row-half
push_half-push_two-requires-else-row-half g t c κs within =
    let q = c.quarters.ensures.quarters in
    let south = c.quarters.result.sw.height in
    let one : c.quarters.result.se.height ≡ south = omega (arith, q.sw_height, q.se_height) in
    let side = twice-side c.args.quad.height south q.sw_height in
    let up : c.quarters.result.nw.height ≡ south = omega (arith, q.nw_height, q.sw_height) in
    let half = c.side_of-half.ensures ∙ ap (λ (h : ℕ). 2 ^ h) up in
    (search rules, (within, (q.sw, (q.se, (one, (omega (arith, side, half, c.if-row-half.false, c.requires.row), omega (arith, side, c.requires.cols)))))))

pub push_two-push_cells-requires : goal.push_two-push_cells-requires
push_two-push_cells-requires g t c κs within =
    (search rules, (within, (c.requires.west_stands, (c.requires.row, omega (arith, c.min.ensures, c.side_of-half.ensures)))))

pub push_two-push_cells-requires-2 : goal.push_two-push_cells-requires-2
push_two-push_cells-requires-2 g t c κs within =
    let stands = keeps_quad (g.E.Core.worker c.args.engine.now) (g.E.Core.worker c.push_cells.new.engine) c.args.east c.in_ok-push_cells.ensures.keeps c.requires.east_stands in
    let same = ap (λ (h : ℕ). 2 ^ h) c.requires.one_height in
    (search rules, (within, (stands, (omega (arith, same, c.requires.row), omega (arith, same, c.saturating_sub.ensures, c.side_of-half.ensures, c.requires.cols)))))
