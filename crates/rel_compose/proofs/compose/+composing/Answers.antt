use Rattle.std.proofs.Common.{◌∙◌, refl, sym, ◌+◌, ◌-◌, ℕ, Ok, arith, ◌≡◌, ap}
use Rattle.rel_model.specs.Quads.{compose_room, quad_cells, quad_room, ReadsQuads}
use Rattle.rel_model.proofs.QuadLaws.{keeps_most, keeps_itself, quad_stays, is_quad-stays, reads_itself, reads_on}
use Rattle.std.proofs.lemmas.Bool.{false≢true}
use Rattle.rel_model.specs.Cells.{cells_compose}
use Rattle.rel_model.specs.Equations.{side_of}
use Rattle.quad_nodes.proofs.Finding.{found_is}
use Rattle.rel_compose.proofs.Finding.{composed_low, full_again, full_block_found}
use Rattle.rel_model.proofs.Rooms.{compose_room-next}
use Rattle.rel_compose.specs.Products.{IsComposition, quarter_room}
use Rattle.rel_compose.proofs.Multiplying.{BothQuarters, read_both, composed_none-left, composed_none-right, both_stay, both_at, product_value, products_value, squares, squares-stay, composed_value, composed_now, row_below}
use Rattle.rel_compose.proofs.Coming.{Came, reading, came_on, gives, fails, given, composed_later}
use Rattle.rel_compose.proofs.compose.+composing.Goals.{over_blocks-After-rows_pay, over_blocks-After-sums_pay, over_blocks-After-asked_under-under, by_quarters-After-quarters-fb, by_quarters-In_ok-nw, by_quarters-In_ok-sw, by_quarters-In_ok-found}
use Rattle.rel_compose.proofs.compose.+composing.Goals as goal

pub compose_up_to-returns-then-a-eq0-clause-value : goal.compose_up_to-returns-then-a-eq0-clause-value
compose_up_to-returns-then-a-eq0-clause-value t c = composed_none-left c.args.nodes.now c.args.a c.args.b c.bottom-bottom.ensures.work c.requires.a_stands c.if-a-eq0.true

pub compose_up_to-returns-then-b-eq0-clause-value : goal.compose_up_to-returns-then-b-eq0-clause-value
compose_up_to-returns-then-b-eq0-clause-value t c = composed_none-right c.args.nodes.now c.args.a c.args.b c.bottom-bottom.ensures.work c.requires.b_stands c.requires.one_height c.if-b-eq0.true

pub compose_up_to-over_blocks-requires : goal.compose_up_to-over_blocks-requires
compose_up_to-over_blocks-requires t c =
    let l = c.requires.a_stands.low in
    let n = c.if-a-bottom.false in
    let b = c.bottom-bottom.ensures.height in
    let k = c.both_full.ensures.reads.keeps in
    (omega arith, (quad_stays 0 c.args.nodes.now c.both_full.new.nodes c.args.a k c.requires.a_stands, (quad_stays 0 c.args.nodes.now c.both_full.new.nodes c.args.b k c.requires.b_stands, (c.requires.one_height, omega (arith, l, n, b)))))

pub row_times_column-compose_up_to-requires-2 : goal.row_times_column-compose_up_to-requires-2
row_times_column-compose_up_to-requires-2 t c =
    let s0 = c.args.nodes.now in
    let s1 = c.compose_up_to.new.nodes in
    let k = c.in_ok-first.ensures.keeps in
    let r = both_stay _ s0 s1 c.args.row.0.height c.args.row k c.requires.row_stands in
    let w = both_stay _ s0 s1 c.args.row.0.height c.args.column k c.requires.column_stands in
    let e = r.second_height in
    let g = w.second_height in
    (omega arith, (r.second, (w.second, omega arith)))

pub row_times_column-union_quads-requires-clause-a_stands : goal.row_times_column-union_quads-requires-clause-a_stands
row_times_column-union_quads-requires-clause-a_stands t c = quad_stays _ c.compose_up_to.new.nodes c.compose_up_to-2.new.nodes c.in_ok-first.first c.in_ok-second.ensures.keeps c.in_ok-first.ensures.value.stands

pub row_of_products-row_times_column-requires-2 : goal.row_of_products-row_times_column-requires-2
row_of_products-row_times_column-requires-2 t c =
    let s0 = c.args.nodes.now in
    let s1 = c.row_times_column.new.nodes in
    let k = c.in_ok-first.ensures.keeps in
    (omega arith, (both_stay _ s0 s1 c.args.row.0.height c.args.row k c.requires.row_stands, both_stay _ s0 s1 c.args.row.0.height c.args.east k c.requires.east_stands))

pub by_quarters-corner-requires-clause-nw_stands : goal.by_quarters-corner-requires-clause-nw_stands
by_quarters-corner-requires-clause-nw_stands t c = quad_stays _ c.row_of_products.new.nodes c.row_of_products-2.new.nodes c.in_ok-nw.nw c.in_ok-sw.ensures.keeps c.in_ok-nw.ensures.value.first.stands

pub by_quarters-corner-requires-clause-ne_stands : goal.by_quarters-corner-requires-clause-ne_stands
by_quarters-corner-requires-clause-ne_stands t c = quad_stays _ c.row_of_products.new.nodes c.row_of_products-2.new.nodes c.in_ok-nw.ne c.in_ok-sw.ensures.keeps c.in_ok-nw.ensures.value.second.stands

-- ---- full operands

pub compose_up_to-returns-then-a-eq0-clause-full : goal.compose_up_to-returns-then-a-eq0-clause-full
compose_up_to-returns-then-a-eq0-clause-full t c e f = record { answer = refl; reads = reads_itself c.args.nodes.now c.bottom-bottom.ensures.work }

pub compose_up_to-returns-then-b-eq0-clause-full : goal.compose_up_to-returns-then-b-eq0-clause-full
compose_up_to-returns-then-b-eq0-clause-full t c e f = full_again c.args.nodes.now c.args.a c.args.b c.bottom-bottom.ensures.work c.requires.a_stands c.requires.b_stands c.requires.one_height e f

pub compose_up_to-returns-then-a-bottom-clause-full : goal.compose_up_to-returns-then-a-bottom-clause-full
compose_up_to-returns-then-a-bottom-clause-full t c e f =
    full_block_found c.args.nodes.now c.leaf.new.nodes c.args.a c.args.b c.leaf.result c.bottom-bottom.ensures.work c.requires.a_stands c.requires.b_stands c.requires.one_height (c.if-a-bottom.true ∙ c.bottom-bottom.ensures.height) e f c.leaf.ensures.stood

pub compose_up_to-returns-then-both_full-clause-full : goal.compose_up_to-returns-then-both_full-clause-full
compose_up_to-returns-then-both_full-clause-full t c e f = record { answer = refl; reads = c.both_full.ensures.reads }

pub compose_up_to-returns-clause-full : goal.compose_up_to-returns-clause-full
compose_up_to-returns-clause-full t c e f = absurd (false≢true (sym c.if-both_full.false ∙ c.both_full.ensures.only_full e f))

-- ---- blocks

pub compose_up_to-returns-then-a-eq0-clause-blocks : goal.compose_up_to-returns-then-a-eq0-clause-blocks
compose_up_to-returns-then-a-eq0-clause-blocks t c e q s =
    let w = c.args.nodes.now in
    let a = c.args.a in
    let i = c.bottom-bottom.ensures.work in
    found_is w w c.args.a.height (cells_compose (side_of c.args.a.height) (quad_cells w a) (quad_cells w c.args.b)) a (reads_itself w i) (composed_none-left w a c.args.b i c.requires.a_stands c.if-a-eq0.true) q s

pub compose_up_to-returns-then-b-eq0-clause-blocks : goal.compose_up_to-returns-then-b-eq0-clause-blocks
compose_up_to-returns-then-b-eq0-clause-blocks t c e q s =
    let w = c.args.nodes.now in
    let b = c.args.b in
    let i = c.bottom-bottom.ensures.work in
    found_is w w c.args.a.height (cells_compose (side_of c.args.a.height) (quad_cells w c.args.a) (quad_cells w b)) b (reads_itself w i) (composed_none-right w c.args.a b i c.requires.b_stands c.requires.one_height c.if-b-eq0.true) q s

pub compose_up_to-returns-then-a-bottom-clause-blocks : goal.compose_up_to-returns-then-a-bottom-clause-blocks
compose_up_to-returns-then-a-bottom-clause-blocks t c e = composed_low c.args.nodes.now c.leaf.new.nodes c.args.a c.args.b c.leaf.result c.bottom-bottom.ensures.work e c.leaf.ensures.stood

pub compose_up_to-returns-then-both_full-clause-blocks : goal.compose_up_to-returns-then-both_full-clause-blocks
compose_up_to-returns-then-both_full-clause-blocks t c e = absurd (c.if-a-bottom.false (e ∙ sym c.bottom-bottom.ensures.height))

pub compose_up_to-returns-clause-blocks : goal.compose_up_to-returns-clause-blocks
compose_up_to-returns-clause-blocks t c e = absurd (c.if-a-bottom.false (e ∙ sym c.bottom-bottom.ensures.height))

pub row_times_column-compose_up_to-requires : goal.row_times_column-compose_up_to-requires
row_times_column-compose_up_to-requires t c =
    let r = c.requires.row_stands in
    let s = c.requires.column_stands in
    (omega arith, (r.first, (s.first, s.first_height)))

pub row_times_column-union_quads-requires-clause-one_height : goal.row_times_column-union_quads-requires-clause-one_height
row_times_column-union_quads-requires-clause-one_height t c = c.in_ok-second.ensures.value.same_height ∙ c.requires.row_stands.second_height ∙ sym c.in_ok-first.ensures.value.same_height

pub row_of_products-row_times_column-requires : goal.row_of_products-row_times_column-requires
row_of_products-row_times_column-requires t c = (omega arith, (c.requires.row_stands, c.requires.west_stands))

pub compose_up_to-returns-clause-value : goal.compose_up_to-returns-clause-value
compose_up_to-returns-clause-value t c = (composed_later c.both_full.ensures.reads c.requires.a_stands c.requires.b_stands c.over_blocks.ensures).value

pub compose_up_to-returns-clause-keeps : goal.compose_up_to-returns-clause-keeps
compose_up_to-returns-clause-keeps t c = (composed_later c.both_full.ensures.reads c.requires.a_stands c.requires.b_stands c.over_blocks.ensures).keeps

pub compose_up_to-returns-clause-counts : goal.compose_up_to-returns-clause-counts
compose_up_to-returns-clause-counts t c = (composed_later c.both_full.ensures.reads c.requires.a_stands c.requires.b_stands c.over_blocks.ensures).counts

-- ---- by rows or by quarters
rows_asked : (t : ℕ) (c : over_blocks-After-rows_pay t) → ReadsQuads c.args.nodes.now c.rows_pay.new.nodes
rows_asked t c = reads_on _ _ _ c.look.ensures.reads c.rows_pay.ensures.reads

sums_asked : (t : ℕ) (c : over_blocks-After-sums_pay t) → ReadsQuads c.args.nodes.now c.sums_pay.new.nodes
sums_asked t c = reads_on _ _ _ (reads_on _ _ _ c.look.ensures.reads c.rows_pay.ensures.reads) c.sums_pay.ensures.reads

all_asked : (t : ℕ) (c : over_blocks-After-asked_under-under t) → ReadsQuads c.args.nodes.now c.asked_under-under.new.nodes
all_asked t c = reads_on _ _ _ (reads_on _ _ _ (reads_on _ _ _ c.look.ensures.reads c.rows_pay.ensures.reads) c.sums_pay.ensures.reads) c.asked_under-under.ensures.reads

pub over_blocks-rows_pay-requires-clause-a_stands : goal.over_blocks-rows_pay-requires-clause-a_stands
over_blocks-rows_pay-requires-clause-a_stands t c = quad_stays _ _ _ _ c.look.ensures.reads.keeps c.requires.a_stands

pub over_blocks-rows_pay-requires-clause-b_stands : goal.over_blocks-rows_pay-requires-clause-b_stands
over_blocks-rows_pay-requires-clause-b_stands t c = quad_stays _ _ _ _ c.look.ensures.reads.keeps c.requires.b_stands

pub over_blocks-noted_by_rows-requires-clause-a_stands : goal.over_blocks-noted_by_rows-requires-clause-a_stands
over_blocks-noted_by_rows-requires-clause-a_stands t c = quad_stays _ _ _ _ (rows_asked t (goal.at.over_blocks-noted_by_rows-requires-clause-a_stands t c).After-rows_pay).keeps c.requires.a_stands

pub over_blocks-noted_by_rows-requires-clause-b_stands : goal.over_blocks-noted_by_rows-requires-clause-b_stands
over_blocks-noted_by_rows-requires-clause-b_stands t c = quad_stays _ _ _ _ (rows_asked t (goal.at.over_blocks-noted_by_rows-requires-clause-b_stands t c).After-rows_pay).keeps c.requires.b_stands

pub over_blocks-sums_pay-requires-clause-a_stands : goal.over_blocks-sums_pay-requires-clause-a_stands
over_blocks-sums_pay-requires-clause-a_stands t c = quad_stays _ _ _ _ (rows_asked t (goal.at.over_blocks-sums_pay-requires-clause-a_stands t c).After-rows_pay).keeps c.requires.a_stands

pub over_blocks-sums_pay-requires-clause-b_stands : goal.over_blocks-sums_pay-requires-clause-b_stands
over_blocks-sums_pay-requires-clause-b_stands t c = quad_stays _ _ _ _ (rows_asked t (goal.at.over_blocks-sums_pay-requires-clause-b_stands t c).After-rows_pay).keeps c.requires.b_stands

pub over_blocks-noted_by_sums-requires-clause-a_stands : goal.over_blocks-noted_by_sums-requires-clause-a_stands
over_blocks-noted_by_sums-requires-clause-a_stands t c = quad_stays _ _ _ _ (sums_asked t (goal.at.over_blocks-noted_by_sums-requires-clause-a_stands t c).After-sums_pay).keeps c.requires.a_stands

pub over_blocks-noted_by_sums-requires-clause-b_stands : goal.over_blocks-noted_by_sums-requires-clause-b_stands
over_blocks-noted_by_sums-requires-clause-b_stands t c = quad_stays _ _ _ _ (sums_asked t (goal.at.over_blocks-noted_by_sums-requires-clause-b_stands t c).After-sums_pay).keeps c.requires.b_stands

pub over_blocks-asked_under-under-requires-clause-a_stands : goal.over_blocks-asked_under-under-requires-clause-a_stands
over_blocks-asked_under-under-requires-clause-a_stands t c = quad_stays _ _ _ _ (sums_asked t (goal.at.over_blocks-asked_under-under-requires-clause-a_stands t c).After-sums_pay).keeps c.requires.a_stands

pub over_blocks-asked_under-under-requires-clause-b_stands : goal.over_blocks-asked_under-under-requires-clause-b_stands
over_blocks-asked_under-under-requires-clause-b_stands t c = quad_stays _ _ _ _ (sums_asked t (goal.at.over_blocks-asked_under-under-requires-clause-b_stands t c).After-sums_pay).keeps c.requires.b_stands

pub over_blocks-by_quarters-requires : goal.over_blocks-by_quarters-requires
over_blocks-by_quarters-requires t c =
    let k = (all_asked t (goal.at.over_blocks-by_quarters-requires t c).After-asked_under-under).keeps in
    (omega arith, (quad_stays _ _ _ _ k c.requires.a_stands, (quad_stays _ _ _ _ k c.requires.b_stands, (c.requires.one_height, c.requires.over))))

pub over_blocks-returns-in-Some : goal.over_blocks-returns-in-Some
over_blocks-returns-in-Some t c =
    let r = c.look.ensures.reads in
    record { value = c.in-Some.ensures.found; keeps = keeps_most _ _ _ _ (omega arith) r.keeps; counts = r.misses }

pub over_blocks-returns-then-rows_pay : goal.over_blocks-returns-then-rows_pay
over_blocks-returns-then-rows_pay t c = composed_later (rows_asked t (goal.at.over_blocks-returns-then-rows_pay t c).After-rows_pay) c.requires.a_stands c.requires.b_stands c.noted_by_rows.ensures

pub over_blocks-returns-then-sums_pay : goal.over_blocks-returns-then-sums_pay
over_blocks-returns-then-sums_pay t c = composed_later (sums_asked t (goal.at.over_blocks-returns-then-sums_pay t c).After-sums_pay) c.requires.a_stands c.requires.b_stands c.noted_by_sums.ensures

pub over_blocks-returns : goal.over_blocks-returns
over_blocks-returns t c = composed_later (all_asked t (goal.at.over_blocks-returns t c).After-asked_under-under) c.requires.a_stands c.requires.b_stands c.by_quarters.ensures

-- ---- by quarters
both : (t : ℕ) (c : by_quarters-After-quarters-fb t) → BothQuarters c.args.nodes.now c.quarters-fb.new.self c.args.a c.args.b c.quarters-fa.result c.quarters-fb.result
both t c = read_both c.quarters-fa.ensures.reads c.quarters-fb.ensures.reads c.requires.b_stands c.quarters-fa.ensures.quarters c.quarters-fb.ensures.quarters

pub by_quarters-quarters-fb-requires-clause-stands : goal.by_quarters-quarters-fb-requires-clause-stands
by_quarters-quarters-fb-requires-clause-stands t c = quad_stays _ _ _ _ c.quarters-fa.ensures.reads.keeps c.requires.b_stands

pub by_quarters-row_of_products-requires : goal.by_quarters-row_of_products-requires
by_quarters-row_of_products-requires t c =
    let q = both t (goal.at.by_quarters-row_of_products-requires t c).After-quarters-fb in
    let sq = squares _ _ c.args.a c.args.b _ _ c.requires.one_height q.first q.second in
    let e = q.first.nw_height in
    (omega arith, (sq.north, (sq.west, sq.east)))

pub by_quarters-row_of_products-requires-2 : goal.by_quarters-row_of_products-requires-2
by_quarters-row_of_products-requires-2 t c =
    let fa = c.quarters-fa.result in
    let fb = c.quarters-fb.result in
    let q = both t (goal.at.by_quarters-row_of_products-requires-2 t c).After-quarters-fb in
    let s3 = c.row_of_products.new.nodes in
    let h : ℕ = fa.nw.height in
    let sq = squares-stay _ _ s3 h fa fb c.in_ok-nw.ensures.keeps (squares _ _ c.args.a c.args.b fa fb c.requires.one_height q.first q.second) in
    let e = sq.south.first_height in
    let g = q.first.sw_height in
    (omega arith, (both_at s3 h fa.sw.height (fa.sw, fa.se) e sq.south, (both_at s3 h fa.sw.height (fb.nw, fb.sw) e sq.west, both_at s3 h fa.sw.height (fb.ne, fb.se) e sq.east)))

nw_came : (t : ℕ) (c : by_quarters-In_ok-nw t) → BothQuarters c.args.nodes.now c.quarters-fb.new.self c.args.a c.args.b c.quarters-fa.result c.quarters-fb.result
    → let m : ℕ = quarter_room (c.args.a.height - 1) + quarter_room (c.args.a.height - 1) in Came (0 + m) c.args.nodes.now c.row_of_products.new.nodes
nw_came t c q = came_on (reading q.reads) (row_below c.args.a.height _ _ _ q.first.nw_height c.in_ok-nw.ensures.keeps) c.in_ok-nw.ensures.counts

sw_came : (t : ℕ) (c : by_quarters-In_ok-sw t) → BothQuarters c.args.nodes.now c.quarters-fb.new.self c.args.a c.args.b c.quarters-fa.result c.quarters-fb.result
    → let m : ℕ = quarter_room (c.args.a.height - 1) + quarter_room (c.args.a.height - 1) in Came (0 + m + m) c.args.nodes.now c.row_of_products-2.new.nodes
sw_came t c q =
    let u = came_on (reading q.reads) (row_below c.args.a.height _ _ _ q.first.nw_height c.in_ok-nw.ensures.keeps) c.in_ok-nw.ensures.counts in
    came_on u (row_below c.args.a.height _ _ _ q.first.sw_height c.in_ok-sw.ensures.keeps) c.in_ok-sw.ensures.counts

-- the corner of the products is the composition
whole : (t : ℕ) (c : by_quarters-In_ok-found t) → BothQuarters c.args.nodes.now c.quarters-fb.new.self c.args.a c.args.b c.quarters-fa.result c.quarters-fb.result
    → IsComposition c.args.nodes.now c.corner.new.self c.args.a c.args.b c.in_ok-found.found
whole t c q =
    let i = keeps_itself c.args.nodes.now 0 q.reads.keeps.before in
    composed_value {E = Unit {0}} _ _ c.args.nodes.now c.args.nodes.now c.quarters-fb.new.self c.row_of_products.new.nodes c.row_of_products-2.new.nodes c.corner.new.self c.args.a c.args.b c.quarters-fa.result c.quarters-fb.result
    c.in_ok-nw.nw c.in_ok-nw.ne c.in_ok-sw.sw c.in_ok-sw.se (Ok c.in_ok-found.found) c.requires.over c.requires.a_stands c.requires.b_stands c.requires.one_height i q.first q.second
    c.in_ok-nw.ensures.keeps c.in_ok-sw.ensures.keeps c.in_ok-nw.ensures.value c.in_ok-sw.ensures.value c.in_ok-found.ensures.value

pub by_quarters-returns-in_err-nw : goal.by_quarters-returns-in_err-nw
by_quarters-returns-in_err-nw t c =
    let q = both t (goal.at.by_quarters-returns-in_err-nw t c).After-quarters-fb in
    let r = compose_room-next c.args.a.height c.requires.over in
    let e = c.in_err-nw.ensures in
    fails c.from_residual.result c.from_residual.ensures.0 (omega (arith, r)) (reading q.reads) (row_below c.args.a.height _ _ _ q.first.nw_height e.keeps) e.counts

pub by_quarters-returns-in_err-sw : goal.by_quarters-returns-in_err-sw
by_quarters-returns-in_err-sw t c =
    let at = goal.at.by_quarters-returns-in_err-sw t c in
    let q = both t at.After-quarters-fb in
    let r = compose_room-next c.args.a.height c.requires.over in
    let e = c.in_err-sw.ensures in
    fails c.from_residual-in_err-sw.result c.from_residual-in_err-sw.ensures.0 (omega (arith, r)) (nw_came t at.In_ok-nw q) (row_below c.args.a.height _ _ _ q.first.sw_height e.keeps) e.counts

pub by_quarters-returns-in_err-found : goal.by_quarters-returns-in_err-found
by_quarters-returns-in_err-found t c =
    let at = goal.at.by_quarters-returns-in_err-found t c in
    let r = compose_room-next c.args.a.height c.requires.over in
    let e = c.in_err-found.ensures in
    fails c.from_residual-in_err-found.result c.from_residual-in_err-found.ensures.0 (omega (arith, r)) (sw_came t at.In_ok-sw (both t at.After-quarters-fb)) e.keeps e.counts

pub by_quarters-note-requires-clause-a_stands : goal.by_quarters-note-requires-clause-a_stands
by_quarters-note-requires-clause-a_stands t c =
    let at = goal.at.by_quarters-note-requires-clause-a_stands t c in
    quad_stays _ _ _ _ c.in_ok-found.ensures.keeps (quad_stays _ _ _ _ (sw_came t at.In_ok-sw (both t at.After-quarters-fb)).keeps c.requires.a_stands)

pub by_quarters-note-requires-clause-b_stands : goal.by_quarters-note-requires-clause-b_stands
by_quarters-note-requires-clause-b_stands t c =
    let at = goal.at.by_quarters-note-requires-clause-b_stands t c in
    quad_stays _ _ _ _ c.in_ok-found.ensures.keeps (quad_stays _ _ _ _ (sw_came t at.In_ok-sw (both t at.After-quarters-fb)).keeps c.requires.b_stands)

pub by_quarters-note-requires-clause-holds : goal.by_quarters-note-requires-clause-holds
by_quarters-note-requires-clause-holds t c =
    let at = goal.at.by_quarters-note-requires-clause-holds t c in
    let q = both t at.After-quarters-fb in
    let u = came_on (sw_came t at.In_ok-sw q) c.in_ok-found.ensures.keeps c.in_ok-found.ensures.counts in
    composed_now _ _ _ c.args.a c.args.b c.in_ok-found.found u.keeps c.requires.a_stands c.requires.b_stands (whole t at.In_ok-found q)

pub by_quarters-returns : goal.by_quarters-returns
by_quarters-returns t c =
    let at = goal.at.by_quarters-returns t c in
    let r = compose_room-next c.args.a.height c.requires.over in
    let q = both t at.After-quarters-fb in
    let u = came_on (sw_came t at.In_ok-sw q) c.in_ok-found.ensures.keeps c.in_ok-found.ensures.counts in
    let n = c.note.ensures.reads in
    let w = came_on u n.keeps n.misses in
    record { value = is_quad-stays 0 _ _ _ _ _ n.keeps (whole t at.In_ok-found q); keeps = keeps_most _ _ _ _ (omega (arith, r)) w.keeps; counts = w.misses }

-- ---- a row times a column
pub row_times_column-returns-in_err-first : goal.row_times_column-returns-in_err-first
row_times_column-returns-in_err-first t c =
    let e = c.in_err-first.ensures in
    fails c.from_residual.result c.from_residual.ensures.0 (omega arith) (reading (reads_itself _ e.keeps.before)) e.keeps e.counts

pub row_times_column-returns-in_err-second : goal.row_times_column-returns-in_err-second
row_times_column-returns-in_err-second t c =
    let h = ap compose_room c.requires.row_stands.second_height in
    let d = c.in_ok-first.ensures in
    let e = c.in_err-second.ensures in
    fails c.from_residual-in_err-second.result c.from_residual-in_err-second.ensures.0 (omega (arith, h)) (record { keeps = d.keeps; misses = d.counts }) e.keeps e.counts

pub row_times_column-returns : goal.row_times_column-returns
row_times_column-returns t c =
    let g = ap compose_room c.requires.row_stands.second_height in
    let s : quad_room c.in_ok-first.first.height ≡ quad_room c.args.row.0.height = ap quad_room c.in_ok-first.ensures.value.same_height in
    let d = c.in_ok-first.ensures in
    let e = c.in_ok-second.ensures in
    let u = c.union_quads.ensures in
    let v : Came _ c.args.nodes.now c.compose_up_to.new.nodes = record { keeps = d.keeps; misses = d.counts } in
    gives (product_value _ _ _ _ _ _ c.args.row c.args.column c.in_ok-first.first c.in_ok-second.second c.union_quads.result c.requires.row_stands c.requires.column_stands d.keeps e.keeps d.value e.value u.value)
    (omega (arith, g, s)) (came_on v e.keeps e.counts) u.keeps u.counts

pub row_of_products-returns-in_err-first : goal.row_of_products-returns-in_err-first
row_of_products-returns-in_err-first t c =
    let e = c.in_err-first.ensures in
    fails c.from_residual.result c.from_residual.ensures.0 (omega arith) (reading (reads_itself _ e.keeps.before)) e.keeps e.counts

pub row_of_products-returns-in_err-second : goal.row_of_products-returns-in_err-second
row_of_products-returns-in_err-second t c =
    let e = c.in_err-second.ensures in
    fails c.from_residual-in_err-second.result c.from_residual-in_err-second.ensures.0 (omega arith) (given c.in_ok-first.ensures) e.keeps e.counts

pub row_of_products-returns : goal.row_of_products-returns
row_of_products-returns t c =
    let d = c.in_ok-first.ensures in
    let e = c.in_ok-second.ensures in
    gives (products_value _ _ _ _ _ c.args.row c.args.west c.args.east c.in_ok-first.first c.in_ok-second.second c.requires.row_stands c.requires.east_stands d.keeps e.keeps d.value e.value) (omega arith) (given d) e.keeps e.counts
