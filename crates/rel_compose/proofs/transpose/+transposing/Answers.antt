use Rattle.std.proofs.Common.{ℕ, Ok, refl, arith, ◌∙◌, sym, ap}
use Rattle.rel_model.specs.Cells.{Cells, cells_transpose}
use Rattle.rel_model.specs.Quads.{quad_room, ReadsQuads}
use Rattle.rel_model.proofs.QuadLaws.{quad_stays, room-some, reads_itself, reads_on}
use Rattle.quad_nodes.specs.Making.{MakesQuad}
use Rattle.quad_nodes.proofs.Making.{made_is, made_as, made_within, made_after, made_before, made_failed}
use Rattle.pair_table.specs.declared.Missed.{Missed}
use Rattle.rel_compose.proofs.FourParts.{AllMade, first_fails, second_fails, third_fails, fourth_fails, all_made, whole_made}
use Rattle.rel_compose.proofs.Transposing.{HasQuarters, turned, turns, four_turned, turned_stay, none_stands, transposed_none, transposed_full, transposed_now}
use Rattle.rel_compose.proofs.transpose.+transposing.Goals.{transposed_over-After-blocks_pay, transposed_by_quarters-After-quarters_ahead, transposed_by_quarters-In_ok-se, transposed_by_quarters-In_ok-found}
use Rattle.rel_compose.proofs.transpose.+transposing.Goals as goal

-- ---- what needs no recursion
pub transpose_quad-returns-then-is_empty : goal.transpose_quad-returns-then-is_empty
transpose_quad-returns-then-is_empty t c =
    let i = c.bottom-bottom.ensures.work in
    made_is (reads_itself _ i) (transposed_none c.args.nodes.now c.args.a i c.requires.stands (c.is_empty.ensures.empty c.if-is_empty.true))

pub transpose_quad-returns-then-a-bottom : goal.transpose_quad-returns-then-a-bottom
transpose_quad-returns-then-a-bottom t c =
    let r = room-some c.args.a.height c.requires.stands.low in
    let e = c.block.ensures in
    made_after c.bits-bits.ensures.reads (made_as (sym (c.if-a-bottom.true ∙ c.bottom-bottom.ensures.height)) (c.block_transpose.ensures ∙ ap (λ (f : Cells). cells_transpose f) c.bits-bits.ensures.cells)
    (made_within (omega (arith, r)) (record { value = e.value; stood = e.stood; keeps = e.keeps; counts = e.counts })))

pub transpose_quad-returns-then-is_full : goal.transpose_quad-returns-then-is_full
transpose_quad-returns-then-is_full t c =
    made_is c.is_full.ensures.reads (transposed_full c.args.nodes.now c.is_full.new.self c.args.a c.is_full.ensures.reads c.requires.stands (c.is_full.ensures.full c.if-is_full.true))

pub transpose_quad-transposed_over-requires : goal.transpose_quad-transposed_over-requires
transpose_quad-transposed_over-requires t c =
    let l = c.requires.stands.low in
    let n = c.if-a-bottom.false in
    let b = c.bottom-bottom.ensures.height in
    (omega arith, (quad_stays _ _ _ _ c.is_full.ensures.reads.keeps c.requires.stands, omega (arith, l, n, b)))

pub transpose_quad-returns : goal.transpose_quad-returns
transpose_quad-returns t c = made_after c.is_full.ensures.reads (made_as refl (turned_stay c.is_full.ensures.reads.keeps c.requires.stands) c.transposed_over.ensures)

-- ---- by blocks, or by quarters
known : (t : ℕ) (c : transposed_over-After-blocks_pay t) → ReadsQuads c.args.nodes.now c.blocks_pay.new.nodes
known t c = reads_on _ _ _ c.look.ensures.reads c.blocks_pay.ensures.reads

pub transposed_over-look-requires-clause-b_stands : goal.transposed_over-look-requires-clause-b_stands
transposed_over-look-requires-clause-b_stands t c = none_stands c.empty-none.ensures c.requires.stands

pub transposed_over-returns-in-Some : goal.transposed_over-returns-in-Some
transposed_over-returns-in-Some t c = made_is c.in-Some.ensures.reads c.in-Some.ensures.found

pub transposed_over-blocks_pay-requires : goal.transposed_over-blocks_pay-requires
transposed_over-blocks_pay-requires t c = record { stands = quad_stays _ _ _ _ c.look.ensures.reads.keeps c.requires.stands }

pub transposed_over-transposed_by_blocks-requires-clause-stands : goal.transposed_over-transposed_by_blocks-requires-clause-stands
transposed_over-transposed_by_blocks-requires-clause-stands t c =
    quad_stays _ _ _ _ (known t (goal.at.transposed_over-transposed_by_blocks-requires-clause-stands t c).After-blocks_pay).keeps c.requires.stands

pub transposed_over-returns-then-blocks_pay : goal.transposed_over-returns-then-blocks_pay
transposed_over-returns-then-blocks_pay t c =
    let k = known t (goal.at.transposed_over-returns-then-blocks_pay t c).After-blocks_pay in
    made_after k (made_as refl (turned_stay k.keeps c.requires.stands) c.transposed_by_blocks.ensures)

pub transposed_over-transposed_by_quarters-requires : goal.transposed_over-transposed_by_quarters-requires
transposed_over-transposed_by_quarters-requires t c =
    (omega arith, (quad_stays _ _ _ _ (known t (goal.at.transposed_over-transposed_by_quarters-requires t c).After-blocks_pay).keeps c.requires.stands, c.requires.over))

pub transposed_over-returns : goal.transposed_over-returns
transposed_over-returns t c =
    let k = known t (goal.at.transposed_over-returns t c).After-blocks_pay in
    made_after k (made_as refl (turned_stay k.keeps c.requires.stands) c.transposed_by_quarters.ensures)

-- ---- by quarters, of which north-east and south-west change places
quarters : (t : ℕ) (c : transposed_by_quarters-After-quarters_ahead t) → HasQuarters c.args.nodes.now c.quarters_ahead.new.self c.args.a c.quarters_ahead.result
quarters t c = record { stands = c.requires.stands; over = c.requires.over; four = c.quarters_ahead.ensures.quarters; reads = c.quarters_ahead.ensures.reads }

pub transposed_by_quarters-transpose_quad-requires : goal.transposed_by_quarters-transpose_quad-requires
transposed_by_quarters-transpose_quad-requires t c =
    let q = c.quarters_ahead.ensures.quarters in
    let falls = q.nw_height in
    (omega arith, q.nw)

pub transposed_by_quarters-returns-in_err-nw : goal.transposed_by_quarters-returns-in_err-nw
transposed_by_quarters-returns-in_err-nw t c =
    let q = quarters t (goal.at.transposed_by_quarters-returns-in_err-nw t c).After-quarters_ahead in
    first_fails q.reads (four_turned q) c.from_residual.result c.from_residual.ensures.0 c.in_err-nw.ensures

pub transposed_by_quarters-transpose_quad-requires-2 : goal.transposed_by_quarters-transpose_quad-requires-2
transposed_by_quarters-transpose_quad-requires-2 t c =
    let q = c.quarters_ahead.ensures.quarters in
    let falls = q.sw_height in
    (omega arith, quad_stays _ _ _ _ c.in_ok-nw.ensures.keeps q.sw)

pub transposed_by_quarters-returns-in_err-ne : goal.transposed_by_quarters-returns-in_err-ne
transposed_by_quarters-returns-in_err-ne t c =
    let q = quarters t (goal.at.transposed_by_quarters-returns-in_err-ne t c).After-quarters_ahead in
    second_fails q.reads (four_turned q) c.from_residual-in_err-ne.result c.from_residual-in_err-ne.ensures.0 c.in_ok-nw.ensures c.in_err-ne.ensures

pub transposed_by_quarters-transpose_quad-requires-3 : goal.transposed_by_quarters-transpose_quad-requires-3
transposed_by_quarters-transpose_quad-requires-3 t c =
    let q = c.quarters_ahead.ensures.quarters in
    let falls = q.ne_height in
    (omega arith, quad_stays _ _ _ _ c.in_ok-ne.ensures.keeps (quad_stays _ _ _ _ c.in_ok-nw.ensures.keeps q.ne))

pub transposed_by_quarters-returns-in_err-sw : goal.transposed_by_quarters-returns-in_err-sw
transposed_by_quarters-returns-in_err-sw t c =
    let q = quarters t (goal.at.transposed_by_quarters-returns-in_err-sw t c).After-quarters_ahead in
    third_fails q.reads (four_turned q) c.from_residual-in_err-sw.result c.from_residual-in_err-sw.ensures.0 c.in_ok-nw.ensures c.in_ok-ne.ensures c.in_err-sw.ensures

pub transposed_by_quarters-transpose_quad-requires-4 : goal.transposed_by_quarters-transpose_quad-requires-4
transposed_by_quarters-transpose_quad-requires-4 t c =
    let q = c.quarters_ahead.ensures.quarters in
    let falls = q.se_height in
    (omega arith, quad_stays _ _ _ _ c.in_ok-sw.ensures.keeps (quad_stays _ _ _ _ c.in_ok-ne.ensures.keeps (quad_stays _ _ _ _ c.in_ok-nw.ensures.keeps q.se)))

pub transposed_by_quarters-returns-in_err-se : goal.transposed_by_quarters-returns-in_err-se
transposed_by_quarters-returns-in_err-se t c =
    let q = quarters t (goal.at.transposed_by_quarters-returns-in_err-se t c).After-quarters_ahead in
    fourth_fails q.reads (four_turned q) c.from_residual-in_err-se.result c.from_residual-in_err-se.ensures.0 c.in_ok-nw.ensures c.in_ok-ne.ensures c.in_ok-sw.ensures c.in_err-se.ensures

-- four parts were made
made : (t : ℕ) (c : transposed_by_quarters-In_ok-se t) → HasQuarters c.args.nodes.now c.quarters_ahead.new.self c.args.a c.quarters_ahead.result
    → AllMade (turns c.args.nodes.now c.args.a c.quarters_ahead.result) c.in_ok-nw.nw c.in_ok-ne.ne c.in_ok-sw.sw c.in_ok-se.se c.quarters_ahead.new.self c.transpose_quad-4.new.nodes
made t c q = all_made (four_turned q) c.in_ok-nw.ensures c.in_ok-ne.ensures c.in_ok-sw.ensures c.in_ok-se.ensures

pub transposed_by_quarters-corner-requires : goal.transposed_by_quarters-corner-requires
transposed_by_quarters-corner-requires t c =
    let at = goal.at.transposed_by_quarters-corner-requires t c in
    let m = (made t at.In_ok-se (quarters t at.After-quarters_ahead)).are in
    let e = m.1.1.1.0.same_height in
    let h = c.requires.stands.high in
    let l = c.requires.over in
    record {
      nw_stands = m.1.1.1.0.stands;
      ne_stands = m.1.1.0.stands;
      sw_stands = m.1.0.stands;
      se_stands = m.0.stands;
      ne_height = m.1.1.0.same_height ∙ sym e;
      sw_height = m.1.0.same_height ∙ sym e;
      se_height = m.0.same_height ∙ sym e;
      below = omega arith;
    }

pub transposed_by_quarters-returns-in_err-found : goal.transposed_by_quarters-returns-in_err-found
transposed_by_quarters-returns-in_err-found t c =
    let at = goal.at.transposed_by_quarters-returns-in_err-found t c in
    let q = quarters t at.After-quarters_ahead in
    let e = c.in_err-found.ensures in
    made_failed c.from_residual-in_err-found.result c.from_residual-in_err-found.ensures.0
    (whole_made q.reads (four_turned q) (made t at.In_ok-se q) (record { value = e.value; stood = e.stood; keeps = e.keeps; counts = e.counts }))

-- ---- the result is noted
whole : (t : ℕ) (c : transposed_by_quarters-In_ok-found t) → HasQuarters c.args.nodes.now c.quarters_ahead.new.self c.args.a c.quarters_ahead.result
    → AllMade (turns c.args.nodes.now c.args.a c.quarters_ahead.result) c.in_ok-nw.nw c.in_ok-ne.ne c.in_ok-sw.sw c.in_ok-se.se c.quarters_ahead.new.self c.transpose_quad-4.new.nodes
    → MakesQuad {E = Missed} (quad_room c.args.a.height) c.args.a.height (turned c.args.nodes.now c.args.a) c.args.nodes.now c.corner.new.self (Ok c.in_ok-found.found)
whole t c q m = let e = c.in_ok-found.ensures in whole_made q.reads (four_turned q) m (record { value = e.value; stood = e.stood; keeps = e.keeps; counts = e.counts })

pub transposed_by_quarters-note-requires-clause-a_stands : goal.transposed_by_quarters-note-requires-clause-a_stands
transposed_by_quarters-note-requires-clause-a_stands t c =
    let at = goal.at.transposed_by_quarters-note-requires-clause-a_stands t c in
    let q = quarters t at.After-quarters_ahead in
    quad_stays _ _ _ _ (whole t at.In_ok-found q (made t at.In_ok-se q)).keeps c.requires.stands

pub transposed_by_quarters-note-requires-clause-b_stands : goal.transposed_by_quarters-note-requires-clause-b_stands
transposed_by_quarters-note-requires-clause-b_stands t c =
    let at = goal.at.transposed_by_quarters-note-requires-clause-b_stands t c in
    let q = quarters t at.After-quarters_ahead in
    none_stands c.empty-none.ensures (quad_stays _ _ _ _ (whole t at.In_ok-found q (made t at.In_ok-se q)).keeps c.requires.stands)

pub transposed_by_quarters-note-requires-clause-holds : goal.transposed_by_quarters-note-requires-clause-holds
transposed_by_quarters-note-requires-clause-holds t c =
    let at = goal.at.transposed_by_quarters-note-requires-clause-holds t c in
    let q = quarters t at.After-quarters_ahead in
    let w = whole t at.In_ok-found q (made t at.In_ok-se q) in
    transposed_now _ _ _ _ _ w.keeps c.requires.stands w.value

pub transposed_by_quarters-returns : goal.transposed_by_quarters-returns
transposed_by_quarters-returns t c =
    let at = goal.at.transposed_by_quarters-returns t c in
    let q = quarters t at.After-quarters_ahead in
    made_before (whole t at.In_ok-found q (made t at.In_ok-se q)) c.note.ensures.reads
