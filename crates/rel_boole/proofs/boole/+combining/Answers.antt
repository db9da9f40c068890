use Rattle.std.proofs.Common.{◌+◌, ◌-◌, ℕ, [], ◌∷◌, refl, arith, ◌∙◌, sym}
use Rattle.rel_model.specs.Quads.{quad_room, ReadsQuads}
use Rattle.rel_model.proofs.QuadLaws.{quad_stays, keeps_on, rooms-next, room-some, reads_itself, reads_on}
use Rattle.quad_nodes.proofs.Making.{Underway, begun, goes_on, stops, nw_under, ne_under, sw_under, se_under, made_is, made_as, made_within, made_after, made_before, made_failed}
use Rattle.rel_boole.proofs.Combining.{HaveQuarters, part, are_parts, part_made, whole_made, operands_stay, stand_below, nw_stand, ne_stand, sw_stand, se_stand, as_equation, no_transposition}
use Rattle.rel_boole.proofs.boole.+combining.Goals.{combined_over-After-both_pay, combined_by_quarters-After-quarters_to_combine, combined_by_quarters-In_ok-se}
use Rattle.rel_boole.proofs.boole.+combining.Goals as goal

-- ---- by quarters
quarters : (t : ℕ) (c : combined_by_quarters-After-quarters_to_combine t) → HaveQuarters c.args.nodes.now c.quarters_to_combine.new.nodes c.args.a c.args.b c.quarters_to_combine.result.0 c.quarters_to_combine.result.1
quarters t c =
    let e = c.quarters_to_combine.ensures in
    record { a_stands = c.requires.a_stands; b_stands = c.requires.b_stands; one_height = c.requires.one_height; first = e.first; second = e.second; reads = e.reads }

pub combined_by_quarters-combined-requires : goal.combined_by_quarters-combined-requires
combined_by_quarters-combined-requires t c =
    let q = quarters t (goal.at.combined_by_quarters-combined-requires t c).After-quarters_to_combine in
    let s = nw_stand q in
    let e = s.height in
    (omega arith, (s.a_stands, (s.b_stands, s.one_height)))

pub combined_by_quarters-returns-in_err-nw : goal.combined_by_quarters-returns-in_err-nw
combined_by_quarters-returns-in_err-nw t c =
    let q = quarters t (goal.at.combined_by_quarters-returns-in_err-nw t c).After-quarters_to_combine in
    let p = are_parts c.args.op q in
    let r = rooms-next c.args.a.height c.requires.over in
    let u0 = begun (reads_itself _ q.reads.keeps.after) in
    made_after q.reads (stops c.from_residual.result c.from_residual.ensures.0 (omega (arith, r)) u0 (nw_under p) (part_made c.args.op u0.keeps (nw_stand q) c.in_err-nw.ensures))

pub combined_by_quarters-combined-requires-2 : goal.combined_by_quarters-combined-requires-2
combined_by_quarters-combined-requires-2 t c =
    let q = quarters t (goal.at.combined_by_quarters-combined-requires-2 t c).After-quarters_to_combine in
    let s = stand_below c.in_ok-nw.ensures.keeps (ne_stand q) in
    let e = s.height in
    (omega arith, (s.a_stands, (s.b_stands, s.one_height)))

pub combined_by_quarters-returns-in_err-ne : goal.combined_by_quarters-returns-in_err-ne
combined_by_quarters-returns-in_err-ne t c =
    let q = quarters t (goal.at.combined_by_quarters-returns-in_err-ne t c).After-quarters_to_combine in
    let p = are_parts c.args.op q in
    let r = rooms-next c.args.a.height c.requires.over in
    let u0 = begun (reads_itself _ q.reads.keeps.after) in
    let u1 = goes_on u0 (nw_under p) (part_made c.args.op u0.keeps (nw_stand q) c.in_ok-nw.ensures) in
    made_after q.reads (stops c.from_residual-in_err-ne.result c.from_residual-in_err-ne.ensures.0 (omega (arith, r)) u1 (ne_under p) (part_made c.args.op u1.keeps (ne_stand q) c.in_err-ne.ensures))

pub combined_by_quarters-combined-requires-3 : goal.combined_by_quarters-combined-requires-3
combined_by_quarters-combined-requires-3 t c =
    let q = quarters t (goal.at.combined_by_quarters-combined-requires-3 t c).After-quarters_to_combine in
    let s = stand_below c.in_ok-ne.ensures.keeps (stand_below c.in_ok-nw.ensures.keeps (sw_stand q)) in
    let e = s.height in
    (omega arith, (s.a_stands, (s.b_stands, s.one_height)))

pub combined_by_quarters-returns-in_err-sw : goal.combined_by_quarters-returns-in_err-sw
combined_by_quarters-returns-in_err-sw t c =
    let q = quarters t (goal.at.combined_by_quarters-returns-in_err-sw t c).After-quarters_to_combine in
    let p = are_parts c.args.op q in
    let r = rooms-next c.args.a.height c.requires.over in
    let u0 = begun (reads_itself _ q.reads.keeps.after) in
    let u1 = goes_on u0 (nw_under p) (part_made c.args.op u0.keeps (nw_stand q) c.in_ok-nw.ensures) in
    let u2 = goes_on u1 (ne_under p) (part_made c.args.op u1.keeps (ne_stand q) c.in_ok-ne.ensures) in
    made_after q.reads (stops c.from_residual-in_err-sw.result c.from_residual-in_err-sw.ensures.0 (omega (arith, r)) u2 (sw_under p) (part_made c.args.op u2.keeps (sw_stand q) c.in_err-sw.ensures))

pub combined_by_quarters-combined-requires-4 : goal.combined_by_quarters-combined-requires-4
combined_by_quarters-combined-requires-4 t c =
    let q = quarters t (goal.at.combined_by_quarters-combined-requires-4 t c).After-quarters_to_combine in
    let s = stand_below c.in_ok-sw.ensures.keeps (stand_below c.in_ok-ne.ensures.keeps (stand_below c.in_ok-nw.ensures.keeps (se_stand q))) in
    let e = s.height in
    (omega arith, (s.a_stands, (s.b_stands, s.one_height)))

pub combined_by_quarters-returns-in_err-se : goal.combined_by_quarters-returns-in_err-se
combined_by_quarters-returns-in_err-se t c =
    let q = quarters t (goal.at.combined_by_quarters-returns-in_err-se t c).After-quarters_to_combine in
    let p = are_parts c.args.op q in
    let r = rooms-next c.args.a.height c.requires.over in
    let u0 = begun (reads_itself _ q.reads.keeps.after) in
    let u1 = goes_on u0 (nw_under p) (part_made c.args.op u0.keeps (nw_stand q) c.in_ok-nw.ensures) in
    let u2 = goes_on u1 (ne_under p) (part_made c.args.op u1.keeps (ne_stand q) c.in_ok-ne.ensures) in
    let u3 = goes_on u2 (sw_under p) (part_made c.args.op u2.keeps (sw_stand q) c.in_ok-sw.ensures) in
    made_after q.reads (stops c.from_residual-in_err-se.result c.from_residual-in_err-se.ensures.0 (omega (arith, r)) u3 (se_under p) (part_made c.args.op u3.keeps (se_stand q) c.in_err-se.ensures))

-- four parts were made
four_made : (t : ℕ) (c : combined_by_quarters-In_ok-se t) → let m : ℕ = quad_room (c.args.a.height - 1) in
    let w = c.quarters_to_combine.new.nodes in
    let x = c.quarters_to_combine.result.0 in
    let y = c.quarters_to_combine.result.1 in
    Underway (0 + m + m + m + m) c.args.a.height (part c.args.op c.args.nodes.now c.args.a c.args.b) (c.args.a.height - 1)
    ((c.in_ok-se.se, part c.args.op w x.se y.se) ∷ (c.in_ok-sw.sw, part c.args.op w x.sw y.sw) ∷ (c.in_ok-ne.ne, part c.args.op w x.ne y.ne) ∷ (c.in_ok-nw.nw, part c.args.op w x.nw y.nw) ∷ []) w c.combined-4.new.nodes
four_made t c =
    let e = c.quarters_to_combine.ensures in
    let q : HaveQuarters c.args.nodes.now c.quarters_to_combine.new.nodes c.args.a c.args.b c.quarters_to_combine.result.0 c.quarters_to_combine.result.1 =
    record { a_stands = c.requires.a_stands; b_stands = c.requires.b_stands; one_height = c.requires.one_height; first = e.first; second = e.second; reads = e.reads } in
    let p = are_parts c.args.op q in
    let u0 = begun (reads_itself _ q.reads.keeps.after) in
    let u1 = goes_on u0 (nw_under p) (part_made c.args.op u0.keeps (nw_stand q) c.in_ok-nw.ensures) in
    let u2 = goes_on u1 (ne_under p) (part_made c.args.op u1.keeps (ne_stand q) c.in_ok-ne.ensures) in
    let u3 = goes_on u2 (sw_under p) (part_made c.args.op u2.keeps (sw_stand q) c.in_ok-sw.ensures) in
    goes_on u3 (se_under p) (part_made c.args.op u3.keeps (se_stand q) c.in_ok-se.ensures)

pub combined_by_quarters-corner-requires-clause-nw_stands : goal.combined_by_quarters-corner-requires-clause-nw_stands
combined_by_quarters-corner-requires-clause-nw_stands t c =
    (four_made t (goal.at.combined_by_quarters-corner-requires-clause-nw_stands t c).In_ok-se).are.1.1.1.0.stands

pub combined_by_quarters-corner-requires-clause-ne_stands : goal.combined_by_quarters-corner-requires-clause-ne_stands
combined_by_quarters-corner-requires-clause-ne_stands t c =
    (four_made t (goal.at.combined_by_quarters-corner-requires-clause-ne_stands t c).In_ok-se).are.1.1.0.stands

pub combined_by_quarters-corner-requires-clause-sw_stands : goal.combined_by_quarters-corner-requires-clause-sw_stands
combined_by_quarters-corner-requires-clause-sw_stands t c =
    (four_made t (goal.at.combined_by_quarters-corner-requires-clause-sw_stands t c).In_ok-se).are.1.0.stands

pub combined_by_quarters-returns-in_err-found : goal.combined_by_quarters-returns-in_err-found
combined_by_quarters-returns-in_err-found t c =
    let at = goal.at.combined_by_quarters-returns-in_err-found t c in
    let q = quarters t at.After-quarters_to_combine in
    let e = c.in_err-found.ensures in
    made_failed c.from_residual-in_err-found.result c.from_residual-in_err-found.ensures.0
    (whole_made c.args.op q c.requires.over (four_made t at.In_ok-se) (record { value = e.value; stood = e.stood; keeps = e.keeps; counts = e.counts }))

pub combined_by_quarters-note-requires-clause-a_stands : goal.combined_by_quarters-note-requires-clause-a_stands
combined_by_quarters-note-requires-clause-a_stands t c =
    let at = goal.at.combined_by_quarters-note-requires-clause-a_stands t c in
    let k = keeps_on _ _ _ _ _ (four_made t at.In_ok-se).keeps c.in_ok-found.ensures.keeps in
    quad_stays _ _ _ _ k (quad_stays _ _ _ _ c.quarters_to_combine.ensures.reads.keeps c.requires.a_stands)

pub combined_by_quarters-note-requires-clause-b_stands : goal.combined_by_quarters-note-requires-clause-b_stands
combined_by_quarters-note-requires-clause-b_stands t c =
    let at = goal.at.combined_by_quarters-note-requires-clause-b_stands t c in
    let k = keeps_on _ _ _ _ _ (four_made t at.In_ok-se).keeps c.in_ok-found.ensures.keeps in
    quad_stays _ _ _ _ k (quad_stays _ _ _ _ c.quarters_to_combine.ensures.reads.keeps c.requires.b_stands)

pub combined_by_quarters-note-requires-clause-one_operand : goal.combined_by_quarters-note-requires-clause-one_operand
combined_by_quarters-note-requires-clause-one_operand t c = λ z. absurd (no_transposition c.args.op _ c.op_of.ensures z)

pub combined_by_quarters-note-requires-clause-holds : goal.combined_by_quarters-note-requires-clause-holds
combined_by_quarters-note-requires-clause-holds t c =
    let at = goal.at.combined_by_quarters-note-requires-clause-holds t c in
    let q = quarters t at.After-quarters_to_combine in
    let e = c.in_ok-found.ensures in
    let w = whole_made c.args.op q c.requires.over (four_made t at.In_ok-se) (record { value = e.value; stood = e.stood; keeps = e.keeps; counts = e.counts }) in
    as_equation c.args.op c.op_of.ensures w.keeps c.requires.a_stands c.requires.b_stands w.value

pub combined_by_quarters-returns : goal.combined_by_quarters-returns
combined_by_quarters-returns t c =
    let at = goal.at.combined_by_quarters-returns t c in
    let q = quarters t at.After-quarters_to_combine in
    let e = c.in_ok-found.ensures in
    made_before (whole_made c.args.op q c.requires.over (four_made t at.In_ok-se) (record { value = e.value; stood = e.stood; keeps = e.keeps; counts = e.counts })) c.note.ensures.reads

-- ---- by blocks, or by quarters
known : (t : ℕ) (c : combined_over-After-both_pay t) → ReadsQuads c.args.nodes.now c.both_pay.new.nodes
known t c = reads_on _ _ _ c.found_before.ensures.reads c.both_pay.ensures.reads

pub combined_over-returns-in-Some : goal.combined_over-returns-in-Some
combined_over-returns-in-Some t c = made_is c.in-Some.ensures.reads c.in-Some.ensures.found

pub combined_over-both_pay-requires-clause-a_stands : goal.combined_over-both_pay-requires-clause-a_stands
combined_over-both_pay-requires-clause-a_stands t c = quad_stays _ _ _ _ c.found_before.ensures.reads.keeps c.requires.a_stands

pub combined_over-both_pay-requires-clause-b_stands : goal.combined_over-both_pay-requires-clause-b_stands
combined_over-both_pay-requires-clause-b_stands t c = quad_stays _ _ _ _ c.found_before.ensures.reads.keeps c.requires.b_stands

pub combined_over-combined_by_blocks-requires-clause-a_stands : goal.combined_over-combined_by_blocks-requires-clause-a_stands
combined_over-combined_by_blocks-requires-clause-a_stands t c =
    quad_stays _ _ _ _ (known t (goal.at.combined_over-combined_by_blocks-requires-clause-a_stands t c).After-both_pay).keeps c.requires.a_stands

pub combined_over-combined_by_blocks-requires-clause-b_stands : goal.combined_over-combined_by_blocks-requires-clause-b_stands
combined_over-combined_by_blocks-requires-clause-b_stands t c =
    quad_stays _ _ _ _ (known t (goal.at.combined_over-combined_by_blocks-requires-clause-b_stands t c).After-both_pay).keeps c.requires.b_stands

pub combined_over-returns-then-both_pay : goal.combined_over-returns-then-both_pay
combined_over-returns-then-both_pay t c =
    let k = known t (goal.at.combined_over-returns-then-both_pay t c).After-both_pay in
    made_after k (made_as refl (operands_stay c.args.op k.keeps c.requires.a_stands c.requires.b_stands) c.combined_by_blocks.ensures)

pub combined_over-combined_by_quarters-requires : goal.combined_over-combined_by_quarters-requires
combined_over-combined_by_quarters-requires t c =
    let k = (known t (goal.at.combined_over-combined_by_quarters-requires t c).After-both_pay).keeps in
    (omega arith, (quad_stays _ _ _ _ k c.requires.a_stands, (quad_stays _ _ _ _ k c.requires.b_stands, (c.requires.one_height, c.requires.over))))

pub combined_over-returns : goal.combined_over-returns
combined_over-returns t c =
    let k = known t (goal.at.combined_over-returns t c).After-both_pay in
    made_after k (made_as refl (operands_stay c.args.op k.keeps c.requires.a_stands c.requires.b_stands) c.combined_by_quarters.ensures)

-- ---- what needs no recursion
pub combined-returns-in-Some : goal.combined-returns-in-Some
combined-returns-in-Some t c =
    let i = c.bottom-bottom.ensures.work in
    made_is (reads_itself _ i) (c.in-Some.ensures.value c.args.nodes.now i c.requires.a_stands c.requires.b_stands c.requires.one_height)

pub combined-leaf-requires-clause-b_bottom : goal.combined-leaf-requires-clause-b_bottom
combined-leaf-requires-clause-b_bottom t c = c.requires.one_height ∙ c.if-a-bottom.true ∙ c.bottom-bottom.ensures.height

pub combined-returns-then-a-bottom : goal.combined-returns-then-a-bottom
combined-returns-then-a-bottom t c =
    let r = room-some c.args.a.height c.requires.a_stands.low in
    made_as (sym (c.if-a-bottom.true ∙ c.bottom-bottom.ensures.height)) refl (made_within (omega (arith, r)) c.leaf.ensures)

pub combined-combined_over-requires : goal.combined-combined_over-requires
combined-combined_over-requires t c =
    let d = c.decreases in
    let low = c.requires.a_stands.low in
    let over = c.if-a-bottom.false in
    (omega (arith, d), (c.requires.a_stands, (c.requires.b_stands, (c.requires.one_height, omega (arith, low, over, c.bottom-bottom.ensures.height)))))

pub combined-returns : goal.combined-returns
combined-returns t c = c.combined_over.ensures
