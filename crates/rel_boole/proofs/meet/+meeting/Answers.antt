use Rattle.std.proofs.Common.{ℕ, refl, arith}
use Rattle.rel_model.proofs.QuadLaws.{quad_stays, reads_on}
use Rattle.rel_boole.proofs.Combining.{HaveQuarters, are_parts, operands_stay, still_have, ne_stand, sw_stand, se_stand}
use Rattle.rel_boole.specs.declared.boole.Boole.TheVariants.{Inter as INTER}
use Rattle.rel_boole.proofs.Meeting.{told_by_name, told_before, tells_as, quarters_none, met, none_met, none_noted}
use Rattle.rel_boole.proofs.meet.+meeting.Goals.{meet_by_quarters-After-quarters_of_both}
use Rattle.rel_boole.proofs.meet.+meeting.Goals as goal

-- ---- by quarters
quarters : (t : ℕ) (c : meet_by_quarters-After-quarters_of_both t) → HaveQuarters c.args.nodes.now c.quarters_of_both.new.self c.args.a c.args.b c.quarters_of_both.result.0 c.quarters_of_both.result.1
quarters t c =
    let e = c.quarters_of_both.ensures in
    record { a_stands = c.requires.a_stands; b_stands = c.requires.b_stands; one_height = c.requires.one_height; first = e.first; second = e.second; reads = e.reads }

pub meet_by_quarters-returns-then-quads_meet-clause-value : goal.meet_by_quarters-returns-then-quads_meet-clause-value
meet_by_quarters-returns-then-quads_meet-clause-value t c =
    let q = quarters t (goal.at.meet_by_quarters-returns-then-quads_meet-clause-value t c).After-quarters_of_both in
    met c.if-quads_meet.true c.quads_meet.ensures.value (λ z. (quarters_none (are_parts INTER q) z).nw)

pub meet_by_quarters-quads_meet-requires-2 : goal.meet_by_quarters-quads_meet-requires-2
meet_by_quarters-quads_meet-requires-2 t c =
    let q = quarters t (goal.at.meet_by_quarters-quads_meet-requires-2 t c).After-quarters_of_both in
    let s = ne_stand (still_have q c.quads_meet.ensures.reads) in
    let e = s.height in
    (omega arith, (s.a_stands, (s.b_stands, s.one_height)))

pub meet_by_quarters-returns-then-quads_meet-2-clause-value : goal.meet_by_quarters-returns-then-quads_meet-2-clause-value
meet_by_quarters-returns-then-quads_meet-2-clause-value t c =
    let q = quarters t (goal.at.meet_by_quarters-returns-then-quads_meet-2-clause-value t c).After-quarters_of_both in
    met c.if-quads_meet-2.true (told_before c.quads_meet.ensures.reads.keeps (ne_stand q) c.quads_meet-2.ensures.value) (λ z. (quarters_none (are_parts INTER q) z).ne)

pub meet_by_quarters-quads_meet-requires-3 : goal.meet_by_quarters-quads_meet-requires-3
meet_by_quarters-quads_meet-requires-3 t c =
    let q = quarters t (goal.at.meet_by_quarters-quads_meet-requires-3 t c).After-quarters_of_both in
    let s = sw_stand (still_have q (reads_on _ _ _ c.quads_meet.ensures.reads c.quads_meet-2.ensures.reads)) in
    let e = s.height in
    (omega arith, (s.a_stands, (s.b_stands, s.one_height)))

pub meet_by_quarters-returns-then-quads_meet-3-clause-value : goal.meet_by_quarters-returns-then-quads_meet-3-clause-value
meet_by_quarters-returns-then-quads_meet-3-clause-value t c =
    let q = quarters t (goal.at.meet_by_quarters-returns-then-quads_meet-3-clause-value t c).After-quarters_of_both in
    met c.if-quads_meet-3.true (told_before (reads_on _ _ _ c.quads_meet.ensures.reads c.quads_meet-2.ensures.reads).keeps (sw_stand q) c.quads_meet-3.ensures.value) (λ z. (quarters_none (are_parts INTER q) z).sw)

pub meet_by_quarters-quads_meet-requires-4 : goal.meet_by_quarters-quads_meet-requires-4
meet_by_quarters-quads_meet-requires-4 t c =
    let q = quarters t (goal.at.meet_by_quarters-quads_meet-requires-4 t c).After-quarters_of_both in
    let s = se_stand (still_have q (reads_on _ _ _ (reads_on _ _ _ c.quads_meet.ensures.reads c.quads_meet-2.ensures.reads) c.quads_meet-3.ensures.reads)) in
    let e = s.height in
    (omega arith, (s.a_stands, (s.b_stands, s.one_height)))

pub meet_by_quarters-returns-then-quads_meet-4-clause-value : goal.meet_by_quarters-returns-then-quads_meet-4-clause-value
meet_by_quarters-returns-then-quads_meet-4-clause-value t c =
    let q = quarters t (goal.at.meet_by_quarters-returns-then-quads_meet-4-clause-value t c).After-quarters_of_both in
    met c.if-quads_meet-4.true (told_before (reads_on _ _ _ (reads_on _ _ _ c.quads_meet.ensures.reads c.quads_meet-2.ensures.reads) c.quads_meet-3.ensures.reads).keeps (se_stand q) c.quads_meet-4.ensures.value) (λ z. (quarters_none (are_parts INTER q) z).se)

pub meet_by_quarters-note-requires-clause-a_stands : goal.meet_by_quarters-note-requires-clause-a_stands
meet_by_quarters-note-requires-clause-a_stands t c =
    let q = quarters t (goal.at.meet_by_quarters-note-requires-clause-a_stands t c).After-quarters_of_both in
    quad_stays _ _ _ _ (still_have q (reads_on _ _ _ (reads_on _ _ _ (reads_on _ _ _ c.quads_meet.ensures.reads c.quads_meet-2.ensures.reads) c.quads_meet-3.ensures.reads) c.quads_meet-4.ensures.reads)).reads.keeps q.a_stands

pub meet_by_quarters-note-requires-clause-b_stands : goal.meet_by_quarters-note-requires-clause-b_stands
meet_by_quarters-note-requires-clause-b_stands t c =
    let q = quarters t (goal.at.meet_by_quarters-note-requires-clause-b_stands t c).After-quarters_of_both in
    quad_stays _ _ _ _ (still_have q (reads_on _ _ _ (reads_on _ _ _ (reads_on _ _ _ c.quads_meet.ensures.reads c.quads_meet-2.ensures.reads) c.quads_meet-3.ensures.reads) c.quads_meet-4.ensures.reads)).reads.keeps q.b_stands

pub meet_by_quarters-note-requires-clause-holds : goal.meet_by_quarters-note-requires-clause-holds
meet_by_quarters-note-requires-clause-holds t c =
    let q = quarters t (goal.at.meet_by_quarters-note-requires-clause-holds t c).After-quarters_of_both in
    none_noted c.empty.ensures (still_have q (reads_on _ _ _ (reads_on _ _ _ (reads_on _ _ _ c.quads_meet.ensures.reads c.quads_meet-2.ensures.reads) c.quads_meet-3.ensures.reads) c.quads_meet-4.ensures.reads)).reads.keeps q.a_stands q.b_stands
    (none_met q c.quads_meet.ensures.reads c.quads_meet-2.ensures.reads c.quads_meet-3.ensures.reads
    c.quads_meet.ensures.value c.quads_meet-2.ensures.value c.quads_meet-3.ensures.value c.quads_meet-4.ensures.value
    c.if-quads_meet.false c.if-quads_meet-2.false c.if-quads_meet-3.false c.if-quads_meet-4.false)

pub meet_by_quarters-returns-clause-value : goal.meet_by_quarters-returns-clause-value
meet_by_quarters-returns-clause-value t c =
    let q = quarters t (goal.at.meet_by_quarters-returns-clause-value t c).After-quarters_of_both in
    let none =
    (none_met q c.quads_meet.ensures.reads c.quads_meet-2.ensures.reads c.quads_meet-3.ensures.reads
    c.quads_meet.ensures.value c.quads_meet-2.ensures.value c.quads_meet-3.ensures.value c.quads_meet-4.ensures.value
    c.if-quads_meet.false c.if-quads_meet-2.false c.if-quads_meet-3.false c.if-quads_meet-4.false) in
    ((λ _. none), (λ _. refl))

-- ---- what was noted, or by quarters
pub meet_over-returns-in-Some-clause-value : goal.meet_over-returns-in-Some-clause-value
meet_over-returns-in-Some-clause-value t c = told_by_name c.in-Some.ensures.reads.keeps.after c.in-Some.ensures.found c.is_empty.ensures.empty c.is_empty.ensures.filled

pub meet_over-meet_by_quarters-requires : goal.meet_over-meet_by_quarters-requires
meet_over-meet_by_quarters-requires t c =
    let k = c.found_before.ensures.reads.keeps in
    (omega arith, (quad_stays _ _ _ _ k c.requires.a_stands, (quad_stays _ _ _ _ k c.requires.b_stands, (c.requires.one_height, c.requires.over))))

pub meet_over-returns-clause-value : goal.meet_over-returns-clause-value
meet_over-returns-clause-value t c =
    tells_as (operands_stay INTER c.found_before.ensures.reads.keeps c.requires.a_stands c.requires.b_stands) c.meet_by_quarters.ensures.value

-- ---- what needs no recursion
pub quads_meet-returns-in-Some-clause-value : goal.quads_meet-returns-in-Some-clause-value
quads_meet-returns-in-Some-clause-value t c =
    let i = c.bottom-bottom.ensures.work in
    told_by_name i (c.in-Some.ensures.value c.args.nodes.now i c.requires.a_stands c.requires.b_stands c.requires.one_height) c.is_empty.ensures.empty c.is_empty.ensures.filled

pub quads_meet-meet_over-requires : goal.quads_meet-meet_over-requires
quads_meet-meet_over-requires t c =
    let d = c.decreases in
    let low = c.requires.a_stands.low in
    let over = c.if-a-bottom.false in
    (omega (arith, d), (c.requires.a_stands, (c.requires.b_stands, (c.requires.one_height, omega (arith, low, over, c.bottom-bottom.ensures.height)))))
