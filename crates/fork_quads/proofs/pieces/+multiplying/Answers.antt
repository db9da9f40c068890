use Rattle.std.proofs.Common.{◌≡◌, ◌-◌, refl, sym, subst, arith, ◌∙◌, ℕ, ap}
use Rattle.rel_model.proofs.QuadLaws.{quad_stays, keeps_itself, keeps_on, keeps_most, counts_on}
use Rattle.rel_compose.proofs.Multiplying.{both_stay}
use Rattle.fork_quads.proofs.Parts.{part-none}
use Rattle.fork_quads.proofs.PartProducts.{product_step, product_value, none_left, none_right, sum_value, value_as, no_cuts}
use Rattle.fork_quads.proofs.Joining.{product_keeps}
use Rattle.rel_model.specs.Quads.{KeepsQuads, quad_room}
use Rattle.fork_quads.specs.Forks.{product_words}
use Rattle.fork_quads.proofs.pieces.+multiplying.Goals as goal

pub product_part-returns-then-a-eq0 : goal.product_part-returns-then-a-eq0
product_part-returns-then-a-eq0 t c = record {
  value = none_left c.args.nodes.now c.args.a c.args.b c.args.cuts c.args.number c.bottom.ensures.work c.requires.a_stands c.requires.deep c.if-a-eq0.true;
  keeps = keeps_itself c.args.nodes.now _ c.bottom.ensures.work;
  counts = refl;
}

pub product_part-returns-then-b-eq0 : goal.product_part-returns-then-b-eq0
product_part-returns-then-b-eq0 t c = record {
  value = none_right c.args.nodes.now c.args.a c.args.b c.args.cuts c.args.number c.bottom.ensures.work c.requires.a_stands c.requires.b_stands c.requires.one_height c.requires.deep c.if-b-eq0.true;
  keeps = keeps_itself c.args.nodes.now _ c.bottom.ensures.work;
  counts = refl;
}

pub product_part-sum_part-requires : goal.product_part-sum_part-requires
product_part-sum_part-requires t c =
    let s = product_step c.args.nodes.now c.quarters_of_both.new.self c.args.a c.args.b c.row_of.result c.column_of.result c.quarters_of_both.result.0 c.quarters_of_both.result.1 c.args.cuts c.args.number c.place-k.result
    c.requires.one_height c.if-cuts-eq0.false c.requires.deep c.quarters_of_both.ensures.first c.quarters_of_both.ensures.second c.place-k.ensures c.row_of.ensures.first c.row_of.ensures.second c.column_of.ensures.first c.column_of.ensures.second in
    let n = c.if-cuts-eq0.false in
    let d = c.decreases in
    (omega (arith, n, d), (s.row_stands, (s.column_stands, (s.deep, c.requires.few))))

pub product_part-returns : goal.product_part-returns
product_part-returns t c =
    let s = product_step c.args.nodes.now c.quarters_of_both.new.self c.args.a c.args.b c.row_of.result c.column_of.result c.quarters_of_both.result.0 c.quarters_of_both.result.1 c.args.cuts c.args.number c.place-k.result
    c.requires.one_height c.if-cuts-eq0.false c.requires.deep c.quarters_of_both.ensures.first c.quarters_of_both.ensures.second c.place-k.ensures c.row_of.ensures.first c.row_of.ensures.second c.column_of.ensures.first c.column_of.ensures.second in
    let r = c.quarters_of_both.ensures.reads in
    record {
      value = product_value c.args.nodes.now c.quarters_of_both.new.self c.sum_part.new.nodes c.args.a c.args.b c.row_of.result c.column_of.result c.args.cuts c.args.number c.sum_part.result s c.sum_part.ensures.value;
      keeps = product_keeps c.args.nodes.now c.quarters_of_both.new.self c.sum_part.new.nodes c.args.halving.times c.args.a.height c.row_of.result.0.height c.args.cuts c.if-cuts-eq0.false s.row_height r c.sum_part.ensures.keeps;
      counts = counts_on c.args.nodes.now c.quarters_of_both.new.self c.sum_part.new.nodes c.sum_part.result r.misses c.sum_part.ensures.counts;
    }

pub sum_part-product_part-requires-2 : goal.sum_part-product_part-requires-2
sum_part-product_part-requires-2 t c =
    let s0 = c.args.nodes.now in
    let s1 = c.product_part.new.nodes in
    let k = c.in_ok-first.ensures.keeps in
    let l = both_stay _ s0 s1 c.args.row.0.height c.args.row k c.requires.row_stands in
    let r = both_stay _ s0 s1 c.args.row.0.height c.args.column k c.requires.column_stands in
    let e = l.second_height in
    let g = r.second_height in
    let d = c.decreases in
    let deep = c.requires.deep in
    (omega (arith, d), (l.second, (r.second, (omega (arith, e, g), (omega (arith, deep, e), c.requires.few)))))

pub sum_part-union_quads-requires-clause-a_stands : goal.sum_part-union_quads-requires-clause-a_stands
sum_part-union_quads-requires-clause-a_stands t c = quad_stays _ c.product_part.new.nodes c.product_part-2.new.nodes c.in_ok-first.first c.in_ok-second.ensures.keeps c.in_ok-first.ensures.value.stands

pub sum_part-returns : goal.sum_part-returns
sum_part-returns t c =
    let x = c.in_ok-first.ensures in
    let y = c.in_ok-second.ensures in
    let z = c.union_quads.ensures in
    let e = ap (λ (h : ℕ). product_words c.args.halving.times h c.args.cuts) c.requires.row_stands.second_height in
    let s : quad_room c.in_ok-first.first.height ≡ quad_room (c.args.row.0.height - c.args.cuts) = ap quad_room x.value.same_height in
    let k = keeps_on _ _ c.args.nodes.now c.product_part.new.nodes c.product_part-2.new.nodes x.keeps y.keeps in
    record {
      value = sum_value _ _ c.args.nodes.now c.product_part.new.nodes c.product_part-2.new.nodes c.union_quads.new.nodes c.args.row c.args.column c.args.cuts c.args.number c.in_ok-first.first c.in_ok-second.second c.union_quads.result
          c.requires.row_stands c.requires.column_stands x.keeps y.keeps x.value y.value z.value;
      keeps = keeps_most _ _ c.args.nodes.now c.union_quads.new.nodes (omega (arith, e, s)) (keeps_on _ (quad_room c.in_ok-first.first.height) c.args.nodes.now c.product_part-2.new.nodes c.union_quads.new.nodes k z.keeps);
      counts = counts_on c.args.nodes.now c.product_part-2.new.nodes c.union_quads.new.nodes c.union_quads.result (y.counts ∙ x.counts) z.counts;
    }

pub product_part-returns-then-cuts-eq0-clause-value : goal.product_part-returns-then-cuts-eq0-clause-value
product_part-returns-then-cuts-eq0-clause-value t c = value_as c.composed.new.nodes _ _ _ _ c.composed.result (no_cuts c.args.a.height c.args.cuts c.if-cuts-eq0.true) (sym (part-none c.args.a.height c.args.cuts c.args.number _ c.if-cuts-eq0.true)) c.composed.ensures.value

pub product_part-returns-then-cuts-eq0-clause-keeps : goal.product_part-returns-then-cuts-eq0-clause-keeps
product_part-returns-then-cuts-eq0-clause-keeps t c =
    subst (λ (n : ℕ). KeepsQuads (product_words c.args.halving.times c.args.a.height n) c.args.nodes.now c.composed.new.nodes) (sym c.if-cuts-eq0.true) c.composed.ensures.keeps

pub sum_part-product_part-requires : goal.sum_part-product_part-requires
sum_part-product_part-requires t c =
    let l = c.requires.row_stands in
    let r = c.requires.column_stands in
    let d = c.decreases in
    (omega (arith, d), (l.first, (r.first, (r.first_height, (c.requires.deep, c.requires.few)))))

pub sum_part-returns-in_err-first-clause-keeps : goal.sum_part-returns-in_err-first-clause-keeps
sum_part-returns-in_err-first-clause-keeps t c = keeps_most _ _ c.args.nodes.now c.product_part.new.nodes (omega arith) c.in_err-first.ensures.keeps

pub sum_part-returns-in_err-second-clause-keeps : goal.sum_part-returns-in_err-second-clause-keeps
sum_part-returns-in_err-second-clause-keeps t c =
    let e = ap (λ (h : ℕ). product_words c.args.halving.times h c.args.cuts) c.requires.row_stands.second_height in
    let k = keeps_on _ _ c.args.nodes.now c.product_part.new.nodes c.product_part-2.new.nodes c.in_ok-first.ensures.keeps c.in_err-second.ensures.keeps in
    keeps_most _ _ c.args.nodes.now c.product_part-2.new.nodes (omega (arith, e)) k

pub sum_part-union_quads-requires-clause-one_height : goal.sum_part-union_quads-requires-clause-one_height
sum_part-union_quads-requires-clause-one_height t c =
    c.in_ok-second.ensures.value.same_height ∙ ap (λ (h : ℕ). h - c.args.cuts) c.requires.row_stands.second_height ∙ sym c.in_ok-first.ensures.value.same_height
