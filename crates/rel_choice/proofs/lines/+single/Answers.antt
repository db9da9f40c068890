use Rattle.std.proofs.Common.{◌≡◌, ◌∙◌, ℕ, true, sym, arith}
use Rattle.rel_model.proofs.Workers.{keeps_trans}
use Rattle.rel_choice.specs.Lines.{quad_single, quads_apart}
use Rattle.rel_choice.proofs.RowHalves.{leaf-side}
use Rattle.rel_choice.proofs.Doubles.{none-single, kept-single, kept-apart, single-quarters, fails-1, fails-2, fails-3, fails-4, fails-5, last-decides}
use Rattle.rel_choice.proofs.lines.+single.Given.{Over}
use Rattle.rel_choice.proofs.lines.+single.Goals.{is_single_over-After-is_single-2, is_single_over-After-is_single_besides, is_single_over-After-is_single_besides-2, is_single_over-After-are_apart, is_single_over-After-are_apart-2}
use Rattle.rel_choice.proofs.lines.+single.Goals as goal

pub is_single-returns-then-is_empty-clause-value : goal.is_single-returns-then-is_empty-clause-value
is_single-returns-then-is_empty-clause-value g t c =
    let l = g.met.Q.Quads.low_height c.args.q.now c.args.quad c.requires in
    let h = g.met.Q.Quads.high_height c.args.q.now c.args.quad c.requires in
    none-single (g.Q.Core.worker c.args.q.now) c.args.quad (c.is_empty.ensures.empty c.if-is_empty.true) (g.met.Q.Quads.none c.args.q.now c.args.quad.height l h)

pub is_single-leaf_is_single-requires : goal.is_single-leaf_is_single-requires
is_single-leaf_is_single-requires g t c = leaf-side c.args.quad.height g.Q.Core.least c.side_of-side.result (c.if-quad-bottom.true ∙ c.bottom.ensures) g.met.Q.Quads.least_limit c.side_of-side.ensures

-- ---- what was found on the way
found_1 : (g : Over) (t : ℕ) (c : is_single_over-After-is_single-2 g t) → quad_single (g.Q.Core.worker c.quarters.new.self) c.quarters.result.nw ≡ true
found_1 g t c = sym c.is_single.ensures.value ∙ c.if-not-is_single.false

found_2 : (g : Over) (t : ℕ) (c : is_single_over-After-is_single_besides g t) → quad_single (g.Q.Core.worker c.quarters.new.self) c.quarters.result.ne ≡ true
found_2 g t c = sym (kept-single _ _ c.quarters.result.ne (c.is_single.ensures.keeps) c.quarters.ensures.quarters.ne) ∙ (sym c.is_single-2.ensures.value ∙ c.if-not-is_single-2.false)

found_3 : (g : Over) (t : ℕ) (c : is_single_over-After-is_single_besides-2 g t) → quad_single (g.Q.Core.worker c.quarters.new.self) c.quarters.result.sw ≡ true
found_3 g t c = sym (kept-single _ _ c.quarters.result.sw (keeps_trans _ _ _ c.is_single.ensures.keeps c.is_single-2.ensures.keeps) c.quarters.ensures.quarters.sw) ∙ (sym c.is_single_besides.ensures.value ∙ c.if-not-is_single_besides.false)

found_4 : (g : Over) (t : ℕ) (c : is_single_over-After-are_apart g t) → quad_single (g.Q.Core.worker c.quarters.new.self) c.quarters.result.se ≡ true
found_4 g t c = sym (kept-single _ _ c.quarters.result.se (keeps_trans _ _ _ (keeps_trans _ _ _ c.is_single.ensures.keeps c.is_single-2.ensures.keeps) c.is_single_besides.ensures.keeps) c.quarters.ensures.quarters.se) ∙ (sym c.is_single_besides-2.ensures.value ∙ c.if-not-is_single_besides-2.false)

found_5 : (g : Over) (t : ℕ) (c : is_single_over-After-are_apart-2 g t) → quads_apart (g.Q.Core.worker c.quarters.new.self) c.quarters.result.nw c.quarters.result.ne ≡ true
found_5 g t c = sym (kept-apart _ _ c.quarters.result.nw c.quarters.result.ne (keeps_trans _ _ _ (keeps_trans _ _ _ (keeps_trans _ _ _ c.is_single.ensures.keeps c.is_single-2.ensures.keeps) c.is_single_besides.ensures.keeps) c.is_single_besides-2.ensures.keeps) c.quarters.ensures.quarters.nw c.quarters.ensures.quarters.ne) ∙ (sym c.are_apart.ensures.value ∙ c.if-not-are_apart.false)

-- ---- each answer
pub is_single_over-returns-then-not-is_single : goal.is_single_over-returns-then-not-is_single
is_single_over-returns-then-not-is_single g t c =
    let w = g.Q.Core.worker c.quarters.new.self in
    let four = c.quarters.result in
    let s = single-quarters _ w c.args.quad four c.quarters.ensures.quarters in
    record {
      value = sym (s ∙ fails-1 (quad_single w four.nw) (quad_single w four.ne) (quad_single w four.sw) (quad_single w four.se) (quads_apart w four.nw four.ne) (quads_apart w four.sw four.se) (sym c.is_single.ensures.value ∙ c.if-not-is_single.true));
      keeps = keeps_trans _ _ _ c.quarters.ensures.keeps c.is_single.ensures.keeps;
      room = omega arith;
      misses = c.is_single.ensures.misses ∙ c.quarters.ensures.misses;
    }

pub is_single_over-returns-then-not-is_single-2 : goal.is_single_over-returns-then-not-is_single-2
is_single_over-returns-then-not-is_single-2 g t c =
    let at = goal.at.is_single_over-returns-then-not-is_single-2 g t c in
    let w = g.Q.Core.worker c.quarters.new.self in
    let four = c.quarters.result in
    let s = single-quarters _ w c.args.quad four c.quarters.ensures.quarters in
    record {
      value = sym (s ∙ fails-2 (quad_single w four.nw) (quad_single w four.ne) (quad_single w four.sw) (quad_single w four.se) (quads_apart w four.nw four.ne) (quads_apart w four.sw four.se) (found_1 g t at.After-is_single-2) (sym (kept-single _ _ c.quarters.result.ne (c.is_single.ensures.keeps) c.quarters.ensures.quarters.ne) ∙ (sym c.is_single-2.ensures.value ∙ c.if-not-is_single-2.true)));
      keeps = keeps_trans _ _ _ c.quarters.ensures.keeps (keeps_trans _ _ _ c.is_single.ensures.keeps c.is_single-2.ensures.keeps);
      room = omega arith;
      misses = c.is_single-2.ensures.misses ∙ c.is_single.ensures.misses ∙ c.quarters.ensures.misses;
    }

pub is_single_over-returns-then-not-is_single_besides : goal.is_single_over-returns-then-not-is_single_besides
is_single_over-returns-then-not-is_single_besides g t c =
    let at = goal.at.is_single_over-returns-then-not-is_single_besides g t c in
    let w = g.Q.Core.worker c.quarters.new.self in
    let four = c.quarters.result in
    let s = single-quarters _ w c.args.quad four c.quarters.ensures.quarters in
    record {
      value = sym (s ∙ fails-3 (quad_single w four.nw) (quad_single w four.ne) (quad_single w four.sw) (quad_single w four.se) (quads_apart w four.nw four.ne) (quads_apart w four.sw four.se) (found_1 g t at.After-is_single-2) (found_2 g t at.After-is_single_besides) (sym (kept-single _ _ c.quarters.result.sw (keeps_trans _ _ _ c.is_single.ensures.keeps c.is_single-2.ensures.keeps) c.quarters.ensures.quarters.sw) ∙ (sym c.is_single_besides.ensures.value ∙ c.if-not-is_single_besides.true)));
      keeps = keeps_trans _ _ _ c.quarters.ensures.keeps (keeps_trans _ _ _ c.is_single.ensures.keeps (keeps_trans _ _ _ c.is_single-2.ensures.keeps c.is_single_besides.ensures.keeps));
      room = omega arith;
      misses = c.is_single_besides.ensures.misses ∙ c.is_single-2.ensures.misses ∙ c.is_single.ensures.misses ∙ c.quarters.ensures.misses;
    }

pub is_single_over-returns-then-not-is_single_besides-2 : goal.is_single_over-returns-then-not-is_single_besides-2
is_single_over-returns-then-not-is_single_besides-2 g t c =
    let at = goal.at.is_single_over-returns-then-not-is_single_besides-2 g t c in
    let w = g.Q.Core.worker c.quarters.new.self in
    let four = c.quarters.result in
    let s = single-quarters _ w c.args.quad four c.quarters.ensures.quarters in
    record {
      value = sym (s ∙ fails-4 (quad_single w four.nw) (quad_single w four.ne) (quad_single w four.sw) (quad_single w four.se) (quads_apart w four.nw four.ne) (quads_apart w four.sw four.se) (found_1 g t at.After-is_single-2) (found_2 g t at.After-is_single_besides) (found_3 g t at.After-is_single_besides-2) (sym (kept-single _ _ c.quarters.result.se (keeps_trans _ _ _ (keeps_trans _ _ _ c.is_single.ensures.keeps c.is_single-2.ensures.keeps) c.is_single_besides.ensures.keeps) c.quarters.ensures.quarters.se) ∙ (sym c.is_single_besides-2.ensures.value ∙ c.if-not-is_single_besides-2.true)));
      keeps = keeps_trans _ _ _ c.quarters.ensures.keeps (keeps_trans _ _ _ c.is_single.ensures.keeps (keeps_trans _ _ _ c.is_single-2.ensures.keeps (keeps_trans _ _ _ c.is_single_besides.ensures.keeps c.is_single_besides-2.ensures.keeps)));
      room = omega arith;
      misses = c.is_single_besides-2.ensures.misses ∙ c.is_single_besides.ensures.misses ∙ c.is_single-2.ensures.misses ∙ c.is_single.ensures.misses ∙ c.quarters.ensures.misses;
    }

pub is_single_over-returns-then-not-are_apart : goal.is_single_over-returns-then-not-are_apart
is_single_over-returns-then-not-are_apart g t c =
    let at = goal.at.is_single_over-returns-then-not-are_apart g t c in
    let w = g.Q.Core.worker c.quarters.new.self in
    let four = c.quarters.result in
    let s = single-quarters _ w c.args.quad four c.quarters.ensures.quarters in
    record {
      value = sym (s ∙ fails-5 (quad_single w four.nw) (quad_single w four.ne) (quad_single w four.sw) (quad_single w four.se) (quads_apart w four.nw four.ne) (quads_apart w four.sw four.se) (found_1 g t at.After-is_single-2) (found_2 g t at.After-is_single_besides) (found_3 g t at.After-is_single_besides-2) (found_4 g t at.After-are_apart) (sym (kept-apart _ _ c.quarters.result.nw c.quarters.result.ne (keeps_trans _ _ _ (keeps_trans _ _ _ (keeps_trans _ _ _ c.is_single.ensures.keeps c.is_single-2.ensures.keeps) c.is_single_besides.ensures.keeps) c.is_single_besides-2.ensures.keeps) c.quarters.ensures.quarters.nw c.quarters.ensures.quarters.ne) ∙ (sym c.are_apart.ensures.value ∙ c.if-not-are_apart.true)));
      keeps = keeps_trans _ _ _ c.quarters.ensures.keeps (keeps_trans _ _ _ c.is_single.ensures.keeps (keeps_trans _ _ _ c.is_single-2.ensures.keeps (keeps_trans _ _ _ c.is_single_besides.ensures.keeps (keeps_trans _ _ _ c.is_single_besides-2.ensures.keeps c.are_apart.ensures.keeps))));
      room = omega arith;
      misses = c.are_apart.ensures.misses ∙ c.is_single_besides-2.ensures.misses ∙ c.is_single_besides.ensures.misses ∙ c.is_single-2.ensures.misses ∙ c.is_single.ensures.misses ∙ c.quarters.ensures.misses;
    }

pub is_single_over-returns : goal.is_single_over-returns
is_single_over-returns g t c =
    let at = goal.at.is_single_over-returns g t c in
    let w = g.Q.Core.worker c.quarters.new.self in
    let four = c.quarters.result in
    let s = single-quarters _ w c.args.quad four c.quarters.ensures.quarters in
    record {
      value = c.are_apart-2.ensures.value ∙ kept-apart _ _ four.sw four.se (keeps_trans _ _ _ (keeps_trans _ _ _ (keeps_trans _ _ _ (keeps_trans _ _ _ c.is_single.ensures.keeps c.is_single-2.ensures.keeps) c.is_single_besides.ensures.keeps) c.is_single_besides-2.ensures.keeps) c.are_apart.ensures.keeps) c.quarters.ensures.quarters.sw c.quarters.ensures.quarters.se ∙ sym (s ∙ last-decides (quad_single w four.nw) (quad_single w four.ne) (quad_single w four.sw) (quad_single w four.se) (quads_apart w four.nw four.ne) (quads_apart w four.sw four.se) (found_1 g t at.After-is_single-2) (found_2 g t at.After-is_single_besides) (found_3 g t at.After-is_single_besides-2) (found_4 g t at.After-are_apart) (found_5 g t at.After-are_apart-2));
      keeps = keeps_trans _ _ _ c.quarters.ensures.keeps (keeps_trans _ _ _ c.is_single.ensures.keeps (keeps_trans _ _ _ c.is_single-2.ensures.keeps (keeps_trans _ _ _ c.is_single_besides.ensures.keeps (keeps_trans _ _ _ c.is_single_besides-2.ensures.keeps (keeps_trans _ _ _ c.are_apart.ensures.keeps c.are_apart-2.ensures.keeps)))));
      room = omega arith;
      misses = c.are_apart-2.ensures.misses ∙ c.are_apart.ensures.misses ∙ c.is_single_besides-2.ensures.misses ∙ c.is_single_besides.ensures.misses ∙ c.is_single-2.ensures.misses ∙ c.is_single.ensures.misses ∙ c.quarters.ensures.misses;
    }
