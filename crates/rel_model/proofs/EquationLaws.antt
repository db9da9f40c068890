-- Equations: one that is true stays true, and one is read back from its memo word and its slot.
use Rattle.std.proofs.Common.{◌≡◌, ◌<◌, ◌≤◌, ◌+◌, ◌*◌, ◌/◌, ◌^◌, zero, suc, ℕ, List, length, refl, sym, ap, subst, ◌∙◌, arith}
use Rattle.rel_model.specs.Cells.{Cells}
use Rattle.rel_model.specs.Trees.{top_height, cells}
use Rattle.rel_model.specs.Words.{most_bits, Extends, IsDistinct}
use Rattle.rel_model.specs.Equations.{Operator, Union, Inter, Diff, Transpose, Compose, Equation, IsTrueIn, IsMemo, result_of, depth_of, side_of, code_of, home_slot, slot_row, word_of_equation}
use Rattle.rel_model.proofs.TreeLaws.{kept_stands, kept_cells, stands-below}

-- what is true stays true
pub true_stays : (v w : List ℕ) (e : Equation) → Extends v w → IsDistinct v → IsDistinct w → IsTrueIn v e → IsTrueIn w e
true_stays v w e x d g t =
    let k : ℕ = depth_of e.height in
    let z = kept_cells v w x d.none_at_0 g.none_at_0 k in
    record {
      low = t.low;
      high = t.high;
      a_stands = kept_stands v w x k e.a t.a_stands;
      b_stands = kept_stands v w x k e.b t.b_stands;
      r_stands = kept_stands v w x k e.r t.r_stands;
      one_operand = t.one_operand;
      means = z e.r t.r_stands ∙ t.means ∙ ap (λ (c : Cells). result_of e.op (side_of e.height) c (cells v k e.b)) (sym (z e.a t.a_stands))
          ∙ ap (λ (c : Cells). result_of e.op (side_of e.height) (cells w k e.a) c) (sym (z e.b t.b_stands));
    }

-- a memo word stays one
pub memo_stays : (v w : List ℕ) (slot word : ℕ) → Extends v w → IsDistinct v → IsDistinct w → IsMemo v slot word → IsMemo w slot word
memo_stays v w slot word x d g m = record { equation = m.equation; is_word = m.is_word; home = m.home; holds = true_stays v w m.equation x d g m.holds }

-- ---- an equation is read back from its word
-- an equation whose fields fit their bits of a memo word
pub record HasRoom (e : Equation) : Type 0 where
  pub a_fits : e.a < 2 ^ 24
  pub b_fits : e.b < 2 ^ 24
  pub r_fits : e.r < 2 ^ 24
  pub height_fits : e.height < 2 ^ 5

-- two equations with the same fields
pub record SameFields (e g : Equation) : Type 0 where
  pub ops : code_of e.op ≡ code_of g.op
  pub heights : e.height ≡ g.height
  pub firsts : e.a ≡ g.a
  pub seconds : e.b ≡ g.b
  pub results : e.r ≡ g.r

pub code_of-small : (op : Operator) → code_of op < 2 ^ 4
code_of-small Union = omega arith
code_of-small Inter = omega arith
code_of-small Diff = omega arith
code_of-small Transpose = omega arith
code_of-small Compose = omega arith

record Fields (a b r o h x y s p g : ℕ) : Type 0 where
  pub a_same : a ≡ x
  pub b_same : b ≡ y
  pub r_same : r ≡ s
  pub o_same : o ≡ p
  pub h_same : h ≡ g

same_fields : (a b r o h x y s p g : ℕ) → b < 2 ^ 14 → r < 2 ^ 24 → o < 2 ^ 4 → h < 2 ^ 5 → y < 2 ^ 14 → s < 2 ^ 24 → p < 2 ^ 4 → g < 2 ^ 5
    → a * 2 ^ 47 + b * 2 ^ 33 + r * 2 ^ 9 + o * 2 ^ 5 + h ≡ x * 2 ^ 47 + y * 2 ^ 33 + s * 2 ^ 9 + p * 2 ^ 5 + g → Fields a b r o h x y s p g
same_fields a b r o h x y s p g l1 l2 l3 l4 m1 m2 m3 m4 e =
    let ah : a ≡ x = omega arith in
    let bh : b ≡ y = omega arith in
    let rh : r ≡ s = omega arith in
    let oh : o ≡ p = omega arith in
    let hh : h ≡ g = omega arith in
    record { a_same = ah; b_same = bh; r_same = rh; o_same = oh; h_same = hh }

-- one word in one slot is one equation's
pub word_of_equation-injective : (e g : Equation) → HasRoom e → HasRoom g → word_of_equation e ≡ word_of_equation g → home_slot e.a e.b ≡ home_slot g.a g.b → SameFields e g
word_of_equation-injective e g x y w s =
    let bx : e.b / slot_row < 2 ^ 14 = (let h = x.b_fits in omega arith) in
    let by : g.b / slot_row < 2 ^ 14 = (let h = y.b_fits in omega arith) in
    let f = same_fields (e.a / slot_row) (e.b / slot_row) e.r (code_of e.op) e.height (g.a / slot_row) (g.b / slot_row) g.r (code_of g.op) g.height
    bx x.r_fits (code_of-small e.op) x.height_fits by y.r_fits (code_of-small g.op) y.height_fits w in
    let ah : e.a ≡ g.a = (let h = f.a_same in omega arith) in
    let bh : e.b ≡ g.b = (let h = f.b_same in omega arith) in
    record { ops = f.o_same; heights = f.h_same; firsts = ah; seconds = bh; results = f.r_same }

-- the operator of a number
op_of : ℕ → Operator
op_of zero = Union
op_of (suc zero) = Union
op_of (suc (suc zero)) = Inter
op_of (suc (suc (suc zero))) = Diff
op_of (suc (suc (suc (suc zero)))) = Transpose
op_of (suc (suc (suc (suc (suc n))))) = Compose

op_of-code_of : (op : Operator) → op_of (code_of op) ≡ op
unfolding op_of
op_of-code_of Union = refl
op_of-code_of Inter = refl
op_of-code_of Diff = refl
op_of-code_of Transpose = refl
op_of-code_of Compose = refl

-- one number is one operator's
pub code_of-injective : (p q : Operator) → code_of p ≡ code_of q → p ≡ q
code_of-injective p q e = sym (op_of-code_of p) ∙ ap op_of e ∙ op_of-code_of q

-- two equations with the same fields are one
pub same_equation : (e g : Equation) → SameFields e g → e ≡ g
same_equation e g s =
    let op = code_of-injective e.op g.op s.ops in
    λ t. record { op = op t; height = s.heights t; a = s.firsts t; b = s.seconds t; r = s.results t }

-- the fields of a true equation fit their bits
pub true_has_room : (words : List ℕ) (e : Equation) → 0 < length words → length words ≤ 2 ^ most_bits → IsTrueIn words e → HasRoom e
unfolding top_height
true_has_room words e z l t =
    let a = stands-below words z (depth_of e.height) e.a t.a_stands in
    let b = stands-below words z (depth_of e.height) e.b t.b_stands in
    let r = stands-below words z (depth_of e.height) e.r t.r_stands in
    let high = t.high in
    record { a_fits = omega arith; b_fits = omega arith; r_fits = omega arith; height_fits = omega arith }

-- where a memo word is an equation's, in that equation's home slot, the equation is true
pub memo_tells : (words : List ℕ) (slot word : ℕ) (e : Equation) → 0 < length words → length words ≤ 2 ^ most_bits → IsMemo words slot word → HasRoom e → word ≡ word_of_equation e → slot ≡ home_slot e.a e.b → IsTrueIn words e
memo_tells words slot word e z l m h w s =
    let f = word_of_equation-injective m.equation e (true_has_room words m.equation z l m.holds) h (sym m.is_word ∙ w) (sym m.home ∙ s) in
    subst (λ (g : Equation). IsTrueIn words g) (same_equation m.equation e f) m.holds
