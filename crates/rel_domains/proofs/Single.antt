-- The quad of a single cell.
-- 1. Its place divided by the cells of a quarter tells the quarter in which it lies (`quotient`).
-- 2. So it is one place cut into four parts, three of which are empty (`four_at`).
-- 3. Where a worker gives the quad of one part, it gives the quads of all four: the others are the empty one (`given_if`).
use Rattle.std.proofs.Common.{◌≡◌, ◌<◌, ◌≤◌, ◌+◌, ◌*◌, ◌/◌, ◌&&◌, ◌∙◌, eqb, cond, ℕ, suc, zero, Bool, true, false, List, [], ◌∷◌, refl, sym, ap, subst, arith, Some}
use Rattle.std.proofs.lemmas.Nat.{div_below, mod_below, div-add-mod'}
use Rattle.rel_model.specs.declared.Quad.{Quad}
use Rattle.rel_model.specs.Cells.{no_cells}
use Rattle.rel_model.specs.Worker.{Worker, GivesQuad}
use Rattle.rel_model.proofs.TreeLaws.{same_cells}
use Rattle.rel_domains.specs.Curve.{cells_at}
use Rattle.rel_domains.proofs.Quartering.{AreFour}

-- ---- the quarter
-- a number divided by another
pub record Quotient (m n : ℕ) : Type 0 where
  pub low : m / n * n ≤ m
  pub above : m < m / n * n + n
  pub four : m < 4 * n → m / n < 4

pub quotient : (m n : ℕ) → 0 < n → Quotient m n
quotient m n p = let e = div-add-mod' m n in let r = mod_below m n p in record { low = omega (arith, e); above = omega (arith, e, r); four = λ l. div_below m n 4 p l }

-- ---- one place in four parts
-- the place in part i, if it lies in part k
abbrev pub pick : ℕ → ℕ → ℕ → List ℕ
pick i k x = cond (eqb k i) (x ∷ []) []

pub four_at : (base n x k : ℕ) → k < 4 → base + k * n ≤ x → x < base + k * n + n → AreFour base n (x ∷ []) (pick 0 k x) (pick 1 k x) (pick 2 k x) (pick 3 k x)
four_at base n x zero l a b = record { whole = refl; nw_from = ((omega arith, omega arith), tt); ne_from = tt; sw_from = tt; se_from = tt }
four_at base n x (suc zero) l a b = record { whole = refl; nw_from = tt; ne_from = ((omega arith, omega arith), tt); sw_from = tt; se_from = tt }
four_at base n x (suc (suc zero)) l a b = record { whole = refl; nw_from = tt; ne_from = tt; sw_from = ((omega arith, omega arith), tt); se_from = tt }
four_at base n x (suc (suc (suc zero))) l a b = record { whole = refl; nw_from = tt; ne_from = tt; sw_from = tt; se_from = ((omega arith, omega arith), tt) }
four_at base n x (suc (suc (suc (suc k)))) l a b = absurd (omega arith)

-- ---- the quads of the parts
both_false : (a b : Bool) → (a && (b && false)) ≡ false
both_false true true = refl
both_false true false = refl
both_false false b = refl

-- no place, no cell
nothing_at : (least d base : ℕ) → cells_at least d base [] ≡ no_cells
nothing_at least d base = same_cells _ _ (λ i j. both_false _ _)

pub given_if : (w : Worker) (least d start base x : ℕ) (quad : Quad) (t : Bool) → GivesQuad w (least + d) (cells_at least d start (x ∷ [])) quad → w.quad (record { height = quad.height; name = 0 }) ≡ Some no_cells → (t ≡ true → start ≡ base)
    → GivesQuad w (least + d) (cells_at least d base (cond t (x ∷ []) [])) (record { height = quad.height; name = cond t quad.name 0 })
given_if w least d start base x quad true g n e = subst (λ k. GivesQuad w (least + d) (cells_at least d k (x ∷ [])) quad) (e refl) g
given_if w least d start base x quad false g n e = record { means = n ∙ ap Some (sym (nothing_at least d base)); same_height = g.same_height }
