-- Squares of a set of cells.
-- 1. A square of which no cell passes a rule is empty.
-- 2. A square goes by the squares of half its side.
-- 3. A quad whose quarters are known is the quad of their cells.
use Rattle.std.proofs.Common.{◌≡◌, ◌≢◌, ◌<◌, ◌≤◌, ◌+◌, ◌-◌, ◌/◌, ◌%◌, ◌^◌, ◌∙◌, ◌⊎◌, ◌&&◌, ◌||◌, eqb, ltb, min, max, ℕ, true, refl, sym, ap, arith, inl, inr, Some}
use Rattle.std.proofs.Math.Nat.{mul-div-le, mod-eq_of_lt, mod-le, add-mod_right, mod-add-mod}
use Rattle.std.proofs.lemmas.Bool.{cases_lt, lt-ltb, le-ltb, and_parts, eqb-true, ltb-true}
use Rattle.std.proofs.lemmas.Bool.Decides.{nat_tests}
use Rattle.std.proofs.lemmas.Nat.{le-div, mod_below}
use Rattle.rel_model.specs.declared.Quad.{Quad}
use Rattle.rel_model.specs.Cells.{Cells, no_cells}
use Rattle.rel_model.specs.Trees.{quartered}
use Rattle.rel_model.specs.Worker.{Worker, quad_set, GivesQuad, Keeps}
use Rattle.rel_model.proofs.TreeLaws.{same_cells}
use Rattle.rel_model.proofs.Somes.{not_true}
use Rattle.rel_domains.specs.declared.rule.Rule.{Rule}
use Rattle.rel_domains.specs.Rules.{passes, rule_cells, window}
use Rattle.rel_steps.proofs.Given.{AreParts, gives_quad_set, gives_later}
use Rattle.rel_domains.proofs.Places.{side_step}

-- ---- squares without cells
pub no_window : (m row col : ℕ) (f : Cells) → ((i j : ℕ) → i < m → j < m → f (row + i) (col + j) ≡ true → ⊥) → window m row col f ≡ no_cells
no_window m row col f h = same_cells _ _ (λ i j. not_true _ (λ t.
    let a = and_parts (ltb i m) _ t in
    let b = and_parts (ltb j m) _ a.1 in
    h i j (ltb-true i m a.0) (ltb-true j m b.0) b.1))

pub rule_free : (rows cols m row col end : ℕ) (rule : Rule) → end ≡ min rows (row + m) → ((k j : ℕ) → row ≤ k → k < end → col ≤ j → j < col + m → passes rule k j ≡ true → ⊥) → window m row col (rule_cells rows cols rule) ≡ no_cells
rule_free rows cols m row col end rule e h = no_window m row col (rule_cells rows cols rule) (λ i j a b t.
    let p = and_parts (ltb (row + i) rows) _ t in
    let q = and_parts (ltb (col + j) cols) _ p.1 in
    let r = ltb-true (row + i) rows p.0 in
    h (row + i) (col + j) (omega arith) (omega (arith, e, r, a)) (omega arith) (omega (arith, b)) q.1)

-- ---- quotients
pub div_mono : (m n by : ℕ) → 0 < by → m ≤ n → m / by ≤ n / by
div_mono m n by p l = le-div (m / by) n by p (let a = mul-div-le m by in omega (arith, a))

pub quotients_before : (by row col m end k j : ℕ) → 0 < by → (end - 1) / by < col → k < end → col ≤ j → eqb (k / by) j ≡ true → ⊥
quotients_before by row col m end k j p l a b t =
    let d = div_mono k (end - 1) by p (omega arith) in
    let e = eqb-true (k / by) j t in
    omega (arith, d, e, l, b)

pub quotients_behind : (by row col m k j : ℕ) → 0 < by → col + m ≤ row / by → row ≤ k → j < col + m → eqb (k / by) j ≡ true → ⊥
quotients_behind by row col m k j p l a b t =
    let d = div_mono row k by p a in
    let e = eqb-true (k / by) j t in
    omega (arith, d, e, l, b)

-- ---- remainders
rest_of : (by row k : ℕ) → row ≤ k → k % by ≡ (row % by + (k - row)) % by
rest_of by row k l = let e : k ≡ row + (k - row) = omega arith in ap (λ n. n % by) e ∙ sym (mod-add-mod row by (k - row))

pub rest_before : (by row col k : ℕ) → row ≤ k → k < row + (col - row % by) → k % by < col
rest_before by row col k l a = let e = rest_of by row k l in let u = mod-le (row % by + (k - row)) by in omega (arith, e, u, a)

-- from a remainder behind the columns on, the next ones are behind them too, until they begin at 0 again, before them
pub rest_behind : (by row col m k : ℕ) → 0 < by → col + m ≤ row % by → row ≤ k → k < row + (by - row % by) + col → (k % by < col) ⊎ (col + m ≤ k % by)
rest_behind by row col m k p h l a =
    let e = rest_of by row k l in
    let b = mod_below row by p in
    let n : ℕ = row % by + (k - row) in
    elim (cases_lt n by) [
      | inl c ↦ inr (let f : n % by ≡ n = mod-eq_of_lt c in omega (arith, e, f, h))
      | inr c ↦ inl (
          let g : n ≡ n - by + by = omega arith in
          let f : n % by ≡ (n - by) % by = ap (λ x. x % by) g ∙ add-mod_right (n - by) by in
          let u = mod-le (n - by) by in
          omega (arith, e, f, u, a, b))
    ]

-- ---- tests on bits
pub either_one : (a b : ℕ) → a < 2 → b < 2 → eqb (max a b) 1 ≡ (eqb a 1 || eqb b 1)
either_one a b p q = grind (arith, nat_tests)

pub same_test : (k n : ℕ) → k ≢ n → ltb k n ≡ ltb k (n + 1)
same_test k n e = elim (cases_lt k n) [
  | inl a ↦ lt-ltb k n a ∙ sym (lt-ltb k (n + 1) (omega arith))
  | inr a ↦ le-ltb k n a ∙ sym (le-ltb k (n + 1) (omega arith))
]

-- ---- a square by its quarters
module _ (m row col : ℕ) (f : Cells) where
  in_half : (i r : ℕ) → m ≤ i → r + m + (i - m) ≡ r + i
  in_half i r l = omega arith

  -- a square is its four quarters: a row or a column behind the middle is one of the half that begins m further on
  pub windows-quartered : quartered m (window m row col f) (window m row (col + m) f) (window m (row + m) col f) (window m (row + m) (col + m) f) ≡ window (m + m) row col f
  windows-quartered = same_cells _ _ (λ i j. elim (cases_lt i m) [
    | inl p ↦ elim (cases_lt j m) [
      | inl q ↦ rw (lt-ltb i m p, lt-ltb j m q, lt-ltb i (m + m) (omega arith), lt-ltb j (m + m) (omega arith)) refl
      | inr q ↦ rw (lt-ltb i m p, le-ltb j m q, lt-ltb i (m + m) (omega arith)) (ap (λ b. b && f (row + i) (col + m + (j - m))) (low j q) ∙ ap (λ k. ltb j (m + m) && f (row + i) k) (in_half j col q))
    ]
    | inr p ↦ elim (cases_lt j m) [
      | inl q ↦ rw (le-ltb i m p, lt-ltb j m q, lt-ltb j (m + m) (omega arith)) (ap (λ b. b && f (row + m + (i - m)) (col + j)) (low i p) ∙ ap (λ k. ltb i (m + m) && f k (col + j)) (in_half i row p))
      | inr q ↦ rw (le-ltb i m p, le-ltb j m q) (
          ap (λ b. b && (ltb (j - m) m && f (row + m + (i - m)) (col + m + (j - m)))) (low i p) ∙ ap (λ b. ltb i (m + m) && (b && f (row + m + (i - m)) (col + m + (j - m)))) (low j q)
          ∙ ap (λ k. ltb i (m + m) && (ltb j (m + m) && f k (col + m + (j - m)))) (in_half i row p) ∙ ap (λ k. ltb i (m + m) && (ltb j (m + m) && f (row + i) k)) (in_half j col q))
    ]
  ])
    where
      low : (k : ℕ) → m ≤ k → ltb (k - m) m ≡ ltb k (m + m)
      low k l = elim (cases_lt k (m + m)) [
        | inl a ↦ lt-ltb (k - m) m (omega arith) ∙ sym (lt-ltb k (m + m) a)
        | inr a ↦ le-ltb (k - m) m (omega arith) ∙ sym (le-ltb k (m + m) a)
      ]

-- ---- what a worker gives
-- four quads that a worker gives, and their corner
pub corner_of : (w1 w2 w3 w4 w5 : Worker) (h : ℕ) (f1 f2 f3 f4 : Cells) (q1 q2 q3 q4 q : Quad)
    → GivesQuad w1 h f1 q1 → Keeps w1 w2 → GivesQuad w2 h f2 q2 → Keeps w2 w3 → GivesQuad w3 h f3 q3 → Keeps w3 w4 → GivesQuad w4 h f4 q4
    → GivesQuad w5 (q1.height + 1) (quartered (2 ^ q1.height) (quad_set w4 q1) (quad_set w4 q2) (quad_set w4 q3) (quad_set w4 q4)) q
    → GivesQuad w5 (h + 1) (quartered (2 ^ h) f1 f2 f3 f4) q
corner_of w1 w2 w3 w4 w5 h f1 f2 f3 f4 q1 q2 q3 q4 q g1 k1 g2 k2 g3 k3 g4 g =
    let s1 : quad_set w4 q1 ≡ f1 = gives_quad_set w4 h f1 q1 (gives_later w3 w4 h f1 q1 k3 (gives_later w2 w3 h f1 q1 k2 (gives_later w1 w2 h f1 q1 k1 g1))) in
    let s2 : quad_set w4 q2 ≡ f2 = gives_quad_set w4 h f2 q2 (gives_later w3 w4 h f2 q2 k3 (gives_later w2 w3 h f2 q2 k2 g2)) in
    let s3 : quad_set w4 q3 ≡ f3 = gives_quad_set w4 h f3 q3 (gives_later w3 w4 h f3 q3 k3 g3) in
    let s4 : quad_set w4 q4 ≡ f4 = gives_quad_set w4 h f4 q4 g4 in
    record {
      means = g.means ∙ ap Some (ap (λ x. quartered (2 ^ x) (quad_set w4 q1) (quad_set w4 q2) (quad_set w4 q3) (quad_set w4 q4)) g1.same_height
          ∙ ap (λ x. quartered (2 ^ h) x (quad_set w4 q2) (quad_set w4 q3) (quad_set w4 q4)) s1 ∙ ap (λ x. quartered (2 ^ h) f1 x (quad_set w4 q3) (quad_set w4 q4)) s2
          ∙ ap (λ x. quartered (2 ^ h) f1 f2 x (quad_set w4 q4)) s3 ∙ ap (quartered (2 ^ h) f1 f2 f3) s4);
      same_height = g.same_height ∙ ap (λ x. x + 1) g1.same_height;
    }

-- a square that a worker gives by its quarters
pub square_parts : (least depth half row col : ℕ) (f : Cells) → depth ≢ 0 → half ≡ 2 ^ (least + (depth - 1))
    → AreParts (least + depth) (window (2 ^ (least + depth)) row col f) (least + (depth - 1)) (window (2 ^ (least + (depth - 1))) row col f) (window (2 ^ (least + (depth - 1))) row (col + half) f)
    (window (2 ^ (least + (depth - 1))) (row + half) col f) (window (2 ^ (least + (depth - 1))) (row + half) (col + half) f)
square_parts least depth half row col f over e =
    let m = 2 ^ (least + (depth - 1)) in
    let s : m + m ≡ 2 ^ (least + depth) = omega (arith, side_step least depth over) in
    record {
      next = omega (arith, over);
      means = ap (λ h. quartered m (window m row col f) (window m row (col + h) f) (window m (row + h) col f) (window m (row + h) (col + h) f)) e ∙ windows-quartered m row col f ∙ ap (λ k. window k row col f) s;
    }

-- a quarter that is like another
pub like : {w : Worker} {h half : ℕ} {q : Quad} (row col i j : ℕ) (f : Cells) → half ≡ 2 ^ h → window half row col f ≡ window half i j f → GivesQuad w h (window (2 ^ h) i j f) q → GivesQuad w h (window (2 ^ h) row col f) q
like row col i j f e s g = record { means = g.means ∙ ap Some (ap (λ n. window n i j f) (sym e) ∙ sym s ∙ ap (λ n. window n row col f) e); same_height = g.same_height }
