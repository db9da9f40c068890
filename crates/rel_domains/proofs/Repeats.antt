-- Squares of a rule that are like others.
-- 1. The lower half of a square is like the upper where its rows have the same columns.
-- 2. The last quarter is like the first where each cell passes as the one half a side up and to the left does.
use Rattle.std.proofs.Common.{◌≡◌, ◌<◌, ◌≤◌, ◌+◌, ◌-◌, ◌*◌, ◌/◌, ◌%◌, ◌∙◌, ◌&&◌, eqb, ltb, ℕ, refl, sym, ap, arith, inl, inr}
use Rattle.std.proofs.Math.Nat.{mod-eq_of_lt, mod-add-mod}
use Rattle.std.proofs.lemmas.Bool.{cases_lt, cases_eq, lt-ltb, le-ltb, eq-eqb, ne_eqb}
use Rattle.rel_model.proofs.TreeLaws.{same_cells}
use Rattle.rel_domains.specs.declared.rule.Rule.{Rule}
use Rattle.rel_domains.specs.Rules.{passes, rule_cells, window}
use Rattle.rel_domains.proofs.Windows.{div_mono}

pub rows-repeat : (rows cols m row col : ℕ) (rule : Rule) → row + 2 * m ≤ rows → ((i j : ℕ) → i < m → passes rule (row + m + i) j ≡ passes rule (row + i) j) → window m (row + m) col (rule_cells rows cols rule) ≡ window m row col (rule_cells rows cols rule)
rows-repeat rows cols m row col rule l h = same_cells _ _ (λ i j. elim (cases_lt i m) [
  | inl a ↦ rw (lt-ltb i m a, lt-ltb (row + m + i) rows (omega arith), lt-ltb (row + i) rows (omega arith)) (ap (λ b. ltb j m && (ltb (col + j) cols && b)) (h i (col + j) a))
  | inr a ↦ rw (le-ltb i m a) refl
])

pub diagonal-repeats : (rows cols m row col : ℕ) (rule : Rule) → row + 2 * m ≤ rows → col + 2 * m ≤ cols → ((i j : ℕ) → i < m → j < m → passes rule (row + m + i) (col + m + j) ≡ passes rule (row + i) (col + j)) → window m (row + m) (col + m) (rule_cells rows cols rule) ≡ window m row col (rule_cells rows cols rule)
diagonal-repeats rows cols m row col rule l k h = same_cells _ _ (λ i j. elim (cases_lt i m) [
  | inl a ↦ elim (cases_lt j m) [
    | inl b ↦ rw (lt-ltb i m a, lt-ltb j m b, lt-ltb (row + m + i) rows (omega arith), lt-ltb (row + i) rows (omega arith), lt-ltb (col + m + j) cols (omega arith), lt-ltb (col + j) cols (omega arith)) (h i j a b)
    | inr b ↦ rw (lt-ltb i m a, le-ltb j m b) refl
  ]
  | inr a ↦ rw (le-ltb i m a) refl
])

-- ---- quotients
pub quotient-repeats : (by row m i j : ℕ) → 0 < by → i < m → (row + 2 * m - 1) / by ≡ row / by → eqb ((row + m + i) / by) j ≡ eqb ((row + i) / by) j
quotient-repeats by row m i j p a e =
    let c = div_mono row (row + m + i) by p (omega arith) in
    let d = div_mono (row + m + i) (row + 2 * m - 1) by p (omega arith) in
    let f = div_mono row (row + i) by p (omega arith) in
    let g = div_mono (row + i) (row + 2 * m - 1) by p (omega arith) in
    ap (λ n. eqb n j) (omega (arith, c, d, f, g, e))

-- ---- remainders
pub remainder-repeats : (by row m i j : ℕ) → m % by ≡ 0 → eqb ((row + m + i) % by) j ≡ eqb ((row + i) % by) j
remainder-repeats by row m i j e =
    ap (λ n. eqb n j) (ap (λ n. n % by) (let t : row + m + i ≡ m + (row + i) = omega arith in t) ∙ sym (mod-add-mod m by (row + i)) ∙ ap (λ n. (n + (row + i)) % by) e ∙ ap (λ n. n % by) (let t : 0 + (row + i) ≡ row + i = omega arith in t))

-- ---- diagonals
pub both_more : (x y m : ℕ) → eqb (x + m) (y + m) ≡ eqb x y
both_more x y m = elim (cases_eq x y) [
  | inl e ↦ eq-eqb (x + m) (y + m) (omega arith) ∙ sym (eq-eqb x y e)
  | inr e ↦ ne_eqb (x + m) (y + m) (λ h. e (omega arith)) ∙ sym (ne_eqb x y e)
]

rest-within : (by row k : ℕ) → row % by + k < by → (row + k) % by ≡ row % by + k
rest-within by row k l = sym (mod-add-mod row by k) ∙ mod-eq_of_lt l

pub rest-repeats : (by row col m i j : ℕ) → row % by + 2 * m ≤ by → i < m → eqb ((row + m + i) % by) (col + m + j) ≡ eqb ((row + i) % by) (col + j)
rest-repeats by row col m i j l a =
    ap (λ n. eqb n (col + m + j)) (ap (λ n. n % by) (let t : row + m + i ≡ row + (m + i) = omega arith in t) ∙ rest-within by row (m + i) (omega arith) ∙ (let t : row % by + (m + i) ≡ row % by + i + m = omega arith in t))
    ∙ ap (eqb (row % by + i + m)) (let t : col + m + j ≡ col + j + m = omega arith in t) ∙ both_more (row % by + i) (col + j) m ∙ ap (λ n. eqb n (col + j)) (sym (rest-within by row i (omega arith)))
