-- How many nodes the quad of a number takes: no more than as many listed cells.
-- 1. The cells of a square are those of its quarters, and another number than 0 has one at least.
-- 2. So the nodes of four quarters and their corner are within those of the square.
-- 3. The pairs of a relation are the cells of its root, since all lie within the sizes.
use Rattle.std.proofs.Common.{◌≡◌, ◌≢◌, ◌<◌, ◌≤◌, ◌+◌, ◌-◌, ◌*◌, ◌^◌, cond, zero, suc, ℕ, Bool, true, List, length, sym, ap, subst, ◌∙◌, inl, inr, arith}
use Rattle.std.proofs.lemmas.Bool.{cases_lt}
use Rattle.std.proofs.lemmas.Nat.{mul-le}
use Rattle.rel_model.specs.Choice.{count_below}
use Rattle.rel_model.specs.Relation.{relation_of}
use Rattle.rel_model.specs.Worker.{listed_room}
use Rattle.rel_model.proofs.Heights.{height_over-rows, height_over-cols}
use Rattle.rel_model.proofs.Relations.{IsRelation-relation_of, rows-relation_of, cols-relation_of}
use Rattle.rel_model.proofs.Rooting.{has-cells}
use Rattle.rel_choice.specs.Counts.{sum_below, cells_count}
use Rattle.rel_choice.proofs.Sums.{cells_count-quartered}
use Rattle.rel_choice.proofs.CellCounts.{pairs-count}
use Rattle.run_model.specs.Files.{file_height}
use Rattle.run_model.specs.SharedFiles.{Quadrant, quadrant_at, cells_told}
use Rattle.run_model.proofs.SharedCells.{IsNumber, some_cell, cells_within, two-halves}
use Rattle.k2_file.proofs.WriteHeights.{file_height-over}
use Rattle.k2_read.specs.Numbers.{cells_under, IsSound, relation_at}
use Rattle.k2_read.proofs.Numbers.{parts-cells}

-- ---- one cell at least
count-some : (n : ℕ) (t : ℕ → Bool) (k : ℕ) → k < n → t k ≡ true → 1 ≤ count_below n t
count-some zero t k l e = absurd (omega (arith, l))
count-some (suc n) t k l e = elim (cases_lt k n) [
  | inl a ↦ let i = count-some n t k a e in omega (arith, i)
  | inr a ↦
      let s : k ≡ n = omega (arith, l, a) in
      let one : cond {A = ℕ} (t n) 1 0 ≡ 1 = ap (λ b. cond {A = ℕ} b 1 0) (ap t (sym s) ∙ e) in
      omega (arith, one)
]

sum-some : (n : ℕ) (g : ℕ → ℕ) (k : ℕ) → k < n → 1 ≤ g k → 1 ≤ sum_below n g
sum-some zero g k l e = absurd (omega (arith, l))
sum-some (suc n) g k l e = elim (cases_lt k n) [
  | inl a ↦ let i = sum-some n g k a e in omega (arith, i)
  | inr a ↦
      let s : k ≡ n = omega (arith, l, a) in
      let one : 1 ≤ g n = subst (λ x. 1 ≤ g x) s e in
      omega (arith, one)
]

module _ (quads : List Quadrant) where
  pub number-some : (h n : ℕ) → IsNumber quads h n → n ≢ 0 → 1 ≤ cells_under quads h n
  number-some h n is other =
      let w = some_cell quads h n is other in
      let v = cells_within quads h n in
      sum-some (2 ^ h) (λ i. count_below (2 ^ h) (cells_told quads h n i)) w.0 (v.row w.0 w.1 w.2)
      (count-some (2 ^ h) (cells_told quads h n w.0) w.1 (v.col w.0 w.1 w.2) w.2)

  number-sum : (h n : ℕ) (q : Quadrant) → q ≡ quadrant_at quads n → h ≢ 0
      → cells_under quads h n ≡ (cells_under quads (h - 1) q.nw + cells_under quads (h - 1) q.ne) + (cells_under quads (h - 1) q.sw + cells_under quads (h - 1) q.se)
  number-sum h n q e over =
      let m = 2 ^ (h - 1) in
      let t = cells_told quads (h - 1) in
      let up : suc (h - 1) ≡ h = omega (arith, over) in
      let side : 2 ^ h ≡ m + m = sym (two-halves (h - 1) ∙ ap (λ (x : ℕ). 2 ^ x) up) in
      ap (λ (x : ℕ). cells_count x x (cells_told quads h n)) side
      ∙ (ap (cells_count (m + m) (m + m)) (parts-cells quads h n q e over) ∙ cells_count-quartered m (t q.nw) (t q.ne) (t q.sw) (t q.se))

  -- ---- the nodes of four quarters and of their corner
  room-four : (a b c d n t : ℕ) → n ≡ (a + b) + (c + d) → 1 ≤ n
      → listed_room a t + (listed_room b t + (listed_room c t + (listed_room d t + 3))) ≤ listed_room n (t + 1)
  room-four a b c d n t e some =
      let x : ℕ = 3 * t + 1 in
      let y : 3 * (t + 1) + 1 ≡ x + 3 = omega arith in
      let f : n * (3 * (t + 1) + 1) ≡ ((a + b) + (c + d)) * (x + 3) = ap (λ k. k * (3 * (t + 1) + 1)) e ∙ ap (λ k. ((a + b) + (c + d)) * k) y in
      let g : ((a + b) + (c + d)) * (x + 3) ≡ ((a + b) + (c + d)) * x + ((a + b) + (c + d)) * 3 = omega arith in
      let h = distrib (a + b) (c + d) x in
      let i = distrib a b x in
      let j = distrib c d x in
      omega (arith, e, some, f, g, h, i, j)
    where
      distrib : (a b x : ℕ) → (a + b) * x ≡ a * x + b * x
      distrib a b x = omega arith

  -- the nodes of four quarters and their corner are within those of the square: it has the quarters' cells and one at
  -- least, and each of them brings room for three nodes more at the square's height
  pub room-parts : (h least n : ℕ) (q : Quadrant) → q ≡ quadrant_at quads n → IsNumber quads h n → n ≢ 0 → least < h
      → listed_room (cells_under quads (h - 1) q.nw) (h - 1 - least) + (listed_room (cells_under quads (h - 1) q.ne) (h - 1 - least)
      + (listed_room (cells_under quads (h - 1) q.sw) (h - 1 - least) + (listed_room (cells_under quads (h - 1) q.se) (h - 1 - least) + 3)))
      ≤ listed_room (cells_under quads h n) (h - least)
  room-parts h least n q e is other over =
      let s = number-sum h n q e (λ z. omega (arith, z, over)) in
      let some = number-some h n is other in
      let up : (h - 1 - least) + 1 ≡ h - least = omega (arith, over) in
      let r = room-four (cells_under quads (h - 1) q.nw) (cells_under quads (h - 1) q.ne) (cells_under quads (h - 1) q.sw) (cells_under quads (h - 1) q.se) (cells_under quads h n) (h - 1 - least) s some in
      subst (λ (k : ℕ). listed_room (cells_under quads (h - 1) q.nw) (h - 1 - least) + (listed_room (cells_under quads (h - 1) q.ne) (h - 1 - least)
      + (listed_room (cells_under quads (h - 1) q.sw) (h - 1 - least) + (listed_room (cells_under quads (h - 1) q.se) (h - 1 - least) + 3)))
      ≤ listed_room (cells_under quads h n) k) up r

  -- the node of a leaf
  pub room-leaf : (h n d : ℕ) → IsNumber quads h n → n ≢ 0 → 1 ≤ listed_room (cells_under quads h n) d
  room-leaf h n d is other =
      let some = number-some h n is other in
      let p : 1 * 1 ≤ cells_under quads h n * (3 * d + 1) = mul-le 1 1 (cells_under quads h n) (3 * d + 1) some (omega arith) in
      omega (arith, p)

  -- ---- the pairs of a relation
  pub root-pairs : (rows cols number : ℕ) → IsSound quads rows cols number → cells_under quads (file_height rows cols) number ≡ length (relation_at quads rows cols number).pairs
  root-pairs rows cols number s =
      let h = file_height rows cols in
      let f = cells_told quads h number in
      let up = file_height-over rows cols in
      let r : rows ≤ 2 ^ h = subst (λ k. rows ≤ 2 ^ k) (sym up) (height_over-rows 1 rows cols s.row_limit) in
      let c : cols ≤ 2 ^ h = subst (λ k. cols ≤ 2 ^ k) (sym up) (height_over-cols 1 rows cols s.col_limit) in
      let e = rows-relation_of rows cols f in
      let g = cols-relation_of rows cols f in
      sym (pairs-count (relation_of rows cols f) (2 ^ h) (IsRelation-relation_of rows cols f) (omega (arith, e, r)) (omega (arith, g, c))
      ∙ ap (cells_count (2 ^ h) (2 ^ h)) (has-cells rows cols f s.inside))
