-- Quads that are built from the leaves upwards: their corner has the cells of the square, and the nodes are few.
use Rattle.std.proofs.Common.{◌≡◌, ◌==◌, ◌&&◌, ◌||◌, ltb, inl, inr, ◌≢◌, ◌<◌, ◌≤◌, ◌+◌, ◌-◌, ◌*◌, ◌^◌, ℕ, Bool, true, false, cond, List, [], ◌∷◌, length, refl, sym, ap, ◌∙◌, subst, arith, Some}
use Rattle.std.specs.List.{AllByRecursion}
use Rattle.std.proofs.lemmas.Nat.{mul-le}
use Rattle.std.proofs.lemmas.Bool.{cases_lt, lt-ltb, ne_eqb}
use Rattle.rel_model.specs.Cells.{Cells, no_cells}
use Rattle.rel_model.specs.Listed.{is_among, AreWithin}
use Rattle.rel_model.specs.Trees.{top_height}
use Rattle.rel_model.specs.Worker.{Worker, GivesQuad, listed_room}
use Rattle.rel_model.proofs.TreeLaws.{same_cells}
use Rattle.rel_steps.proofs.Given.{AreParts}
use Rattle.run_model.specs.Files.{whole, number_of_bit}
use Rattle.k2_file.specs.Rests.{behind, pairs_below, count_below, AreThere, cells_of_part, cells_inside, rests_at, MovesOn}
use Rattle.k2_file.proofs.ReadRests.{count-some}
use Rattle.k2_file.proofs.ReadStarts.{pairs-within, length-rests}
use Rattle.k2_file.proofs.ReadPlaces.{IsAtGroup}
use Rattle.k2_file.proofs.ReadQuarters.{IsWithin, four-quartered, square-asked, group-count, pairs-none}

-- a square that has no cell
pub none-built : (w : Worker) (h : ℕ) (rests : List (List Bool)) → w.quad (record { height = h; name = 0 }) ≡ Some no_cells
    → GivesQuad w h (cells_of_part false rests) (record { height = h; name = 0 })
none-built w h rests e = record { means = e ∙ ap Some (sym (ap (λ ps. λ i j. is_among ps i j) (pairs-none rests))); same_height = refl }

-- ---- how many nodes
distrib : (a b x : ℕ) → (a + b) * x ≡ a * x + b * x
distrib a b x = omega arith

room-of-four : (a b c d n t : ℕ) → n ≡ a + (b + (c + d)) → 0 < n → t ≢ 0
    → listed_room a (t - 1) + (listed_room b (t - 1) + (listed_room c (t - 1) + (listed_room d (t - 1) + 3))) ≤ listed_room n t
room-of-four a b c d n t e some over =
    let x : ℕ = 3 * (t - 1) + 1 in
    let y : 3 * t + 1 ≡ x + 3 = omega (arith, over) in
    let f : n * (3 * t + 1) ≡ (a + (b + (c + d))) * (x + 3) = ap (λ k. k * (3 * t + 1)) e ∙ ap (λ k. (a + (b + (c + d))) * k) y in
    let g : (a + (b + (c + d))) * (x + 3) ≡ (a + (b + (c + d))) * x + (a + (b + (c + d))) * 3 = omega arith in
    let h = distrib a (b + (c + d)) x in
    let i = distrib b (c + d) x in
    let j = distrib c d x in
    omega (arith, e, some, f, g, h, i, j)

-- the nodes of a square's quarters and of their corner
pub square-room : (least : ℕ) {tree cells : List Bool} {places b0 : List ℕ} {height : ℕ} {a b c d : Bool}
    {xs : List Bool} {r1 r2 r3 : List (List Bool)} → IsAtGroup tree cells places b0 height a b c d xs
    → AreThere 1 (rests_at tree cells places)
    → least < height → r1 ≡ behind (number_of_bit a) (rests_at tree cells b0) → r2 ≡ behind (number_of_bit b) r1
    → r3 ≡ behind (number_of_bit c) r2
    → listed_room (count_below (number_of_bit a) (rests_at tree cells b0)) (height - 1 - least)
    + (listed_room (count_below (number_of_bit b) r1) (height - 1 - least)
    + (listed_room (count_below (number_of_bit c) r2) (height - 1 - least)
    + (listed_room (count_below (number_of_bit d) r3) (height - 1 - least) + 3)))
    ≤ listed_room (count_below 1 (rests_at tree cells places)) (height - least)
square-room least {tree} {cells} {places} {b0} {height} {a} {b} {c} {d} {xs} {r1} {r2} {r3} g there over e1 e2 e3 =
    let r0 = rests_at tree cells b0 in
    let all = count_below 1 (rests_at tree cells places) in
    let n : all ≡ count_below (number_of_bit a) r0 + (count_below (number_of_bit b) r1
    + (count_below (number_of_bit c) r2 + count_below (number_of_bit d) r3)) =
    ap (count_below 1) g.rests ∙ group-count a b c d xs r0 r1 r2 r3 e1 e2 e3 in
    let s = count-some 1 (rests_at tree cells places) there in
    let e : height - least - 1 ≡ height - 1 - least = omega (arith, over) in
    subst (λ (k : ℕ). listed_room (count_below (number_of_bit a) r0) k
    + (listed_room (count_below (number_of_bit b) r1) k
    + (listed_room (count_below (number_of_bit c) r2) k + (listed_room (count_below (number_of_bit d) r3) k + 3)))
    ≤ listed_room all (height - least)) e
    (room-of-four (count_below (number_of_bit a) r0) (count_below (number_of_bit b) r1)
    (count_below (number_of_bit c) r2)
    (count_below (number_of_bit d) r3) all (height - least) n (omega (arith, s)) (omega (arith, over)))

-- the node of a leaf
pub some-room : (n d : ℕ) → 1 ≤ n → 1 ≤ listed_room n d
some-room n d l = let p : 1 * 1 ≤ n * (3 * d + 1) = mul-le 1 1 n (3 * d + 1) l (omega arith) in omega (arith, p)

-- heights
pub high-top : (h : ℕ) → h ≤ 24 → h ≤ top_height
unfolding top_height
high-top h l = l

pub below-top : (h : ℕ) → h < 24 → h < top_height
unfolding top_height
below-top h l = l

-- a leaf has the cells of its square, where they lie within it
inside-itself : (m : ℕ) (f : Cells) → IsWithin m f → cells_inside m f ≡ f
inside-itself m f w = same_cells _ _ (λ i j. elim (cases_lt i m) [
  | inl x ↦ elim (cases_lt j m) [
    | inl y ↦ (let s = lt-ltb i m x in let t = lt-ltb j m y in both (ltb i m) (ltb j m) (f i j) s t)
    | inr y ↦ none (ltb i m) (ltb j m) (f i j) (w.col i j y)
  ]
  | inr x ↦ none (ltb i m) (ltb j m) (f i j) (w.row i j x)
])
  where
    both : (s t b : Bool) → s ≡ true → t ≡ true → (s && (t && b)) ≡ b
    both s t b p q = rw (p, q) refl

    none : (s t b : Bool) → b ≡ false → (s && (t && b)) ≡ b
    none true true b p = refl
    none true false b p = sym p
    none false t b p = sym p

-- listed pairs of a square have no cell outside it, by induction: no pair is in a row or a column from m on
among-within : (m : ℕ) (ps : List (ℕ × ℕ)) → AreWithin m m ps → IsWithin m (is_among ps)
among-within m [] h = record { row = λ i j l. refl; col = λ i j l. refl }
among-within m (p ∷ ps) h =
    let w = among-within m ps h.1 in
    record {
      row = λ i j l. out-row (p.0 == i) (p.1 == j) (is_among ps i j) (ne_eqb p.0 i (λ e. apart p.0 i e h.0.0 l)) (w.row i j l);
      col = λ i j l. out-col (p.0 == i) (p.1 == j) (is_among ps i j) (ne_eqb p.1 j (λ e. apart p.1 j e h.0.1 l)) (w.col i j l);
    }
  where
    apart : (x i : ℕ) → x ≡ i → x < m → m ≤ i → ⊥
    apart x i e a b = omega (arith, e, a, b)

    out-row : (a b c : Bool) → a ≡ false → c ≡ false → ((a && b) || c) ≡ false
    out-row a b c e d = rw (e, d) refl

    out-col : (a b c : Bool) → b ≡ false → c ≡ false → ((a && b) || c) ≡ false
    out-col true b c e d = rw (e, d) refl
    out-col false b c e d = d

part-within : (b : Bool) (rests : List (List Bool)) → IsWithin (2 ^ length rests) (cells_of_part b rests)
part-within b rests = among-within (2 ^ length rests) (pairs_below (cond b whole []) rests) (pairs-within (2 ^ length rests) (2 ^ length rests) rests (cond b whole []) (start b))
  where
    start : (b : Bool) → AllByRecursion (λ p. (p.0 + 2 ^ length rests ≤ 2 ^ length rests) × (p.1 + 2 ^ length rests ≤ 2 ^ length rests)) (cond b whole [])
    start true = ((omega arith, omega arith), tt)
    start false = tt

within-at : (h : ℕ) (b : Bool) (rests : List (List Bool)) → length rests ≡ h → IsWithin (2 ^ h) (cells_of_part b rests)
within-at h b rests e = subst (λ (n : ℕ). IsWithin (2 ^ n) (cells_of_part b rests)) e (part-within b rests)

-- where the square is as high as the rests, its cells lie within it
pub part-inside : (h : ℕ) (b : Bool) (rests : List (List Bool)) → length rests ≡ h → cells_inside (2 ^ h) (cells_of_part b rests) ≡ cells_of_part b rests
part-inside h b rests e = inside-itself (2 ^ h) (cells_of_part b rests) (within-at h b rests e)

-- the cells of a square are those of its quarters, each in its place, since none has a cell outside its own square
pub square-parts : {tree cells : List Bool} {places b0 b1 b2 b3 : List ℕ} {height : ℕ} {a b c d : Bool} {xs : List Bool}
    → IsAtGroup tree cells places b0 height a b c d xs → MovesOn tree cells (number_of_bit a) b0 b1
    → MovesOn tree cells (number_of_bit b) b1 b2 → MovesOn tree cells (number_of_bit c) b2 b3
    → AreParts height (cells_of_part true (rests_at tree cells places)) (height - 1)
    (cells_of_part a (rests_at tree cells b0)) (cells_of_part b (rests_at tree cells b1))
    (cells_of_part c (rests_at tree cells b2)) (cells_of_part d (rests_at tree cells b3))
square-parts {tree} {cells} {places} {b0} {b1} {b2} {b3} {height} {a} {b} {c} {d} {xs} g m1 m2 m3 =
    let h = height - 1 in
    let l0 : length (rests_at tree cells b0) ≡ h = omega (arith, g.many, length-rests tree cells b0) in
    let l1 : length (rests_at tree cells b1) ≡ h = omega (arith, g.many, m1.many, length-rests tree cells b1) in
    let l2 : length (rests_at tree cells b2) ≡ h =
    omega (arith, g.many, m1.many, m2.many, length-rests tree cells b2) in
    let l3 : length (rests_at tree cells b3) ≡ h =
    omega (arith, g.many, m1.many, m2.many, m3.many, length-rests tree cells b3) in
    record {
      next = omega (arith, g.many);
      means = sym (four-quartered (2 ^ h) _ _ _ _ (within-at h a _ l0) (within-at h b _ l1) (within-at h c _ l2)
          (within-at h d _ l3))
          ∙ sym (square-asked a b c d xs (rests_at tree cells b0) (rests_at tree cells b1) (rests_at tree cells b2)
          (rests_at tree cells b3)
          (2 ^ h) m1.rests m2.rests m3.rests (ap (λ (n : ℕ). 2 ^ n) (sym l0)))
          ∙ ap (cells_of_part true) (sym g.rests);
    }

-- no cell of a square that has none lies within a side
pub none-inside : (w : Worker) (h low : ℕ) (b : Bool) (rests : List (List Bool)) → h ≡ low → b ≡ false → w.quad (record { height = low; name = 0 }) ≡ Some no_cells
    → GivesQuad w h (cells_inside (2 ^ h) (cells_of_part b rests)) (record { height = low; name = 0 })
none-inside w h low b rests e f q = record {
  means = q ∙ ap Some (same_cells _ _ (λ i j. sym (ap (λ ps. ltb i (2 ^ h) && (ltb j (2 ^ h) && is_among ps i j)) (ap (λ t. pairs_below (cond t whole []) rests) f ∙ pairs-none rests) ∙ none (ltb i (2 ^ h)) (ltb j (2 ^ h)))));
  same_height = sym e;
}
  where
    none : (s t : Bool) → (s && (t && false)) ≡ false
    none true true = refl
    none true false = refl
    none false t = refl
