-- A square by its four quarters: the pairs below it, how many they are, and what is behind it.
-- 1. The group of a square tells which quarters are read; each is read from what the quarters before it left.
-- 2. The pairs of a submatrix are those of the whole matrix, moved to it.
-- 3. So the cells of a square are those of its quarters, each in its place.
use Rattle.std.proofs.Common.{◌≡◌, ◌==◌, ◌&&◌, ◌||◌, ◌+◌, ◌-◌, ◌^◌, ◌<◌, ◌≤◌, leb, ℕ, Bool, true, false, cond, List, [], ◌∷◌, ◌++◌, length, map, refl, sym, ap, ◌∙◌, subst, inl, inr, arith}
use Rattle.std.specs.List.{flat_map}
use Rattle.std.proofs.lemmas.List.Folds.{list_any-append}
use Rattle.std.proofs.lemmas.Bool.{cases_lt, lt-ltb, le-ltb, le-leb, lt-leb}
use Rattle.std.proofs.lemmas.Bool.Decides.{nat_tests}
use Rattle.rel_model.specs.Cells.{Cells}
use Rattle.rel_model.specs.Trees.{quartered}
use Rattle.rel_model.specs.Listed.{is_among}
use Rattle.rel_model.proofs.TreeLaws.{same_cells}
use Rattle.run_model.specs.Files.{Corner, whole, quarters, chosen, number_of_bit}
use Rattle.k2_file.specs.Rests.{behind, pairs_below, count_below, AreThere, cells_of_part}
use Rattle.k2_file.proofs.ReadRests.{pairs-append, behind-add, count-add, there-split}

-- a submatrix where its bit is set
abbrev pub part_at : Bool → Corner → List Corner
part_at b p = cond b (p ∷ []) []

length-part : (b : Bool) (p : Corner) → length (part_at b p) ≡ number_of_bit b
length-part true p = refl
length-part false p = refl

chosen-part : (b : Bool) (p : Corner) (ps : List Corner) → cond b (p ∷ ps) ps ≡ part_at b p ++ ps
chosen-part true p ps = refl
chosen-part false p ps = refl

pub pairs-none : (rests : List (List Bool)) → pairs_below [] rests ≡ []
pairs-none [] = refl
pairs-none (bits ∷ rests) = pairs-none rests

-- four bits choose among the quarters of a submatrix, each for its own
chosen-four : (side : ℕ) (p : Corner) (a b c d : Bool) (xs : List Bool)
    → chosen (flat_map (quarters side) (p ∷ [])) (a ∷ b ∷ c ∷ d ∷ xs)
    ≡ part_at a p ++ (part_at b (p.0, p.1 + side) ++ (part_at c (p.0 + side, p.1) ++ part_at d (p.0 + side, p.1 + side)))
chosen-four side p true true true true xs = refl
chosen-four side p true true true false xs = refl
chosen-four side p true true false true xs = refl
chosen-four side p true true false false xs = refl
chosen-four side p true false true true xs = refl
chosen-four side p true false true false xs = refl
chosen-four side p true false false true xs = refl
chosen-four side p true false false false xs = refl
chosen-four side p false true true true xs = refl
chosen-four side p false true true false xs = refl
chosen-four side p false true false true xs = refl
chosen-four side p false true false false xs = refl
chosen-four side p false false true true xs = refl
chosen-four side p false false true false xs = refl
chosen-four side p false false false true xs = refl
chosen-four side p false false false false xs = refl

-- a group, and the rests of the levels below it as its quarters leave them
module _ (a b c d : Bool) (xs : List Bool) (r0 r1 r2 r3 : List (List Bool)) (e1 : r1 ≡ behind (number_of_bit a) r0) (e2 : r2 ≡ behind (number_of_bit b) r1)
    (e3 : r3 ≡ behind (number_of_bit c) r2) where
  abbrev group : List Bool
  group = a ∷ b ∷ c ∷ d ∷ xs

  no_more : number_of_bit d + 0 ≡ number_of_bit d
  no_more = omega arith

  pub group-behind : (r4 : List (List Bool)) → r4 ≡ behind (number_of_bit d) r3 → behind 1 (group ∷ r0) ≡ xs ∷ r4
  group-behind r4 e4 =
      ap (λ rs. xs ∷ rs) (
      behind-add (number_of_bit a) (number_of_bit b + (number_of_bit c + (number_of_bit d + 0))) r0
      ∙ ap (behind (number_of_bit b + (number_of_bit c + (number_of_bit d + 0)))) (sym e1)
      ∙ behind-add (number_of_bit b) (number_of_bit c + (number_of_bit d + 0)) r1
      ∙ ap (behind (number_of_bit c + (number_of_bit d + 0))) (sym e2)
      ∙ behind-add (number_of_bit c) (number_of_bit d + 0) r2
      ∙ ap (behind (number_of_bit d + 0)) (sym e3)
      ∙ ap (λ (n : ℕ). behind n r3) no_more ∙ sym e4)

  -- below a group are as many as below its quarters, each counted in what those before it left
  pub group-count : count_below 1 (group ∷ r0)
      ≡ count_below (number_of_bit a) r0 + (count_below (number_of_bit b) r1 + (count_below (number_of_bit c) r2 + count_below (number_of_bit d) r3))
  group-count =
      let na = count_below (number_of_bit a) r0 in
      let nb = count_below (number_of_bit b) r1 in
      let nc = count_below (number_of_bit c) r2 in
      count-add (number_of_bit a) (number_of_bit b + (number_of_bit c + (number_of_bit d + 0))) r0
      ∙ ap (λ (n : ℕ). na + n) (
      ap (count_below (number_of_bit b + (number_of_bit c + (number_of_bit d + 0)))) (sym e1)
      ∙ count-add (number_of_bit b) (number_of_bit c + (number_of_bit d + 0)) r1
      ∙ ap (λ (n : ℕ). nb + n) (
      ap (count_below (number_of_bit c + (number_of_bit d + 0))) (sym e2)
      ∙ count-add (number_of_bit c) (number_of_bit d + 0) r2
      ∙ ap (λ (n : ℕ). nc + n) (ap (count_below (number_of_bit d + 0)) (sym e3) ∙ ap (λ (n : ℕ). count_below n r3) no_more)))

  pub group-there : AreThere 1 (group ∷ r0)
      → (AreThere (number_of_bit a) r0) × (AreThere (number_of_bit b) r1) × (AreThere (number_of_bit c) r2) × (AreThere (number_of_bit d) r3)
  group-there h =
      let s = there-split (number_of_bit a) (number_of_bit b + (number_of_bit c + (number_of_bit d + 0))) r0 h.1 in
      let t = there-split (number_of_bit b) (number_of_bit c + (number_of_bit d + 0)) r1 (subst (AreThere (number_of_bit b + (number_of_bit c + (number_of_bit d + 0)))) (sym e1) s.1) in
      let u = there-split (number_of_bit c) (number_of_bit d + 0) r2 (subst (AreThere (number_of_bit c + (number_of_bit d + 0))) (sym e2) t.1) in
      let v = subst (λ (n : ℕ). AreThere n r3) no_more (subst (AreThere (number_of_bit d + 0)) (sym e3) u.1) in
      (s.0, t.0, u.0, v)

  -- the pairs below a group are those below the quarters that it chooses, each read from what those before it left
  pub group-pairs : (side : ℕ) (p : Corner) → side ≡ 2 ^ length r0 → pairs_below (p ∷ []) (group ∷ r0)
      ≡ pairs_below (part_at a p) r0 ++ (pairs_below (part_at b (p.0, p.1 + side)) r1
      ++ (pairs_below (part_at c (p.0 + side, p.1)) r2 ++ pairs_below (part_at d (p.0 + side, p.1 + side)) r3))
  group-pairs side p e =
      let pa = part_at a p in
      let pb = part_at b (p.0, p.1 + side) in
      let pc = part_at c (p.0 + side, p.1) in
      let pd = part_at d (p.0 + side, p.1 + side) in
      ap (λ (m : ℕ). pairs_below (chosen (flat_map (quarters m) (p ∷ [])) group) r0) (sym e)
      ∙ ap (λ ps. pairs_below ps r0) (chosen-four side p a b c d xs)
      ∙ pairs-append pa (pb ++ (pc ++ pd)) r0
      ∙ ap (λ ps. pairs_below pa r0 ++ ps) (
      ap (λ rs. pairs_below (pb ++ (pc ++ pd)) rs) (ap (λ (n : ℕ). behind n r0) (length-part a p) ∙ sym e1)
      ∙ pairs-append pb (pc ++ pd) r1
      ∙ ap (λ ps. pairs_below pb r1 ++ ps) (
      ap (λ rs. pairs_below (pc ++ pd) rs) (ap (λ (n : ℕ). behind n r1) (length-part b (p.0, p.1 + side)) ∙ sym e2)
      ∙ pairs-append pc pd r2
      ∙ ap (λ ps. pairs_below pc r2 ++ ps) (ap (pairs_below pd) (ap (λ (n : ℕ). behind n r2) (length-part c (p.0 + side, p.1)) ∙ sym e3))))

-- ---- moved pairs
-- a submatrix moved down and to the right
abbrev pub moved : ℕ → ℕ → Corner → Corner
moved x y p = (x + p.0, y + p.1)

quarters-moved : (side x y : ℕ) (p : Corner) → quarters side (moved x y p) ≡ map (moved x y) (quarters side p)
quarters-moved side x y p =
    let r : x + p.0 + side ≡ x + (p.0 + side) = omega arith in
    let c : y + p.1 + side ≡ y + (p.1 + side) = omega arith in
    rw (r, c) refl

chosen-moved : (x y : ℕ) (ps : List Corner) (bits : List Bool) → chosen (map (moved x y) ps) bits ≡ map (moved x y) (chosen ps bits)
chosen-moved x y [] bits = refl
chosen-moved x y (p ∷ ps) [] = refl
chosen-moved x y (p ∷ ps) (true ∷ bits) = ap (λ qs. moved x y p ∷ qs) (chosen-moved x y ps bits)
chosen-moved x y (p ∷ ps) (false ∷ bits) = chosen-moved x y ps bits

map-both : (f : Corner → Corner) (ps qs : List Corner) → map f (ps ++ qs) ≡ map f ps ++ map f qs
map-both f [] qs = refl
map-both f (p ∷ ps) qs = ap (λ rs. f p ∷ rs) (map-both f ps qs)

all-moved : (side x y : ℕ) (ps : List Corner) → flat_map (quarters side) (map (moved x y) ps) ≡ map (moved x y) (flat_map (quarters side) ps)
all-moved side x y [] = refl
all-moved side x y (p ∷ ps) =
    ap (λ qs. qs ++ flat_map (quarters side) (map (moved x y) ps)) (quarters-moved side x y p)
    ∙ ap (λ qs. map (moved x y) (quarters side p) ++ qs) (all-moved side x y ps)
    ∙ sym (map-both (moved x y) (quarters side p) (flat_map (quarters side) ps))

pairs-moved : (x y : ℕ) (ps : List Corner) (rests : List (List Bool)) → pairs_below (map (moved x y) ps) rests ≡ map (moved x y) (pairs_below ps rests)
pairs-moved x y ps [] = refl
pairs-moved x y ps (bits ∷ rests) =
    let side = 2 ^ length rests in
    ap (λ qs. pairs_below (chosen qs bits) rests) (all-moved side x y ps)
    ∙ ap (λ qs. pairs_below qs rests) (chosen-moved x y (flat_map (quarters side) ps) bits)
    ∙ pairs-moved x y (chosen (flat_map (quarters side) ps) bits) rests

eq-moved : (x i p : ℕ) → (x + p == i) ≡ (leb x i && (p == i - x))
eq-moved x i p = grind (arith, nat_tests)

both-moved : (a b c d : Bool) → ((a && b) && (c && d)) ≡ ((a && c) && (b && d))
both-moved true b true d = refl
both-moved true true false d = refl
both-moved true false false d = refl
both-moved false b c d = refl

out-or : (a b c : Bool) → ((a && b) || (a && c)) ≡ (a && (b || c))
out-or true b c = refl
out-or false b c = refl

-- a place is among moved pairs exactly if it is not before the corner they moved to and, moved back, is among the pairs
among-moved : (x y : ℕ) (ps : List Corner) (i j : ℕ) → is_among (map (moved x y) ps) i j ≡ ((leb x i && leb y j) && is_among ps (i - x) (j - y))
among-moved x y [] i j = none (leb x i && leb y j)
  where
    none : (b : Bool) → false ≡ (b && false)
    none true = refl
    none false = refl
among-moved x y (p ∷ ps) i j =
    let here = (p.0 == i - x) && (p.1 == j - y) in
    ap (λ t. (t && (y + p.1 == j)) || is_among (map (moved x y) ps) i j) (eq-moved x i p.0)
    ∙ ap (λ t. ((leb x i && (p.0 == i - x)) && t) || is_among (map (moved x y) ps) i j) (eq-moved y j p.1)
    ∙ ap (λ t. t || is_among (map (moved x y) ps) i j) (both-moved (leb x i) (p.0 == i - x) (leb y j) (p.1 == j - y))
    ∙ ap (λ t. ((leb x i && leb y j) && here) || t) (among-moved x y ps i j)
    ∙ out-or (leb x i && leb y j) here (is_among ps (i - x) (j - y))

-- a part that is moved, as it is asked for a cell
part-asked : (b : Bool) (x y : ℕ) (rests : List (List Bool)) (i j : ℕ)
    → is_among (pairs_below (part_at b (x, y)) rests) i j ≡ ((leb x i && leb y j) && cells_of_part b rests (i - x) (j - y))
part-asked b x y rests i j =
    ap (λ ps. is_among (pairs_below ps rests) i j) (start b) ∙ ap (λ ps. is_among ps i j) (pairs-moved x y (cond b whole []) rests)
    ∙ among-moved x y (pairs_below (cond b whole []) rests) i j
  where
    start : (b : Bool) → part_at b (x, y) ≡ map (moved x y) (cond b whole [])
    start true = let r : x ≡ x + 0 = omega arith in let c : y ≡ y + 0 = omega arith in ap (λ (n : ℕ). (n, y) ∷ []) r ∙ ap (λ (n : ℕ). (x + 0, n) ∷ []) c
    start false = refl

-- ---- the cells of a square by those of its quarters
quarter-nw : (f0 f1 f2 f3 : Bool) → f1 ≡ false → f2 ≡ false → f3 ≡ false → (f0 || (f1 || (f2 || f3))) ≡ f0
quarter-nw true f1 f2 f3 p q r = refl
quarter-nw false f1 f2 f3 p q r = rw (p, q, r) refl

quarter-ne : (f0 f1 f2 f3 : Bool) → f0 ≡ false → f2 ≡ false → f3 ≡ false → (f0 || (f1 || (f2 || f3))) ≡ f1
quarter-ne f0 true f2 f3 p q r = rw p refl
quarter-ne f0 false f2 f3 p q r = rw (p, q, r) refl

quarter-sw : (f0 f1 f2 f3 : Bool) → f0 ≡ false → f1 ≡ false → f3 ≡ false → (f0 || (f1 || (f2 || f3))) ≡ f2
quarter-sw f0 f1 true f3 p q r = rw (p, q) refl
quarter-sw f0 f1 false f3 p q r = rw (p, q, r) refl

quarter-se : (f0 f1 f2 f3 : Bool) → f0 ≡ false → f1 ≡ false → f2 ≡ false → (f0 || (f1 || (f2 || f3))) ≡ f3
quarter-se f0 f1 f2 f3 p q r = rw (p, q, r) refl

asked-in : (s t b : Bool) → s ≡ true → t ≡ true → ((s && t) && b) ≡ b
asked-in s t b p q = rw (p, q) refl

asked-row : (s t b : Bool) → s ≡ false → ((s && t) && b) ≡ false
asked-row s t b p = rw p refl

asked-col : (s t b : Bool) → t ≡ false → ((s && t) && b) ≡ false
asked-col true t b p = rw p refl
asked-col false t b p = refl

asked-none : (s t b : Bool) → b ≡ false → ((s && t) && b) ≡ false
asked-none true true b p = p
asked-none true false b p = refl
asked-none false t b p = refl

-- a set has no cell past a side
pub record IsWithin (m : ℕ) (f : Cells) : Type 0 where
  pub row : (i j : ℕ) → m ≤ i → f i j ≡ false
  pub col : (i j : ℕ) → m ≤ j → f i j ≡ false

-- four quarters, each asked in its place
abbrev pub four_asked : ℕ → Cells → Cells → Cells → Cells → Cells
four_asked m f0 f1 f2 f3 i j =
    ((leb 0 i && leb 0 j) && f0 (i - 0) (j - 0)) || (((leb 0 i && leb m j) && f1 (i - 0) (j - m))
    || (((leb m i && leb 0 j) && f2 (i - m) (j - 0)) || ((leb m i && leb m j) && f3 (i - m) (j - m))))

no_move : (i : ℕ) → i - 0 ≡ i
no_move i = omega arith

first-place : (i : ℕ) → leb 0 i ≡ true
first-place i = le-leb 0 i (omega arith)

module _ (m : ℕ) (a b c e : Cells) (i j : ℕ) where
  quartered-nw : i < m → j < m → a i j ≡ quartered m a b c e i j
  quartered-nw p q = rw (lt-ltb i m p, lt-ltb j m q) refl

  quartered-ne : i < m → m ≤ j → b i (j - m) ≡ quartered m a b c e i j
  quartered-ne p q = rw (lt-ltb i m p, le-ltb j m q) refl

  quartered-sw : m ≤ i → j < m → c (i - m) j ≡ quartered m a b c e i j
  quartered-sw p q = rw (le-ltb i m p, lt-ltb j m q) refl

  quartered-se : m ≤ i → m ≤ j → e (i - m) (j - m) ≡ quartered m a b c e i j
  quartered-se p q = rw (le-ltb i m p, le-ltb j m q) refl

-- to ask all four quarters for a place, moved back to each, is to ask the one where it lies: no other has a cell there
pub four-quartered : (m : ℕ) (f0 f1 f2 f3 : Cells) → IsWithin m f0 → IsWithin m f1 → IsWithin m f2 → IsWithin m f3
    → four_asked m f0 f1 f2 f3 ≡ quartered m f0 f1 f2 f3
four-quartered m f0 f1 f2 f3 w0 w1 w2 w3 = same_cells _ _ (λ i j.
    let z = no_move i in
    let y = no_move j in
    let a = leb 0 i in
    let b = leb 0 j in
    let s = leb m i in
    let t = leb m j in
    let g0 = f0 (i - 0) (j - 0) in
    let g1 = f1 (i - 0) (j - m) in
    let g2 = f2 (i - m) (j - 0) in
    let g3 = f3 (i - m) (j - m) in
    let x0 : Bool = (a && b) && g0 in
    let x1 : Bool = (a && t) && g1 in
    let x2 : Bool = (s && b) && g2 in
    let x3 : Bool = (s && t) && g3 in
    elim (cases_lt i m) [
      | inl p ↦ elim (cases_lt j m) [
        | inl q ↦ quarter-nw x0 x1 x2 x3 (asked-col a t g1 (lt-leb m j q)) (asked-row s b g2 (lt-leb m i p)) (asked-row s t g3 (lt-leb m i p))
            ∙ asked-in a b g0 (first-place i) (first-place j) ∙ ap (λ (n : ℕ). f0 n (j - 0)) z ∙ ap (λ (n : ℕ). f0 i n) y
            ∙ quartered-nw m f0 f1 f2 f3 i j p q
        | inr q ↦ quarter-ne x0 x1 x2 x3 (asked-none a b g0 (w0.col (i - 0) (j - 0) (omega arith))) (asked-row s b g2 (lt-leb m i p)) (asked-row s t g3 (lt-leb m i p))
            ∙ asked-in a t g1 (first-place i) (le-leb m j q) ∙ ap (λ (n : ℕ). f1 n (j - m)) z
            ∙ quartered-ne m f0 f1 f2 f3 i j p q
      ]
      | inr p ↦ elim (cases_lt j m) [
        | inl q ↦ quarter-sw x0 x1 x2 x3 (asked-none a b g0 (w0.row (i - 0) (j - 0) (omega arith))) (asked-col a t g1 (lt-leb m j q)) (asked-col s t g3 (lt-leb m j q))
            ∙ asked-in s b g2 (le-leb m i p) (first-place j) ∙ ap (λ (n : ℕ). f2 (i - m) n) y
            ∙ quartered-sw m f0 f1 f2 f3 i j p q
        | inr q ↦ quarter-se x0 x1 x2 x3 (asked-none a b g0 (w0.row (i - 0) (j - 0) (omega arith))) (asked-none a t g1 (w1.row (i - 0) (j - m) (omega arith)))
            (asked-none s b g2 (w2.col (i - m) (j - 0) (omega arith)))
            ∙ asked-in s t g3 (le-leb m i p) (le-leb m j q)
            ∙ quartered-se m f0 f1 f2 f3 i j p q
      ]
    ])

-- the cells of a square are those of its quarters, asked in their places
pub square-asked : (a b c d : Bool) (xs : List Bool) (r0 r1 r2 r3 : List (List Bool)) (m : ℕ) → r1 ≡ behind (number_of_bit a) r0 → r2 ≡ behind (number_of_bit b) r1
    → r3 ≡ behind (number_of_bit c) r2 → m ≡ 2 ^ length r0
    → cells_of_part true ((a ∷ b ∷ c ∷ d ∷ xs) ∷ r0)
    ≡ four_asked m (cells_of_part a r0) (cells_of_part b r1) (cells_of_part c r2) (cells_of_part d r3)
square-asked a b c d xs r0 r1 r2 r3 m e1 e2 e3 e = same_cells _ _ (λ i j.
    let p0 = pairs_below (part_at a (0, 0)) r0 in
    let p1 = pairs_below (part_at b (0, m)) r1 in
    let p2 = pairs_below (part_at c (m, 0)) r2 in
    let p3 = pairs_below (part_at d (m, m)) r3 in
    let z : 0 + m ≡ m = omega arith in
    let test : Corner → Bool = λ q. (q.0 == i) && (q.1 == j) in
    ap (λ ps. is_among ps i j) (group-pairs a b c d xs r0 r1 r2 r3 e1 e2 e3 m (0, 0) e)
    ∙ ap (λ (n : ℕ). is_among (p0 ++ (pairs_below (part_at b (0, n)) r1 ++ (pairs_below (part_at c (n, 0)) r2 ++ pairs_below (part_at d (n, n)) r3))) i j) z
    ∙ list_any-append test p0 (p1 ++ (p2 ++ p3))
    ∙ ap (λ t. is_among p0 i j || t) (list_any-append test p1 (p2 ++ p3))
    ∙ ap (λ t. is_among p0 i j || (is_among p1 i j || t)) (list_any-append test p2 p3)
    ∙ ap (λ t. t || (is_among p1 i j || (is_among p2 i j || is_among p3 i j))) (part-asked a 0 0 r0 i j)
    ∙ ap (λ t. asks0 i j || (t || (is_among p2 i j || is_among p3 i j))) (part-asked b 0 m r1 i j)
    ∙ ap (λ t. asks0 i j || (asks1 i j || (t || is_among p3 i j))) (part-asked c m 0 r2 i j)
    ∙ ap (λ t. asks0 i j || (asks1 i j || (asks2 i j || t))) (part-asked d m m r3 i j))
  where
    asks0 : ℕ → ℕ → Bool
    asks0 i j = (leb 0 i && leb 0 j) && cells_of_part a r0 (i - 0) (j - 0)

    asks1 : ℕ → ℕ → Bool
    asks1 i j = (leb 0 i && leb m j) && cells_of_part b r1 (i - 0) (j - m)

    asks2 : ℕ → ℕ → Bool
    asks2 i j = (leb m i && leb 0 j) && cells_of_part c r2 (i - m) (j - 0)
