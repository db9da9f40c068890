-- The relation of a tree's cells is the relation whose tree it is, and no cell is outside its sizes.
-- 1. A cell that has a pair is the place of the pair, which lies within the sizes.
-- 2. Each pair is within the whole matrix, and so among the cells: those that have a pair are the places of the pairs.
-- 3. The whole matrix is the one group of the first level where it has a pair, and then there are bits; else there is none.
use Rattle.std.proofs.Common.{◌≡◌, ◌==◌, ◌&&◌, ◌||◌, ◌+◌, ◌*◌, ◌^◌, ◌<◌, ◌≤◌, ℕ, zero, suc, Bool, true, false, cond, not, leb, ltb, List, [], ◌∷◌, length, map, take, Some, None, refl, sym, ap, ◌∙◌, inl, inr, arith}
use Rattle.std.specs.List.{filter, list_any, AllByRecursion}
use Rattle.std.proofs.lemmas.Bool.{cases_Bool, and_parts, and_from, false≢true, eqb-true, eq-eqb, lt-ltb, both_ways, false_from_ne_true, leb-true}
use Rattle.rel_model.specs.Relation.{Relation, IsRelation, has, relation_of, size_limit}
use Rattle.rel_model.specs.Listed.{is_among}
use Rattle.rel_model.specs.Worker.{height_of}
use Rattle.rel_model.proofs.Relations.{of_itself, relation_of-agree}
use Rattle.rel_model.proofs.Heights.{height_of-covers}
use Rattle.std.proofs.Math.Nat.{pow-le-pow_right}
use Rattle.run_model.specs.Files.{Corner, whole, meets, inner_bits, cell_bits, levels_fit, cell_outside, file_height}
use Rattle.k2_file.specs.Told.{groups_of}
use Rattle.k2_file.proofs.ReadLevels.{fit-most}
use Rattle.k2_file.proofs.LawTree.{level, below, lies, lies-in, in-lies, find-any, any-quarter, any-filter, all-filter-passes, fit-tree, in-below}

-- one that a test finds, with what holds of all
pub any-all : (f : Corner → Bool) (P : Corner → Type 0) (xs : List Corner) → AllByRecursion P xs → list_any f xs ≡ true → (x : Corner) × (f x ≡ true) × P x
any-all f P [] a h = absurd (false≢true h)
any-all f P (x ∷ xs) a h = elim (cases_Bool (f x)) [
  | inl t ↦ (x, t, a.0)
  | inr t ↦ any-all f P xs a.1 (ap (λ b. b || list_any f xs) (sym t) ∙ h)
]

-- ---- no cell is outside
cell-inside : (rows cols : ℕ) (r : Relation) → AllByRecursion (λ p. (p.0 < rows) × (p.1 < cols)) r.pairs → (c : Corner) → meets r 1 c ≡ true → (ltb c.0 rows && ltb c.1 cols) ≡ true
cell-inside rows cols r v c h =
    let w = any-all (lies 1 c) (λ p. (p.0 < rows) × (p.1 < cols)) r.pairs v h in
    let x = w.0 in
    let t = lies-in 1 c x w.1 in
    let a : c.0 < rows = omega (arith, t.south, w.2.0) in
    let b : c.1 < cols = omega (arith, t.east, w.2.1) in
    and_from (ltb c.0 rows) (ltb c.1 cols) (lt-ltb c.0 rows a) (lt-ltb c.1 cols b)

-- no cell that has a pair is outside the sizes, by induction on the cells: it is the place of that pair
pub outside-tree : (rows cols : ℕ) (r : Relation) → AllByRecursion (λ p. (p.0 < rows) × (p.1 < cols)) r.pairs → (cs : List Corner) (at : ℕ)
    → cell_outside rows cols at cs (map (meets r 1) cs) ≡ None
outside-tree rows cols r v [] at = refl
outside-tree rows cols r v (c ∷ cs) at =
    let rest = cell_outside rows cols (at + 1) cs (map (meets r 1) cs) in
    let inside = ltb c.0 rows && ltb c.1 cols in
    elim (cases_Bool (meets r 1 c)) [
      | inl t ↦ ap (λ b. cond (b && not inside) (Some at) rest) t ∙ ap (λ b. cond (not b) (Some at) rest) (cell-inside rows cols r v c t) ∙ outside-tree rows cols r v cs (at + 1)
      | inr t ↦ ap (λ b. cond (b && not inside) (Some at) rest) t ∙ outside-tree rows cols r v cs (at + 1)
    ]

-- ---- the relation of the cells
-- the test of a place
abbrev pub place : ℕ → ℕ → Corner → Bool
place i j p = (p.0 == i) && (p.1 == j)

-- a cell at a place in which a pair is
cell-meets : (r : Relation) (i j : ℕ) (s : Corner) → has r i j ≡ true → place i j s ≡ true → meets r 1 s ≡ true
cell-meets r i j s h e =
    let w = find-any (place i j) r.pairs h in
    let t = and_parts (s.0 == i) (s.1 == j) e in
    let u = and_parts (w.one.0 == i) (w.one.1 == j) w.passes in
    let a = eqb-true s.0 i t.0 in
    let b = eqb-true s.1 j t.1 in
    let c = eqb-true w.one.0 i u.0 in
    let d = eqb-true w.one.1 j u.1 in
    w.others (lies 1 s) (in-lies 1 s w.one (record { south = omega (arith, a, c); north = omega (arith, a, c); east = omega (arith, b, d); west = omega (arith, b, d) }))

meets-cell : (r : Relation) (i j : ℕ) (s : Corner) → meets r 1 s ≡ true → place i j s ≡ true → has r i j ≡ true
meets-cell r i j s h e =
    let w = find-any (lies 1 s) r.pairs h in
    let t = and_parts (s.0 == i) (s.1 == j) e in
    let a = eqb-true s.0 i t.0 in
    let b = eqb-true s.1 j t.1 in
    let v = lies-in 1 s w.one w.passes in
    let c : w.one.0 ≡ i = omega (arith, v.south, v.north, a) in
    let d : w.one.1 ≡ j = omega (arith, v.east, v.west, b) in
    w.others (place i j) (and_from (w.one.0 == i) (w.one.1 == j) (eq-eqb w.one.0 i c) (eq-eqb w.one.1 j d))

pub lies-place : (i j : ℕ) (s : Corner) → lies 1 s (i, j) ≡ true → place i j s ≡ true
lies-place i j s h =
    let v = lies-in 1 s (i, j) h in
    let a : s.0 ≡ i = omega (arith, v.south, v.north) in
    let b : s.1 ≡ j = omega (arith, v.east, v.west) in
    and_from (s.0 == i) (s.1 == j) (eq-eqb s.0 i a) (eq-eqb s.1 j b)

among-has : (r : Relation) (cs : List Corner) → ((i j : ℕ) → has r i j ≡ true → list_any (λ s. lies 1 s (i, j)) cs ≡ true) → (i j : ℕ)
    → is_among (filter (meets r 1) cs) i j ≡ has r i j
among-has r cs cover i j = elim (cases_Bool (has r i j)) [
  | inl t ↦ any-filter (meets r 1) (place i j) (λ s e. cell-meets r i j s t e) cs (any-quarter (λ s. lies 1 s (i, j)) (place i j) (λ s e. lies-place i j s e) cs (cover i j t)) ∙ sym t
  | inr t ↦ false_from_ne_true (is_among (filter (meets r 1) cs) i j) (λ e. both_ways (has r i j) t (back e)) ∙ sym t
]
  where
    back : is_among (filter (meets r 1) cs) i j ≡ true → has r i j ≡ true
    back e =
        let w = any-all (place i j) (λ s. meets r 1 s ≡ true) (filter (meets r 1) cs) (all-filter-passes (meets r 1) cs) e in
        meets-cell r i j w.0 w.2 w.1

pub relation-tree : (r : Relation) → IsRelation r → (cs : List Corner) → ((i j : ℕ) → has r i j ≡ true → list_any (λ s. lies 1 s (i, j)) cs ≡ true)
    → relation_of r.rows r.cols (is_among (filter (meets r 1) cs)) ≡ r
relation-tree r v cs cover =
    relation_of-agree r.rows r.cols (is_among (filter (meets r 1) cs)) (has r) (λ i j a b. among-has r cs cover i j) ∙ sym (of_itself r v)

-- ---- the whole matrix
pub height-rows : (rows cols : ℕ) → rows ≤ size_limit → rows ≤ 2 ^ file_height rows cols
unfolding file_height
height-rows rows cols l =
    let a = height_of-covers rows l in
    let b : 2 ^ height_of rows ≤ 2 ^ file_height rows cols = pow-le-pow_right {n = 2} (omega arith) {i = height_of rows} {j = file_height rows cols} (omega arith) in
    omega (arith, a, b)

pub height-cols : (rows cols : ℕ) → cols ≤ size_limit → cols ≤ 2 ^ file_height rows cols
unfolding file_height
height-cols rows cols l =
    let a = height_of-covers cols l in
    let b : 2 ^ height_of cols ≤ 2 ^ file_height rows cols = pow-le-pow_right {n = 2} (omega arith) {i = height_of cols} {j = file_height rows cols} (omega arith) in
    omega (arith, a, b)

-- each pair of a relation within a square is among the cells below the square
pub cover-whole : (r : Relation) (k : ℕ) → AllByRecursion (λ p. (p.0 < r.rows) × (p.1 < r.cols)) r.pairs → r.rows ≤ 2 ^ suc k → r.cols ≤ 2 ^ suc k
    → (i j : ℕ) → has r i j ≡ true → list_any (λ s. lies 1 s (i, j)) (below r k whole) ≡ true
cover-whole r k v a b i j h =
    let w = any-all (place i j) (λ p. (p.0 < r.rows) × (p.1 < r.cols)) r.pairs v h in
    let t = and_parts (w.0.0 == i) (w.0.1 == j) w.1 in
    let c = eqb-true w.0.0 i t.0 in
    let d = eqb-true w.0.1 j t.1 in
    let row : i < 0 + 2 ^ suc k = omega (arith, c, a, w.2.0) in
    let col : j < 0 + 2 ^ suc k = omega (arith, d, b, w.2.1) in
    in-below r k (i, j) whole (find-any (place i j) r.pairs h)
    (ap (λ x. x || false) (in-lies (2 ^ suc k) (0, 0) (i, j) (record { south = omega arith; north = row; east = omega arith; west = col })))

-- one group with no bits does not fit
no-bits-fit : (k : ℕ) (xs : List Bool) (n : ℕ) → levels_fit k 1 xs n ≡ true → length xs ≡ 0 → n ≡ 0 → ⊥
no-bits-fit zero xs n h a b =
    let t = and_parts _ (n == 4 * 1) h in
    let e = eqb-true n (4 * 1) t.1 in
    absurd (omega (arith, e, b))
no-bits-fit (suc k) xs n h a b =
    let t = and_parts (leb (4 * 1) (length xs)) _ h in
    let e = leb-true (4 * 1) (length xs) t.0 in
    absurd (omega (arith, e, a))

-- the first level has the groups that the counts tell
pub groups-whole : (r : Relation) (k : ℕ) → take (groups_of (length (inner_bits r k whole)) (length (cell_bits r k whole))) whole ≡ level r k whole
groups-whole r k =
    let tree = inner_bits r k whole in
    let cells = cell_bits r k whole in
    let fit = fit-tree r k whole in
    elim (cases_Bool (meets r (2 ^ suc k) (0, 0))) [
      | inl t ↦ (let one : levels_fit k 1 tree (length cells) ≡ true = ap (λ b. levels_fit k (length {A = Corner} (cond b ((0, 0) ∷ []) [])) tree (length cells)) (sym t) ∙ fit in
          let test : ((length tree == 0) && (length cells == 0)) ≡ false = false_from_ne_true ((length tree == 0) && (length cells == 0)) (λ e. (let p = and_parts (length tree == 0) (length cells == 0) e in
          no-bits-fit k tree (length cells) one (eqb-true (length tree) 0 p.0) (eqb-true (length cells) 0 p.1))) in
          ap (λ b. take (cond b 0 1) whole) test ∙ sym (ap (λ b. cond {A = List Corner} b ((0, 0) ∷ []) []) t))
      | inr t ↦ (let none : levels_fit k 0 tree (length cells) ≡ true = ap (λ b. levels_fit k (length {A = Corner} (cond b ((0, 0) ∷ []) [])) tree (length cells)) (sym t) ∙ fit in
          let few = fit-most k 0 tree (length cells) none in
          let a : length tree ≡ 0 = omega (arith, few) in
          let b : length cells ≡ 0 = omega (arith, few) in
          ap (λ c. take (cond c 0 1) whole) (and_from (length tree == 0) (length cells == 0) (eq-eqb (length tree) 0 a) (eq-eqb (length cells) 0 b))
          ∙ sym (ap (λ b. cond {A = List Corner} b ((0, 0) ∷ []) []) t))
    ]
