-- The bits of a file by sets of cells, and how many they are.
-- 1. The submatrices of a level that meet the relation are the sets of that level: the quarters of a piece are the pieces of the quarters.
-- 2. So the bits of each level are those of the sets, by induction on the levels.
-- 3. A level has four bits for each set of the level above, which all have a cell; so the bits below a set are four and those below its quarters.
use Rattle.std.proofs.Common.{◌≡◌, ◌≤◌, ◌+◌, ◌-◌, ◌*◌, ◌^◌, zero, suc, ℕ, true, false, List, [], ◌∷◌, ◌++◌, length, map, filter, refl, sym, ap, subst, ◌∙◌, inl, inr, arith, length-append}
use Rattle.std.proofs.lemmas.Bool.{cases_Bool}
use Rattle.std.proofs.lemmas.List.Elements.{filter-append}
use Rattle.std.proofs.Math.Nat.{pow-suc}
use Rattle.std.specs.List.{flat_map}
use Rattle.rel_model.specs.Cells.{Cells}
use Rattle.rel_model.specs.Relation.{Relation, has}
use Rattle.run_model.specs.Files.{Corner, whole, quarters, meets, inner_bits, cell_bits, tree_part, cell_part, bits_count, file_height}
use Rattle.run_model.specs.Files.{quarters_met as corners_met}
use Rattle.k2_file.specs.Squares.{piece, some_cell, four_pieces}
use Rattle.k2_file.specs.Levels.{quarter_bits, quarters_met, level_bits, next_level, upper_bits, lowest_bits, first_level}
use Rattle.k2_file.specs.Counts.{bits_under}
use Rattle.k2_file.proofs.WritePieces.{corner_piece, some-meets, quarter-nw, quarter-ne, quarter-sw, quarter-se}

pub map-append : {X Y : Type 0} (f : X → Y) (xs ys : List X) → map f (xs ++ ys) ≡ map f xs ++ map f ys
map-append f [] ys = refl
map-append f (x ∷ xs) ys = ap (λ zs. f x ∷ zs) (map-append f xs ys)

-- the side of a square is twice that of its quarters
pub twice-side : (k : ℕ) → 2 ^ suc k ≡ 2 ^ k + 2 ^ k
twice-side k = let p = pow-suc 2 k in omega (arith, p)

-- ---- levels
four_same : {X : Type 0} (a b c d e f g h : X) (xs ys : List X) → a ≡ e → b ≡ f → c ≡ g → d ≡ h → xs ≡ ys → a ∷ b ∷ c ∷ d ∷ xs ≡ e ∷ f ∷ g ∷ h ∷ ys
four_same a b c d e f g h xs ys p q r s t = cc

pub four-corners : (r : Relation) (m : ℕ) (p : Corner) → four_pieces m (corner_piece r (m + m) p) ≡ map (corner_piece r m) (quarters m p)
four-corners r m p = four_same _ _ _ _ _ _ _ _ [] [] (quarter-nw r m p) (quarter-ne r m p) (quarter-sw r m p) (quarter-se r m p) refl

map-meets : (r : Relation) (m : ℕ) (ps : List Corner) → map (some_cell m) (map (corner_piece r m) ps) ≡ map (meets r m) ps
map-meets r m [] = refl
map-meets r m (p ∷ ps) = ap (λ b. b ∷ map (some_cell m) (map (corner_piece r m) ps)) (some-meets r m p) ∙ ap (λ bs. meets r m p ∷ bs) (map-meets r m ps)

pub filter-meets : (r : Relation) (m : ℕ) (ps : List Corner) → filter (some_cell m) (map (corner_piece r m) ps) ≡ map (corner_piece r m) (filter (meets r m) ps)
filter-meets r m [] = refl
filter-meets r m (p ∷ ps) =
    let e = some-meets r m p in
    let i = filter-meets r m ps in
    elim (cases_Bool (meets r m p)) [
      | inl t ↦ (let s : some_cell m (corner_piece r m p) ≡ true = e ∙ t in rw (s, t) (ap (λ fs. corner_piece r m p ∷ fs) i))
      | inr t ↦ (let s : some_cell m (corner_piece r m p) ≡ false = e ∙ t in rw (s, t) i)
    ]

level-corners : (r : Relation) (m : ℕ) (ps : List Corner) → map (meets r m) (flat_map (quarters m) ps) ≡ level_bits m (map (corner_piece r (m + m)) ps)
level-corners r m [] = refl
level-corners r m (p ∷ ps) =
    map-append (meets r m) (quarters m p) (flat_map (quarters m) ps)
    ∙ ap (λ bs. bs ++ map (meets r m) (flat_map (quarters m) ps)) (sym (map-meets r m (quarters m p)) ∙ ap (map (some_cell m)) (sym (four-corners r m p)))
    ∙ ap (λ bs. quarter_bits m (corner_piece r (m + m) p) ++ bs) (level-corners r m ps)

-- the quarters that meet the relation, as sets, are the next level of sets, by induction: the quarters of a piece are
-- the pieces of the quarters
next-corners : (r : Relation) (m : ℕ) (ps : List Corner) → map (corner_piece r m) (filter (meets r m) (flat_map (quarters m) ps)) ≡ next_level m (map (corner_piece r (m + m)) ps)
next-corners r m [] = refl
next-corners r m (p ∷ ps) =
    ap (map (corner_piece r m)) (filter-append (meets r m) (quarters m p) (flat_map (quarters m) ps))
    ∙ map-append (corner_piece r m) (filter (meets r m) (quarters m p)) (filter (meets r m) (flat_map (quarters m) ps))
    ∙ ap (λ fs. fs ++ map (corner_piece r m) (filter (meets r m) (flat_map (quarters m) ps)))
    (sym (filter-meets r m (quarters m p)) ∙ ap (filter (some_cell m)) (sym (four-corners r m p)))
    ∙ ap (λ fs. quarters_met m (corner_piece r (m + m) p) ++ fs) (next-corners r m ps)

-- the sets of the submatrices of a list that meet the relation
abbrev met_pieces : Relation → ℕ → List Corner → List Cells
met_pieces r m ps = map (corner_piece r m) (filter (meets r m) ps)

inner-upper : (r : Relation) (k : ℕ) (ps : List Corner) → inner_bits r k ps ≡ upper_bits k (met_pieces r (2 ^ suc k) ps)
inner-upper r zero ps = refl
inner-upper r (suc k) ps =
    let m : ℕ = 2 ^ suc k in
    let qs : List Corner = corners_met r m ps in
    ap (λ bs. bs ++ inner_bits r k qs) (level-corners r m (filter (meets r (m + m)) ps))
    ∙ ap (λ bs. level_bits m (met_pieces r (m + m) ps) ++ bs) (inner-upper r k qs ∙ ap (upper_bits k) (next-corners r m (filter (meets r (m + m)) ps)))
    ∙ ap (λ (n : ℕ). level_bits m (met_pieces r n ps) ++ upper_bits k (next_level m (met_pieces r n ps))) (sym (twice-side (suc k)))

cell-lowest : (r : Relation) (k : ℕ) (ps : List Corner) → cell_bits r k ps ≡ lowest_bits k (met_pieces r (2 ^ suc k) ps)
cell-lowest r zero ps = level-corners r 1 (filter (meets r 2) ps)
cell-lowest r (suc k) ps =
    let m : ℕ = 2 ^ suc k in
    cell-lowest r k (corners_met r m ps) ∙ ap (lowest_bits k) (next-corners r m (filter (meets r (m + m)) ps))
    ∙ ap (λ (n : ℕ). lowest_bits k (next_level m (met_pieces r n ps))) (sym (twice-side (suc k)))

first-whole : (r : Relation) (h : ℕ) → met_pieces r (2 ^ h) whole ≡ first_level h r
first-whole r h = sym (filter-meets r (2 ^ h) whole)

-- the bits T and L of a relation
pub tree-levels : (r : Relation) (h : ℕ) → h ≡ file_height r.rows r.cols → 1 ≤ h → tree_part r ≡ upper_bits (h - 1) (first_level h r)
unfolding tree_part
tree-levels r h e l =
    let s : suc (h - 1) ≡ h = omega arith in
    ap (λ (x : ℕ). inner_bits r (x - 1) whole) (sym e) ∙ inner-upper r (h - 1) whole
    ∙ ap (λ (x : ℕ). upper_bits (h - 1) (met_pieces r (2 ^ x) whole)) s ∙ ap (upper_bits (h - 1)) (first-whole r h)

-- and the bits L are the lowest bits of the first level
pub cell-levels : (r : Relation) (h : ℕ) → h ≡ file_height r.rows r.cols → 1 ≤ h → cell_part r ≡ lowest_bits (h - 1) (first_level h r)
unfolding cell_part
cell-levels r h e l =
    let s : suc (h - 1) ≡ h = omega arith in
    ap (λ (x : ℕ). cell_bits r (x - 1) whole) (sym e) ∙ cell-lowest r (h - 1) whole
    ∙ ap (λ (x : ℕ). lowest_bits (h - 1) (met_pieces r (2 ^ x) whole)) s ∙ ap (lowest_bits (h - 1)) (first-whole r h)

-- ---- how many bits
-- the bits below each of a list of sets
abbrev sum_under : ℕ → List Cells → ℕ
sum_under h [] = 0
sum_under h (f ∷ fs) = bits_under h f + sum_under h fs

-- the last level
lowest-count : (fs : List Cells) → length (level_bits 1 (filter (some_cell 2) fs)) ≡ sum_under 1 fs
lowest-count [] = refl
lowest-count (f ∷ fs) =
    let i = lowest-count fs in
    elim (cases_Bool (some_cell 2 f)) [
      | inl t ↦ rw t (omega (arith, i))
      | inr t ↦ rw t (omega (arith, i))
    ]

-- a level and those below it
level-count : (k : ℕ) (fs : List Cells) →
    length (level_bits (2 ^ suc k) (filter (some_cell (2 ^ suc (suc k))) fs)) + sum_under (suc k) (flat_map (four_pieces (2 ^ suc k)) (filter (some_cell (2 ^ suc (suc k))) fs))
    ≡ sum_under (suc (suc k)) fs
level-count k [] = refl
level-count k (f ∷ fs) =
    let i = level-count k fs in
    elim (cases_Bool (some_cell (2 ^ suc (suc k)) f)) [
      | inl t ↦ rw t (omega (arith, i))
      | inr t ↦ rw t (omega (arith, i))
    ]

next-filtered : (m : ℕ) (fs : List Cells) → next_level m fs ≡ filter (some_cell m) (flat_map (four_pieces m) fs)
next-filtered m [] = refl
next-filtered m (f ∷ fs) =
    ap (λ gs. quarters_met m f ++ gs) (next-filtered m fs) ∙ sym (filter-append (some_cell m) (four_pieces m f) (flat_map (four_pieces m) fs))

-- the bits of all levels are as many as those below the sets, by induction on the levels: a level has four for each set
-- of the level above that has a cell
levels-count : (k : ℕ) (fs : List Cells) → length (upper_bits k (filter (some_cell (2 ^ suc k)) fs)) + length (lowest_bits k (filter (some_cell (2 ^ suc k)) fs)) ≡ sum_under (suc k) fs
levels-count zero fs = let i = lowest-count fs in omega (arith, i)
levels-count (suc k) fs =
    let m : ℕ = 2 ^ suc k in
    let gs : List Cells = filter (some_cell (2 ^ suc (suc k))) fs in
    let hs : List Cells = flat_map (four_pieces m) gs in
    let n = next-filtered m gs in
    let a = length-append (level_bits m gs) (upper_bits k (next_level m gs)) in
    let b : length (upper_bits k (next_level m gs)) ≡ length (upper_bits k (filter (some_cell m) hs)) = ap (λ zs. length (upper_bits k zs)) n in
    let c : length (lowest_bits k (next_level m gs)) ≡ length (lowest_bits k (filter (some_cell m) hs)) = ap (λ zs. length (lowest_bits k zs)) n in
    let i = levels-count k hs in
    let j = level-count k fs in
    omega (arith, a, b, c, i, j)

-- as many bits as there are below the whole set
pub count-under : (r : Relation) (h : ℕ) → h ≡ file_height r.rows r.cols → 1 ≤ h → bits_count r ≡ bits_under h (piece (2 ^ h) 0 0 (has r))
unfolding bits_count
count-under r h e l =
    let s : suc (h - 1) ≡ h = omega arith in
    let t = ap length (tree-levels r h e l) in
    let c = ap length (cell-levels r h e l) in
    let n = subst (λ (x : ℕ). length (upper_bits (h - 1) (first_level x r)) + length (lowest_bits (h - 1) (first_level x r)) ≡ bits_under x (piece (2 ^ x) 0 0 (has r)) + 0) s
    (levels-count (h - 1) (piece (2 ^ suc (h - 1)) 0 0 (has r) ∷ [])) in
    omega (arith, t, c, n)

-- ---- a bound
pub under-limit : (h : ℕ) (f : Cells) → bits_under h f + 2 ≤ 2 * 4 ^ h
under-limit zero f = omega arith
under-limit (suc k) f =
    let m : ℕ = 2 ^ k in
    let p = pow-suc 4 k in
    let a = under-limit k (piece m 0 0 f) in
    let b = under-limit k (piece m 0 m f) in
    let c = under-limit k (piece m m 0 f) in
    let d = under-limit k (piece m m m f) in
    elim (cases_Bool (some_cell (2 ^ suc k) f)) [
      | inl t ↦ rw t (omega (arith, p, a, b, c, d))
      | inr t ↦ rw t (omega (arith, p, a, b, c, d))
    ]
