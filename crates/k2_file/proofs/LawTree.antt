-- The bits of a relation's tree: they fit, have no group without a set bit, and tell of its cells.
-- 1. At each level the submatrices that have a pair stand for the groups; their quarters are those of which the next bits tell.
-- 2. So to choose by the bits is to keep those that have a pair, and each count is that of the level before.
-- 3. A submatrix that has a pair has a quarter that has it, so no group is without a set bit, and each pair is among the cells.
use Rattle.std.proofs.Common.{◌≡◌, ◌==◌, ◌&&◌, ◌||◌, ◌+◌, ◌*◌, ◌^◌, ℕ, zero, suc, Bool, true, false, cond, leb, ltb, List, [], ◌∷◌, ◌++◌, length, map, take, drop, Some, None, refl, sym, ap, ◌∙◌, subst, inl, inr, arith, append_assoc}
use Rattle.std.specs.List.{filter, list_any, flat_map, AllByRecursion}
use Rattle.std.proofs.lemmas.Bool.{cases_Bool, cases_lt, and_parts, and_from, or_left, or_right, false≢true, leb-true, ltb-true, le-leb, lt-ltb, eqb-true, eq-eqb}
use Rattle.std.proofs.lemmas.List.{length-append, length-map, take_at, drop_at, append-nil}
use Rattle.rel_model.specs.Relation.{Relation}
use Rattle.run_model.specs.Files.{Corner, quarters, meets, quarters_met, inner_bits, cell_bits, ones, number_of_bit, levels_fit, zero_group, chosen, cells_below}
use Rattle.k2_file.proofs.ReadApart.{LiesIn, two-halves}
use Rattle.k2_file.proofs.ReadWalk.{length-quarters}

-- those of a list that have a pair, of side 2 ^ (k + 1)
abbrev pub level : Relation → ℕ → List Corner → List Corner
level r k ps = filter (meets r (2 ^ suc k)) ps

-- their quarters
abbrev pub next : Relation → ℕ → List Corner → List Corner
next r k ps = flat_map (quarters (2 ^ k)) (level r k ps)

-- the cells below them
abbrev pub below : Relation → ℕ → List Corner → List Corner
below r zero ps = next r 0 ps
below r (suc k) ps = below r k (next r (suc k) ps)

pub quarters-met : (r : Relation) (k : ℕ) (ps : List Corner) → quarters_met r (2 ^ k) ps ≡ next r k ps
quarters-met r k ps = ap (λ (s : ℕ). flat_map (quarters (2 ^ k)) (filter (meets r s) ps)) (sym (two-halves k))

pub inner-step : (r : Relation) (k : ℕ) (ps : List Corner) → inner_bits r (suc k) ps ≡ map (meets r (2 ^ suc k)) (next r (suc k) ps) ++ inner_bits r k (next r (suc k) ps)
inner-step r k ps = ap (λ qs. map (meets r (2 ^ suc k)) qs ++ inner_bits r k qs) (quarters-met r (suc k) ps)

pub cell-bits : (r : Relation) (k : ℕ) (ps : List Corner) → cell_bits r k ps ≡ map (meets r 1) (below r k ps)
cell-bits r zero ps = ap (map (meets r 1)) (quarters-met r 0 ps)
cell-bits r (suc k) ps = ap (cell_bits r k) (quarters-met r (suc k) ps) ∙ cell-bits r k (next r (suc k) ps)

-- ---- bits of a test
pub chosen-map : (f : Corner → Bool) (qs : List Corner) (rest : List Bool) → chosen qs (map f qs ++ rest) ≡ filter f qs
chosen-map f [] rest = refl
chosen-map f (q ∷ qs) rest = ap (λ zs. cond (f q) (q ∷ zs) zs) (chosen-map f qs rest)

ones-one : (b : Bool) (q : Corner) (bits : List Bool) (qs : List Corner) → ones bits ≡ length qs → number_of_bit b + ones bits ≡ length (cond b (q ∷ qs) qs)
ones-one true q bits qs h = omega (arith, h)
ones-one false q bits qs h = omega (arith, h)

ones-map : (f : Corner → Bool) (qs : List Corner) → ones (map f qs) ≡ length (filter f qs)
ones-map f [] = refl
ones-map f (q ∷ qs) = ones-one (f q) q (map f qs) (filter f qs) (ones-map f qs)

-- ---- the levels fit
fit-step : (k n m : ℕ) (bits front rest : List Bool) (cell_count : ℕ) → bits ≡ front ++ rest → length front ≡ 4 * n → ones front ≡ m
    → levels_fit k m rest cell_count ≡ true → levels_fit (suc k) n bits cell_count ≡ true
fit-step k n m bits front rest cell_count e l o h =
    let len : length (front ++ rest) ≡ 4 * n + length rest = length-append front rest ∙ ap (λ (x : ℕ). x + length rest) l in
    ap (λ xs. levels_fit (suc k) n xs cell_count) e
    ∙ ap (λ b. b && levels_fit k (ones (take (4 * n) (front ++ rest))) (drop (4 * n) (front ++ rest)) cell_count) (le-leb (4 * n) (length (front ++ rest)) (omega (arith, len)))
    ∙ ap (λ xs. levels_fit k (ones xs) (drop (4 * n) (front ++ rest)) cell_count) (take_at front rest (4 * n) l)
    ∙ ap (λ xs. levels_fit k (ones front) xs cell_count) (drop_at front rest (4 * n) l)
    ∙ ap (λ (x : ℕ). levels_fit k x rest cell_count) o ∙ h

pub fit-tree : (r : Relation) (k : ℕ) (ps : List Corner) → levels_fit k (length (level r k ps)) (inner_bits r k ps) (length (cell_bits r k ps)) ≡ true
fit-tree r zero ps =
    eq-eqb (length (cell_bits r 0 ps)) (4 * length (level r 0 ps))
    (ap length (cell-bits r 0 ps) ∙ length-map (below r 0 ps) (meets r 1) ∙ length-quarters 1 (level r 0 ps))
fit-tree r (suc k) ps =
    let qs = next r (suc k) ps in
    let f = meets r (2 ^ suc k) in
    fit-step k (length (level r (suc k) ps)) (length (level r k qs)) (inner_bits r (suc k) ps) (map f qs) (inner_bits r k qs) (length (cell_bits r (suc k) ps))
    (inner-step r k ps) (length-map qs f ∙ length-quarters (2 ^ suc k) (level r (suc k) ps)) (ones-map f qs)
    (ap (λ zs. levels_fit k (length (level r k qs)) (inner_bits r k qs) (length (cell_bits r k zs))) (quarters-met r (suc k) ps) ∙ fit-tree r k qs)

-- ---- the cells that the bits tell of
pub cells-tree : (r : Relation) (k : ℕ) (ps : List Corner) → cells_below k (level r k ps) (inner_bits r k ps) ≡ below r k ps
cells-tree r zero ps = refl
cells-tree r (suc k) ps =
    let qs = next r (suc k) ps in
    let f = meets r (2 ^ suc k) in
    ap (λ xs. cells_below k (chosen qs xs) (drop (length qs) xs)) (inner-step r k ps)
    ∙ ap (λ cs. cells_below k cs (drop (length qs) (map f qs ++ inner_bits r k qs))) (chosen-map f qs (inner_bits r k qs))
    ∙ ap (λ xs. cells_below k (level r k qs) xs) (drop_at (map f qs) (inner_bits r k qs) (length qs) (length-map qs f))
    ∙ cells-tree r k qs

-- ---- a pair in a submatrix
-- the test of a pair in a submatrix
abbrev pub lies : ℕ → Corner → Corner → Bool
lies side p q = (leb p.0 q.0 && ltb q.0 (p.0 + side)) && (leb p.1 q.1 && ltb q.1 (p.1 + side))

pub lies-in : (side : ℕ) (p q : Corner) → lies side p q ≡ true → LiesIn side p q.0 q.1
lies-in side p q h =
    let t = and_parts (leb p.0 q.0 && ltb q.0 (p.0 + side)) (leb p.1 q.1 && ltb q.1 (p.1 + side)) h in
    let a = and_parts (leb p.0 q.0) (ltb q.0 (p.0 + side)) t.0 in
    let b = and_parts (leb p.1 q.1) (ltb q.1 (p.1 + side)) t.1 in
    record { south = leb-true p.0 q.0 a.0; north = ltb-true q.0 (p.0 + side) a.1; east = leb-true p.1 q.1 b.0; west = ltb-true q.1 (p.1 + side) b.1 }

pub in-lies : (side : ℕ) (p q : Corner) → LiesIn side p q.0 q.1 → lies side p q ≡ true
in-lies side p q w =
    and_from (leb p.0 q.0 && ltb q.0 (p.0 + side)) (leb p.1 q.1 && ltb q.1 (p.1 + side))
    (and_from (leb p.0 q.0) (ltb q.0 (p.0 + side)) (le-leb p.0 q.0 w.south) (lt-ltb q.0 (p.0 + side) w.north))
    (and_from (leb p.1 q.1) (ltb q.1 (p.1 + side)) (le-leb p.1 q.1 w.east) (lt-ltb q.1 (p.1 + side) w.west))

-- one that a test finds: what another test says of it, that test finds too
pub record Found (f : Corner → Bool) (xs : List Corner) : Type 0 where
  pub one : Corner
  pub passes : f one ≡ true
  pub others : (g : Corner → Bool) → g one ≡ true → list_any g xs ≡ true

pub find-any : (f : Corner → Bool) (xs : List Corner) → list_any f xs ≡ true → Found f xs
find-any f [] h = absurd (false≢true h)
find-any f (x ∷ xs) h = elim (cases_Bool (f x)) [
  | inl t ↦ record { one = x; passes = t; others = λ g e. or_left (g x) (list_any g xs) e }
  | inr t ↦ (let w = find-any f xs (ap (λ b. b || list_any f xs) (sym t) ∙ h) in
      record { one = w.one; passes = w.passes; others = λ g e. or_right (g x) (list_any g xs) (w.others g e) })
]

-- a place in a submatrix is in one of its quarters
pub in-quarter : (side : ℕ) (p q : Corner) → LiesIn (side + side) p q.0 q.1 → list_any (λ s. lies side s q) (quarters side p) ≡ true
in-quarter side p q w = elim (cases_lt q.0 (p.0 + side)) [
  | inl a ↦ elim (cases_lt q.1 (p.1 + side)) [
    | inl b ↦ or_left (lies side p q) _ (in-lies side p q (record { south = w.south; north = a; east = w.east; west = b }))
    | inr b ↦ or_right (lies side p q) _ (or_left (lies side (p.0, p.1 + side) q) _
        (in-lies side (p.0, p.1 + side) q (record { south = w.south; north = a; east = b; west = omega (arith, w.west) })))
  ]
  | inr a ↦ elim (cases_lt q.1 (p.1 + side)) [
    | inl b ↦ or_right (lies side p q) _ (or_right (lies side (p.0, p.1 + side) q) _ (or_left (lies side (p.0 + side, p.1) q) _
        (in-lies side (p.0 + side, p.1) q (record { south = a; north = omega (arith, w.north); east = w.east; west = b }))))
    | inr b ↦ or_right (lies side p q) _ (or_right (lies side (p.0, p.1 + side) q) _ (or_right (lies side (p.0 + side, p.1) q) _ (or_left (lies side (p.0 + side, p.1 + side) q) _
        (in-lies side (p.0 + side, p.1 + side) q (record { south = a; north = omega (arith, w.north); east = b; west = omega (arith, w.west) })))))
  ]
]

-- a test that each of a list passes, at a quarter that is found
pub any-quarter : (f g : Corner → Bool) → ((s : Corner) → f s ≡ true → g s ≡ true) → (xs : List Corner) → list_any f xs ≡ true → list_any g xs ≡ true
any-quarter f g h xs e = let w = find-any f xs e in w.others g (h w.one w.passes)

-- a submatrix that has a pair has a quarter that has it
pub meets-quarter : (r : Relation) (side : ℕ) (p : Corner) → meets r (side + side) p ≡ true → list_any (meets r side) (quarters side p) ≡ true
meets-quarter r side p h =
    let w = find-any (lies (side + side) p) r.pairs h in
    any-quarter (λ s. lies side s w.one) (meets r side) (λ s e. w.others (lies side s) e) (quarters side p) (in-quarter side p w.one (lies-in (side + side) p w.one w.passes))

-- ---- no group is without a set bit
four-any : (a b c d : Bool) → (a || (b || (c || (d || false)))) ≡ true → (a || (b || (c || d))) ≡ true
four-any true b c d h = refl
four-any false true c d h = refl
four-any false false true d h = refl
four-any false false false true h = refl
four-any false false false false h = h

pub all-filter-passes : (f : Corner → Bool) (ps : List Corner) → AllByRecursion (λ p. f p ≡ true) (filter f ps)
all-filter-passes f [] = tt
all-filter-passes f (p ∷ ps) = elim (cases_Bool (f p)) [
  | inl t ↦ subst (λ b. AllByRecursion (λ q. f q ≡ true) (cond b (p ∷ filter f ps) (filter f ps))) (sym t) (t, all-filter-passes f ps)
  | inr t ↦ subst (λ b. AllByRecursion (λ q. f q ≡ true) (cond b (p ∷ filter f ps) (filter f ps))) (sym t) (all-filter-passes f ps)
]

group-pass : (r : Relation) (side at : ℕ) (ps : List Corner) (xs : List Bool) → AllByRecursion (λ p. meets r (side + side) p ≡ true) ps
    → zero_group at (map (meets r side) (flat_map (quarters side) ps) ++ xs) ≡ zero_group (at + 4 * length ps) xs
group-pass r side at [] xs h = let e : at + 4 * 0 ≡ at = omega arith in ap (λ (n : ℕ). zero_group n xs) (sym e)
group-pass r side at (p ∷ ps) xs h =
    let m = meets r side in
    let e : at + 4 + 4 * length ps ≡ at + 4 * suc (length ps) = omega arith in
    let t = four-any (m p) (m (p.0, p.1 + side)) (m (p.0 + side, p.1)) (m (p.0 + side, p.1 + side)) (meets-quarter r side p h.0) in
    ap (λ b. cond b (zero_group (at + 4) (map m (flat_map (quarters side) ps) ++ xs)) (Some at)) t
    ∙ group-pass r side (at + 4) ps xs h.1 ∙ ap (λ (n : ℕ). zero_group n xs) e

all-level : (r : Relation) (k : ℕ) (ps : List Corner) → AllByRecursion (λ p. meets r (2 ^ k + 2 ^ k) p ≡ true) (level r k ps)
all-level r k ps = subst (λ (s : ℕ). AllByRecursion (λ p. meets r s p ≡ true) (level r k ps)) (two-halves k) (all-filter-passes (meets r (2 ^ suc k)) ps)

-- no group above the cells is without a set bit, by induction on the levels: each stands for a submatrix with a pair,
-- which lies in one of its quarters
groups-inner : (r : Relation) (k : ℕ) (ps : List Corner) (at : ℕ) (xs : List Bool) → zero_group at (inner_bits r k ps ++ xs) ≡ zero_group (at + length (inner_bits r k ps)) xs
groups-inner r zero ps at xs = let e : at + 0 ≡ at = omega arith in ap (λ (n : ℕ). zero_group n xs) (sym e)
groups-inner r (suc k) ps at xs =
    let ls = level r (suc k) ps in
    let qs = next r (suc k) ps in
    let front = map (meets r (2 ^ suc k)) qs in
    let rest = inner_bits r k qs in
    let n : length front ≡ 4 * length ls = length-map qs (meets r (2 ^ suc k)) ∙ length-quarters (2 ^ suc k) ls in
    let all : at + 4 * length ls + length rest ≡ at + length (front ++ rest) = omega (arith, n, length-append front rest) in
    ap (λ zs. zero_group at (zs ++ xs)) (inner-step r k ps) ∙ ap (zero_group at) (append_assoc front rest xs)
    ∙ group-pass r (2 ^ suc k) at ls (rest ++ xs) (all-level r (suc k) ps) ∙ groups-inner r k qs (at + 4 * length ls) xs
    ∙ ap (λ (m : ℕ). zero_group m xs) all ∙ ap (λ zs. zero_group (at + length zs) xs) (sym (inner-step r k ps))

groups-cells : (r : Relation) (k : ℕ) (ps : List Corner) (at : ℕ) (xs : List Bool) → zero_group at (cell_bits r k ps ++ xs) ≡ zero_group (at + length (cell_bits r k ps)) xs
groups-cells r zero ps at xs =
    let ls = level r 0 ps in
    let n : length (map (meets r 1) (next r 0 ps)) ≡ 4 * length ls = length-map (next r 0 ps) (meets r 1) ∙ length-quarters 1 ls in
    ap (λ zs. zero_group at (map (meets r 1) zs ++ xs)) (quarters-met r 0 ps) ∙ group-pass r 1 at ls xs (all-level r 0 ps)
    ∙ ap (λ (m : ℕ). zero_group (at + m) xs) (sym n) ∙ ap (λ zs. zero_group (at + length (map (meets r 1) zs)) xs) (sym (quarters-met r 0 ps))
groups-cells r (suc k) ps at xs = groups-cells r k (quarters_met r (2 ^ suc k) ps) at xs

pub groups-tree : (r : Relation) (k j : ℕ) (ps qs : List Corner) → zero_group 0 (inner_bits r k ps ++ cell_bits r j qs) ≡ None
groups-tree r k j ps qs =
    groups-inner r k ps 0 (cell_bits r j qs)
    ∙ ap (zero_group (0 + length (inner_bits r k ps))) (sym (append-nil (cell_bits r j qs)))
    ∙ groups-cells r j qs (0 + length (inner_bits r k ps)) []

-- ---- each pair is among the cells
pub any-append-left : (g : Corner → Bool) (xs ys : List Corner) → list_any g xs ≡ true → list_any g (xs ++ ys) ≡ true
any-append-left g [] ys h = absurd (false≢true h)
any-append-left g (x ∷ xs) ys h = elim (cases_Bool (g x)) [
  | inl t ↦ or_left (g x) (list_any g (xs ++ ys)) t
  | inr t ↦ or_right (g x) (list_any g (xs ++ ys)) (any-append-left g xs ys (ap (λ b. b || list_any g xs) (sym t) ∙ h))
]

pub any-append-right : (g : Corner → Bool) (xs ys : List Corner) → list_any g ys ≡ true → list_any g (xs ++ ys) ≡ true
any-append-right g [] ys h = h
any-append-right g (x ∷ xs) ys h = or_right (g x) (list_any g (xs ++ ys)) (any-append-right g xs ys h)

-- one that passes both tests is kept by the one and found by the other
pub any-filter : (f g : Corner → Bool) → ((x : Corner) → g x ≡ true → f x ≡ true) → (xs : List Corner) → list_any g xs ≡ true → list_any g (filter f xs) ≡ true
any-filter f g h [] e = absurd (false≢true e)
any-filter f g h (x ∷ xs) e = elim (cases_Bool (g x)) [
  | inl t ↦ subst (λ b. list_any g (cond b (x ∷ filter f xs) (filter f xs)) ≡ true) (sym (h x t)) (or_left (g x) (list_any g (filter f xs)) t)
  | inr t ↦ (let rest = any-filter f g h xs (ap (λ b. b || list_any g xs) (sym t) ∙ e) in elim (cases_Bool (f x)) [
    | inl u ↦ subst (λ b. list_any g (cond b (x ∷ filter f xs) (filter f xs)) ≡ true) (sym u) (or_right (g x) (list_any g (filter f xs)) rest)
    | inr u ↦ subst (λ b. list_any g (cond b (x ∷ filter f xs) (filter f xs)) ≡ true) (sym u) rest
  ])
]

any-quarters : (side : ℕ) (q : Corner) (ps : List Corner) → list_any (λ p. lies (side + side) p q) ps ≡ true → list_any (λ s. lies side s q) (flat_map (quarters side) ps) ≡ true
any-quarters side q [] e = absurd (false≢true e)
any-quarters side q (p ∷ ps) e = elim (cases_Bool (lies (side + side) p q)) [
  | inl t ↦ any-append-left (λ s. lies side s q) (quarters side p) (flat_map (quarters side) ps) (in-quarter side p q (lies-in (side + side) p q t))
  | inr t ↦ any-append-right (λ s. lies side s q) (quarters side p) (flat_map (quarters side) ps)
      (any-quarters side q ps (ap (λ b. b || list_any (λ p. lies (side + side) p q) ps) (sym t) ∙ e))
]

-- a pair of the relation in one of the list is in one of the next list
in-next : (r : Relation) (k : ℕ) (q : Corner) (ps : List Corner) → Found (λ x. (x.0 == q.0) && (x.1 == q.1)) r.pairs → list_any (λ p. lies (2 ^ suc k) p q) ps ≡ true
    → list_any (λ s. lies (2 ^ k) s q) (next r k ps) ≡ true
in-next r k q ps w h =
    any-quarters (2 ^ k) q (level r k ps)
    (subst (λ (s : ℕ). list_any (λ p. lies s p q) (level r k ps) ≡ true) (two-halves k)
    (any-filter (meets r (2 ^ suc k)) (λ p. lies (2 ^ suc k) p q) (λ p e. w.others (lies (2 ^ suc k) p) (same p e)) ps h))
  where
    same : (p : Corner) → lies (2 ^ suc k) p q ≡ true → lies (2 ^ suc k) p w.one ≡ true
    same p e =
        let t = and_parts (w.one.0 == q.0) (w.one.1 == q.1) w.passes in
        let a = eqb-true w.one.0 q.0 t.0 in
        let b = eqb-true w.one.1 q.1 t.1 in
        let v = lies-in (2 ^ suc k) p q e in
        in-lies (2 ^ suc k) p w.one (record { south = omega (arith, v.south, a); north = omega (arith, v.north, a); east = omega (arith, v.east, b); west = omega (arith, v.west, b) })

pub in-below : (r : Relation) (k : ℕ) (q : Corner) (ps : List Corner) → Found (λ x. (x.0 == q.0) && (x.1 == q.1)) r.pairs → list_any (λ p. lies (2 ^ suc k) p q) ps ≡ true
    → list_any (λ s. lies 1 s q) (below r k ps) ≡ true
in-below r zero q ps w h = in-next r 0 q ps w h
in-below r (suc k) q ps w h = in-below r k q (next r (suc k) ps) w (in-next r (suc k) q ps w h)
