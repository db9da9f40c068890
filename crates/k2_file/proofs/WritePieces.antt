-- Pieces of sets of cells: when two are one, pieces of pieces, quarters, and which have a cell (Brisaboa, Ladra and Navarro, whose trees ask submatrices for a cell).
-- 1. Two pieces are one where their sets agree on the cells within them; so a piece of a piece is a piece.
-- 2. A piece of a relation has a cell exactly where the relation meets its submatrix.
use Rattle.std.proofs.Common.{◌≡◌, ◌<◌, ◌≤◌, ◌+◌, ◌-◌, ◌&&◌, ◌||◌, ltb, leb, ℕ, Bool, true, false, List, [], ◌∷◌, refl, sym, ap, ◌∙◌, inl, inr, arith}
use Rattle.std.proofs.lemmas.Bool.{cases_lt, or_cases, or_right, and_parts, and_from, lt-ltb, le-ltb, ltb-true, leb-true, le-leb, false≢true}
use Rattle.std.specs.List.{list_any}
use Rattle.rel_model.specs.Cells.{Cells, no_cells, some_below}
use Rattle.rel_model.specs.Relation.{Relation, has}
use Rattle.rel_model.specs.Trees.{quartered}
use Rattle.rel_model.specs.Quarters.{LiesWithin}
use Rattle.rel_model.proofs.TreeLaws.{same_cells}
use Rattle.rel_model.proofs.Pairs.{same, member, same-true, same_itself}
use Rattle.rel_model.proofs.Somes.{same_truth, not_true, some_from, some_passes}
use Rattle.run_model.specs.Files.{Corner, meets}
use Rattle.k2_file.specs.Squares.{piece, some_cell}

-- ---- a piece cell by cell
pub piece-in : (m a b : ℕ) (f : Cells) (i j : ℕ) → i < m → j < m → piece m a b f i j ≡ f (a + i) (b + j)
unfolding piece
piece-in m a b f i j l k =
    let s : ltb i m ≡ true = lt-ltb i m l in
    let t : ltb j m ≡ true = lt-ltb j m k in
    rw (s, t) refl

-- where a piece has a cell
pub record InPiece (m a b : ℕ) (f : Cells) (i j : ℕ) : Type 0 where
  pub row : i < m
  pub col : j < m
  pub passes : f (a + i) (b + j) ≡ true

pub piece-true : (m a b : ℕ) (f : Cells) (i j : ℕ) → piece m a b f i j ≡ true → InPiece m a b f i j
unfolding piece
piece-true m a b f i j h =
    let p = and_parts _ _ h in
    let q = and_parts _ _ p.1 in
    record { row = ltb-true i m p.0; col = ltb-true j m q.0; passes = q.1 }

pub pieces-same : (m a b c d : ℕ) (f g : Cells) → ((i j : ℕ) → i < m → j < m → f (a + i) (b + j) ≡ g (c + i) (d + j)) → piece m a b f ≡ piece m c d g
unfolding piece
pieces-same m a b c d f g h = same_cells _ _ (λ i j. elim (cases_lt i m) [
  | inl x ↦ elim (cases_lt j m) [
    | inl y ↦ ap (λ v. ltb i m && (ltb j m && v)) (h i j x y)
    | inr y ↦ (let t : ltb j m ≡ false = le-ltb j m y in rw t refl)
  ]
  | inr x ↦ (let s : ltb i m ≡ false = le-ltb i m x in rw s refl)
])

-- a piece of a piece
pub piece-piece : (m n a b c d : ℕ) (f : Cells) → a + m ≤ n → b + m ≤ n → piece m a b (piece n c d f) ≡ piece m (c + a) (d + b) f
piece-piece m n a b c d f l k = pieces-same m a b (c + a) (d + b) (piece n c d f) f (λ i j x y.
    piece-in n c d f (a + i) (b + j) (omega arith) (omega arith)
    ∙ (let s : c + (a + i) ≡ c + a + i = omega arith in ap (λ (z : ℕ). f z (d + (b + j))) s)
    ∙ (let t : d + (b + j) ≡ d + b + j = omega arith in ap (λ (z : ℕ). f (c + a + i) z) t))

-- the same at a place that is given
pub piece-at : (m n a b c d x y : ℕ) (f : Cells) → a + m ≤ n → b + m ≤ n → c + a ≡ x → d + b ≡ y → piece m a b (piece n c d f) ≡ piece m x y f
piece-at m n a b c d x y f l k s t =
    piece-piece m n a b c d f l k ∙ ap (λ (z : ℕ). piece m z (d + b) f) s ∙ ap (λ (z : ℕ). piece m x z f) t

-- ---- pieces of four quarters
pub piece-nw : (m n : ℕ) (a b c d : Cells) → n ≡ m + m → piece m 0 0 (piece n 0 0 (quartered m a b c d)) ≡ piece m 0 0 a
piece-nw m n a b c d e =
    piece-at m n 0 0 0 0 0 0 (quartered m a b c d) (omega arith) (omega arith) (omega arith) (omega arith)
    ∙ pieces-same m 0 0 0 0 (quartered m a b c d) a (λ i j x y.
    let s : ltb (0 + i) m ≡ true = lt-ltb (0 + i) m (omega arith) in
    let t : ltb (0 + j) m ≡ true = lt-ltb (0 + j) m (omega arith) in
    rw (s, t) refl)

pub piece-ne : (m n : ℕ) (a b c d : Cells) → n ≡ m + m → piece m 0 m (piece n 0 0 (quartered m a b c d)) ≡ piece m 0 0 b
piece-ne m n a b c d e =
    piece-at m n 0 m 0 0 0 m (quartered m a b c d) (omega arith) (omega arith) (omega arith) (omega arith)
    ∙ pieces-same m 0 m 0 0 (quartered m a b c d) b (λ i j x y.
    let s : ltb (0 + i) m ≡ true = lt-ltb (0 + i) m (omega arith) in
    let t : ltb (m + j) m ≡ false = le-ltb (m + j) m (omega arith) in
    let u : m + j - m ≡ 0 + j = omega arith in
    rw (s, t, u) refl)

pub piece-sw : (m n : ℕ) (a b c d : Cells) → n ≡ m + m → piece m m 0 (piece n 0 0 (quartered m a b c d)) ≡ piece m 0 0 c
piece-sw m n a b c d e =
    piece-at m n m 0 0 0 m 0 (quartered m a b c d) (omega arith) (omega arith) (omega arith) (omega arith)
    ∙ pieces-same m m 0 0 0 (quartered m a b c d) c (λ i j x y.
    let s : ltb (m + i) m ≡ false = le-ltb (m + i) m (omega arith) in
    let t : ltb (0 + j) m ≡ true = lt-ltb (0 + j) m (omega arith) in
    let u : m + i - m ≡ 0 + i = omega arith in
    rw (s, t, u) refl)

-- the piece behind the middle in rows and columns is the fourth quarter
pub piece-se : (m n : ℕ) (a b c d : Cells) → n ≡ m + m → piece m m m (piece n 0 0 (quartered m a b c d)) ≡ piece m 0 0 d
piece-se m n a b c d e =
    piece-at m n m m 0 0 m m (quartered m a b c d) (omega arith) (omega arith) (omega arith) (omega arith)
    ∙ pieces-same m m m 0 0 (quartered m a b c d) d (λ i j x y.
    let s : ltb (m + i) m ≡ false = le-ltb (m + i) m (omega arith) in
    let t : ltb (m + j) m ≡ false = le-ltb (m + j) m (omega arith) in
    let u : m + i - m ≡ 0 + i = omega arith in
    let v : m + j - m ≡ 0 + j = omega arith in
    rw (s, t, u, v) refl)

-- ---- whether a set has a cell
pub record HasCell (m : ℕ) (f : Cells) : Type 0 where
  pub row : ℕ
  pub col : ℕ
  pub row_in : row < m
  pub col_in : col < m
  pub passes : f row col ≡ true

pub some_cell-found : (m : ℕ) (f : Cells) → some_cell m f ≡ true → HasCell m f
unfolding some_cell
some_cell-found m f h =
    let p = some_passes m (λ i. some_below m (f i)) h in
    let q = some_passes m (f p.at) p.passes in
    record { row = p.at; col = q.at; row_in = p.within; col_in = q.within; passes = q.passes }

pub some_cell-from : (m : ℕ) (f : Cells) (i j : ℕ) → i < m → j < m → f i j ≡ true → some_cell m f ≡ true
unfolding some_cell
some_cell-from m f i j l k h = some_from m (λ i. some_below m (f i)) i l (some_from m (f i) j k h)

pub some_cell-none : (m : ℕ) (f : Cells) → ((i j : ℕ) → f i j ≡ true → ⊥) → some_cell m f ≡ false
some_cell-none m f h = not_true _ (λ t. let p = some_cell-found m f t in h p.row p.col p.passes)

-- a set that lies within its square and has no cell there is empty
pub no_piece : (m : ℕ) (f : Cells) → LiesWithin m m f → some_cell m (piece m 0 0 f) ≡ false → f ≡ no_cells
no_piece m f w h = same_cells f no_cells (λ i j. not_true _ (λ t.
    let row = w.row i j t in
    let col = w.col i j t in
    false≢true (sym h ∙ some_cell-from m (piece m 0 0 f) i j row col (piece-in m 0 0 f i j row col ∙ zero_in f i j t))))
  where
    zero_in : (g : Cells) (i j : ℕ) → g i j ≡ true → g (0 + i) (0 + j) ≡ true
    zero_in g i j t = (let a : 0 + i ≡ i = omega arith in ap (λ (x : ℕ). g x (0 + j)) a) ∙ (let b : 0 + j ≡ j = omega arith in ap (λ (x : ℕ). g i x) b) ∙ t

pub piece-none : (m : ℕ) → some_cell m (piece m 0 0 no_cells) ≡ false
piece-none m = some_cell-none m (piece m 0 0 no_cells) (λ i j t. false≢true (piece-true m 0 0 no_cells i j t).passes)

-- ---- pieces of a relation
-- the pairs of a relation in a submatrix
abbrev pub corner_piece : Relation → ℕ → Corner → Cells
corner_piece r m p = piece m p.0 p.1 (has r)

any-from : (t : ℕ × ℕ → Bool) (ps : List (ℕ × ℕ)) (q : ℕ × ℕ) → member q ps ≡ true → t q ≡ true → list_any t ps ≡ true
any-from t [] q m h = absurd (false≢true m)
any-from t (p ∷ ps) q m h = elim (or_cases _ _ m) [
  | inl s ↦ ap (λ b. b || list_any t ps) (ap t (same-true p q s) ∙ h)
  | inr s ↦ or_right (t p) _ (any-from t ps q s h)
]

record Among (t : ℕ × ℕ → Bool) (ps : List (ℕ × ℕ)) : Type 0 where
  at : ℕ × ℕ
  among : member at ps ≡ true
  passes : t at ≡ true

any-some : (t : ℕ × ℕ → Bool) (ps : List (ℕ × ℕ)) → list_any t ps ≡ true → Among t ps
any-some t [] h = absurd (false≢true h)
any-some t (p ∷ ps) h = elim (or_cases _ _ h) [
  | inl s ↦ record { at = p; among = ap (λ b. b || member p ps) (same_itself p); passes = s }
  | inr s ↦ (let k = any-some t ps s in record { at = k.at; among = or_right (same p k.at) _ k.among; passes = k.passes })
]

-- whether a pair lies in a submatrix
abbrev inside : ℕ → Corner → ℕ × ℕ → Bool
inside m p q = (leb p.0 q.0 && ltb q.0 (p.0 + m)) && (leb p.1 q.1 && ltb q.1 (p.1 + m))

-- it has a cell where the relation meets its submatrix
pub some-meets : (r : Relation) (m : ℕ) (p : Corner) → some_cell m (corner_piece r m p) ≡ meets r m p
some-meets r m p = same_truth _ _ there back
  where
    there : some_cell m (corner_piece r m p) ≡ true → meets r m p ≡ true
    there h =
        let c = some_cell-found m (corner_piece r m p) h in
        let g = piece-true m p.0 p.1 (has r) c.row c.col c.passes in
        let a = g.row in
        let b = g.col in
        any-from (inside m p) r.pairs (p.0 + c.row, p.1 + c.col) g.passes
        (and_from _ _
        (and_from _ _ (le-leb p.0 (p.0 + c.row) (omega arith)) (lt-ltb (p.0 + c.row) (p.0 + m) (omega (arith, a))))
        (and_from _ _ (le-leb p.1 (p.1 + c.col) (omega arith)) (lt-ltb (p.1 + c.col) (p.1 + m) (omega (arith, b)))))

    back : meets r m p ≡ true → some_cell m (corner_piece r m p) ≡ true
    back h =
        let q = any-some (inside m p) r.pairs h in
        let s = and_parts _ _ q.passes in
        let u = and_parts _ _ s.0 in
        let v = and_parts _ _ s.1 in
        let a = leb-true p.0 q.at.0 u.0 in
        let b = ltb-true q.at.0 (p.0 + m) u.1 in
        let c = leb-true p.1 q.at.1 v.0 in
        let d = ltb-true q.at.1 (p.1 + m) v.1 in
        let i : ℕ = q.at.0 - p.0 in
        let j : ℕ = q.at.1 - p.1 in
        let x : i < m = omega (arith, a, b) in
        let y : j < m = omega (arith, c, d) in
        let e : p.0 + i ≡ q.at.0 = omega (arith, a) in
        let f : p.1 + j ≡ q.at.1 = omega (arith, c) in
        some_cell-from m (corner_piece r m p) i j x y
        (piece-in m p.0 p.1 (has r) i j x y ∙ ap (λ (z : ℕ). has r z (p.1 + j)) e ∙ ap (λ (z : ℕ). has r q.at.0 z) f ∙ q.among)

-- the quarters of a piece of a relation are those of its submatrix
pub quarter-nw : (r : Relation) (m : ℕ) (p : Corner) → piece m 0 0 (corner_piece r (m + m) p) ≡ corner_piece r m p
quarter-nw r m p = piece-at m (m + m) 0 0 p.0 p.1 p.0 p.1 (has r) (omega arith) (omega arith) (omega arith) (omega arith)

pub quarter-ne : (r : Relation) (m : ℕ) (p : Corner) → piece m 0 m (corner_piece r (m + m) p) ≡ corner_piece r m (p.0, p.1 + m)
quarter-ne r m p = piece-at m (m + m) 0 m p.0 p.1 p.0 (p.1 + m) (has r) (omega arith) (omega arith) (omega arith) refl

pub quarter-sw : (r : Relation) (m : ℕ) (p : Corner) → piece m m 0 (corner_piece r (m + m) p) ≡ corner_piece r m (p.0 + m, p.1)
quarter-sw r m p = piece-at m (m + m) m 0 p.0 p.1 (p.0 + m) p.1 (has r) (omega arith) (omega arith) refl (omega arith)

pub quarter-se : (r : Relation) (m : ℕ) (p : Corner) → piece m m m (corner_piece r (m + m) p) ≡ corner_piece r m (p.0 + m, p.1 + m)
quarter-se r m p = piece-at m (m + m) m m p.0 p.1 (p.0 + m) (p.1 + m) (has r) (omega arith) (omega arith) refl refl
