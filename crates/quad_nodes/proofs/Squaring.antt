-- Cells and rectangles of a square, by its quarters.
use Rattle.std.proofs.Common.{◌≡◌, ◌<◌, ◌≤◌, ◌+◌, ◌-◌, ◌⊎◌, min, ltb, cond, suc, ℕ, Bool, true, false, refl, sym, ap, subst, ◌∙◌, inl, inr, arith}
use Rattle.std.proofs.lemmas.Bool.{cases_Bool, cases_lt, ltb-true, ltb-false, lt-ltb, le-ltb, and_left, and_right, and_parts}
use Rattle.rel_model.specs.declared.Quad.{Quad}
use Rattle.rel_model.specs.Cells.{Cells, no_cells, cells_rect}
use Rattle.rel_model.specs.Trees.{bottom_height, top_height, cells, stands, twice, side, quartered, paired}
use Rattle.rel_model.specs.Equations.{depth_of, side_of}
use Rattle.rel_model.specs.Quads.{Keeper, IsKeeper, quad_cells, QuadStands, IsQuad}
use Rattle.rel_model.proofs.TreeLaws.{same_cells, Within}
use Rattle.rel_model.proofs.Squares.{is_square-twice, rows_at-twice, cols_at-twice}
use Rattle.rel_model.proofs.QuadLaws.{depth_of-next, side_of-next, empty_quad}
use Rattle.quad_nodes.proofs.Halving.{Halve, halves_stand}
use Rattle.quad_nodes.proofs.Making.{AreParts}

-- ---- a cell by its quarter
row_half : (d : ℕ) (f g : Cells) (i j : ℕ) → paired (suc (twice d)) f g i j ≡ cond (ltb i (side d)) (f i j) (g (i - side d) j)
row_half d f g i j = rw (is_square-twice d, rows_at-twice d) refl

col_half : (d : ℕ) (f g : Cells) (i j : ℕ) → paired (twice d) f g i j ≡ cond (ltb j (side d)) (f i j) (g i (j - side d))
col_half d f g i j = rw (is_square-twice d, cols_at-twice d) refl

picked : (b : Bool) (f : ℕ → ℕ → Bool) (x y u v : ℕ) → cond b (f x u) (f y v) ≡ f (cond b x y) (cond b u v)
picked true f x y u v = refl
picked false f x y u v = refl

pub picked_holds : (P : ℕ → Type 0) (b : Bool) (x y : ℕ) → P x → P y → P (cond b x y)
picked_holds P true x y p q = p
picked_holds P false x y p q = q

half_within : (i m : ℕ) → i < m + m → cond (ltb i m) i (i - m) < m
half_within i m l = elim (cases_Bool (ltb i m)) [
  | inl e ↦ let a = ltb-true i m e in rw e a
  | inr e ↦ let a = ltb-false i m e in rw e (omega arith)
]

-- the quarter of a cell stands, and has the cell at its place there
pub record IsPlace (v w : Keeper) (q quarter : Quad) (i j row col : ℕ) : Type 0 where
  pub standing : QuadStands w quarter
  pub row_in : row < side_of quarter.height
  pub col_in : col < side_of quarter.height
  pub same : quad_cells v q i j ≡ quad_cells w quarter row col

-- a cell of a square is a cell of one quarter: the row picks the half and the column its half, and past the middle each
-- is moved back by half a side
pub place_is : (s0 s1 s2 : Keeper) (q : Quad) (i j m north south wide row west east name col : ℕ) → QuadStands s0 q → bottom_height < q.height → i < side_of q.height → j < side_of q.height → m ≡ side_of (q.height - 1)
    → Halve s0 s1 q.name north south → wide ≡ cond (ltb i m) north south → row ≡ cond (ltb i m) i (i - m) → Halve s1 s2 wide west east → name ≡ cond (ltb j m) west east → col ≡ cond (ltb j m) j (j - m)
    → IsPlace s0 s2 q (record { height = q.height - 1; name = name }) i j row col
place_is s0 s1 s2 q i j m north south wide row west east name col s l li lj em h0 ew er h1 en ec =
    let k : ℕ = depth_of (q.height - 1) in
    let d : ℕ = q.height - 1 - bottom_height in
    let e2 = side_of-next q.height l in
    let h = halves_stand s0 s1 q north south s l h0 in
    let sw : stands s1.view.words (suc k) wide ≡ true = subst (λ (x : ℕ). stands s1.view.words (suc k) x ≡ true) (sym ew) (picked_holds (λ x. stands s1.view.words (suc k) x ≡ true) (ltb i m) north south h.first h.second) in
    let g = h1 k sw in
    let ri : row < m = subst (λ (x : ℕ). x < m) (sym er) (half_within i m (omega (arith, e2))) in
    let ci : col < m = subst (λ (x : ℕ). x < m) (sym ec) (half_within j m (omega (arith, e2))) in
    record {
      standing = record {
        low = omega arith;
        high = (let a = s.high in omega arith);
        standing = subst (λ (x : ℕ). stands s2.view.words k x ≡ true) (sym en) (picked_holds (λ x. stands s2.view.words k x ≡ true) (ltb j m) west east g.first g.second);
      };
      row_in = omega arith;
      col_in = omega arith;
      same = ap (λ (x : ℕ). cells s0.view.words x q.name i j) (depth_of-next q.height l)
          ∙ ap (λ (c : Cells). c i j) h.means
          ∙ row_half d (cells s1.view.words (suc k) north) (cells s1.view.words (suc k) south) i j
          ∙ ap (λ (x : ℕ). cond (ltb i x) (cells s1.view.words (suc k) north i j) (cells s1.view.words (suc k) south (i - x) j)) (sym em)
          ∙ picked (ltb i m) (λ x u. cells s1.view.words (suc k) x u j) north south i (i - m)
          ∙ ap (λ (x : ℕ). cells s1.view.words (suc k) x (cond (ltb i m) i (i - m)) j) (sym ew)
          ∙ ap (λ (x : ℕ). cells s1.view.words (suc k) wide x j) (sym er)
          ∙ ap (λ (c : Cells). c row j) g.means
          ∙ col_half d (cells s2.view.words k west) (cells s2.view.words k east) row j
          ∙ ap (λ (x : ℕ). cond (ltb j x) (cells s2.view.words k west row j) (cells s2.view.words k east row (j - x))) (sym em)
          ∙ picked (ltb j m) (λ x u. cells s2.view.words k x row u) west east j (j - m)
          ∙ ap (λ (x : ℕ). cells s2.view.words k x row (cond (ltb j m) j (j - m))) (sym en)
          ∙ ap (λ (x : ℕ). cells s2.view.words k name row x) (sym ec);
    }

-- ---- rectangles by quarters
first_part : (i n m : ℕ) → ltb i m ≡ true → ltb i n ≡ ltb i (min n m)
first_part i n m e =
    let a = ltb-true i m e in
    elim (cases_lt i n) [
      | inl l ↦ lt-ltb i n l ∙ sym (lt-ltb i (min n m) (omega arith))
      | inr l ↦ le-ltb i n l ∙ sym (le-ltb i (min n m) (omega arith))
    ]

second_part : (i n m : ℕ) → ltb i m ≡ false → ltb i n ≡ ltb (i - m) (n - m)
second_part i n m e =
    let a = ltb-false i m e in
    elim (cases_lt i n) [
      | inl l ↦ lt-ltb i n l ∙ sym (lt-ltb (i - m) (n - m) (omega arith))
      | inr l ↦ le-ltb i n l ∙ sym (le-ltb (i - m) (n - m) (omega arith))
    ]

pub cells_rect-quartered : (m rows cols : ℕ) → cells_rect rows cols ≡ quartered m (cells_rect (min rows m) (min cols m)) (cells_rect (min rows m) (cols - m)) (cells_rect (rows - m) (min cols m)) (cells_rect (rows - m) (cols - m))
cells_rect-quartered m rows cols = same_cells _ _ (λ i j. elim (cases_Bool (ltb i m)) [
  | inl x ↦ elim (cases_Bool (ltb j m)) [
    | inl y ↦ let p = first_part i rows m x in let q = first_part j cols m y in rw (x, y, p, q) refl
    | inr y ↦ let p = first_part i rows m x in let q = second_part j cols m y in rw (x, y, p, q) refl
  ]
  | inr x ↦ elim (cases_Bool (ltb j m)) [
    | inl y ↦ let p = second_part i rows m x in let q = first_part j cols m y in rw (x, y, p, q) refl
    | inr y ↦ let p = second_part i rows m x in let q = second_part j cols m y in rw (x, y, p, q) refl
  ]
])

-- a rectangle of no row or no column has no cell
pub cells_rect-none : (m n : ℕ) → n ≡ 0 → cells_rect m n ≡ no_cells
cells_rect-none m n e = same_cells _ _ (λ i j. and_right (ltb i m) (ltb j n) (le-ltb j n (omega arith)))

pub cells_rect-zero : (m n : ℕ) → m ≡ 0 → cells_rect m n ≡ no_cells
cells_rect-zero m n e = same_cells _ _ (λ i j. and_left (ltb i m) (ltb j n) (le-ltb i m (omega arith)))

-- the quad of name 0 is a rectangle with no cell
pub rect_none : (w : Keeper) (h m n : ℕ) → IsKeeper w → bottom_height ≤ h → h ≤ top_height → (m ≡ 0) ⊎ (n ≡ 0) → IsQuad w h (cells_rect m n) (record { height = h; name = 0 })
rect_none w h m n i l t z =
    let q = empty_quad w h 0 i l t refl in
    let e : cells_rect m n ≡ no_cells = elim z [ inl x ↦ cells_rect-zero m n x | inr x ↦ cells_rect-none m n x ] in
    record { same_height = refl; stands = q.stands; means = q.means ∙ sym e }

-- ---- the parts of a rectangle
-- a rectangle lies within the sizes that bound it
pub rect_within : (m rows cols : ℕ) → rows ≤ m → cols ≤ m → Within m m (cells_rect rows cols)
rect_within m rows cols a b = record {
  row = λ i j e. let x : i < rows = ltb-true i rows (and_parts (ltb i rows) (ltb j cols) e).0 in omega arith;
  col = λ i j e. let x : j < cols = ltb-true j cols (and_parts (ltb i rows) (ltb j cols) e).1 in omega arith;
}

-- its quarters, of a height over that of blocks
pub rect_parts : (w : Keeper) (h rows cols top : ℕ) → IsKeeper w → bottom_height < h → rows ≤ side_of h → cols ≤ side_of h → top ≡ min rows (side_of (h - 1))
    → AreParts w h (cells_rect rows cols) (h - 1) (cells_rect top (min cols (side_of (h - 1)))) (cells_rect top (cols - side_of (h - 1))) (cells_rect (rows - top) (min cols (side_of (h - 1)))) (cells_rect (rows - top) (cols - side_of (h - 1)))
rect_parts w h rows cols top i l a b et =
    let m : ℕ = side_of (h - 1) in
    let e : side_of h ≡ m + m = side_of-next h l in
    let down : rows - top ≡ rows - m = omega arith in
    record {
      work = i;
      low = omega arith;
      next = omega arith;
      within = record {
        nw = rect_within m top (min cols m) (omega arith) (omega arith);
        ne = rect_within m top (cols - m) (omega arith) (omega (arith, e));
        sw = rect_within m (rows - top) (min cols m) (omega (arith, e)) (omega arith);
        se = rect_within m (rows - top) (cols - m) (omega (arith, e)) (omega (arith, e));
      };
      means = ap (λ (x : ℕ). quartered m (cells_rect x (min cols m)) (cells_rect x (cols - m)) (cells_rect (rows - top) (min cols m)) (cells_rect (rows - top) (cols - m))) et
          ∙ ap (λ (x : ℕ). quartered m (cells_rect (min rows m) (min cols m)) (cells_rect (min rows m) (cols - m)) (cells_rect x (min cols m)) (cells_rect x (cols - m))) down
          ∙ sym (cells_rect-quartered m rows cols);
    }
