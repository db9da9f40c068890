-- The pairs of squares: those of a set in its square, of its quarters, and of what shows it.
use Rattle.std.proofs.Common.{◌≡◌, ◌≤◌, ◌+◌, ◌^◌, ◌||◌, suc, ℕ, true, false, [], ◌∷◌, refl, sym, ap, ◌∙◌, inl, inr, arith, Option, Some, None}
use Rattle.std.proofs.lemmas.Bool.{cases_lt, false≢true}
use Rattle.std.proofs.Math.Nat.{pow-le-pow_right}
use Rattle.rel_model.specs.Listed.{is_among}
use Rattle.rel_model.specs.Cells.{Cells}
use Rattle.rel_model.specs.Worker.{Worker, Keeps}
use Rattle.rel_model.proofs.Pairs.{same_itself}
use Rattle.rel_model.proofs.Relations.{has-relation_of}
use Rattle.run_model.specs.SharedBytes.{quarter}
use Rattle.run_model.proofs.SharedCells.{pairs_valid, pairs_agree}
use Rattle.run_model.proofs.SharedSquares.{Proper}
use Rattle.k2_file.specs.declared.windows.Window.{Window}
use Rattle.k2_file.specs.declared.squares.Square.{Square as Shown}
use Rattle.k2_file.specs.Squares.{piece, some_cell, square_cells, IsWindow, IsSquare, Shows}
use Rattle.k2_file.specs.Counts.{IsFull}
use Rattle.k2_file.proofs.WritePieces.{piece-in, some_cell-found, some_cell-from}
use Rattle.k2_file.proofs.WriteSquares.{shows-stay, square_cells-stay}
use Rattle.k2_write.specs.Visiting.{Pairs, pairs_in, square_pairs, part_pairs}

pub proper_pairs : (h : ℕ) (f : Cells) → Proper h (pairs_in h f)
proper_pairs h f = pairs_valid (2 ^ h) f

-- a set with a cell in a square has a pair there, and one without has none
pub some_pairs : (h : ℕ) (f : Cells) → some_cell (2 ^ h) f ≡ true → (p : ℕ × ℕ) × (ps : Pairs) × (pairs_in h f ≡ p ∷ ps)
some_pairs h f t = first (pairs_in h f) refl
  where
    first : (ps : Pairs) → pairs_in h f ≡ ps → (p : ℕ × ℕ) × (qs : Pairs) × (ps ≡ p ∷ qs)
    first [] e =
        let c = some_cell-found (2 ^ h) f t in
        absurd (false≢true ((λ i. is_among (sym e i) c.row c.col) ∙ (has-relation_of (2 ^ h) (2 ^ h) f c.row c.col c.row_in c.col_in ∙ c.passes)))
    first (p ∷ ps) e = (p, ps, refl)

pub no_pairs : (h : ℕ) (f : Cells) → some_cell (2 ^ h) f ≡ false → pairs_in h f ≡ []
no_pairs h f none = first (pairs_in h f) refl (proper_pairs h f)
  where
    first : (ps : Pairs) → pairs_in h f ≡ ps → Proper h ps → pairs_in h f ≡ []
    first [] e v = e
    first (p ∷ ps) e v =
        let w = v.within.0 in
        let here : is_among (p ∷ ps) p.0 p.1 ≡ true = ap (λ b. b || is_among ps p.0 p.1) (same_itself p) in
        let cell : f p.0 p.1 ≡ true = sym (has-relation_of (2 ^ h) (2 ^ h) f p.0 p.1 w.0 w.1) ∙ ((λ i. is_among (e i) p.0 p.1) ∙ here) in
        absurd (false≢true (sym none ∙ some_cell-from (2 ^ h) f p.0 p.1 w.0 w.1 cell))

-- the quarters of the pairs are the pairs of the quarters
pub quarter_pairs : (h row col : ℕ) (f : Cells) → row + 2 ^ h ≤ 2 ^ suc h → col + 2 ^ h ≤ 2 ^ suc h → quarter (2 ^ h) row col (pairs_in (suc h) f) ≡ pairs_in h (piece (2 ^ h) row col f)
quarter_pairs h row col f r c =
    pairs_agree (2 ^ h) (λ i j. is_among (pairs_in (suc h) f) (row + i) (col + j)) (piece (2 ^ h) row col f)
    (λ i j x y. has-relation_of (2 ^ suc h) (2 ^ suc h) f (row + i) (col + j) (omega (arith, r, x)) (omega (arith, c, y)) ∙ sym (piece-in (2 ^ h) row col f i j x y))

-- what shows a set has its pairs
pub shown_pairs : (w : Worker) (least h : ℕ) (f : Cells) (o : Option Shown) → Shows w least h f o → part_pairs w h o ≡ pairs_in h f
shown_pairs w least h f None s = sym (no_pairs h f s)
shown_pairs w least h f (Some x) s = ap (pairs_in h) s.means

-- and a call later too
pub shown_pairs_later : (a b : Worker) (least h : ℕ) (f : Cells) (o : Option Shown) → Keeps a b → Shows a least h f o → part_pairs b h o ≡ pairs_in h f
shown_pairs_later a b least h f o k s = shown_pairs b least h f o (shows-stay a b least h f o k s)

pub square_pairs_stay : (a b : Worker) (least h : ℕ) (s : Shown) → Keeps a b → IsSquare a least h s → square_pairs b h s ≡ square_pairs a h s
square_pairs_stay a b least h s k i = ap (pairs_in h) (square_cells-stay a b least h (2 ^ h) s k i)

-- a square with a cell has pairs
pub full_pairs : (w : Worker) (least h : ℕ) (s : Shown) → IsFull w least h s → (p : ℕ × ℕ) × (ps : Pairs) × (square_pairs w h s ≡ p ∷ ps)
full_pairs w least h s f = some_pairs h (square_cells w (2 ^ h) s) f.some

-- a window is at most as high as a leaf
pub small_window : (h : ℕ) (v : Window) → IsWindow (2 ^ h) v → h ≤ 3
small_window h v i =
    elim (cases_lt 3 h) [
      | inl l ↦ (let p = pow-le-pow_right {n = 2} (omega arith) {i = 4} {j = h} (omega (arith, l)) in let r = i.row in absurd (omega (arith, p, r)))
      | inr l ↦ l
    ]
