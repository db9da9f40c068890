-- The word of a leaf: the cells of a number are put into it, quarter by quarter.
-- 1. A cell of a square lies in one of its quarters alone, so the cells of four quarters, each put at its corner, are those
--    of the square.
-- 2. Number 0 puts none, and number 1 the one cell at the corner.
-- 3. A word that began with none has the cells that lie in the leaf.
use Rattle.std.proofs.Common.{◌≡◌, ◌≤◌, ◌+◌, ◌-◌, ◌∙◌, ◌||◌, ◌&&◌, not, leb, ltb, eqb, cond, ℕ, Bool, true, false, [], ◌∷◌, refl, sym, ap, arith, inl, inr}
use Rattle.std.proofs.lemmas.Bool.{lt-ltb}
use Rattle.std.proofs.lemmas.Bool.Decides.{nat_tests}
use Rattle.rel_model.specs.Cells.{Cells, no_cells, cells_union, bits_cells}
use Rattle.rel_model.specs.Listed.{is_among}
use Rattle.rel_model.specs.Quarters.{LiesWithin}
use Rattle.rel_model.specs.Trees.{quartered}
use Rattle.rel_model.proofs.TreeLaws.{same_cells}
use Rattle.rel_model.proofs.Rooting.{outside}
use Rattle.k2_file.specs.Rests.{cells_inside}
use Rattle.k2_file.proofs.ReadLeaves.{word-cells}
use Rattle.k2_read.specs.Leaves.{placed}

or-none : (b : Bool) → (b || false) ≡ b
or-none true = refl
or-none false = refl

-- ---- four quarters
-- a place lies in one quarter, by the tests of its row and its column
one-quarter : (ri cj xm ym a b c d : Bool) → (xm ≡ false → a ≡ false) → (xm ≡ false → b ≡ false) → (ym ≡ false → a ≡ false) → (ym ≡ false → c ≡ false)
    → ((((ri && (cj && a)) || (ri && ((cj && not ym) && b))) || ((ri && not xm) && (cj && c))) || ((ri && not xm) && ((cj && not ym) && d)))
    ≡ (ri && (cj && cond xm (cond ym a b) (cond ym c d)))
one-quarter false cj xm ym a b c d a1 b1 a2 c2 = refl
one-quarter true false true ym a b c d a1 b1 a2 c2 = refl
one-quarter true false false ym a b c d a1 b1 a2 c2 = refl
one-quarter true true true true a b c d a1 b1 a2 c2 = or-none ((a || false) || false) ∙ (or-none (a || false) ∙ or-none a)
one-quarter true true true false a b c d a1 b1 a2 c2 =
    ap (λ z. ((z || b) || false) || false) (a2 refl) ∙ (or-none (b || false) ∙ or-none b)
one-quarter true true false true a b c d a1 b1 a2 c2 = ap (λ z. ((z || false) || c) || false) (a1 refl) ∙ or-none c
one-quarter true true false false a b c d a1 b1 a2 c2 =
    ap (λ z. ((z || b) || c) || d) (a1 refl) ∙ (ap (λ z. (z || c) || d) (b1 refl) ∙ ap (λ z. z || d) (c2 refl))

past : (r m i : ℕ) → leb (r + m) i ≡ (leb r i && not (ltb (i - r) m))
past r m i = grind (arith, nat_tests)

less-both : (i r m : ℕ) → i - (r + m) ≡ (i - r) - m
less-both i r m = omega arith

four-added : (u s t a b c d q : Bool) → (((a || b) || c) || d) ≡ q → ((((u || (s && (t && a))) || (s && (t && b))) || (s && (t && c))) || (s && (t && d))) ≡ (u || (s && (t && q)))
four-added true s t a b c d q e = refl
four-added false true true a b c d q e = e
four-added false true false a b c d q e = refl
four-added false false t a b c d q e = refl

module _ (m : ℕ) (f0 f1 f2 f3 : Cells) (w0 : LiesWithin m m f0) (w1 : LiesWithin m m f1) (w2 : LiesWithin m m f2) where
  -- a cell is in one of the four quarters, each at its corner, exactly if it is in their square: half a side behind the
  -- square's corner begin the southern and the eastern quarters
  in-quarters : (r c i j : ℕ) →
      ((((leb r i && (leb c j && f0 (i - r) (j - c))) || (leb r i && (leb (c + m) j && f1 (i - r) (j - (c + m))))) || (leb (r + m) i && (leb c j && f2 (i - (r + m)) (j - c)))) || (leb (r + m) i && (leb (c + m) j && f3 (i - (r + m)) (j - (c + m)))))
      ≡ (leb r i && (leb c j && quartered m f0 f1 f2 f3 (i - r) (j - c)))
  in-quarters r c i j =
      (λ k. (((leb r i && (leb c j && f0 (i - r) (j - c))) || (leb r i && (past c m j k && f1 (i - r) (less-both j c m k)))) || (past r m i k && (leb c j && f2 (less-both i r m k) (j - c)))) || (past r m i k && (past c m j k && f3 (less-both i r m k) (less-both j c m k))))
      ∙ one-quarter (leb r i) (leb c j) (ltb (i - r) m) (ltb (j - c) m) (f0 (i - r) (j - c)) (f1 (i - r) ((j - c) - m)) (f2 ((i - r) - m) (j - c)) (f3 ((i - r) - m) ((j - c) - m))
      (λ e. outside m m f0 w0 (i - r) (j - c) (inl (over (i - r) e)))
      (λ e. outside m m f1 w1 (i - r) ((j - c) - m) (inl (over (i - r) e)))
      (λ e. outside m m f0 w0 (i - r) (j - c) (inr (over (j - c) e)))
      (λ e. outside m m f2 w2 ((i - r) - m) (j - c) (inr (over (j - c) e)))
    where
      over : (x : ℕ) → ltb x m ≡ false → m ≤ x
      over x e = grind (arith, nat_tests)

  -- the cells of four quarters, each put at its corner
  four-placed : (side r c : ℕ) (u : Cells) →
      cells_union (cells_union (cells_union (cells_union u (placed side r c f0)) (placed side r (c + m) f1)) (placed side (r + m) c f2)) (placed side (r + m) (c + m) f3)
      ≡ cells_union u (placed side r c (quartered m f0 f1 f2 f3))
  four-placed side r c u = same_cells _ _ (λ i j. four-added (u i j) (ltb i side) (ltb j side) _ _ _ _ _ (in-quarters r c i j))

  -- the word that is left, where half the side is told by the code
  pub quarters-placed : (side r c half : ℕ) (u u1 u2 u3 u4 : Cells) → half ≡ m
      → u1 ≡ cells_union u (placed side r c f0) → u2 ≡ cells_union u1 (placed side r (c + half) f1)
      → u3 ≡ cells_union u2 (placed side (r + half) c f2) → u4 ≡ cells_union u3 (placed side (r + half) (c + half) f3)
      → u4 ≡ cells_union u (placed side r c (quartered m f0 f1 f2 f3))
  quarters-placed side r c half u u1 u2 u3 u4 e h1 h2 h3 h4 =
      h4
      ∙ (λ i. cells_union (added i) (placed side (r + e i) (c + e i) f3))
      ∙ four-placed side r c u
    where
      added : u3 ≡ cells_union (cells_union (cells_union u (placed side r c f0)) (placed side r (c + m) f1)) (placed side (r + m) c f2)
      added =
          h3 ∙ ap (λ (x : Cells). cells_union x (placed side (r + half) c f2)) (h2 ∙ ap (λ (x : Cells). cells_union x (placed side r (c + half) f1)) h1)
          ∙ ap (λ (k : ℕ). cells_union (cells_union (cells_union u (placed side r c f0)) (placed side r (c + k) f1)) (placed side (r + k) c f2)) e

-- ---- none, and one cell
pub none-placed : (side r c : ℕ) (u f : Cells) → f ≡ no_cells → u ≡ cells_union u (placed side r c f)
none-placed side r c u f e =
    same_cells u (cells_union u (placed side r c no_cells)) (λ i j. sym (none (u i j) (ltb i side) (ltb j side) (leb r i) (leb c j)))
    ∙ ap (λ g. cells_union u (placed side r c g)) (sym e)
  where
    none : (b s t p q : Bool) → (b || (s && (t && (p && (q && false))))) ≡ b
    none true s t p q = refl
    none false true true true true = refl
    none false true true true false = refl
    none false true true false q = refl
    none false true false p q = refl
    none false false t p q = refl

same-row : (r i : ℕ) → eqb r i ≡ (leb r i && eqb (i - r) 0)
same-row r i = grind (arith, nat_tests)

-- number 1 puts the one cell at the corner: the only one in row 0 and column 0 from there
pub cell-placed : (side r c n : ℕ) → n ≡ 1 → cells_inside side (is_among ((r, c) ∷ [])) ≡ placed side r c (λ i j. eqb n 1 && (eqb i 0 && eqb j 0))
cell-placed side r c n e =
    same_cells (cells_inside side (is_among ((r, c) ∷ []))) (placed side r c (λ i j. eqb i 0 && eqb j 0))
    (λ i j. ap (λ b. ltb i side && (ltb j side && b))
    (or-none (eqb r i && eqb c j) ∙ ((λ k. same-row r i k && same-row c j k) ∙ mixed (leb r i) (eqb (i - r) 0) (leb c j) (eqb (j - c) 0))))
    ∙ ap (λ k. placed side r c (λ i j. eqb k 1 && (eqb i 0 && eqb j 0))) (sym e)
  where
    mixed : (p x q y : Bool) → ((p && x) && (q && y)) ≡ (p && (q && (x && y)))
    mixed true true q y = refl
    mixed true false true y = refl
    mixed true false false y = refl
    mixed false x q y = refl

-- ---- the whole leaf
from-first : (m : ℕ) (f : Cells) → placed m 0 0 f ≡ cells_inside m f
from-first m f = same_cells _ _ (λ i j. (λ k. ltb i m && (ltb j m && (from-none i k && (from-none j k && f (less-none i k) (less-none j k))))))
  where
    from-none : (i : ℕ) → leb 0 i ≡ true
    from-none i = grind (arith, nat_tests)

    less-none : (i : ℕ) → i - 0 ≡ i
    less-none i = omega arith

inside-itself : (m : ℕ) (f : Cells) → LiesWithin m m f → cells_inside m f ≡ f
inside-itself m f w = same_cells _ _ (λ i j. told (ltb i m) (ltb j m) (f i j) (λ e. lt-ltb i m (w.row i j e)) (λ e. lt-ltb j m (w.col i j e)))
  where
    told : (s t b : Bool) → (b ≡ true → s ≡ true) → (b ≡ true → t ≡ true) → (s && (t && b)) ≡ b
    told s t true p q = rw (p refl, q refl) refl
    told true true false p q = refl
    told true false false p q = refl
    told false t false p q = refl

-- the cells of a word that began with none, where all lie in the leaf
pub leaf-cells : (n m word : ℕ) (f : Cells) → m ≡ n → LiesWithin n n f → bits_cells m word ≡ cells_union (bits_cells m 0) (placed m 0 0 f) → bits_cells n word ≡ f
leaf-cells n m word f e w h =
    word-cells n m word f e (h ∙ ap (λ g. cells_union (bits_cells m 0) g) (from-first m f)) ∙ inside-itself n f w
