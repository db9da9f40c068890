-- The tree over squares of 256 rows and columns side by side.
-- 1. Squares that stand keep their cells, so what they make together stays the same set.
-- 2. A square alone is a window of that set; where there is none, the window is empty.
-- 3. Four windows are the quarters of one of twice the side.
-- 4. Quarters that are made one after the other are all of the set as it was at first.
use Rattle.std.proofs.Common.{◌≡◌, ◌≢◌, ◌<◌, ◌≤◌, ◌+◌, ◌-◌, ◌*◌, ◌/◌, ◌%◌, ◌^◌, ◌∙◌, ◌&&◌, max, ltb, suc, ℕ, Bool, false, List, [], ◌∷◌, Option, Some, None, refl, sym, ap, subst, inl, inr, arith, length, get_or}
use Rattle.std.specs.Prelude.{Ok, IsSome, unwrap_or}
use Rattle.std.proofs.Math.Nat.{pow-suc, one-le-pow}
use Rattle.std.proofs.lemmas.Bool.{false≢true, cases_lt, lt-ltb, le-ltb, and_left, and_right}
use Rattle.std.proofs.lemmas.Nat.{mul-le, pow-add}
use Rattle.rel_model.specs.declared.Quad.{Quad}
use Rattle.rel_model.specs.Cells.{Cells, no_cells}
use Rattle.rel_model.specs.Trees.{top_height}
use Rattle.rel_model.specs.Quarters.{LiesWithin}
use Rattle.rel_model.specs.Worker.{Worker, HasQuad, quad_set, GivesQuad, Keeps}
use Rattle.rel_model.proofs.TreeLaws.{same_cells}
use Rattle.rel_model.proofs.Rooting.{outside}
use Rattle.rel_steps.specs.Making.{MakesQuad}
use Rattle.rel_steps.proofs.Empty.{empty_given}
use Rattle.rel_steps.proofs.Given.{AreParts, kept_set, kept_quad}
use Rattle.rel_steps.proofs.Making.{Underway, begun, goes_on}
use Rattle.rel_closure.proofs.OverQuads.{double_side}
use Rattle.rel_closure.proofs.OverRows.{gathered_parts}
use Rattle.bit_rows.specs.Places.{window}
use Rattle.rel_joins.specs.Columns.{AreSquares, no_square, tiled}

-- ---- squares that stand
pub squares_kept : {u w : Worker} {squares : List Quad} → AreSquares u squares → Keeps u w → AreSquares w squares
squares_kept {u} {w} {squares} s k = record { stand = λ i l. kept_quad u w _ k (s.stand i l); high = s.high }

-- a square's place is one of all
pub place_below : (blocks row col : ℕ) → row < blocks → col < blocks → col * blocks + row < blocks * blocks
place_below blocks row col a b = let m = mul-le (col + 1) blocks blocks blocks (omega (arith, b)) (omega arith) in omega (arith, m, a)

pub tiled_kept : {u w : Worker} (blocks : ℕ) (squares : List Quad) → AreSquares u squares → length squares ≡ blocks * blocks → Keeps u w → tiled w blocks squares ≡ tiled u blocks squares
tiled_kept {u} {w} blocks squares s e k = same_cells _ _ (λ i j. elim (cases_lt i (256 * blocks)) [
  | inl a ↦ elim (cases_lt j (256 * blocks)) [
    | inl b ↦ (let p = place_below blocks (i / 256) (j / 256) (omega (arith, a)) (omega (arith, b)) in
        ap (λ (f : Cells). ltb i (256 * blocks) && (ltb j (256 * blocks) && f (i % 256) (j % 256))) (kept_set u w _ k (s.stand (j / 256 * blocks + i / 256) (omega (arith, p, e)))))
    | inr b ↦ and_right (ltb i (256 * blocks)) _ (and_left (ltb j (256 * blocks)) _ (le-ltb j (256 * blocks) b)) ∙ sym (and_right (ltb i (256 * blocks)) _ (and_left (ltb j (256 * blocks)) _ (le-ltb j (256 * blocks) b)))
  ]
  | inr a ↦ and_left (ltb i (256 * blocks)) _ (le-ltb i (256 * blocks) a) ∙ sym (and_left (ltb i (256 * blocks)) _ (le-ltb i (256 * blocks) a))
])

-- ---- one square
quad_some : (o : Option Cells) → IsSome o → o ≡ Some (unwrap_or o no_cells)
quad_some (Some f) h = refl
quad_some None h = absurd (false≢true h)

-- a cell of the squares
tiled_at : (w : Worker) (blocks row col i j : ℕ) (squares : List Quad) → row < blocks → col < blocks → i < 256 → j < 256 → tiled w blocks squares (256 * row + i) (256 * col + j) ≡ quad_set w (get_or squares (col * blocks + row) no_square) i j
tiled_at w blocks row col i j squares a b c d =
    let r : (256 * row + i) / 256 ≡ row = omega (arith, c) in
    let s : (256 * col + j) / 256 ≡ col = omega (arith, d) in
    let x : (256 * row + i) % 256 ≡ i = omega (arith, c) in
    let y : (256 * col + j) % 256 ≡ j = omega (arith, d) in
    let f : (p q k l : ℕ) → Bool = λ p q k l. quad_set w (get_or squares (q * blocks + p) no_square) k l in
    ap (λ (t : Bool). t && (ltb (256 * col + j) (256 * blocks) && f ((256 * row + i) / 256) ((256 * col + j) / 256) ((256 * row + i) % 256) ((256 * col + j) % 256))) (lt-ltb (256 * row + i) (256 * blocks) (omega (arith, a, c)))
    ∙ ap (λ (t : Bool). t && f ((256 * row + i) / 256) ((256 * col + j) / 256) ((256 * row + i) % 256) ((256 * col + j) % 256)) (lt-ltb (256 * col + j) (256 * blocks) (omega (arith, b, d)))
    ∙ ap (λ (z : ℕ). f z ((256 * col + j) / 256) ((256 * row + i) % 256) ((256 * col + j) % 256)) r ∙ ap (λ (z : ℕ). f row z ((256 * row + i) % 256) ((256 * col + j) % 256)) s
    ∙ ap (λ (z : ℕ). f row col z ((256 * col + j) % 256)) x ∙ ap (λ (z : ℕ). f row col i z) y

pub square_value : (w : Worker) (h blocks row col : ℕ) (squares : List Quad) (q : Quad) → h ≡ 8 → row < blocks → col < blocks → q ≡ get_or squares (col * blocks + row) no_square → HasQuad w q → q.height ≡ 8 → LiesWithin 256 256 (quad_set w q)
    → GivesQuad w h (window (256 * row) (256 * col) (2 ^ h) (tiled w blocks squares)) q
square_value w h blocks row col squares q e a b s t f v =
    subst (λ (n : ℕ). GivesQuad w n (window (256 * row) (256 * col) (2 ^ n) (tiled w blocks squares)) q) (sym e)
    (record { means = quad_some (w.quad q) t ∙ ap Some same; same_height = f })
  where
    here : (i j : ℕ) → quad_set w q i j ≡ window (256 * row) (256 * col) 256 (tiled w blocks squares) i j
    here i j = elim (cases_lt i 256) [
      | inl c ↦ elim (cases_lt j 256) [
        | inl d ↦ ap (λ (z : Quad). quad_set w z i j) s ∙ sym (ap (λ (x : Bool). x && (ltb j 256 && tiled w blocks squares (256 * row + i) (256 * col + j))) (lt-ltb i 256 c)
            ∙ ap (λ (x : Bool). x && tiled w blocks squares (256 * row + i) (256 * col + j)) (lt-ltb j 256 d) ∙ tiled_at w blocks row col i j squares a b c d)
        | inr d ↦ outside 256 256 (quad_set w q) v i j (inr d) ∙ sym (and_right (ltb i 256) _ (and_left (ltb j 256) _ (le-ltb j 256 d)))
      ]
      | inr c ↦ outside 256 256 (quad_set w q) v i j (inl c) ∙ sym (and_left (ltb i 256) _ (le-ltb i 256 c))
    ]

    same : quad_set w q ≡ window (256 * row) (256 * col) 256 (tiled w blocks squares)
    same = same_cells _ _ here

-- outside the squares
pub outside_value : (w : Worker) (h blocks row col : ℕ) (squares : List Quad) (q : Quad) → blocks ≤ max row col → q ≡ record { height = h; name = 0 } → w.quad (record { height = h; name = 0 }) ≡ Some no_cells
    → GivesQuad w h (window (256 * row) (256 * col) (2 ^ h) (tiled w blocks squares)) q
outside_value w h blocks row col squares q l e z =
    empty_given w h (window (256 * row) (256 * col) (2 ^ h) (tiled w blocks squares)) q e z
    (same_cells _ _ (λ i j. and_right (ltb i (2 ^ h)) _ (and_right (ltb j (2 ^ h)) _ (none i j))))
  where
    none : (i j : ℕ) → tiled w blocks squares (256 * row + i) (256 * col + j) ≡ false
    none i j = elim (cases_lt row blocks) [
      | inl a ↦ and_right (ltb (256 * row + i) (256 * blocks)) _ (and_left (ltb (256 * col + j) (256 * blocks)) _ (le-ltb (256 * col + j) (256 * blocks) (omega (arith, l, a))))
      | inr a ↦ and_left (ltb (256 * row + i) (256 * blocks)) _ (le-ltb (256 * row + i) (256 * blocks) (omega (arith, a)))
    ]

-- ---- four quarters
-- 256 is the side of eight heights
pub by_256 : (k : ℕ) → 256 * 2 ^ k ≡ 2 ^ (k + 8)
by_256 k = sym (pow-add 2 k 8 ∙ (let a : 2 ^ k * 2 ^ 8 ≡ 256 * 2 ^ k = omega arith in a))

half_side : (h half : ℕ) → 8 < h → half ≡ 2 ^ (h - 8 - 1) → 256 * half ≡ 2 ^ (h - 1)
half_side h half l e = ap (λ (x : ℕ). 256 * x) e ∙ by_256 (h - 8 - 1) ∙ ap (λ (x : ℕ). 2 ^ x) (omega (arith, l))

pub raised_parts : (h row col half : ℕ) (f : Cells) → 8 < h → half ≡ 2 ^ (h - 8 - 1) → let n : ℕ = 2 ^ (h - 1) in
    AreParts h (window (256 * row) (256 * col) (2 ^ h) f) (h - 1) (window (256 * row) (256 * col) n f) (window (256 * row) (256 * (col + half)) n f) (window (256 * (row + half)) (256 * col) n f) (window (256 * (row + half)) (256 * (col + half)) n f)
raised_parts h row col half f l e =
    let n : ℕ = 2 ^ (h - 1) in
    let p = gathered_parts h (256 * row) (256 * col) (256 * half) f (omega (arith, l)) (half_side h half l e) in
    let r : 256 * row + 256 * half ≡ 256 * (row + half) = omega arith in
    let c : 256 * col + 256 * half ≡ 256 * (col + half) = omega arith in
    subst (λ (y : ℕ). AreParts h (window (256 * row) (256 * col) (2 ^ h) f) (h - 1) (window (256 * row) (256 * col) n f) (window (256 * row) y n f) (window (256 * (row + half)) (256 * col) n f) (window (256 * (row + half)) y n f)) c
    (subst (λ (x : ℕ). AreParts h (window (256 * row) (256 * col) (2 ^ h) f) (h - 1) (window (256 * row) (256 * col) n f) (window (256 * row) (256 * col + 256 * half) n f) (window x (256 * col) n f) (window x (256 * col + 256 * half) n f)) r p)

-- a square is passed
pub over_square : {h : ℕ} → 8 ≤ h → h ≢ 8 → 8 < h
over_square l n = omega (arith, l, n)

-- the quarters lie where the whole does, and are not too small
pub record Quarters (h half row col : ℕ) : Type 0 where
  pub low : 8 ≤ h - 1
  pub high : h - 1 ≤ 16
  pub upper : row + 2 ^ (h - 1 - 8) ≤ 256
  pub lower : row + half + 2 ^ (h - 1 - 8) ≤ 256
  pub left : col + 2 ^ (h - 1 - 8) ≤ 256
  pub right : col + half + 2 ^ (h - 1 - 8) ≤ 256

pub quarters : (h half row col : ℕ) → 8 < h → h ≤ 16 → half ≡ 2 ^ (h - 8 - 1) → row + 2 ^ (h - 8) ≤ 256 → col + 2 ^ (h - 8) ≤ 256 → Quarters h half row col
quarters h half row col over high e rows cols =
    let d = double_side (h - 8 - 1) (h - 8) (omega (arith, over)) in
    let s : 2 ^ (h - 1 - 8) ≡ 2 ^ (h - 8 - 1) = ap (λ (x : ℕ). 2 ^ x) (omega arith) in
    record {
      low = omega (arith, over);
      high = omega (arith, high);
      upper = omega (arith, d, s, rows);
      lower = omega (arith, d, s, rows, e);
      left = omega (arith, d, s, cols);
      right = omega (arith, d, s, cols, e);
    }

-- four quarters and a corner have room
pub raise_next : (h : ℕ) → 8 < h → 4 * (4 ^ (h - 1 - 8) - 1) + 3 ≡ 4 ^ (h - 8) - 1
raise_next h l =
    let d : ℕ = h - 1 - 8 in
    let e : h - 8 ≡ suc d = omega (arith, l) in
    let p : 4 ^ (h - 8) ≡ 4 ^ d * 4 = ap (λ (x : ℕ). 4 ^ x) e ∙ pow-suc 4 d in
    let a : 1 ≤ 4 ^ d = one-le-pow d 4 (omega arith) in
    omega (arith, p, a)

pub not_top : (k h : ℕ) → k ≡ h - 1 → h ≤ 16 → k < top_height
unfolding top_height
not_top k h e l = omega (arith, e, l)

pub under_top : (h : ℕ) → h ≤ 16 → h ≤ top_height
unfolding top_height
under_top h l = omega (arith, l)

-- ---- quarters made one after the other
-- a quarter of side 2^(h - 1), from a square on
abbrev pub quarter : (h row col : ℕ) → Cells → Cells
quarter h row col f = window (256 * row) (256 * col) (2 ^ (h - 1)) f

-- one more
next_made : {lean : Bool} {m n : ℕ} {squares : List Quad} {ps : List (Quad × Cells)} {u v w : Worker} {q : Quad} (h blocks row col : ℕ) → AreSquares u squares → length squares ≡ blocks * blocks → Underway m (h - 1) ps u v
    → MakesQuad lean n (h - 1) (quarter h row col (tiled v blocks squares)) v w (Ok q) → Underway (m + n) (h - 1) ((q, quarter h row col (tiled u blocks squares)) ∷ ps) u w
next_made {lean} {m} {n} {squares} {ps} {u} {v} {w} {q} h blocks row col s all a made =
    goes_on a (subst (λ (f : Cells). MakesQuad lean n (h - 1) (quarter h row col f) v w (Ok q)) (tiled_kept blocks squares s all a.keeps) made)

pub one_made : {lean : Bool} {n h : ℕ} {f : Cells} {u v : Worker} {q : Quad} → MakesQuad lean n h f u v (Ok q) → Underway (0 + n) h ((q, f) ∷ []) u v
one_made a = goes_on (begun _) a

pub two_made : {lean : Bool} {n : ℕ} {squares : List Quad} {f : Cells} {u v w : Worker} {p q : Quad} (h blocks row col half : ℕ) → AreSquares u squares → length squares ≡ blocks * blocks → MakesQuad lean n (h - 1) f u v (Ok p)
    → MakesQuad lean n (h - 1) (quarter h row (col + half) (tiled v blocks squares)) v w (Ok q) → Underway (0 + n + n) (h - 1) ((q, quarter h row (col + half) (tiled u blocks squares)) ∷ (p, f) ∷ []) u w
two_made h blocks row col half s all a b = next_made h blocks row (col + half) s all (one_made a) b

pub three_made : {lean : Bool} {n : ℕ} {squares : List Quad} {f : Cells} {u v w x : Worker} {o p q : Quad} (h blocks row col half : ℕ) → AreSquares u squares → length squares ≡ blocks * blocks → MakesQuad lean n (h - 1) f u v (Ok o)
    → MakesQuad lean n (h - 1) (quarter h row (col + half) (tiled v blocks squares)) v w (Ok p) → MakesQuad lean n (h - 1) (quarter h (row + half) col (tiled w blocks squares)) w x (Ok q)
    → let g : Cells = tiled u blocks squares in Underway (0 + n + n + n) (h - 1) ((q, quarter h (row + half) col g) ∷ (p, quarter h row (col + half) g) ∷ (o, f) ∷ []) u x
three_made h blocks row col half s all a b c = next_made h blocks (row + half) col s all (two_made h blocks row col half s all a b) c

pub four_made : {lean : Bool} {n : ℕ} {squares : List Quad} {f : Cells} {u v w x y : Worker} {o p q r : Quad} (h blocks row col half : ℕ) → AreSquares u squares → length squares ≡ blocks * blocks → MakesQuad lean n (h - 1) f u v (Ok o)
    → MakesQuad lean n (h - 1) (quarter h row (col + half) (tiled v blocks squares)) v w (Ok p) → MakesQuad lean n (h - 1) (quarter h (row + half) col (tiled w blocks squares)) w x (Ok q)
    → MakesQuad lean n (h - 1) (quarter h (row + half) (col + half) (tiled x blocks squares)) x y (Ok r)
    → let g : Cells = tiled u blocks squares in Underway (0 + n + n + n + n) (h - 1) ((r, quarter h (row + half) (col + half) g) ∷ (q, quarter h (row + half) col g) ∷ (p, quarter h row (col + half) g) ∷ (o, f) ∷ []) u y
four_made h blocks row col half s all a b c d = next_made h blocks (row + half) (col + half) s all (three_made h blocks row col half s all a b c) d
