-- What squares show: windows within a leaf, quads over the leaves, and their quarters.
-- 1. What a worker keeps: a square that stands goes on standing, with its cells.
-- 2. A leaf is a window of itself, and a quarter of a window is a window of the same word.
-- 3. A quad has no cell exactly where it is named 0, since quads of one height with one set have one name.
-- 4. The quarters of a quad are the pieces of its set; each is shown some calls before the last, and stays.
use Rattle.std.proofs.Common.{◌≡◌, ◌≤◌, ◌+◌, ◌-◌, ◌^◌, ◌||◌, suc, ℕ, Bool, true, false, refl, sym, ap, subst, ◌∙◌, inl, inr, arith, Option, Some, None}
use Rattle.std.specs.Prelude.{IsSome, unwrap_or}
use Rattle.std.proofs.lemmas.Bool.{cases_Bool, cases_lt}
use Rattle.std.proofs.Math.Nat.{pow-suc, pow-le-pow_right}
use Rattle.rel_model.specs.declared.Quad.{Quad}
use Rattle.rel_model.specs.declared.Quarters.{Quarters}
use Rattle.rel_model.specs.Cells.{Cells, no_cells, some_below, bits_cells}
use Rattle.rel_model.specs.Trees.{quartered}
use Rattle.rel_model.specs.Quarters.{LiesWithin, GivesQuarters}
use Rattle.rel_model.specs.Worker.{Worker, HasQuad, quad_set, Keeps}
use Rattle.rel_model.proofs.Workers.{keeps_trans}
use Rattle.rel_steps.proofs.Given.{kept_quad, kept_set}
use Rattle.k2_file.specs.declared.windows.Window.{Window}
use Rattle.k2_file.specs.declared.squares.Square.{Square}
use Rattle.k2_file.specs.declared.squares.Square.TheVariants.{Tree, Part}
use Rattle.k2_file.specs.Squares.{piece, some_cell, window_cells, square_cells, IsWindow, IsLeafWindow, IsSquare, Shows, ShowsFour, IsShownPart, ShowsWindow, ShowsFourWindows}
use Rattle.k2_file.proofs.WriteHeights.{side-small}
use Rattle.k2_file.proofs.WritePieces.{piece-piece, piece-none, no_piece, piece-nw, piece-ne, piece-sw, piece-se}

-- ---- what a worker keeps
pub zero_set : (w : Worker) (q : Quad) → q.name ≡ 0 → w.quad (record { height = q.height; name = 0 }) ≡ Some no_cells → quad_set w q ≡ no_cells
zero_set w q e h = ap (λ (n : ℕ). quad_set w (record { height = q.height; name = n })) e ∙ ap (λ o. unwrap_or o no_cells) h

-- a square stays, with its cells
pub square-stays : (a b : Worker) (least h : ℕ) (s : Square) → Keeps a b → IsSquare a least h s → IsSquare b least h s
square-stays a b least h (Tree q) k i = (kept_quad a b q k i.0, i.1, i.2)
square-stays a b least h (Part v) k i = i

pub square_cells-stay : (a b : Worker) (least h m : ℕ) (s : Square) → Keeps a b → IsSquare a least h s → square_cells b m s ≡ square_cells a m s
square_cells-stay a b least h m (Tree q) k i = ap (piece m 0 0) (kept_set a b q k i.0)
square_cells-stay a b least h m (Part v) k i = refl

pub shows-stay : (a b : Worker) (least h : ℕ) (f : Cells) (o : Option Square) → Keeps a b → Shows a least h f o → Shows b least h f o
shows-stay a b least h f None k s = s
shows-stay a b least h f (Some x) k s = record {
  square = square-stays a b least h x k s.square;
  means = square_cells-stay a b least h (2 ^ h) x k s.square ∙ s.means;
  some = s.some;
}

-- ---- rows and columns of windows
pub none-more : (n : ℕ) (t : ℕ → Bool) → t n ≡ false → some_below n t ≡ false → some_below (n + 1) t ≡ false
none-more n t a b = (let e : n + 1 ≡ suc n = omega arith in ap (λ (k : ℕ). some_below k t) e) ∙ ap (λ x. x || some_below n t) a ∙ b

pub next-side : (h : ℕ) → 2 ^ (h + 1) ≡ 2 ^ h + 2 ^ h
next-side h = let e : h + 1 ≡ suc h = omega arith in let p = pow-suc 2 h in let q : 2 ^ (h + 1) ≡ 2 ^ suc h = ap (λ (x : ℕ). 2 ^ x) e in omega (arith, p, q)

-- ---- windows
pub leaf-window : (least h side bits : ℕ) (f : Cells) → h ≡ least → least ≤ 3 → side ≡ 2 ^ h → bits_cells (2 ^ least) bits ≡ f → IsLeafWindow least f (record { bits = bits; side = side; row = 0; col = 0 })
leaf-window least h side bits f e l s m = record {
  side = (let p = side-small h (omega arith) in omega (arith, p, s));
  row = refl;
  col = refl;
  means = ap (λ (x : ℕ). bits_cells x bits) (s ∙ ap (λ (x : ℕ). 2 ^ x) e) ∙ m;
}

pub leaf-is_window : (least h : ℕ) (f : Cells) (v : Window) → h ≤ 3 → IsLeafWindow least f v → IsWindow (2 ^ h) v
leaf-is_window least h f v l i =
    let p = side-small h l in
    let a = i.row in
    let b = i.col in
    record { side = i.side; row = omega (arith, p, a); col = omega (arith, p, b) }

leaf-cells : (least m : ℕ) (f : Cells) (v : Window) → IsLeafWindow least f v → window_cells m v ≡ piece m 0 0 f
leaf-cells least m f v i =
    ap (λ (x : ℕ). piece m x v.col (bits_cells v.side v.bits)) i.row ∙ ap (λ (x : ℕ). piece m 0 x (bits_cells v.side v.bits)) i.col ∙ ap (piece m 0 0) i.means

pub shown-part : (h m : ℕ) (v : Window) (b : Bool) → m ≡ 2 ^ h → IsWindow (2 ^ h) v → b ≡ some_cell m (window_cells m v) → b ≡ true → IsShownPart h (window_cells (2 ^ h) v) v
shown-part h m v b e i s t = record { square = i; means = refl; some = ap (λ (x : ℕ). some_cell x (window_cells x v)) (sym e) ∙ sym s ∙ t }

pub shown-none : (h m : ℕ) (v : Window) (b : Bool) → m ≡ 2 ^ h → b ≡ some_cell m (window_cells m v) → b ≡ false → some_cell (2 ^ h) (window_cells (2 ^ h) v) ≡ false
shown-none h m v b e s t = ap (λ (x : ℕ). some_cell x (window_cells x v)) (sym e) ∙ sym s ∙ t

-- a window that shows a set shows it in any worker
pub window-shows : (w : Worker) (least h : ℕ) (f : Cells) (o : Option Square) → ShowsWindow h f o → Shows w least h f o
window-shows w least h f None s = s
window-shows w least h f (Some (Tree q)) s = absurd s
window-shows w least h f (Some (Part v)) s = record { square = s.square; means = s.means; some = s.some }

pub leaf-shows : (w : Worker) (least h : ℕ) (f : Cells) (v : Window) (o : Option Square) → IsLeafWindow least f v → ShowsWindow h (window_cells (2 ^ h) v) o → Shows w least h (piece (2 ^ h) 0 0 f) o
leaf-shows w least h f v o i s = subst (λ (g : Cells). Shows w least h g o) (leaf-cells least (2 ^ h) f v i) (window-shows w least h (window_cells (2 ^ h) v) o s)

-- the window so many rows below and columns to the right
pub quarter-is_window : (h below right : ℕ) (v : Window) → below ≤ 2 ^ h → right ≤ 2 ^ h → IsWindow (2 ^ (h + 1)) v → IsWindow (2 ^ h) (record { bits = v.bits; side = v.side; row = v.row + below; col = v.col + right })
quarter-is_window h below right v a b i =
    let p = next-side h in
    let r = i.row in
    let c = i.col in
    record { side = i.side; row = omega (arith, p, r); col = omega (arith, p, c) }

pub quarter-cells : (h below right : ℕ) (v : Window) → below ≤ 2 ^ h → right ≤ 2 ^ h → piece (2 ^ h) below right (window_cells (2 ^ (h + 1)) v) ≡ window_cells (2 ^ h) (record { bits = v.bits; side = v.side; row = v.row + below; col = v.col + right })
quarter-cells h below right v a b = let p = next-side h in piece-piece (2 ^ h) (2 ^ (h + 1)) below right v.row v.col (bits_cells v.side v.bits) (omega (arith, p)) (omega (arith, p))

-- a window within a leaf is small
pub window-small : (h : ℕ) (v : Window) → IsWindow (2 ^ (h + 1)) v → h ≤ 2
window-small h v i =
    elim (cases_lt 2 h) [
      | inl l ↦ (let p = pow-le-pow_right {n = 2} (omega arith) {i = 4} {j = h + 1} (omega arith) in let r = i.row in absurd (omega (arith, p, r)))
      | inr l ↦ l
    ]

pub windows-show : (w : Worker) (least h : ℕ) (f : Cells) (four : Option Square × Option Square × Option Square × Option Square) → ShowsFourWindows h f four → ShowsFour w least h f four
windows-show w least h f four s = record {
  nw = window-shows w least h _ four.0 s.nw;
  ne = window-shows w least h _ four.1 s.ne;
  sw = window-shows w least h _ four.2 s.sw;
  se = window-shows w least h _ four.3 s.se;
}

-- ---- quads
pub none-shown : (w : Worker) (q : Quad) → q.name ≡ 0 → w.quad (record { height = q.height; name = 0 }) ≡ Some no_cells → some_cell (2 ^ q.height) (piece (2 ^ q.height) 0 0 (quad_set w q)) ≡ false
none-shown w q e h = ap (λ f. some_cell (2 ^ q.height) (piece (2 ^ q.height) 0 0 f)) (zero_set w q e h) ∙ piece-none (2 ^ q.height)

-- a quad that is not named 0 has a cell
pub full-quad : (w : Worker) (q : Quad) → HasQuad w q → LiesWithin (2 ^ q.height) (2 ^ q.height) (quad_set w q) → w.quad (record { height = q.height; name = 0 }) ≡ Some no_cells
    → (HasQuad w q → HasQuad w (record { height = q.height; name = 0 }) → q.height ≡ q.height → quad_set w q ≡ quad_set w (record { height = q.height; name = 0 }) → q.name ≡ 0)
    → (q.name ≡ 0 → ⊥) → some_cell (2 ^ q.height) (piece (2 ^ q.height) 0 0 (quad_set w q)) ≡ true
full-quad w q s l z one ne =
    elim (cases_Bool (some_cell (2 ^ q.height) (piece (2 ^ q.height) 0 0 (quad_set w q)))) [
      | inl t ↦ t
      | inr t ↦ absurd (ne (one s (subst IsSome (sym z) refl) refl (no_piece (2 ^ q.height) (quad_set w q) l t ∙ sym (ap (λ o. unwrap_or o no_cells) z))))
    ]

-- the same set at an equal height
pub shows-at : (w : Worker) (least h k : ℕ) (f g : Cells) (o : Option Square) → h ≡ k → f ≡ g → Shows w least h (piece (2 ^ h) 0 0 f) o → Shows w least k (piece (2 ^ k) 0 0 g) o
shows-at w least h k f g o e s x =
    subst (λ (y : ℕ). Shows w least y (piece (2 ^ y) 0 0 g) o) e (subst (λ (z : Cells). Shows w least h (piece (2 ^ h) 0 0 z) o) s x)

pub four-at : (w : Worker) (least h k : ℕ) (f : Cells) (four : Option Square × Option Square × Option Square × Option Square) → h ≡ k + 1 → ShowsFour w least (h - 1) (piece (2 ^ h) 0 0 f) four → ShowsFour w least k (piece (2 ^ (k + 1)) 0 0 f) four
four-at w least h k f four e x =
    let d : k + 1 - 1 ≡ k = omega arith in
    subst (λ (y : ℕ). ShowsFour w least y (piece (2 ^ (k + 1)) 0 0 f) four) d (subst (λ (y : ℕ). ShowsFour w least (y - 1) (piece (2 ^ y) 0 0 f) four) e x)

-- the piece of a quarter, as one of the quad
pub part-shown : (w : Worker) (least h k : ℕ) (f g p : Cells) (o : Option Square) → h ≡ k → f ≡ g → piece (2 ^ k) 0 0 g ≡ p → Shows w least h (piece (2 ^ h) 0 0 f) o → Shows w least k p o
part-shown w least h k f g p o e s t x = subst (λ (z : Cells). Shows w least k z o) t (shows-at w least h k f g o e s x)

-- the quarters of a quad, each shown some calls later
pub four-shown : (w0 w1 w2 w3 w4 w5 : Worker) (least : ℕ) (q : Quad) (four : Quarters) (a b c d : Option Square)
    → GivesQuarters w0 w1 q four → Keeps w1 w2 → Keeps w2 w3 → Keeps w3 w4 → Keeps w4 w5
    → Shows w2 least four.nw.height (piece (2 ^ four.nw.height) 0 0 (quad_set w1 four.nw)) a
    → Shows w3 least four.ne.height (piece (2 ^ four.ne.height) 0 0 (quad_set w2 four.ne)) b
    → Shows w4 least four.sw.height (piece (2 ^ four.sw.height) 0 0 (quad_set w3 four.sw)) c
    → Shows w5 least four.se.height (piece (2 ^ four.se.height) 0 0 (quad_set w4 four.se)) d
    → ShowsFour w5 least (q.height - 1) (piece (2 ^ q.height) 0 0 (quad_set w0 q)) (a, b, c, d)
four-shown w0 w1 w2 w3 w4 w5 least q four a b c d g k2 k3 k4 k5 sa sb sc sd =
    let k13 = keeps_trans w1 w2 w3 k2 k3 in
    let k14 = keeps_trans w1 w3 w4 k13 k4 in
    let k35 = keeps_trans w3 w4 w5 k4 k5 in
    let k25 = keeps_trans w2 w3 w5 k3 k35 in
    let h : ℕ = q.height - 1 in
    let m : ℕ = 2 ^ h in
    let n : ℕ = 2 ^ q.height in
    let x0 = g.nw_height in
    let x1 = g.ne_height in
    let x2 = g.sw_height in
    let x3 = g.se_height in
    let e0 : four.nw.height ≡ h = omega (arith, x0) in
    let up : q.height ≡ h + 1 = omega (arith, x0) in
    let next = next-side h in
    let twice : n ≡ m + m = ap (λ (x : ℕ). 2 ^ x) up ∙ next in
    let A : Cells = quad_set w1 four.nw in
    let B : Cells = quad_set w1 four.ne in
    let C : Cells = quad_set w1 four.sw in
    let D : Cells = quad_set w1 four.se in
    let whole : quad_set w0 q ≡ quartered m A B C D = g.means ∙ ap (λ (x : ℕ). quartered (2 ^ x) A B C D) e0 in
    record {
      nw = shows-stay w2 w5 least h _ a k25 (part-shown w2 least four.nw.height h A A _ a e0 refl (sym (ap (λ f. piece m 0 0 (piece n 0 0 f)) whole ∙ piece-nw m n A B C D twice)) sa);
      ne = shows-stay w3 w5 least h _ b k35 (part-shown w3 least four.ne.height h (quad_set w2 four.ne) B _ b (omega (arith, x1)) (kept_set w1 w2 four.ne k2 g.ne) (sym (ap (λ f. piece m 0 m (piece n 0 0 f)) whole ∙ piece-ne m n A B C D twice)) sb);
      sw = shows-stay w4 w5 least h _ c k5 (part-shown w4 least four.sw.height h (quad_set w3 four.sw) C _ c (omega (arith, x2)) (kept_set w1 w3 four.sw k13 g.sw) (sym (ap (λ f. piece m m 0 (piece n 0 0 f)) whole ∙ piece-sw m n A B C D twice)) sc);
      se = part-shown w5 least four.se.height h (quad_set w4 four.se) D _ d (omega (arith, x3)) (kept_set w1 w4 four.se k14 g.se) (sym (ap (λ f. piece m m m (piece n 0 0 f)) whole ∙ piece-se m n A B C D twice)) sd;
    }
