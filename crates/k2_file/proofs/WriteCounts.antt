-- The bits below squares: by quarters, over several calls, and as a memory keeps them (Knuth, for a sum over a shared tree by a memory of its parts).
-- 1. What is shown has the bits of its set, and a set with no cell has none below it.
-- 2. Squares keep their bits over calls, so the sum of the quarters' bits and four are those of the square.
-- 3. A quad is noted by its height and name, which have its set as long as it stands.
use Rattle.std.proofs.Common.{◌≡◌, ◌≤◌, ◌+◌, ◌^◌, ◌&&◌, eqb, cond, zero, suc, ℕ, true, false, refl, sym, ap, subst, ◌∙◌, inl, inr, arith, Option, Some, None}
use Rattle.std.proofs.Math.Nat.{pow-le-pow_right}
use Rattle.std.proofs.lemmas.Bool.{cases_Bool, and_parts, eqb-true}
use Rattle.rel_model.specs.declared.Quad.{Quad}
use Rattle.rel_model.specs.Cells.{Cells}
use Rattle.rel_model.specs.Worker.{Worker, HasQuad, quad_set, Keeps}
use Rattle.k2_file.specs.declared.squares.Square.{Square}
use Rattle.k2_file.specs.declared.squares.Square.TheVariants.{Tree}
use Rattle.k2_file.specs.Squares.{piece, some_cell, square_cells, IsSquare, Shows, ShowsFour}
use Rattle.k2_file.specs.Counts.{bits_under, square_bits, part_bits, IsFull, IsFullPart, quad_bits, AreCounts}
use Rattle.k2_file.proofs.WriteLevels.{under-limit}
use Rattle.rel_steps.proofs.Given.{kept_quad, kept_set}
use Rattle.k2_file.proofs.WriteSquares.{square-stays, square_cells-stay}

-- ---- a square that is shown
under-none : (h : ℕ) (f : Cells) → some_cell (2 ^ h) f ≡ false → bits_under h f ≡ 0
under-none zero f e = refl
under-none (suc k) f e = rw e refl

pub part-under : (w : Worker) (least h : ℕ) (f : Cells) (o : Option Square) → Shows w least h f o → part_bits w h o ≡ bits_under h f
part-under w least h f None s = sym (under-none h f s)
part-under w least h f (Some x) s = ap (bits_under h) s.means

pub part-full : (w : Worker) (least h : ℕ) (f : Cells) (o : Option Square) → Shows w least h f o → IsFullPart w least h o
part-full w least h f None s = tt
part-full w least h f (Some x) s = record { square = s.square; some = ap (some_cell (2 ^ h)) s.means ∙ s.some }

-- ---- over several calls
full-stays : (a b : Worker) (least h : ℕ) (s : Square) → Keeps a b → IsFull a least h s → IsFull b least h s
full-stays a b least h s k f = record {
  square = square-stays a b least h s k f.square;
  some = ap (some_cell (2 ^ h)) (square_cells-stay a b least h (2 ^ h) s k f.square) ∙ f.some;
}

pub full_part-stays : (a b : Worker) (least h : ℕ) (o : Option Square) → Keeps a b → IsFullPart a least h o → IsFullPart b least h o
full_part-stays a b least h None k f = f
full_part-stays a b least h (Some s) k f = full-stays a b least h s k f

part_bits-stay : (a b : Worker) (least h : ℕ) (o : Option Square) → Keeps a b → IsFullPart a least h o → part_bits b h o ≡ part_bits a h o
part_bits-stay a b least h None k f = refl
part_bits-stay a b least h (Some s) k f = ap (bits_under h) (square_cells-stay a b least h (2 ^ h) s k f.square)

-- the quarters of a square, as they stand some calls later
pub later-full : (a b : Worker) (least h : ℕ) (f : Cells) (o : Option Square) → Keeps a b → Shows a least h f o → IsFullPart b least h o
later-full a b least h f o k s = full_part-stays a b least h o k (part-full a least h f o s)

later-bits : (a b : Worker) (least h : ℕ) (f : Cells) (o : Option Square) → Keeps a b → Shows a least h f o → part_bits b h o ≡ bits_under h f
later-bits a b least h f o k s = part_bits-stay a b least h o k (part-full a least h f o s) ∙ part-under a least h f o s

-- ---- the bits of a square by its quarters
under-next : (k : ℕ) (f : Cells) → some_cell (2 ^ suc k) f ≡ true → bits_under (suc k) f ≡ 4 + bits_under k (piece (2 ^ k) 0 0 f) + bits_under k (piece (2 ^ k) 0 (2 ^ k) f) + bits_under k (piece (2 ^ k) (2 ^ k) 0 f) + bits_under k (piece (2 ^ k) (2 ^ k) (2 ^ k) f)
under-next k f e = rw e refl

-- the sum of two, of which the second is counted a call later
pub two-counted : (w v : Worker) (least h : ℕ) (west east : Option Square) (a b : ℕ) → Keeps w v → IsFullPart w least h east → a ≡ part_bits w h west → b ≡ part_bits v h east → a + b ≡ part_bits w h west + part_bits w h east
two-counted w v least h west east a b k f p q = let r = part_bits-stay w v least h east k f in omega (arith, p, q, r)

-- the bits below a square are four and those below its quarters, counted in two calls: the quarters keep theirs between
pub four-counted : (w0 w1 w2 : Worker) (least h k : ℕ) (s : Square) (four : Option Square × Option Square × Option Square × Option Square) (a b : ℕ)
    → h ≡ k + 1 → IsFull w0 least h s → ShowsFour w1 least k (square_cells w0 (2 ^ (k + 1)) s) four → Keeps w1 w2
    → a ≡ part_bits w1 k four.0 + part_bits w1 k four.1 → b ≡ part_bits w2 k four.2 + part_bits w2 k four.3
    → 4 + a + b ≡ square_bits w0 h s
four-counted w0 w1 w2 least h k s four a b e full shown kept pa pb =
    let f : Cells = square_cells w0 (2 ^ (k + 1)) s in
    let more : k + 1 ≡ suc k = omega arith in
    let up : h ≡ suc k = omega (arith, e) in
    let x : part_bits w1 k four.0 ≡ bits_under k (piece (2 ^ k) 0 0 f) = part-under w1 least k _ four.0 shown.nw in
    let y : part_bits w1 k four.1 ≡ bits_under k (piece (2 ^ k) 0 (2 ^ k) f) = part-under w1 least k _ four.1 shown.ne in
    let z : part_bits w2 k four.2 ≡ bits_under k (piece (2 ^ k) (2 ^ k) 0 f) = later-bits w1 w2 least k _ four.2 kept shown.sw in
    let v : part_bits w2 k four.3 ≡ bits_under k (piece (2 ^ k) (2 ^ k) (2 ^ k) f) = later-bits w1 w2 least k _ four.3 kept shown.se in
    let some : some_cell (2 ^ suc k) f ≡ true =
    ap (λ (n : ℕ). some_cell (2 ^ n) f) (sym up) ∙ ap (λ (n : ℕ). some_cell (2 ^ h) (square_cells w0 (2 ^ n) s)) (sym e) ∙ full.some in
    let n = under-next k f some in
    let g : square_bits w0 h s ≡ bits_under (suc k) f = ap (λ (n : ℕ). bits_under n (square_cells w0 (2 ^ n) s)) e ∙ ap (λ (n : ℕ). bits_under n f) more in
    omega (arith, pa, pb, x, y, z, v, n, g)

-- at most 2 ^ 49 bits
pub part-limit : (w : Worker) (h : ℕ) (o : Option Square) → h ≤ 24 → part_bits w h o ≤ 2 ^ 49
part-limit w h None l = omega arith
part-limit w h (Some s) l =
    let p = pow-le-pow_right {n = 4} (omega arith) {i = h} {j = 24} l in
    let u = under-limit h (square_cells w (2 ^ h) s) in
    omega (arith, p, u)

-- ---- the memory
kept-bits : (a b : Worker) (q : Quad) → Keeps a b → HasQuad a q → quad_bits b q ≡ quad_bits a q
kept-bits a b q k s = ap (λ f. bits_under q.height (piece (2 ^ q.height) 0 0 f)) (kept_set a b q k s)

pub counts-kept : (a b : Worker) (found : ℕ × ℕ → Option ℕ) → Keeps a b → AreCounts a found → AreCounts b found
counts-kept a b found k h =
    λ height name c e. let s = h height name c e in
    (kept_quad a b (record { height = height; name = name }) k s.0, s.1 ∙ sym (kept-bits a b (record { height = height; name = name }) k s.0))

same_quad : (q : Quad) (h n : ℕ) → q.height ≡ h → q.name ≡ n → q ≡ record { height = h; name = n }
same_quad q h n a b =
    let f : ℕ → Quad = λ x. record { height = x; name = q.name } in
    let g : ℕ → Quad = λ y. record { height = h; name = y } in
    ap f a ∙ ap g b

-- a count that is put in
counts-put : (w : Worker) (q : Quad) (c : ℕ) (old new : ℕ × ℕ → Option ℕ) → HasQuad w q → c ≡ quad_bits w q → AreCounts w old
    → ((k : ℕ × ℕ) → new k ≡ cond (eqb q.height k.0 && eqb q.name k.1) (Some c) (old k)) → AreCounts w new
counts-put w q c old new s e h u = λ height name x f.
    elim (cases_Bool (eqb q.height height && eqb q.name name)) [
      | inl t ↦ (
          let a = and_parts _ _ t in
          let same : Some c ≡ Some x = ap (λ b. cond b (Some c) (old (height, name))) (sym t) ∙ sym (u (height, name)) ∙ f in
          subst (λ z. HasQuad w z × (x ≡ quad_bits w z)) (same_quad q height name (eqb-true _ _ a.0) (eqb-true _ _ a.1)) (s, some_inj c x same ∙ e))
      | inr t ↦ h height name x (ap (λ b. cond b (Some c) (old (height, name))) (sym t) ∙ sym (u (height, name)) ∙ f)
    ]
  where
    some_inj : (a b : ℕ) → Some a ≡ Some b → b ≡ a
    some_inj a b p = cc

-- the bits of a quad as a square
tree-bits : (w : Worker) (least h : ℕ) (q : Quad) → IsSquare w least h (Tree q) → square_bits w h (Tree q) ≡ quad_bits w q
tree-bits w least h q i = ap (λ (x : ℕ). bits_under x (piece (2 ^ x) 0 0 (quad_set w q))) (sym i.1)

-- one that was counted some calls before
pub counts-put-later : (v w : Worker) (least h : ℕ) (s : Square) (q : Quad) (c : ℕ) (old new : ℕ × ℕ → Option ℕ) → s ≡ Tree q → Keeps v w → IsSquare v least h s → c ≡ square_bits v h (Tree q) → AreCounts w old
    → ((k : ℕ × ℕ) → new k ≡ cond (eqb q.height k.0 && eqb q.name k.1) (Some c) (old k)) → AreCounts w new
counts-put-later v w least h s q c old new is k i e a u =
    let t : IsSquare v least h (Tree q) = subst (IsSquare v least h) is i in
    counts-put w q c old new (kept_quad v w q k t.0) (e ∙ tree-bits v least h q t ∙ sym (kept-bits v w q k t.0)) a u

-- what is found
pub counts-found : (w : Worker) (least h : ℕ) (s : Square) (q : Quad) (c : ℕ) (found : ℕ × ℕ → Option ℕ) → s ≡ Tree q → IsSquare w least h s → AreCounts w found → found (q.height, q.name) ≡ Some c → c ≡ square_bits w h s
counts-found w least h s q c found is i a e =
    let t : IsSquare w least h (Tree q) = subst (IsSquare w least h) is i in
    (a q.height q.name c e).1 ∙ sym (tree-bits w least h q t) ∙ sym (ap (square_bits w h) is)
