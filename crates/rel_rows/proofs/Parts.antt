-- The part of a quad in which one of its rows stands, where its cells lie within the columns of the western half.
use Rattle.std.proofs.Common.{◌≡◌, ◌<◌, ◌≤◌, ◌+◌, ◌-◌, ◌*◌, ◌^◌, ◌∙◌, suc, ℕ, Bool, Result, sym, ap, subst, arith}
use Rattle.std.proofs.Math.Nat.{pow-suc}
use Rattle.rel_model.specs.declared.Quad.{Quad}
use Rattle.rel_model.specs.declared.Quarters.{Quarters}
use Rattle.rel_model.specs.declared.Lack.{Lack}
use Rattle.rel_model.specs.Cells.{Cells}
use Rattle.rel_model.specs.Trees.{quartered}
use Rattle.rel_model.specs.Quarters.{LiesWithin, GivesQuarters}
use Rattle.rel_model.specs.Worker.{Worker, quad_set, Keeps, MakesAtMost, MissesNothing}
use Rattle.rel_steps.specs.Making.{MakesQuad}
use Rattle.rel_rows.specs.Rooms.{strip}
use Rattle.rel_rows.specs.Rows.{row_cells}
use Rattle.rel_rows.proofs.Steps.{strip-down, after_reading}
use Rattle.rel_rows.proofs.Lines.{narrow-north, narrow-south, narrow_row-north, narrow_row-south}

-- the side of a square is twice that of its quarters
pub side-halves : (h k : ℕ) → h + 1 ≡ k → 2 ^ k ≡ 2 * 2 ^ h
side-halves h k e = ap (λ x. 2 ^ x) (sym e) ∙ (let s : h + 1 ≡ suc h = omega arith in let p : 2 ^ (h + 1) ≡ 2 ^ h * 2 = ap (λ x. 2 ^ x) s ∙ pow-suc 2 h in omega (arith, p))

pub half-side : (h k s : ℕ) → h + 1 ≡ k → s ≡ 2 ^ (k - 1) → s ≡ 2 ^ h
half-side h k s e f = f ∙ ap (λ x. 2 ^ x) (let d : k - 1 ≡ h = omega arith in d)

-- row i of a quad is row k of one of its quarters
pub record IsPart (u v : Worker) (q p : Quad) (cols i k : ℕ) : Type 0 where
  pub over : p.height + 1 ≡ q.height
  pub fits : cols ≤ 2 ^ p.height
  pub narrow : LiesWithin (2 ^ p.height) cols (quad_set v p)
  pub within : k < 2 ^ p.height
  -- the two rows are one set
  pub same : row_cells k (quad_set v p) ≡ row_cells i (quad_set u q)

module _ (u v : Worker) (q : Quad) (four : Quarters) (n cols i half : ℕ) (g : GivesQuarters u v q four) (s : half ≡ 2 ^ (q.height - 1)) (l : cols ≤ half) (w : LiesWithin n cols (quad_set u q)) where
  abbrev pub a : Cells
  a = quad_set v four.nw

  abbrev pub b : Cells
  b = quad_set v four.ne

  abbrev pub d : Cells
  d = quad_set v four.sw

  abbrev pub e : Cells
  e = quad_set v four.se

  side : half ≡ 2 ^ four.nw.height
  side = half-side four.nw.height q.height half g.nw_height s

  lies : LiesWithin n cols (quartered (2 ^ four.nw.height) a b d e)
  lies = subst (LiesWithin n cols) g.means w

  pub north_part : LiesWithin (2 ^ four.nw.height) (2 ^ four.nw.height) a → i < half → IsPart u v q four.nw cols i i
  north_part z k =
      let f : cols ≤ 2 ^ four.nw.height = omega (arith, l, side) in
      let h : i < 2 ^ four.nw.height = omega (arith, k, side) in
      record {
        over = g.nw_height;
        fits = f;
        narrow = narrow-north (2 ^ four.nw.height) i a b d e n cols lies f z;
        within = h;
        same = narrow_row-north (2 ^ four.nw.height) i a b d e n cols lies f z h ∙ ap (row_cells i) (sym g.means);
      }

  same_height : four.sw.height ≡ four.nw.height
  same_height = let x = g.nw_height in let y = g.sw_height in omega (arith, x, y)

  -- row i of the southern half is row i - half of the south-west quarter, as all cells lie within the western columns
  pub south_part : LiesWithin (2 ^ four.sw.height) (2 ^ four.sw.height) d → half ≤ i → i < 2 ^ q.height → IsPart u v q four.sw cols i (i - half)
  south_part z k t =
      let f : cols ≤ 2 ^ four.nw.height = omega (arith, l, side) in
      let h : 2 ^ four.nw.height ≤ i = omega (arith, k, side) in
      let y : LiesWithin (2 ^ four.nw.height) (2 ^ four.nw.height) d = subst (λ x. LiesWithin (2 ^ x) (2 ^ x) d) same_height z in
      let r = side-halves four.nw.height q.height g.nw_height in
      let x = ap (λ m. 2 ^ m) same_height in
      record {
        over = g.sw_height;
        fits = omega (arith, f, x);
        narrow = subst (λ m. LiesWithin (2 ^ m) cols d) (sym same_height) (narrow-south (2 ^ four.nw.height) i a b d e n cols lies f y);
        within = omega (arith, r, t, side, x, k);
        same = ap (λ m. row_cells (i - m) d) side ∙ narrow_row-south (2 ^ four.nw.height) i a b d e n cols lies f y h ∙ ap (row_cells i) (sym g.means);
      }

-- what is made of the part is what the quad is to make
pub part_made : {lean : Bool} {least cols i k h : ℕ} {u v w : Worker} {q p : Quad} {r : Result Quad Lack} → IsPart u v q p cols i k → least ≤ p.height → Keeps u v → MakesAtMost 0 u v → MissesNothing u v
    → MakesQuad lean (strip (p.height - least)) h (row_cells k (quad_set v p)) v w r → MakesQuad lean (strip (q.height - least)) h (row_cells i (quad_set u q)) u w r
part_made {least = least} {q = q} {p = p} part low k a m s =
    let over = part.over in
    let d = strip-down p.height q.height least over (omega (arith, over, low)) in
    after_reading k a m (omega (arith, d)) part.same s
