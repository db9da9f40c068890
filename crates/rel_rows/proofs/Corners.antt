-- The quarters of a quad with a line added, and calls that make them.
use Rattle.std.proofs.Common.{◌≡◌, ◌<◌, ◌≤◌, ◌+◌, ◌-◌, ◌*◌, ◌^◌, ◌∙◌, ℕ, Bool, Result, sym, ap, subst, arith}
use Rattle.std.proofs.Math.Pow.{pow_mono}
use Rattle.std.proofs.lemmas.Nat.{pow_pos}
use Rattle.rel_model.specs.declared.Quad.{Quad}
use Rattle.rel_model.specs.declared.Quarters.{Quarters}
use Rattle.rel_model.specs.declared.Lack.{Lack}
use Rattle.rel_model.specs.Cells.{Cells}
use Rattle.rel_model.specs.Trees.{quartered}
use Rattle.rel_model.specs.Quarters.{LiesWithin, GivesQuarters}
use Rattle.rel_model.specs.Worker.{Worker, HasQuad, quad_set, Keeps, MakesAtMost, MissesNothing}
use Rattle.rel_model.proofs.Workers.{keeps_trans}
use Rattle.rel_steps.proofs.Given.{AreParts, kept_quad, kept_set}
use Rattle.rel_steps.proofs.Making.{Underway}
use Rattle.rel_rows.specs.Making.{MakesTwo}
use Rattle.rel_rows.specs.Rooms.{strip}
use Rattle.rel_rows.specs.Rows.{added_cells}
use Rattle.rel_rows.proofs.Steps.{strip-down, quarters_of, quarters_read}
use Rattle.rel_rows.proofs.Lines.{added-north, added-south, low-north, low-south}

-- quarters stay quarters
pub quarters_later : {u v : Worker} {q : Quad} {four : Quarters} (w : Worker) → Keeps v w → GivesQuarters u v q four → GivesQuarters u w q four
quarters_later {u} {v} {q} {four} w k a =
    let m = 2 ^ four.nw.height in
    record {
      nw = kept_quad v w four.nw k a.nw;
      ne = kept_quad v w four.ne k a.ne;
      sw = kept_quad v w four.sw k a.sw;
      se = kept_quad v w four.se k a.se;
      nw_height = a.nw_height;
      ne_height = a.ne_height;
      sw_height = a.sw_height;
      se_height = a.se_height;
      means = a.means
          ∙ ap (λ (x : Cells). quartered m x (quad_set v four.ne) (quad_set v four.sw) (quad_set v four.se)) (sym (kept_set v w four.nw k a.nw))
          ∙ ap (λ (x : Cells). quartered m (quad_set w four.nw) x (quad_set v four.sw) (quad_set v four.se)) (sym (kept_set v w four.ne k a.ne))
          ∙ ap (λ (x : Cells). quartered m (quad_set w four.nw) (quad_set w four.ne) x (quad_set v four.se)) (sym (kept_set v w four.sw k a.sw))
          ∙ ap (λ (x : Cells). quartered m (quad_set w four.nw) (quad_set w four.ne) (quad_set w four.sw) x) (sym (kept_set v w four.se k a.se));
    }

-- a set by quarters of a height that is known
by_height : {f : Cells} (h k : ℕ) (a b c d : Cells) → h ≡ k → f ≡ quartered (2 ^ h) a b c d → f ≡ quartered (2 ^ k) a b c d
by_height h k a b c d e s = s ∙ ap (λ x. quartered (2 ^ x) a b c d) e

-- a call for two at a height that is the same, where the room goes by the height
pub makes_two_at : {lean : Bool} {h k : ℕ} {f g : Cells} {v w : Worker} {r : Result (Quad × Quad) Lack} (room : ℕ → ℕ) → h ≡ k → MakesTwo lean (room h) h f g v w r → MakesTwo lean (room k) k f g v w r
makes_two_at {lean} {f = f} {g = g} {v = v} {w = w} {r = r} room e s = subst (λ (x : ℕ). MakesTwo lean (room x) x f g v w r) e s

-- a set within fewer columns
wider : (h k : ℕ) (f : Cells) → h ≤ k → LiesWithin (2 ^ h) (2 ^ h) f → LiesWithin (2 ^ h) (2 ^ k) f
wider h k f l w = let p = pow_mono {i = h} {j = k} l in record { row = w.row; col = λ i j t. (let c = w.col i j t in omega (arith, c, p)) }

-- ---- a line as high as the quad
module _ (h k i half : ℕ) (a b c d e f x y old new line : Cells) (s : h + 1 ≡ k) (z : half ≡ 2 ^ h) (p : new ≡ quartered (2 ^ h) e f x y) (r : line ≡ new) (q : old ≡ quartered (2 ^ h) a b c d) where
  whole : added_cells i (quartered (2 ^ h) e f x y) (quartered (2 ^ h) a b c d) ≡ added_cells i line old
  whole = ap (λ (g : Cells). added_cells i g (quartered (2 ^ h) a b c d)) (sym (r ∙ p)) ∙ ap (added_cells i line) (sym q)

  north_parts : i < half → AreParts k (added_cells i line old) h (added_cells i e a) (added_cells i f b) c d
  north_parts l = record { next = s; means = added-north (2 ^ h) i a b c d e f x y (omega (arith, l, z)) ∙ whole }

  south_parts : half ≤ i → AreParts k (added_cells i line old) h a b (added_cells (i - half) e c) (added_cells (i - half) f d)
  south_parts l = record {
    next = s;
    means = ap (λ m. quartered (2 ^ h) a b (added_cells (i - m) e c) (added_cells (i - m) f d)) z ∙ added-south (2 ^ h) i a b c d e f x y (pow_pos h) (omega (arith, l, z)) ∙ whole;
  }

-- ---- a lower line
module _ (h k i half n : ℕ) (a b c d old new line : Cells) (s : h + 1 ≡ k) (z : half ≡ 2 ^ h) (w : LiesWithin n (2 ^ h) new) (r : line ≡ new) (q : old ≡ quartered (2 ^ h) a b c d) where
  same : added_cells i new (quartered (2 ^ h) a b c d) ≡ added_cells i line old
  same = ap (λ (g : Cells). added_cells i g (quartered (2 ^ h) a b c d)) (sym r) ∙ ap (added_cells i line) (sym q)

  low_north_parts : i < half → AreParts k (added_cells i line old) h (added_cells i new a) b c d
  low_north_parts l = record { next = s; means = low-north (2 ^ h) i a b c d new n w (omega (arith, l, z)) ∙ same }

  low_south_parts : half ≤ i → AreParts k (added_cells i line old) h a b (added_cells (i - half) new c) d
  low_south_parts l = record {
    next = s;
    means = ap (λ m. quartered (2 ^ h) a b (added_cells (i - m) new c) d) z ∙ low-south (2 ^ h) i a b c d new n w (omega (arith, l, z)) ∙ same;
  }

-- ---- a row that crosses a quad
-- the quarters of a quad are read, and those that its row i crosses are to get other sets: the northern ones a and b, or
-- the southern ones c and d
pub record Crosses (least i half : ℕ) (whole a b c d : Cells) (u v : Worker) (quad : Quad) (four : Quarters) : Type 0 where
  pub begun : Underway 0 four.nw.height (quarters_of v four) u v
  pub room : strip (quad.height - least) ≡ 2 * strip (four.nw.height - least) + 3
  pub level : four.sw.height ≡ four.nw.height
  pub north : i < half → AreParts quad.height whole four.nw.height a b (quad_set v four.sw) (quad_set v four.se)
  pub south : half ≤ i → AreParts quad.height whole four.nw.height (quad_set v four.nw) (quad_set v four.ne) c d

-- by a lower line
abbrev pub CrossesLow : (least i half : ℕ) (u v : Worker) (quad line : Quad) (four : Quarters) → Type 0
CrossesLow least i half u v quad line four = Crosses least i half (added_cells i (quad_set u line) (quad_set u quad)) (added_cells i (quad_set v line) (quad_set v four.nw)) (quad_set v four.ne)
    (added_cells (i - half) (quad_set v line) (quad_set v four.sw)) (quad_set v four.se) u v quad four

-- a line of less height is added to western quarters only: it lies within their columns, so the eastern ones stay
pub crosses_low : (least i half : ℕ) (u v : Worker) (quad line : Quad) (four : Quarters) → least < quad.height → line.height < quad.height → HasQuad u line → LiesWithin (2 ^ line.height) (2 ^ line.height) (quad_set v line)
    → half ≡ 2 ^ four.nw.height → GivesQuarters u v quad four → Keeps u v → MakesAtMost 0 u v → MissesNothing u v → CrossesLow least i half u v quad line four
crosses_low least i half u v quad line four over low stands square side g k r m =
    let h : ℕ = four.nw.height in
    let n = g.nw_height in
    let s = g.sw_height in
    let new = quad_set v line in
    let inside = wider line.height h new (omega (arith, n, low)) square in
    let same = sym (kept_set u v line k stands) in
    record {
      begun = quarters_read g k r m;
      room = strip-down h quad.height least n over;
      level = omega (arith, n, s);
      north = low_north_parts h quad.height i half (2 ^ line.height) (quad_set v four.nw) (quad_set v four.ne) (quad_set v four.sw) (quad_set v four.se) (quad_set u quad) new (quad_set u line) n side inside same g.means;
      south = low_south_parts h quad.height i half (2 ^ line.height) (quad_set v four.nw) (quad_set v four.ne) (quad_set v four.sw) (quad_set v four.se) (quad_set u quad) new (quad_set u line) n side inside same g.means;
    }

-- by a line as high, whose quarters are read too
abbrev pub CrossesOver : (least i half : ℕ) (u w : Worker) (quad line : Quad) (four two : Quarters) → Type 0
CrossesOver least i half u w quad line four two = Crosses least i half (added_cells i (quad_set u line) (quad_set u quad)) (added_cells i (quad_set w two.nw) (quad_set w four.nw)) (added_cells i (quad_set w two.ne) (quad_set w four.ne))
    (added_cells (i - half) (quad_set w two.nw) (quad_set w four.sw)) (added_cells (i - half) (quad_set w two.ne) (quad_set w four.se)) u w quad four

-- a line as high is added half by half: its north-west quarter to a western one, and its north-east to an eastern one
pub crosses_over : (least i half : ℕ) (u v w : Worker) (quad line : Quad) (four two : Quarters) → least < quad.height → line.height ≡ quad.height → HasQuad u line → half ≡ 2 ^ four.nw.height → GivesQuarters u v quad four
    → Keeps u v → MakesAtMost 0 u v → MissesNothing u v → GivesQuarters v w line two → Keeps v w → MakesAtMost 0 v w → MissesNothing v w → CrossesOver least i half u w quad line four two
crosses_over least i half u v w quad line four two over high stands side g k r m g2 k2 r2 m2 =
    let h : ℕ = four.nw.height in
    let n = g.nw_height in
    let s = g.sw_height in
    let n2 = g2.nw_height in
    let q = quarters_later w k2 g in
    let halves = by_height two.nw.height h (quad_set w two.nw) (quad_set w two.ne) (quad_set w two.sw) (quad_set w two.se) (omega (arith, n, n2, high)) g2.means in
    let same = sym (kept_set u v line k stands) in
    record {
      begun = quarters_read q (keeps_trans u v w k k2) (omega (arith, r, r2)) (m2 ∙ m);
      room = strip-down h quad.height least n over;
      level = omega (arith, n, s);
      north = north_parts h quad.height i half (quad_set w four.nw) (quad_set w four.ne) (quad_set w four.sw) (quad_set w four.se) (quad_set w two.nw) (quad_set w two.ne) (quad_set w two.sw) (quad_set w two.se) (quad_set u quad) (quad_set v line) (quad_set u line)
          n side halves same q.means;
      south = south_parts h quad.height i half (quad_set w four.nw) (quad_set w four.ne) (quad_set w four.sw) (quad_set w four.se) (quad_set w two.nw) (quad_set w two.ne) (quad_set w two.sw) (quad_set w two.se) (quad_set u quad) (quad_set v line) (quad_set u line)
          n side halves same q.means;
    }
