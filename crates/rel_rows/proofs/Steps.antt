-- Calls that walk down a row, one after the other: their quads, and their nodes in all.
use Rattle.std.proofs.Common.{◌≡◌, ◌<◌, ◌≤◌, ◌+◌, ◌-◌, ◌*◌, ◌^◌, ◌∙◌, suc, ℕ, Bool, List, [], ◌∷◌, Result, IfOk, refl, sym, ap, subst, arith, Some, None}
use Rattle.std.specs.Prelude.{Ok, Err, IsErrOf, IsSome, unwrap_or}
use Rattle.std.proofs.lemmas.Bool.{false≢true}
use Rattle.std.proofs.Math.Nat.{pow-suc}
use Rattle.std.proofs.lemmas.Nat.{pow_pos}
use Rattle.rel_model.specs.declared.Quad.{Quad}
use Rattle.rel_model.specs.declared.Quarters.{Quarters}
use Rattle.rel_model.specs.declared.Lack.{Lack}
use Rattle.rel_model.specs.Cells.{Cells, no_cells}
use Rattle.rel_model.specs.Trees.{beside, quartered}
use Rattle.rel_model.specs.Quarters.{GivesQuarters}
use Rattle.rel_model.specs.Worker.{Worker, HasQuad, quad_set, GivesQuad, Keeps, MakesAtMost, MissesNothing, HasCause}
use Rattle.rel_model.proofs.Workers.{keeps_trans}
use Rattle.rel_steps.specs.Making.{MakesQuad}
use Rattle.rel_steps.proofs.Given.{AreParts, gives_later}
use Rattle.rel_steps.proofs.Causes.{later_cause}
use Rattle.rel_steps.proofs.Making.{AreGiven, Underway, ends}
use Rattle.rel_rows.specs.Making.{MakesTwo}
use Rattle.rel_rows.specs.Rooms.{strip}
use Rattle.rel_rows.specs.Rows.{row_cells}
use Rattle.rel_rows.proofs.Lines.{row-corner}

-- ---- rooms
pub strip-step : (h least : ℕ) → least ≤ h → strip (h + 1 - least) ≡ 2 * strip (h - least) + 3
strip-step h least l =
    let e : h + 1 - least ≡ suc (h - least) = omega arith in
    let p : 2 ^ suc (h - least) ≡ 2 ^ (h - least) * 2 = pow-suc 2 (h - least) in
    let q = pow_pos (h - least) in
    let r : 2 ^ (h + 1 - least) ≡ 2 ^ suc (h - least) = ap (λ x. 2 ^ x) e in
    omega (arith, p, q, r)

-- the same from the height of a quad on
pub strip-down : (h k least : ℕ) → h + 1 ≡ k → least < k → strip (k - least) ≡ 2 * strip (h - least) + 3
strip-down h k least e l = ap (λ x. strip (x - least)) (sym e) ∙ strip-step h least (omega arith)

-- ---- quads
pub same_quad : (p q : Quad) → p.height ≡ q.height → p.name ≡ q.name → p ≡ q
same_quad p q e f = λ t. record { height = e t; name = f t }

-- what stands is given
pub has_gives : (w : Worker) (q : Quad) (h : ℕ) → HasQuad w q → q.height ≡ h → GivesQuad w h (quad_set w q) q
has_gives w q h s e = record { means = some (w.quad q) s; same_height = e }
  where
    some : (o : _) → IsSome o → o ≡ Some (unwrap_or o no_cells)
    some None s = absurd (false≢true s)
    some (Some x) s = refl

pub gives_same : {w : Worker} {h : ℕ} {f g : Cells} {q : Quad} → f ≡ g → GivesQuad w h f q → GivesQuad w h g q
gives_same {w} {h} {q = q} e s = subst (λ (x : Cells). GivesQuad w h x q) e s

-- ---- calls
pub makes_same : {lean : Bool} {n h : ℕ} {f g : Cells} {v w : Worker} {r : Result Quad Lack} → f ≡ g → MakesQuad lean n h f v w r → MakesQuad lean n h g v w r
makes_same {lean} {n} {h} {v = v} {w = w} {r = r} e s = subst (λ (x : Cells). MakesQuad lean n h x v w r) e s

pub makes_high : {lean : Bool} {n h k : ℕ} {f : Cells} {v w : Worker} {r : Result Quad Lack} → h ≡ k → MakesQuad lean n h f v w r → MakesQuad lean n k f v w r
makes_high {lean} {n} {f = f} {v = v} {w = w} {r = r} e s = subst (λ (x : ℕ). MakesQuad lean n x f v w r) e s

-- the same where the room goes by the height
pub makes_at : {lean : Bool} {h k : ℕ} {f : Cells} {v w : Worker} {r : Result Quad Lack} (room : ℕ → ℕ) → h ≡ k → MakesQuad lean (room h) h f v w r → MakesQuad lean (room k) k f v w r
makes_at {lean} {f = f} {v = v} {w = w} {r = r} room e s = subst (λ (x : ℕ). MakesQuad lean (room x) x f v w r) e s

-- a call after one that reads
pub after_reading : {lean : Bool} {m n h : ℕ} {f g : Cells} {u v w : Worker} {r : Result Quad Lack} → Keeps u v → MakesAtMost 0 u v → MissesNothing u v → m ≤ n → f ≡ g → MakesQuad lean m h f v w r → MakesQuad lean n h g u w r
after_reading {lean} {h = h} {f = f} {u = u} {v = v} {w = w} {r = r} k a b l e s = record {
  value = subst (λ (x : Cells). IfOk r (GivesQuad w h x)) e s.value;
  keeps = keeps_trans u v w k s.keeps;
  room = omega (arith, a, l, s.room);
  cause = later_cause lean u v w r b s.cause;
}

-- the row of two quads side by side
pub row_parts : (h i : ℕ) (f g : Cells) → AreParts (h + 1) (row_cells i (beside (2 ^ h) f g)) h (row_cells i f) (row_cells i g) no_cells no_cells
row_parts h i f g = record { next = refl; means = row-corner (2 ^ h) i f g (pow_pos h) }

-- the quarters of a quad, with their sets
abbrev pub quarters_of : Worker → Quarters → List (Quad × Cells)
quarters_of v four = (four.se, quad_set v four.se) ∷ (four.sw, quad_set v four.sw) ∷ (four.ne, quad_set v four.ne) ∷ (four.nw, quad_set v four.nw) ∷ []

-- the quarters of a quad, once read, are the first four quads of a walk: reading makes no node and keeps all sets
pub quarters_read : {u v : Worker} {q : Quad} {four : Quarters} → GivesQuarters u v q four → Keeps u v → MakesAtMost 0 u v → MissesNothing u v → Underway 0 four.nw.height (quarters_of v four) u v
quarters_read {u} {v} {q} {four} g k r m =
    let a = g.nw_height in
    let b = g.ne_height in
    let c = g.sw_height in
    let d = g.se_height in
    record {
      keeps = k;
      room = r;
      misses = m;
      are = (has_gives v four.se four.nw.height g.se (omega arith), (has_gives v four.sw four.nw.height g.sw (omega arith), (has_gives v four.ne four.nw.height g.ne (omega arith), (has_gives v four.nw four.nw.height g.nw refl, tt))));
    }

-- quads that are given are given later
are_later : (v w : Worker) (h : ℕ) (ps : List (Quad × Cells)) → Keeps v w → AreGiven v h ps → AreGiven w h ps
are_later v w h [] k a = tt
are_later v w h (p ∷ ps) k a = (gives_later v w h p.1 p.0 k a.0, are_later v w h ps k a.1)

-- two quads were made
pub goes_on_two : {lean : Bool} {m n h : ℕ} {f g : Cells} {ps : List (Quad × Cells)} {u v w : Worker} {p : Quad × Quad} → Underway m h ps u v → MakesTwo lean n h f g v w (Ok p) → Underway (m + n) h ((p.1, g) ∷ (p.0, f) ∷ ps) u w
goes_on_two {h = h} {ps = ps} {u = u} {v = v} {w = w} a s = record {
  keeps = keeps_trans u v w a.keeps s.keeps;
  room = omega (arith, a.room, s.room);
  misses = s.cause.done ∙ a.misses;
  are = (s.value.1, (s.value.0, are_later v w h ps s.keeps a.are));
}

-- a call for two failed
err_of : {S T : Type 0} {x y : Lack} → IsErrOf {T = S} {E = Lack} (Err x) y → IsErrOf {T = T} {E = Lack} (Err x) y
err_of {S} {x = x} e = ap (λ r. Err (lack_of r)) e
  where
    lack_of : Result S Lack → Lack
    lack_of (Err z) = z
    lack_of (Ok s) = x

pub failed_two : {lean : Bool} {n h : ℕ} {f g : Cells} {v w : Worker} {x : Lack} → MakesTwo lean n h f g v w (Err x) → MakesQuad lean n 0 no_cells v w (Err x)
failed_two s = record { value = tt; keeps = s.keeps; room = s.room; cause = record { full = λ e. s.cause.full (err_of e); no_memory = λ l e. s.cause.no_memory l (err_of e); done = tt; wanting = λ e. s.cause.wanting (err_of e) } }

-- the corner of four quads, made or refused, is what the whole is to make
pub ends_by : {lean : Bool} (n : ℕ) {m h k l : ℕ} {f f0 f1 f2 f3 : Cells} {ps : List (Quad × Cells)} {u v w : Worker} {nw ne sw se : Quad} (r : Result Quad Lack) → m + n ≤ l → AreParts k f h f0 f1 f2 f3 → Underway m h ps u v
    → GivesQuad v h f0 nw → GivesQuad v h f1 ne → GivesQuad v h f2 sw → GivesQuad v h f3 se
    → IfOk r (GivesQuad w (nw.height + 1) (quartered (2 ^ nw.height) (quad_set v nw) (quad_set v ne) (quad_set v sw) (quad_set v se))) → Keeps v w → MakesAtMost n v w → HasCause lean v w r → MakesQuad lean l k f u w r
ends_by n (Ok q) o p a g0 g1 g2 g3 g kept room c = ends n o p a g0 g1 g2 g3 g kept room c
ends_by {lean} n {u = u} {v = v} {w = w} (Err x) o p a g0 g1 g2 g3 g kept room c = record {
  value = tt;
  keeps = keeps_trans u v w a.keeps kept;
  room = omega (arith, a.room, room, o);
  cause = later_cause lean u v w (Err x) a.misses c;
}
