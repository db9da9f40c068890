-- Calls that make quads one after the other: what the first ones made and kept, and what they make together.
use Rattle.std.proofs.Common.{◌≡◌, ◌≤◌, ◌+◌, ◌^◌, ◌∙◌, ℕ, Bool, List, [], ◌∷◌, Result, IfOk, refl, sym, ap, subst, arith, Some}
use Rattle.std.specs.Prelude.{Ok, Err}
use Rattle.std.specs.Result.{IsErrAnd}
use Rattle.std.proofs.lemmas.Result.{err_from_is_err_and}
use Rattle.rel_model.specs.declared.Quad.{Quad}
use Rattle.rel_model.specs.declared.Lack.{Lack}
use Rattle.rel_model.specs.Cells.{Cells, no_cells}
use Rattle.rel_model.specs.Trees.{quartered}
use Rattle.rel_model.specs.Worker.{Worker, HasQuad, quad_set, GivesQuad, Keeps, MakesAtMost, MissesNothing, HasCause}
use Rattle.rel_model.proofs.Workers.{keeps_itself, keeps_trans}
use Rattle.rel_steps.specs.Making.{MakesQuad}
use Rattle.rel_steps.proofs.Given.{AreParts, gives_has, gives_quad_set, gives_later}
use Rattle.rel_steps.proofs.Causes.{later_cause, failed_cause}

-- these quads are given, with one height, and each with the set beside it
abbrev pub AreGiven : Worker → ℕ → List (Quad × Cells) → Type 0
AreGiven w h [] = Unit
AreGiven w h (p ∷ ps) = GivesQuad w h p.1 p.0 × AreGiven w h ps

-- a call has come so far: it made these quads, the last one first, kept all that was, and missed no place
pub record Underway (most h : ℕ) (made : List (Quad × Cells)) (old now : Worker) : Type 0 where
  pub keeps : Keeps old now
  pub room : MakesAtMost most old now
  pub misses : MissesNothing old now
  pub are : AreGiven now h made

are_given-later : (v w : Worker) (h : ℕ) (ps : List (Quad × Cells)) → Keeps v w → AreGiven v h ps → AreGiven w h ps
are_given-later v w h [] k a = tt
are_given-later v w h (p ∷ ps) k a = (gives_later v w h p.1 p.0 k a.0, are_given-later v w h ps k a.1)

-- it began
pub begun : {h : ℕ} (w : Worker) → Underway 0 h [] w w
begun w = record { keeps = keeps_itself w; room = omega arith; misses = refl; are = tt }

-- it began with calls that read
pub read : {h : ℕ} {v w : Worker} → Keeps v w → MakesAtMost 0 v w → MissesNothing v w → Underway 0 h [] v w
read k r m = record { keeps = k; room = r; misses = m; are = tt }

-- one more quad was made
pub goes_on : {lean : Bool} {m n h : ℕ} {f : Cells} {ps : List (Quad × Cells)} {u v w : Worker} {q : Quad} → Underway m h ps u v → MakesQuad lean n h f v w (Ok q) → Underway (m + n) h ((q, f) ∷ ps) u w
goes_on {h = h} {ps = ps} {u = u} {v = v} {w = w} a s = record {
  keeps = keeps_trans u v w a.keeps s.keeps;
  room = omega (arith, a.room, s.room);
  misses = s.cause.done ∙ a.misses;
  are = (s.value, are_given-later v w h ps s.keeps a.are);
}

-- a call failed
pub failed : {lean : Bool} (n : ℕ) {v w : Worker} {x : Lack} → Keeps v w → MakesAtMost n v w → HasCause {T = Quad} lean v w (Err x) → MakesQuad lean n 0 no_cells v w (Err x)
failed n k r c = record { value = tt; keeps = k; room = r; cause = c }

-- the last call failed, and so the whole does
pub stops : {lean : Bool} {m n h k l i : ℕ} {f g : Cells} {ps : List (Quad × Cells)} {u v w : Worker} {x : Lack} (r : Result Quad Lack) → IsErrAnd r (λ (y : Lack). y ≡ x) → m + n ≤ l → Underway m h ps u v → MakesQuad lean n i g v w (Err x)
    → MakesQuad lean l k f u w r
stops {lean} {k = k} {f = f} {u = u} {v = v} {w = w} {x = x} r e o a s =
    let p = err_from_is_err_and r e in
    record {
      value = subst (λ (z : Result Quad Lack). IfOk z (GivesQuad w k f)) (sym p.1) tt;
      keeps = keeps_trans u v w a.keeps s.keeps;
      room = omega (arith, a.room, s.room, o);
      cause = failed_cause lean u v w x p.0 r a.misses s.cause p.1 p.2;
    }

-- the last call gives what the whole is to make
pub finished : {lean : Bool} (n : ℕ) {m h k l : ℕ} {f : Cells} {ps : List (Quad × Cells)} {u v w : Worker} {q : Quad} → m + n ≤ l → Underway m h ps u v → GivesQuad w k f q → Keeps v w → MakesAtMost n v w → HasCause lean v w (Ok q) → MakesQuad lean l k f u w (Ok q)
finished {lean} n {u = u} {v = v} {w = w} {q = q} o a g kept room c = record {
  value = g;
  keeps = keeps_trans u v w a.keeps kept;
  room = omega (arith, a.room, room, o);
  cause = later_cause lean u v w (Ok q) a.misses c;
}

-- four quads that are given at one height stand, as their corner asks for
pub record FourStand (w : Worker) (nw ne sw se : Quad) : Type 0 where
  pub nw_stands : HasQuad w nw
  pub ne_stands : HasQuad w ne
  pub sw_stands : HasQuad w sw
  pub se_stands : HasQuad w se
  pub ne_height : ne.height ≡ nw.height
  pub sw_height : sw.height ≡ nw.height
  pub se_height : se.height ≡ nw.height

pub four_stand : {w : Worker} {h : ℕ} {f0 f1 f2 f3 : Cells} {nw ne sw se : Quad} → GivesQuad w h f0 nw → GivesQuad w h f1 ne → GivesQuad w h f2 sw → GivesQuad w h f3 se → FourStand w nw ne sw se
four_stand {w} {h} {f0} {f1} {f2} {f3} {nw} {ne} {sw} {se} a b c d = record {
  nw_stands = gives_has w h f0 nw a;
  ne_stands = gives_has w h f1 ne b;
  sw_stands = gives_has w h f2 sw c;
  se_stands = gives_has w h f3 se d;
  ne_height = b.same_height ∙ sym a.same_height;
  sw_height = c.same_height ∙ sym a.same_height;
  se_height = d.same_height ∙ sym a.same_height;
}

-- the corner of four quads that were made is what the whole is to make
pub ends : {lean : Bool} (n : ℕ) {m h k l : ℕ} {f f0 f1 f2 f3 : Cells} {ps : List (Quad × Cells)} {u v w : Worker} {nw ne sw se q : Quad} → m + n ≤ l → AreParts k f h f0 f1 f2 f3 → Underway m h ps u v
    → GivesQuad v h f0 nw → GivesQuad v h f1 ne → GivesQuad v h f2 sw → GivesQuad v h f3 se
    → GivesQuad w (nw.height + 1) (quartered (2 ^ nw.height) (quad_set v nw) (quad_set v ne) (quad_set v sw) (quad_set v se)) q → Keeps v w → MakesAtMost n v w → HasCause lean v w (Ok q) → MakesQuad lean l k f u w (Ok q)
ends {lean} n {h = h} {f0 = f0} {f1 = f1} {f2 = f2} {f3 = f3} {u = u} {v = v} {w = w} {nw = nw} {ne = ne} {sw = sw} {se = se} {q = q} o p a g0 g1 g2 g3 g kept room c = record {
  value = record {
    means = g.means ∙ ap Some (ap (λ (x : ℕ). quartered (2 ^ x) (quad_set v nw) (quad_set v ne) (quad_set v sw) (quad_set v se)) g0.same_height
        ∙ ap (λ (x : Cells). quartered (2 ^ h) x (quad_set v ne) (quad_set v sw) (quad_set v se)) (gives_quad_set v h f0 nw g0)
        ∙ ap (λ (x : Cells). quartered (2 ^ h) f0 x (quad_set v sw) (quad_set v se)) (gives_quad_set v h f1 ne g1)
        ∙ ap (λ (x : Cells). quartered (2 ^ h) f0 f1 x (quad_set v se)) (gives_quad_set v h f2 sw g2)
        ∙ ap (λ (x : Cells). quartered (2 ^ h) f0 f1 f2 x) (gives_quad_set v h f3 se g3) ∙ p.means);
    same_height = g.same_height ∙ ap (λ (x : ℕ). x + 1) g0.same_height ∙ p.next;
  };
  keeps = keeps_trans u v w a.keeps kept;
  room = omega (arith, a.room, room, o);
  cause = later_cause lean u v w (Ok q) a.misses c;
}

-- the same of the last four
pub corner_made : {lean : Bool} {m h k l : ℕ} {f f0 f1 f2 f3 : Cells} {u v w : Worker} {nw ne sw se q : Quad} → m + 3 ≤ l → AreParts k f h f0 f1 f2 f3 → Underway m h ((se, f3) ∷ (sw, f2) ∷ (ne, f1) ∷ (nw, f0) ∷ []) u v
    → GivesQuad w (nw.height + 1) (quartered (2 ^ nw.height) (quad_set v nw) (quad_set v ne) (quad_set v sw) (quad_set v se)) q → Keeps v w → MakesAtMost 3 v w → HasCause lean v w (Ok q) → MakesQuad lean l k f u w (Ok q)
corner_made o p a g k r c = ends 3 o p a a.are.1.1.1.0 a.are.1.1.0 a.are.1.0 a.are.0 g k r c
