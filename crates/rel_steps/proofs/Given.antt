-- Quads that a worker gives: that they stand, their sets, and that both stay.
use Rattle.std.proofs.Common.{◌≡◌, ◌+◌, ◌^◌, ◌∙◌, ℕ, Option, refl, sym, ap, subst}
use Rattle.std.specs.Prelude.{IsSome, unwrap_or}
use Rattle.rel_model.specs.declared.Quad.{Quad}
use Rattle.rel_model.specs.Cells.{Cells, no_cells}
use Rattle.rel_model.specs.Trees.{quartered}
use Rattle.rel_model.specs.Worker.{Worker, HasQuad, quad_set, GivesQuad, Keeps}

-- what is given stands
pub gives_has : (w : Worker) (h : ℕ) (f : Cells) (q : Quad) → GivesQuad w h f q → HasQuad w q
gives_has w h f q g = subst (λ (o : Option Cells). IsSome o) (sym g.means) refl

-- and has its set
pub gives_quad_set : (w : Worker) (h : ℕ) (f : Cells) (q : Quad) → GivesQuad w h f q → quad_set w q ≡ f
gives_quad_set w h f q g = ap (λ o. unwrap_or o no_cells) g.means

-- a kept quad keeps its set
pub kept_set : (v w : Worker) (q : Quad) → Keeps v w → HasQuad v q → quad_set w q ≡ quad_set v q
kept_set v w q k h = ap (λ o. unwrap_or o no_cells) (k.same_quads q h)

-- and stands
pub kept_quad : (v w : Worker) (q : Quad) → Keeps v w → HasQuad v q → HasQuad w q
kept_quad v w q k h = subst (λ (o : Option Cells). IsSome o) (sym (k.same_quads q h)) h

-- and is given then
pub gives_later : (v w : Worker) (h : ℕ) (f : Cells) (q : Quad) → Keeps v w → GivesQuad v h f q → GivesQuad w h f q
gives_later v w h f q k g = record { means = k.same_quads q (gives_has v h f q g) ∙ g.means; same_height = g.same_height }

-- four sets are the quarters of a set
pub record AreParts (k : ℕ) (f : Cells) (h : ℕ) (f0 f1 f2 f3 : Cells) : Type 0 where
  pub next : h + 1 ≡ k
  pub means : quartered (2 ^ h) f0 f1 f2 f3 ≡ f
