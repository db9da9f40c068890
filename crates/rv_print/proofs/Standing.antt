-- What a worker's quads and relations keep, and what the quads of relations are.
use Rattle.std.proofs.Common.{◌≡◌, ℕ, refl, sym, ap, subst, ◌∙◌, Some}
use Rattle.std.specs.Prelude.{IsSome, unwrap_or}
use Rattle.rel_model.specs.declared.Quad.{Quad}
use Rattle.rel_model.specs.Cells.{Cells, no_cells}
use Rattle.rel_model.specs.Worker.{Worker, HasQuad, quad_set, GivesQuad, Keeps}

-- the quad named 0 has no cell
pub zero_set : (w : Worker) (q : Quad) → q.name ≡ 0 → w.quad (record { height = q.height; name = 0 }) ≡ Some no_cells → quad_set w q ≡ no_cells
zero_set w q e h = ap (λ (n : ℕ). quad_set w (record { height = q.height; name = n })) e ∙ ap (λ o. unwrap_or o no_cells) h

-- a quad that stands goes on standing, with its set
pub keeps_quad : (a b : Worker) (q : Quad) → Keeps a b → HasQuad a q → HasQuad b q
keeps_quad a b q k s = subst IsSome (sym (k.same_quads q s)) s

pub keeps_quad_set : (a b : Worker) (q : Quad) → Keeps a b → HasQuad a q → quad_set b q ≡ quad_set a q
keeps_quad_set a b q k s = ap (λ o. unwrap_or o no_cells) (k.same_quads q s)

-- a quad that is given stands, with its set
pub gives_quad : (w : Worker) (h : ℕ) (f : Cells) (q : Quad) → GivesQuad w h f q → HasQuad w q
gives_quad w h f q g = subst IsSome (sym g.means) refl

pub gives_quad_set : (w : Worker) (h : ℕ) (f : Cells) (q : Quad) → GivesQuad w h f q → quad_set w q ≡ f
gives_quad_set w h f q g = ap (λ o. unwrap_or o no_cells) g.means
