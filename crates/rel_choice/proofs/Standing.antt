-- What a worker's quads and relations keep, and what the quads of relations are.
use Rattle.std.proofs.Common.{◌≡◌, ◌<◌, ℕ, true, ap, ◌∙◌, Some}
use Rattle.std.specs.Prelude.{unwrap_or}
use Rattle.rel_model.specs.declared.Quad.{Quad}
use Rattle.rel_model.specs.Relation.{Relation, IsRelation, has}
use Rattle.rel_model.specs.Cells.{no_cells}
use Rattle.rel_model.specs.Worker.{Worker, quad_set}
use Rattle.rel_model.proofs.Pairs.{all-member}

-- a pair of a relation lies within its sizes
pub has-within : (r : Relation) → IsRelation r → (i j : ℕ) → has r i j ≡ true → (i < r.rows) × (j < r.cols)
has-within r v i j h = all-member (λ p. (p.0 < r.rows) × (p.1 < r.cols)) r.pairs (i, j) v.within h

-- the quad named 0 has no cell
pub zero_set : (w : Worker) (q : Quad) → q.name ≡ 0 → w.quad (record { height = q.height; name = 0 }) ≡ Some no_cells → quad_set w q ≡ no_cells
zero_set w q e h = ap (λ (n : ℕ). quad_set w (record { height = q.height; name = n })) e ∙ ap (λ o. unwrap_or o no_cells) h
