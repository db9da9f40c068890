-- The quad named 0, which has no cell.
use Rattle.std.proofs.Common.{◌≡◌, ◌∙◌, ℕ, Some, sym, ap}
use Rattle.rel_model.specs.declared.Quad.{Quad}
use Rattle.rel_model.specs.Cells.{Cells, no_cells}
use Rattle.rel_model.specs.Worker.{Worker, GivesQuad}

-- it is given, with each set that has no cell
pub empty_given : (w : Worker) (h : ℕ) (f : Cells) (q : Quad) → q ≡ record { height = h; name = 0 } → w.quad (record { height = h; name = 0 }) ≡ Some no_cells → f ≡ no_cells → GivesQuad w h f q
empty_given w h f q e n z = record { means = ap (λ (p : Quad). w.quad p) e ∙ n ∙ ap Some (sym z); same_height = ap (λ (p : Quad). p.height) e }
