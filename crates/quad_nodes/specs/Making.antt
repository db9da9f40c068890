-- What a call that makes a quad promises, in one record.
use Rattle.std.specs.Prelude.{ℕ, Result, IfOk}
use Rattle.rel_model.specs.declared.Quad.{Quad}
use Rattle.rel_model.specs.Cells.{Cells}
use Rattle.rel_model.specs.Quads.{Keeper, IsQuad, KeepsQuads, Counts}
use Rattle.quad_nodes.specs.Finding.{FindsQuad, FindsBoth}

-- a call answers a quad of this height and set, or counts a miss; it keeps everything that stood, places at most `room`
-- words, and finds such a quad if one stood
pub record MakesQuad {E : Type 0} (room height : ℕ) (f : Cells) (old new : Keeper) (result : Result Quad E)
    : Type 0 where
  pub value : IfOk result (IsQuad new height f)
  pub stood : FindsQuad old new height f result
  pub keeps : KeepsQuads room old new
  pub counts : Counts old new result

-- the same for two quads of this height with these sets
pub record MakesBoth {E : Type 0} (room height : ℕ) (f g : Cells) (old new : Keeper) (result : Result (Quad × Quad) E)
    : Type 0 where
  pub value : IfOk result (λ (pair : Quad × Quad). IsQuad new height f pair.0 × IsQuad new height g pair.1)
  pub stood : FindsBoth old new height f g result
  pub keeps : KeepsQuads room old new
  pub counts : Counts old new result
