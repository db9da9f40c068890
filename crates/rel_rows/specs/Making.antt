-- What a call that makes two quads of one height promises, in one record.
use Rattle.std.specs.Prelude.{ℕ, Bool, Result, IfOk}
use Rattle.rel_model.specs.declared.Quad.{Quad}
use Rattle.rel_model.specs.declared.Lack.{Lack}
use Rattle.rel_model.specs.Cells.{Cells}
use Rattle.rel_model.specs.Worker.{Worker, GivesQuad, Keeps, MakesAtMost, HasCause}

-- a call answers two quads of this height with these sets, or refuses for its cause; it keeps everything that stood,
-- and makes at most `most` nodes
pub record MakesTwo (lean : Bool) (most height : ℕ) (f g : Cells) (old new : Worker)
    (result : Result (Quad × Quad) Lack)
    : Type 0 where
  pub value : IfOk result (λ p. GivesQuad new height f p.0 × GivesQuad new height g p.1)
  pub keeps : Keeps old new
  pub room : MakesAtMost most old new
  pub cause : HasCause lean old new result
