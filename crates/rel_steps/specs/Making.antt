-- What a call that makes a quad promises, in one record.
use Rattle.std.specs.Prelude.{ℕ, Bool, Result, IfOk}
use Rattle.rel_model.specs.declared.Quad.{Quad}
use Rattle.rel_model.specs.declared.Lack.{Lack}
use Rattle.rel_model.specs.Cells.{Cells}
use Rattle.rel_model.specs.Worker.{Worker, GivesQuad, Keeps, MakesAtMost, HasCause}

-- a call answers a quad of this height and set, or refuses for its cause; it keeps everything that stood, and makes at
-- most `most` nodes
pub record MakesQuad (lean : Bool) (most height : ℕ) (f : Cells) (old new : Worker) (result : Result Quad Lack)
    : Type 0 where
  pub value : IfOk result (GivesQuad new height f)
  pub keeps : Keeps old new
  pub room : MakesAtMost most old new
  pub cause : HasCause lean old new result
