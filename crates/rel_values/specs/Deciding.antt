-- What a test of values promises.
use Rattle.std.specs.Prelude.{◌↔◌, ℕ, Bool, Result, IfOk, IsTrue}
use Rattle.rel_model.specs.declared.Lack.{Lack}
use Rattle.rel_model.specs.Worker.{Worker, Keeps, MakesAtMost, HasCause}

-- a test answers whether a fact holds, or refuses with its cause
pub record Decides (lean : Bool) (old new : Worker) (fact : Type 0) (cost : ℕ) (result : Result Bool Lack)
    : Type 0 where
  pub value : IfOk result (λ yes. IsTrue yes ↔ fact)
  pub keeps : Keeps old new
  pub room : MakesAtMost cost old new
  pub cause : HasCause lean old new result
