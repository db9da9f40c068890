-- What residuals and symmetric quotients of values promise.
use Rattle.std.specs.Prelude.{◌≡◌, ℕ, Bool, Result, IfOk}
use Rattle.rel_model.specs.declared.Lack.{Lack}
use Rattle.rel_model.specs.Relation.{Relation}
use Rattle.rel_model.specs.Worker.{Worker, Keeps, MakesAtMost, HasCause}
use Rattle.rel_slices.specs.declared.thin.Value.{Value}
use Rattle.rel_slices.specs.Thin.{GivesValue, HasForm}

-- A derived call answers a value of these sizes and this set, in the form of its sizes, or refuses with its cause.
-- Everything that stood still stands. Over leaves of 8 by 8 it makes at most `most` nodes, which are no more than the
-- language counts for it.
pub record Derives (least : ℕ) (lean : Bool) (old new : Worker) (rows cols : ℕ) (set : Relation) (counted most : ℕ)
    (result : Result Value Lack) : Type 0 where
  pub value : IfOk result (GivesValue new rows cols set)
  pub form : IfOk result HasForm
  pub keeps : Keeps old new
  pub cost : least ≡ 3 → MakesAtMost counted old new
  pub close : least ≡ 3 → MakesAtMost most old new
  pub cause : HasCause lean old new result
