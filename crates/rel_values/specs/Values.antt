-- What the operators of the language on values promise.
use Rattle.std.specs.Prelude.{◌≤◌, ◌<◌, ◌+◌, ℕ, Bool, Result, IfOk}
use Rattle.rel_model.specs.declared.Lack.{Lack}
use Rattle.rel_model.specs.declared.faults.DomainError.{DomainError}
use Rattle.rel_model.specs.Relation.{Relation, size_limit}
use Rattle.rel_model.specs.Domains.{HasDomainCause}
use Rattle.rel_model.specs.Operators.{compose, transpose}
use Rattle.rel_model.specs.Worker.{Worker, Keeps, MakesAtMost, HasCause, product_room}
use Rattle.rel_slices.specs.declared.thin.Value.{Value}
use Rattle.rel_slices.specs.Thin.{ValueStands, value_of, value_rows, value_cols, IsLong, GivesValue, HasForm}
use Rattle.rel_slices.specs.ValueRooms.{assembly_room}

-- the value stands, and if it is lines, they are long
pub record Fits (w : Worker) (v : Value) : Type 0 where
  pub stands : ValueStands w v
  pub long : IsLong v

-- two values in the form of their sizes, which mean what two others meant
pub record AreForms (old new : Worker) (x y a b : Value) : Type 0 where
  pub left : GivesValue new (value_rows x) (value_cols x) (value_of old x) a
  pub left_form : HasForm a
  pub right : GivesValue new (value_rows y) (value_cols y) (value_of old y) b
  pub right_form : HasForm b

-- how many nodes it takes at most to make the value whole
abbrev pub owed : ℕ → Value → ℕ
owed least v = assembly_room least v

-- An operation answers a value of these sizes and this set, or refuses with its cause. Everything that stood still
-- stands. It makes at most as many nodes as it costs, even including those that making its answer whole would take.
pub record Operates (least : ℕ) (lean : Bool) (old new : Worker) (rows cols : ℕ) (set : Relation) (cost : ℕ)
    (result : Result Value Lack) : Type 0 where
  pub value : IfOk result (GivesValue new rows cols set)
  pub long : IfOk result IsLong
  pub keeps : Keeps old new
  pub room : MakesAtMost cost old new
  pub owes : IfOk result (λ v. new.made + owed least v ≤ old.made + cost)
  pub cause : HasCause lean old new result

-- the same for an operation whose answer may be too large, with wanted columns: it then makes no node
pub record OperatesWithin (least : ℕ) (lean : Bool) (old new : Worker) (rows cols : ℕ) (set : Relation)
    (cost wanted : ℕ) (result : Result Value DomainError) : Type 0 where
  pub value : IfOk result (GivesValue new rows cols set)
  pub long : IfOk result IsLong
  pub keeps : Keeps old new
  pub room : MakesAtMost cost old new
  pub owes : IfOk result (λ v. new.made + owed least v ≤ old.made + cost)
  pub nothing : size_limit < wanted → MakesAtMost 0 old new
  pub cause : HasDomainCause lean wanted old new result

-- `x^*y`: x is transposed and composed with y; `turning` is the cost of the transposition
abbrev pub ComposesTurned : ℕ → Bool → Worker → Worker → Value → Value → ℕ → Result Value Lack → Type 0
ComposesTurned least lean old new x y turning result =
    Operates least lean old new (value_cols x) (value_cols y)
    (compose (transpose (value_of old x)) (value_of old y))
    (turning + product_room (value_cols x) (value_rows x) (value_cols y)) result
