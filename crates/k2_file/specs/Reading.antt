-- The result of reading bytes.
use Rattle.std.specs.Prelude.{◌≡◌, ℕ, List, length, Option, Some, None, Result, Ok, Err}
use Rattle.rel_model.specs.declared.Rel.{Rel}
use Rattle.run_model.specs.declared.outcome.BadFile.{BadFile}
use Rattle.run_model.specs.declared.outcome.BadFile.TheVariants.{
  Short,
  Magic,
  Sizes,
  Height,
  Lengths,
  ZeroGroup,
  Outside,
  Padding,
  Rest,
  Full,
  NoMemory,
  Quad,
  Names as BAD_NAMES,
  Root,
  Order,
  Missing,
}
use Rattle.rel_model.specs.Worker.{Worker, Gives, MakesAtMost, MissesNothing, Rose}
use Rattle.run_model.specs.Files.{k2_fault, k2_relation}
use Rattle.run_model.specs.Cost.{listed_cost}

-- a fault of the bytes, for which no node was asked
abbrev pub IsFault : Worker → Worker → List ℕ → BadFile → Type 0
IsFault old new bytes fault = (k2_fault bytes ≡ Some fault) × MissesNothing old new × MakesAtMost 0 old new

-- the result of reading bytes: the relation of their cells if no test fails; or the first test that fails, for which no
-- node was asked; or the table was full, or memory ran out
abbrev pub IsRead : Worker → Worker → List ℕ → Result Rel BadFile → Type 0
IsRead old new bytes (Ok rel) =
    (k2_fault bytes ≡ None) × Gives new (k2_relation bytes).rows (k2_relation bytes).cols (k2_relation bytes) rel
IsRead old new bytes (Err Full) = (k2_fault bytes ≡ None) × Rose old.misses new.misses
IsRead old new bytes (Err NoMemory) = MissesNothing old new
IsRead old new bytes (Err Short) = IsFault old new bytes Short
IsRead old new bytes (Err Magic) = IsFault old new bytes Magic
IsRead old new bytes (Err Sizes) = IsFault old new bytes Sizes
IsRead old new bytes (Err Height) = IsFault old new bytes Height
IsRead old new bytes (Err Lengths) = IsFault old new bytes Lengths
IsRead old new bytes (Err (ZeroGroup at)) = IsFault old new bytes (ZeroGroup at)
IsRead old new bytes (Err (Outside at)) = IsFault old new bytes (Outside at)
IsRead old new bytes (Err Padding) = IsFault old new bytes Padding
IsRead old new bytes (Err Rest) = IsFault old new bytes Rest
IsRead old new bytes (Err (Quad at)) = IsFault old new bytes (Quad at)
IsRead old new bytes (Err (BAD_NAMES at)) = IsFault old new bytes (BAD_NAMES at)
IsRead old new bytes (Err (Root at)) = IsFault old new bytes (Root at)
IsRead old new bytes (Err (Order at)) = IsFault old new bytes (Order at)
IsRead old new bytes (Err Missing) = IsFault old new bytes Missing

-- how many nodes bytes may take, given the first test that they fail: none if there is one
abbrev pub cost_unless : Option BadFile → ℕ → ℕ
cost_unless None cost = cost
cost_unless (Some fault) cost = 0

-- how many nodes a file may take, by the height of the worker's leaves; none if a test fails
unfoldable pub cost_of_file : ℕ → List ℕ → ℕ
cost_of_file leaf bytes =
    let r = k2_relation bytes in cost_unless (k2_fault bytes) (listed_cost leaf (length r.pairs) r.rows r.cols)
