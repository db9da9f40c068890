-- The result of reading the bytes of a file of named relations.
use Rattle.std.specs.Prelude.{◌≡◌, ℕ, List, [], ◌∷◌, Option, Some, None, IsSome, Result, Ok, Err}
use Rattle.std.specs.declared.alloc.Global.{Global}
use Rattle.std.specs.declared.vec.Vec.{Vec}
use Rattle.rel_model.specs.declared.Rel.{Rel}
use Rattle.rel_model.specs.Relation.{Relation}
use Rattle.rel_model.specs.Worker.{Worker, Gives, MakesAtMost, MissesNothing, Rose}
use Rattle.run_model.specs.declared.outcome.BadFile.{BadFile}
use Rattle.run_model.specs.declared.outcome.BadFile.TheVariants.{
  Short,
  Magic,
  Sizes,
  Height,
  Lengths,
  ZeroGroup,
  Outside,
  Padding,
  Rest,
  Full,
  NoMemory,
  Quad,
  Names as BAD_NAMES,
  Root,
  Order,
  Missing,
}
use Rattle.run_model.specs.SharedFiles.{shared_fault, shared_relations, relation_named}
use Rattle.run_model.specs.Cost.{cost_of_loaded, cost_of_gifts}
use Rattle.k2_file.specs.Reading.{cost_unless}

-- an answered relation has the name of an entry and is its relation
pub record IsEntryRead (worker : Worker) (entry : List ℕ × Relation) (answer : List ℕ × Rel) : Type 0 where
  pub same_name : answer.0 ≡ entry.0
  pub gives : Gives worker entry.1.rows entry.1.cols entry.1 answer.1

-- the answered relations are those of the entries, one for each, in order
abbrev pub AreRead : Worker → List (List ℕ × Relation) → List (List ℕ × Rel) → Type 0
AreRead worker [] [] = Unit {0}
AreRead worker [] (answer ∷ answers) = ⊥
AreRead worker (entry ∷ entries) [] = ⊥
AreRead worker (entry ∷ entries) (answer ∷ answers) =
    IsEntryRead worker entry answer × AreRead worker entries answers

-- a fault of the bytes, for which no node was asked
abbrev pub IsFault : Worker → Worker → List ℕ → BadFile → Type 0
IsFault old new bytes fault = (shared_fault bytes ≡ Some fault) × MissesNothing old new × MakesAtMost 0 old new

-- why nothing is read: the first test that fails, for which no node was asked; or the table was full, although no test
-- fails and the name exists; or memory ran out; and, as a parameter, what is answered for a missing name
abbrev pub IsRefused : Type 0 → Type 0 → Worker → Worker → List ℕ → BadFile → Type 0
IsRefused there missing old new bytes Full = (shared_fault bytes ≡ None) × there × Rose old.misses new.misses
IsRefused there missing old new bytes NoMemory = MissesNothing old new
IsRefused there missing old new bytes Missing = missing
IsRefused there missing old new bytes Short = IsFault old new bytes Short
IsRefused there missing old new bytes Magic = IsFault old new bytes Magic
IsRefused there missing old new bytes Sizes = IsFault old new bytes Sizes
IsRefused there missing old new bytes Height = IsFault old new bytes Height
IsRefused there missing old new bytes Lengths = IsFault old new bytes Lengths
IsRefused there missing old new bytes (ZeroGroup at) = IsFault old new bytes (ZeroGroup at)
IsRefused there missing old new bytes (Outside at) = IsFault old new bytes (Outside at)
IsRefused there missing old new bytes Padding = IsFault old new bytes Padding
IsRefused there missing old new bytes Rest = IsFault old new bytes Rest
IsRefused there missing old new bytes (Quad at) = IsFault old new bytes (Quad at)
IsRefused there missing old new bytes (BAD_NAMES at) = IsFault old new bytes (BAD_NAMES at)
IsRefused there missing old new bytes (Root at) = IsFault old new bytes (Root at)
IsRefused there missing old new bytes (Order at) = IsFault old new bytes (Order at)

-- no test fails and no relation has the name; no node was asked for
abbrev pub IsMissing : Worker → Worker → List ℕ → List ℕ → Type 0
IsMissing old new bytes name =
    (shared_fault bytes ≡ None) × (relation_named name (shared_relations bytes) ≡ None) × MissesNothing old new
    × MakesAtMost 0 old new

-- a relation is the one with this name in a list
abbrev pub IsNamed : Worker → Option Relation → Rel → Type 0
IsNamed worker None rel = ⊥
IsNamed worker (Some r) rel = Gives worker r.rows r.cols r rel

-- the result of reading bytes: all relations if no test fails, or why nothing is read
abbrev pub IsReadAll : Worker → Worker → List ℕ → Result (Vec (List ℕ × Rel) Global) BadFile → Type 0
IsReadAll old new bytes (Ok list) = (shared_fault bytes ≡ None) × AreRead new (shared_relations bytes) list.items
IsReadAll old new bytes (Err fault) = IsRefused (Unit {0}) (IsFault old new bytes Missing) old new bytes fault

-- the result of reading bytes for a name: the relation of the name if no test fails, or why nothing is read
abbrev pub IsReadNamed : Worker → Worker → List ℕ → List ℕ → Result Rel BadFile → Type 0
IsReadNamed old new bytes name (Ok rel) =
    (shared_fault bytes ≡ None) × IsNamed new (relation_named name (shared_relations bytes)) rel
IsReadNamed old new bytes name (Err fault) =
    IsRefused (IsSome (relation_named name (shared_relations bytes))) (IsMissing old new bytes name) old new bytes fault

-- how many nodes all relations of a file may take, by the height of the worker's leaves; none if a test fails
unfoldable pub cost_of_shared : ℕ → List ℕ → ℕ
cost_of_shared leaf bytes = cost_unless (shared_fault bytes) (cost_of_gifts leaf (shared_relations bytes))

-- how many nodes a relation may take, if it is found
abbrev pub cost_of_found : ℕ → Option Relation → ℕ
cost_of_found leaf None = 0
cost_of_found leaf (Some r) = cost_of_loaded leaf r

-- how many nodes the relation of a name may take; none if a test fails or no relation has the name
unfoldable pub cost_of_named : ℕ → List ℕ → List ℕ → ℕ
cost_of_named leaf bytes name =
    cost_unless (shared_fault bytes) (cost_of_found leaf (relation_named name (shared_relations bytes)))
