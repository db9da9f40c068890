-- The state of visits: whether the numbers that they list are those from 2 on, in order.
use Rattle.std.specs.Prelude.{◌≡◌, ◌<◌, ◌+◌, ◌-◌, ℕ, true, false, List, [], ◌++◌, length, Some}
use Rattle.std.specs.List.{AllByRecursion}
use Rattle.run_model.specs.Files.{file_height}
use Rattle.run_model.specs.SharedFiles.{Quadrant, NamedRoot, heights_behind, is_root, with_number, visit_number, first_out}
use Rattle.run_model.proofs.SharedCells.{IsNumber}
use Rattle.run_model.proofs.SharedOrder.{numbers_from}
use Rattle.k2_parts.specs.declared.visits.Noted.{Noted}

-- whatever follows a list, the first of the numbers from 2 on that is not at its place is this one
abbrev pub IsOutAt : ℕ → ℕ → List ℕ → Type 0
IsOutAt count m list = (more : List ℕ) → first_out 2 count (list ++ more) ≡ Some m

-- the state for a list of numbers: it has those from 2 up to the next one, or the next one is out of place
pub record IsNoted (count : ℕ) (noted : Noted) (list : List ℕ) : Type 0 where
  pub in_order : noted.is_out ≡ false → list ≡ numbers_from 2 (noted.next - 2)
  pub out_of_order : noted.is_out ≡ true → IsOutAt count noted.next list

-- a number was listed: if the old state is that of a list, the new one is that of the list with the number
abbrev pub ListsNumber : ℕ → Noted → Noted → Type 0
ListsNumber number old new = (count : ℕ) (list : List ℕ) → number < count + 2 → IsNoted count old list
    → IsNoted count new (with_number number list)

-- a number was visited: if the old state is that of a list, the new one is that of the list after the visit, at the
-- number's height
abbrev pub Visits : List Quadrant → ℕ → Noted → Noted → Type 0
Visits quads number old new = (h : ℕ) (list : List ℕ) → IsNumber quads h number → IsNoted (length quads) old list
    → IsNoted (length quads) new (visit_number quads h number list)

-- each root is 0, or a listed number with the height of its relation
abbrev pub AreRooted : List Quadrant → List NamedRoot → Type 0
AreRooted quads roots =
    AllByRecursion (λ r. is_root quads (heights_behind [] quads) (file_height r.rows r.cols) r.root ≡ true) roots
