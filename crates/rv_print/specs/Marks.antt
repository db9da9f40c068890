-- The marks of a row of cells.
use Rattle.std.specs.Prelude.{ℕ, Bool, cond, zero, suc, List, [], ◌∷◌, ◌++◌}

-- `1` for a cell in the set, and `.` otherwise
abbrev pub mark : Bool → ℕ
mark is = cond is 49 46

-- the marks of the first n cells of a row
abbrev pub marks : (ℕ → Bool) → ℕ → List ℕ
marks row zero = []
marks row (suc n) = marks row n ++ mark (row n) ∷ []
