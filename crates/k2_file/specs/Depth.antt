-- The bits still to be read of a file's levels, given by places in its parts, and what is read from there.
use Rattle.std.specs.Prelude.{cond, ℕ, Bool, List}
use Rattle.k2_file.specs.declared.parts.Parts.{Parts}
use Rattle.k2_file.specs.Told.{bits_in}
use Rattle.k2_file.specs.Rests.{rests_at, MovesOn}

-- the bits of the cells, or of the levels above them
abbrev pub level_in : Bool → Parts → List Bool
level_in is_last parts = cond is_last (bits_in parts.cells) (bits_in parts.tree)

-- the bits still to be read from these places on
abbrev pub rests_in : Parts → List ℕ → List (List Bool)
rests_in parts = rests_at (bits_in parts.tree) (bits_in parts.cells)

-- places moved on by this many submatrices
abbrev pub MovesIn : Parts → ℕ → List ℕ → List ℕ → Type 0
MovesIn parts = MovesOn (bits_in parts.tree) (bits_in parts.cells)
