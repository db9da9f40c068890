-- When a relation is not written, and the bytes of a file and of its header.
use Rattle.std.specs.Prelude.{◌≡◌, ◌<◌, ℕ, Bool, List, [], ◌∷◌, ◌++◌, length, codes}
use Rattle.std.specs.Int.{w32, w64, to_be_bytes}
use Rattle.run_model.specs.Limits.{save_limit}
use Rattle.run_model.specs.Files.{packed}
use Rattle.k2_file.specs.declared.refused.WriteRefused.{WriteRefused}
use Rattle.k2_file.specs.declared.refused.WriteRefused.TheVariants.{TooLong, NoMemory}

-- a relation is not written: it has more bits than the limit, and this is how many; or memory ran out
abbrev pub IsTooLong : ℕ → WriteRefused → Type 0
IsTooLong count (TooLong bits) = (save_limit < count) × (bits ≡ count)
IsTooLong count NoMemory = Unit {0}

-- the header with these sizes, height and numbers of bits
abbrev pub header_bytes : ℕ → ℕ → ℕ → ℕ → ℕ → List ℕ
header_bytes rows cols height tree cells =
    codes "RVK1" ++ to_be_bytes w32 rows ++ to_be_bytes w32 cols ++ height ∷ []
    ++ to_be_bytes w64 tree ++ to_be_bytes w64 cells

-- the bytes of a file with these sizes, this height, these bits above the cells and these of the cells
abbrev pub file_bytes : ℕ → ℕ → ℕ → List Bool → List Bool → List ℕ
file_bytes rows cols height tree cells =
    header_bytes rows cols height (length tree) (length cells) ++ packed 0 0 tree ++ packed 0 0 cells
