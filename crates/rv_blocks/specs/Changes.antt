-- Which of the names that were read has another version.
use Rattle.std.specs.Prelude.{ℕ, List, [], ◌∷◌, Option, Some, None, option_map, cond, suc, nat_eq}
use Rattle.run_model.specs.Versions.{Versions, noted}

-- the place of the first name whose version is not the number beside it
abbrev pub first_other : Versions → List (List ℕ × ℕ) → Option ℕ
first_other versions [] = None
first_other versions (read ∷ reads) =
    cond (nat_eq (noted versions read.0) read.1) (option_map suc (first_other versions reads)) (Some 0)
