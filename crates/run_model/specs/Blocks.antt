-- The assignments of an atomic block: what they read, and which of their expressions are not just a name.
use Rattle.std.specs.Prelude.{◌⊎◌, ℕ, List, [], ◌∷◌}
use Rattle.lang_model.specs.declared.syntax.Let.{Let}
use Rattle.lang_model.specs.Eval.{IsCompound}
use Rattle.lang_model.specs.Blocks.{names_read}
use Rattle.run_model.specs.Names.{Names, no_names, set, names_of}

-- names as a set
abbrev pub as_set : List (List ℕ) → Names (Unit {0})
as_set [] = no_names
as_set (name ∷ names) = set name tt (as_set names)

-- the names that a block reads, each once, in the order of their bytes
unfoldable pub block_reads : List Let → List (List ℕ)
block_reads lets = names_of (as_set (names_read lets))

-- some expression of the block is not just a name
abbrev pub AnyCompound : List Let → Type 0
AnyCompound [] = ⊥
AnyCompound (l ∷ ls) = IsCompound l.value ⊎ AnyCompound ls
