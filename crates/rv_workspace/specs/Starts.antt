-- What a book begins with, in the form that a turn book keeps: relations of names, and versions, as lists.
use Rattle.std.specs.Prelude.{ℕ, map}
use Rattle.rel_model.specs.declared.Rel.{Rel}
use Rattle.run_model.specs.Carried.{First}
use Rattle.turn_book.specs.Views.{Start}

-- a relation as its rows, its columns and its root
abbrev pub parts_of : Rel → ℕ × ℕ × ℕ
parts_of rel = (rel.rows, rel.cols, rel.root)

-- the relation with such parts
abbrev pub rel_from : ℕ × ℕ × ℕ → Rel
rel_from parts = record { rows = parts.0; cols = parts.1; root = parts.2 }

-- first names and versions, as a turn book keeps them
abbrev pub start_of : First → Start
start_of first =
    record { relations = map (λ entry. (entry.0, parts_of entry.1)) first.names; numbers = first.versions }

-- the first names and versions that a turn book keeps
abbrev pub first_of : Start → First
first_of start =
    record { names = map (λ entry. (entry.0, rel_from entry.1)) start.relations; versions = start.numbers }
