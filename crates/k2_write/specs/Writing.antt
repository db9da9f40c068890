-- The bytes of a file of several relations, and the relations that it is written from.
use Rattle.std.specs.Prelude.{ℕ, List, ◌∷◌, ◌++◌, length, map, codes}
use Rattle.std.specs.List.{flat_map}
use Rattle.std.specs.Int.{w32, to_be_bytes}
use Rattle.rel_model.specs.declared.Rel.{Rel}
use Rattle.rel_model.specs.Relation.{Relation}
use Rattle.rel_model.specs.Worker.{Worker, set_of}
use Rattle.k2_write.specs.declared.visits.Quarters.{Quarters}

-- relations with their names and sets
abbrev pub named_sets : Worker → List (List ℕ × Rel) → List (List ℕ × Relation)
named_sets w rels = map (λ e. (e.0, set_of w e.1)) rels

-- the bytes of a square: the numbers of its quarters
abbrev pub quarters_bytes : Quarters → List ℕ
quarters_bytes q = to_be_bytes w32 q.nw ++ to_be_bytes w32 q.ne ++ to_be_bytes w32 q.sw ++ to_be_bytes w32 q.se

-- the bytes of a relation: the length of its name, the name, its sizes and the number of its square
abbrev pub named_bytes : List ℕ → ℕ → ℕ → ℕ → List ℕ
named_bytes name rows cols root =
    length name ∷ (name ++ to_be_bytes w32 rows ++ to_be_bytes w32 cols ++ to_be_bytes w32 root)

-- the header of a file with these numbers of squares and relations
abbrev pub header_bytes : ℕ → ℕ → List ℕ
header_bytes squares relations = codes "RVK2" ++ to_be_bytes w32 squares ++ to_be_bytes w32 relations

-- the bytes of a file with these squares, this number of relations, and their bytes
abbrev pub listed_bytes : List Quarters → ℕ → List ℕ → List ℕ
listed_bytes squares count relations =
    header_bytes (length squares) count ++ flat_map quarters_bytes squares ++ relations
