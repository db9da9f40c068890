-- Small files of several relations, computed from the definitions: a list written and read back, and files with one change.
use Rattle.std.proofs.Common.{◌≡◌, ℕ, List, [], ◌∷◌, ◌++◌, take, Some, None, refl}
use Rattle.std.specs.Prelude.{codes}
use Rattle.run_model.specs.declared.outcome.BadFile.TheVariants.{Short, Magic, Outside, Rest, Quad, Names as BAD_NAMES, Root, Order, Missing}
use Rattle.run_model.specs.declared.outcome.Outcome.TheVariants.{BadFile as BAD_FILE}
use Rattle.rel_model.specs.Relation.{Relation, relation_of}
use Rattle.rel_model.specs.Roots.{lies_within}
use Rattle.rel_model.specs.Worker.{height_of}
use Rattle.run_model.specs.Due.{Early, Value, Refused, due_of_file}
use Rattle.run_model.specs.Files.{file_height}
use Rattle.run_model.specs.SharedBytes.{squares_of, shared_file}
use Rattle.run_model.specs.SharedFiles.{begins_shared, quadrants_of, entry_fault, entries_of, shared_fault, shared_relations}
use Rattle.run_model.proofs.FileExamples.{corners, file}

-- 2 x 2 with the pair (1,1), counted from 1
abbrev corner : Relation
corner = record { rows = 2; cols = 2; pairs = (0, 0) ∷ [] }

abbrev both : List (List ℕ × Relation)
both = (codes "A", corners) ∷ (codes "B", corner) ∷ []

-- four numbers below 256, each in four bytes
abbrev four : ℕ → ℕ → ℕ → ℕ → List ℕ
four a b c d = 0 ∷ 0 ∷ 0 ∷ a ∷ 0 ∷ 0 ∷ 0 ∷ b ∷ 0 ∷ 0 ∷ 0 ∷ c ∷ 0 ∷ 0 ∷ 0 ∷ d ∷ []

-- how many squares and relations
abbrev counts : ℕ → ℕ → List ℕ
counts q k = 82 ∷ 86 ∷ 75 ∷ 50 ∷ 0 ∷ 0 ∷ 0 ∷ q ∷ 0 ∷ 0 ∷ 0 ∷ k ∷ []

-- a relation with a name of one byte
abbrev named : ℕ → ℕ → ℕ → ℕ → List ℕ
named name rows cols root = 1 ∷ name ∷ 0 ∷ 0 ∷ 0 ∷ rows ∷ 0 ∷ 0 ∷ 0 ∷ cols ∷ 0 ∷ 0 ∷ 0 ∷ root ∷ []

-- the squares with the cells (1,1) and (2,2), and the one of 4 x 4 that has both
abbrev squares : List ℕ
squares = four 1 0 0 0 ++ four 0 0 0 1 ++ four 2 0 0 3

abbrev whole : List ℕ
whole = counts 3 2 ++ squares ++ named 65 4 4 4 ++ named 66 2 2 2

pub written_both : shared_file both ≡ whole
unfolding shared_file squares_of file_height height_of relation_of
written_both = refl

pub written_none : shared_file [] ≡ counts 0 0
unfolding shared_file squares_of
written_none = refl

module _ where
  pub whole_file : shared_fault whole ≡ None
  unfolding shared_fault begins_shared quadrants_of entry_fault entries_of file_height height_of lies_within
  whole_file = refl

  pub read_back : shared_relations whole ≡ both
  unfolding shared_relations quadrants_of entries_of relation_of file_height height_of
  read_back = refl

  pub no_relation : shared_fault (counts 0 0) ≡ None
  unfolding shared_fault begins_shared quadrants_of entry_fault entries_of file_height height_of lies_within
  no_relation = refl

  pub other_name : due_of_file (codes "C") (codes "c.k2") (Some whole) ≡ Refused Early (BAD_FILE (codes "c.k2") Missing)
  unfolding begins_shared shared_fault shared_relations quadrants_of entry_fault entries_of file_height height_of lies_within relation_of
  other_name = refl

  pub one_name : due_of_file (codes "B") (codes "c.k2") (Some whole) ≡ Value corner
  unfolding begins_shared shared_fault shared_relations quadrants_of entry_fault entries_of file_height height_of lies_within relation_of
  one_name = refl

  pub first_version : shared_fault (file 4 4 2 4 8 (144 ∷ 129 ∷ [])) ≡ Some Magic
  unfolding shared_fault begins_shared quadrants_of entry_fault entries_of file_height height_of lies_within
  first_version = refl

  pub last_byte_gone : shared_fault (take 87 whole) ≡ Some Short
  unfolding shared_fault begins_shared quadrants_of entry_fault entries_of file_height height_of lies_within
  last_byte_gone = refl

  pub squares_exchanged : shared_fault (counts 3 2 ++ four 0 0 0 1 ++ four 1 0 0 0 ++ four 3 0 0 2 ++ named 65 4 4 4 ++ named 66 2 2 3) ≡ Some (Order 2)
  unfolding shared_fault begins_shared quadrants_of entry_fault entries_of file_height height_of lies_within
  squares_exchanged = refl

  pub square_twice : shared_fault (counts 3 2 ++ four 1 0 0 0 ++ four 1 0 0 0 ++ four 2 0 0 3 ++ named 65 4 4 4 ++ named 66 2 2 2) ≡ Some (Quad 3)
  unfolding shared_fault begins_shared quadrants_of entry_fault entries_of file_height height_of lies_within
  square_twice = refl

  pub square_of_none : shared_fault (counts 3 2 ++ four 1 0 0 0 ++ four 0 0 0 1 ++ four 0 0 0 0 ++ named 65 4 4 4 ++ named 66 2 2 2) ≡ Some (Quad 4)
  unfolding shared_fault begins_shared quadrants_of entry_fault entries_of file_height height_of lies_within
  square_of_none = refl

  pub heights_differ : shared_fault (counts 3 2 ++ four 1 0 0 0 ++ four 0 0 0 1 ++ four 2 0 0 1 ++ named 65 4 4 4 ++ named 66 2 2 2) ≡ Some (Quad 4)
  unfolding shared_fault begins_shared quadrants_of entry_fault entries_of file_height height_of lies_within
  heights_differ = refl

  pub square_of_itself : shared_fault (counts 3 2 ++ four 1 0 0 0 ++ four 0 0 0 3 ++ four 2 0 0 3 ++ named 65 4 4 4 ++ named 66 2 2 2) ≡ Some (Quad 3)
  unfolding shared_fault begins_shared quadrants_of entry_fault entries_of file_height height_of lies_within
  square_of_itself = refl

  pub names_out_of_order : shared_fault (counts 3 2 ++ squares ++ named 66 4 4 4 ++ named 65 2 2 2) ≡ Some (BAD_NAMES 1)
  unfolding shared_fault begins_shared quadrants_of entry_fault entries_of file_height height_of lies_within
  names_out_of_order = refl

  pub name_of_a_digit : shared_fault (counts 3 2 ++ squares ++ named 49 4 4 4 ++ named 66 2 2 2) ≡ Some (BAD_NAMES 0)
  unfolding shared_fault begins_shared quadrants_of entry_fault entries_of file_height height_of lies_within
  name_of_a_digit = refl

  pub root_too_low : shared_fault (counts 3 2 ++ squares ++ named 65 4 4 2 ++ named 66 2 2 2) ≡ Some (Root 0)
  unfolding shared_fault begins_shared quadrants_of entry_fault entries_of file_height height_of lies_within
  root_too_low = refl

  pub root_of_a_cell : shared_fault (counts 3 2 ++ squares ++ named 65 4 4 4 ++ named 66 2 2 1) ≡ Some (Root 1)
  unfolding shared_fault begins_shared quadrants_of entry_fault entries_of file_height height_of lies_within
  root_of_a_cell = refl

  pub sizes_3 : shared_fault (counts 3 2 ++ squares ++ named 65 3 3 4 ++ named 66 2 2 2) ≡ Some (Outside 0)
  unfolding shared_fault begins_shared quadrants_of entry_fault entries_of file_height height_of lies_within
  sizes_3 = refl

  pub square_unused : shared_fault (counts 3 1 ++ squares ++ named 66 2 2 2) ≡ Some (Order 3)
  unfolding shared_fault begins_shared quadrants_of entry_fault entries_of file_height height_of lies_within
  square_unused = refl

  pub one_byte_more : shared_fault (whole ++ 0 ∷ []) ≡ Some Rest
  unfolding shared_fault begins_shared quadrants_of entry_fault entries_of file_height height_of lies_within
  one_byte_more = refl
