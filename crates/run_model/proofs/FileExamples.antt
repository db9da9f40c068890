-- Small relation files, computed from the definitions: two relations written, and a file with one change read.
use Rattle.std.proofs.Common.{◌≡◌, ℕ, List, [], ◌∷◌, ◌++◌, take, drop, Some, None, refl}
use Rattle.run_model.specs.declared.outcome.BadFile.TheVariants.{Short, Magic, Sizes, Height, Lengths, ZeroGroup, Outside, Padding, Rest}
use Rattle.rel_model.specs.Relation.{Relation, relation_of}
use Rattle.rel_model.specs.Worker.{height_of}
use Rattle.run_model.specs.Files.{file_height, tree_part, cell_part, fields, cells_told, k2, k2_fault, k2_relation}

-- 4 x 4 with the pairs (1,1) and (4,4), counted from 1
abbrev pub corners : Relation
corners = record { rows = 4; cols = 4; pairs = (0, 0) ∷ (3, 3) ∷ [] }

-- 2 x 2 with the pair (1,2)
abbrev step : Relation
step = record { rows = 2; cols = 2; pairs = (0, 1) ∷ [] }

-- the file of a relation of these sizes, height and counts of bits, with these bytes behind
abbrev pub file : ℕ → ℕ → ℕ → ℕ → ℕ → List ℕ → List ℕ
file rows cols height tree cells bytes =
    82 ∷ 86 ∷ 75 ∷ 49 ∷ 0 ∷ 0 ∷ 0 ∷ rows ∷ 0 ∷ 0 ∷ 0 ∷ cols ∷ height ∷ 0 ∷ 0 ∷ 0 ∷ 0 ∷ 0 ∷ 0 ∷ 0 ∷ tree ∷ 0 ∷ 0 ∷ 0 ∷ 0 ∷ 0 ∷ 0 ∷ 0 ∷ cells ∷ bytes

pub written_corners : k2 corners ≡ file 4 4 2 4 8 (144 ∷ 129 ∷ [])
unfolding k2 tree_part cell_part file_height height_of
written_corners = refl

pub written_step : k2 step ≡ file 2 2 1 0 4 (64 ∷ [])
unfolding k2 tree_part cell_part file_height height_of
written_step = refl

module _ where
  pub whole_file : k2_fault (file 4 4 2 4 8 (144 ∷ 129 ∷ [])) ≡ None
  unfolding k2_fault fields cells_told file_height height_of
  whole_file = refl

  pub read_back : k2_relation (file 4 4 2 4 8 (144 ∷ 129 ∷ [])) ≡ corners
  unfolding k2_relation fields cells_told relation_of
  read_back = refl

  pub last_byte_gone : k2_fault (file 4 4 2 4 8 (144 ∷ [])) ≡ Some Short
  unfolding k2_fault fields cells_told file_height height_of
  last_byte_gone = refl

  pub last_byte_80 : k2_fault (file 4 4 2 4 8 (144 ∷ 128 ∷ [])) ≡ Some (ZeroGroup 8)
  unfolding k2_fault fields cells_told file_height height_of
  last_byte_80 = refl

  pub first_byte_91 : k2_fault (file 4 4 2 4 8 (145 ∷ 129 ∷ [])) ≡ Some Padding
  unfolding k2_fault fields cells_told file_height height_of
  first_byte_91 = refl

  pub sizes_3 : k2_fault (file 3 3 2 4 8 (144 ∷ 129 ∷ [])) ≡ Some (Outside 11)
  unfolding k2_fault fields cells_told file_height height_of
  sizes_3 = refl

  pub height_3 : k2_fault (file 4 4 3 4 8 (144 ∷ 129 ∷ [])) ≡ Some Height
  unfolding k2_fault fields cells_told file_height height_of
  height_3 = refl

  pub one_byte_more : k2_fault (file 4 4 2 4 8 (144 ∷ 129 ∷ 0 ∷ [])) ≡ Some Rest
  unfolding k2_fault fields cells_told file_height height_of
  one_byte_more = refl

  pub no_cells : k2_fault (file 4 4 2 4 0 (144 ∷ [])) ≡ Some Lengths
  unfolding k2_fault fields cells_told file_height height_of
  no_cells = refl

  pub first_letter_s : k2_fault (83 ∷ drop 1 (file 4 4 2 4 8 (144 ∷ 129 ∷ []))) ≡ Some Magic
  unfolding k2_fault fields cells_told file_height height_of
  first_letter_s = refl

  pub rows_over : k2_fault (take 4 (file 4 4 2 4 8 []) ++ 2 ∷ drop 5 (file 4 4 2 4 8 (144 ∷ 129 ∷ []))) ≡ Some Sizes
  unfolding k2_fault fields cells_told file_height height_of
  rows_over = refl
