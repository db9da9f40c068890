-- A file whose bytes pass all tests, given by its header and its parts.
use Rattle.std.specs.Prelude.{◌≡◌, ◌≤◌, ℕ, List, true, None}
use Rattle.rel_model.specs.Relation.{size_limit}
use Rattle.run_model.specs.Files.{Corner, file_height, chosen, zero_group, k2_fault}
use Rattle.k2_file.specs.declared.root.Form.{Form}
use Rattle.k2_file.specs.Told.{bits_in, both_in, cells_by, fit_by, outside_by, pairs_told, AreFields}

-- the pairs that the file describes
abbrev pub pairs_in : Form → List Corner
pairs_in form = chosen (cells_by form.header form.parts.tree) (bits_in form.parts.cells)

-- the header has its height, the bits are those of the levels, each group has a set bit, and no pair is outside
pub record IsWhole (form : Form) : Type 0 where
  pub row_limit : form.header.rows ≤ size_limit
  pub col_limit : form.header.cols ≤ size_limit
  pub height : form.header.height ≡ file_height form.header.rows form.header.cols
  pub tree : form.parts.tree.count ≡ form.header.tree_count
  pub cells : form.parts.cells.count ≡ form.header.cell_count
  pub fit : fit_by form.header form.parts.tree ≡ true
  pub groups : zero_group 0 (both_in form.parts.tree form.parts.cells) ≡ None
  pub inside : outside_by form.header form.parts.tree form.parts.cells ≡ None

-- bytes pass all tests, and this is their form
pub record IsFormOf (bytes : List ℕ) (form : Form) : Type 0 where
  pub good : k2_fault bytes ≡ None
  pub numbers : AreFields bytes form.header
  pub is_whole : IsWhole form
  pub pairs : pairs_in form ≡ pairs_told bytes
