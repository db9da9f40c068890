-- What holds of numbers while their quads are made: how many cells they have, what is noted, and named roots.
use Rattle.std.specs.Prelude.{
  ◌≡◌,
  ◌≢◌,
  ◌^◌,
  ◌≤◌,
  ◌-◌,
  cond,
  ℕ,
  Bool,
  List,
  [],
  ◌∷◌,
  map,
  Option,
  Some,
  None,
  Result,
  slice_index_or,
}
use Rattle.rel_model.specs.declared.Quad.{Quad}
use Rattle.rel_model.specs.declared.Lack.{Lack}
use Rattle.rel_model.specs.Relation.{Relation, relation_of, size_limit}
use Rattle.rel_model.specs.Quarters.{LiesWithin}
use Rattle.rel_model.specs.Roots.{height_over}
use Rattle.rel_model.specs.Worker.{Worker, GivesQuad, listed_room}
use Rattle.rel_steps.specs.Making.{MakesQuad}
use Rattle.rel_choice.specs.Counts.{cells_count}
use Rattle.lang_model.specs.Tokens.{same_text}
use Rattle.run_model.specs.Files.{file_height}
use Rattle.run_model.specs.SharedFiles.{Quadrant, cells_told, relation_told}
use Rattle.run_model.proofs.SharedCells.{IsNumber}
use Rattle.k2_parts.specs.declared.form.NamedRoot.{NamedRoot as NAMED}
use Rattle.k2_parts.specs.Told.{roots_told}
use Rattle.k2_read.specs.declared.root.Root.{Root as ROOT}

-- how many cells the square of a number has at a height
abbrev pub cells_under : List Quadrant → ℕ → ℕ → ℕ
cells_under quads h n = cells_count (2 ^ h) (2 ^ h) (cells_told quads h n)

-- a call makes the quad of a number at a height, over leaves of a height, and at most as many nodes as for a list of as
-- many cells
abbrev pub MakesNumber : Bool → ℕ → List Quadrant → ℕ → ℕ → Worker → Worker → Result Quad Lack → Type 0
MakesNumber lean least quads height number =
    MakesQuad lean (listed_room (cells_under quads height number) (height - least)) height
    (cells_told quads height number)

-- each quad noted for a number other than 0 stands, and has the cells of that number at its height
pub record AreNoted (worker : Worker) (quads : List Quadrant) (noted : List (Option Quad)) : Type 0 where
  pub given : (n : ℕ) (quad : Quad) → slice_index_or noted n None ≡ Some quad → n ≢ 0 → (h : ℕ)
      → IsNumber quads h n → GivesQuad worker h (cells_told quads h n) quad

-- the sizes are within the limit, and a number stands at the height of a file with these sizes, with no cell outside
-- them
pub record IsSound (quads : List Quadrant) (rows cols number : ℕ) : Type 0 where
  pub row_limit : rows ≤ size_limit
  pub col_limit : cols ≤ size_limit
  pub is_number : IsNumber quads (file_height rows cols) number
  pub inside : LiesWithin rows cols (cells_told quads (file_height rows cols) number)

-- the relation with these sizes that a number describes
abbrev pub relation_at : List Quadrant → ℕ → ℕ → ℕ → Relation
relation_at quads rows cols number = relation_of rows cols (cells_told quads (file_height rows cols) number)

-- a call makes the quad of a root with these sizes, at the height of the tree of its relation over leaves of a height
abbrev pub MakesRoot : Bool → ℕ → List Quadrant → ℕ → ℕ → ℕ → Worker → Worker → Result Quad Lack → Type 0
MakesRoot lean least quads rows cols number =
    MakesQuad lean
    (listed_room (cells_under quads (file_height rows cols) number) (height_over least rows cols - least))
    (height_over least rows cols) (cells_told quads (file_height rows cols) number)

-- the relations of named roots, each with its name
abbrev pub entries_told : List Quadrant → List NAMED → List (List ℕ × Relation)
entries_told quads roots = map (relation_told quads) (roots_told roots)

-- the root of the first relation with this name
abbrev pub root_named : List ℕ → List NAMED → Option ROOT
root_named name [] = None
root_named name (r ∷ rs) =
    cond (same_text r.name name)
    (Some (record { shape = record { rows = r.rows; cols = r.cols }; number = r.root })) (root_named name rs)
