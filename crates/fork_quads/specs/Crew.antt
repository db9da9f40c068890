-- What a crew holds, as a worker: relations by their roots, and quads by their names, in the words that its seat has
-- seen.
use Rattle.std.specs.Prelude.{◌==◌, ◌^◌, ◌&&◌, ◌||◌, not, nat_le, cond, ℕ, Bool, List, length, slice_index, Option, Some, None, Result, Ok, Err}
use base.Stored.{gnum, gcons}
use Rattle.rel_model.specs.declared.Rel.{Rel}
use Rattle.rel_model.specs.declared.Quad.{Quad}
use Rattle.rel_model.specs.declared.Lack.{Lack}
use Rattle.rel_model.specs.declared.Lack.TheVariants.{Full}
use Rattle.rel_model.specs.Cells.{Cells, no_cells, some_below}
use Rattle.rel_model.specs.Trees.{bottom_height, top_height, cells, stands}
use Rattle.rel_model.specs.Equations.{depth_of}
use Rattle.rel_model.specs.Views.{House, Table}
use Rattle.rel_model.specs.Quads.{Keeper}
use Rattle.rel_model.specs.Roots.{tree_height, relation_in}
use Rattle.rel_model.specs.Worker.{Worker}

-- whether a word also occurs before place n, or does not fit in 64 bits
abbrev pub is_spoilt : List ℕ → ℕ → Bool
is_spoilt words n = nat_le (2 ^ 64) (slice_index words n)
    || (not (slice_index words n == 0) && some_below n (λ m. slice_index words m == slice_index words n))

-- whether names are canonical in the words, as they are for every seat: places 0 and 1 are vacant, no word stands at
-- two places, and each word fits in 64 bits
unfoldable pub is_canonical : List ℕ → Bool
is_canonical words = ((slice_index words 0 == 0) && (slice_index words 1 == 0))
    && not (some_below (length words) (is_spoilt words))

-- the set of a name at a height: empty for name 0; otherwise that of a name that stands at the depth of the height, if
-- names are canonical
abbrev pub named_set : List ℕ → ℕ → ℕ → Option Cells
named_set words height name = cond (name == 0) (Some no_cells)
    (cond (is_canonical words && stands words (depth_of height) name) (Some (cells words (depth_of height) name))
    None)

-- the set of a quad that stands in the words; its height must be that of a square
unfoldable pub quad_in : List ℕ → Quad → Option Cells
quad_in words q = cond (nat_le bottom_height q.height && nat_le q.height top_height) (named_set words q.height q.name)
    None

-- a table as one value: its identity, its size, and how many seats it is made for
abbrev pub house_of : Table → House
house_of table = gcons table.house (gcons (gnum table.bits) (gnum table.seats))

-- a keeper of quads as a worker: its relations are those whose roots stand in the words that its seat has seen
abbrev pub worker_of : Keeper → Worker
worker_of w = record {
  relation = relation_in w.view.words;
  quad = quad_in w.view.words;
  misses = w.misses;
  made = w.view.made;
  house = house_of w.table;
  spare = w.view.spare;
}

-- ---- roots
-- the quad of the root of a relation
abbrev pub root_quad : Rel → Quad
root_quad r = record { height = tree_height r.rows r.cols; name = r.root }

-- an answer as a relation of these sizes; a miss becomes a full table
abbrev pub named_as : {E : Type 0} → ℕ → ℕ → Result Quad E → Result Rel Lack
named_as rows cols (Ok q) = Ok (record { rows = rows; cols = cols; root = q.name })
named_as rows cols (Err e) = Err Full

-- an answer as that of a worker; a miss becomes a full table
abbrev pub told_as : {E : Type 0} → Result Quad E → Result Quad Lack
told_as (Ok q) = Ok q
told_as (Err e) = Err Full

-- the set of one cell
abbrev pub one_cell : ℕ → ℕ → Cells
one_cell x y i j = (i == x) && (j == y)

-- a quad, or the empty one in its place
abbrev pub placed : Bool → Quad → Quad
placed here q = cond here q (record { height = q.height; name = 0 })
