-- Compositions of quads; rows and columns of quads, and their products.
use Rattle.std.specs.Prelude.{◌≡◌, ◌<◌, ◌≤◌, ◌+◌, ◌-◌, ◌⊎◌, ℕ, Result, IfOk}
use Rattle.rel_model.specs.declared.Quad.{Quad}
use Rattle.rel_model.specs.declared.Quarters.{Quarters}
use Rattle.rel_model.specs.Cells.{Cells, cells_rect, cells_union, cells_compose}
use Rattle.rel_model.specs.Equations.{side_of}
use Rattle.rel_model.specs.Quads.{Keeper, quad_cells, QuadStands, IsQuad, KeepsQuads, Counts, quad_room, compose_room}
use Rattle.bit_rows.specs.Rows.{rows_cells}
use Rattle.bit_rows.specs.Places.{placed, window}
use Rattle.row_quads.specs.declared.squares.Squares.{Squares}

-- the cells of the composition of two quads of one height
abbrev pub composition : Keeper → Quad → Quad → Cells
composition w a b = cells_compose (side_of a.height) (quad_cells w a) (quad_cells w b)

-- a quad is the composition of two others
abbrev pub IsComposition : Keeper → Keeper → Quad → Quad → Quad → Type 0
IsComposition old new a b q = IsQuad new a.height (composition old a b) q

-- a quad has every cell of its square
abbrev pub IsFull : Keeper → Quad → Type 0
IsFull w q = quad_cells w q ≡ cells_rect (side_of q.height) (side_of q.height)

-- a call's result is as told, or the call counts a miss; it keeps everything that stood, and places at most `room`
-- words
pub record Gives {T E : Type 0} (room : ℕ) (P : T → Type 0) (old new : Keeper) (result : Result T E) : Type 0 where
  pub value : IfOk result P
  pub keeps : KeepsQuads room old new
  pub counts : Counts old new result

-- two quads of one height stand
pub record BothStand (w : Keeper) (height : ℕ) (pair : Quad × Quad) : Type 0 where
  pub first : QuadStands w pair.0
  pub second : QuadStands w pair.1
  pub first_height : pair.0.height ≡ height
  pub second_height : pair.1.height ≡ height

-- the product of a row of two sets with a column of two, each of side m
abbrev pub row_by_column : ℕ → Cells → Cells → Cells → Cells → Cells
row_by_column m a b e g = cells_union (cells_compose m a e) (cells_compose m b g)

-- the quad is the product of a row and a column
abbrev pub IsProduct : Keeper → Keeper → Quad × Quad → Quad × Quad → Quad → Type 0
IsProduct old new row column q = IsQuad new row.0.height
    (row_by_column (side_of row.0.height) (quad_cells old row.0) (quad_cells old row.1) (quad_cells old column.0)
    (quad_cells old column.1)) q

-- the two quads are the products of a row and two columns
pub record AreProducts (old new : Keeper) (row west east : Quad × Quad) (pair : Quad × Quad) : Type 0 where
  pub first : IsProduct old new row west pair.0
  pub second : IsProduct old new row east pair.1

-- how many words two compositions and their union place at most
abbrev pub quarter_room : ℕ → ℕ
quarter_room height = compose_room height + compose_room height + quad_room height

-- the one of two halves in which a place lies, and the place within it
pub record IsHalf (first second : Quad × Quad) (place half : ℕ) (pair : Quad × Quad) (rest : ℕ) : Type 0 where
  pub which : ((place < half) × (pair ≡ first) × (rest ≡ place))
      ⊎ ((half ≤ place) × (pair ≡ second) × (rest ≡ place - half))

-- the union of a quad's cells and those of a window of a set, within the square of a height
abbrev pub summed : Keeper → Quad → ℕ → ℕ → ℕ → Cells → Cells
summed w x height row col f = cells_union (quad_cells w x) (window row col (side_of height) f)

-- the cells of a set in 512 rows and columns, from a row and a column on, were added to four squares of rows: to each
-- square those in its 256 rows and columns
pub record AddsWindows (old new : Squares) (row col : ℕ) (f : Cells) : Type 0 where
  pub nw : rows_cells new.nw ≡ cells_union (rows_cells old.nw) (window row col 256 f)
  pub ne : rows_cells new.ne ≡ cells_union (rows_cells old.ne) (window row (col + 256) 256 f)
  pub sw : rows_cells new.sw ≡ cells_union (rows_cells old.sw) (window (row + 256) col 256 f)
  pub se : rows_cells new.se ≡ cells_union (rows_cells old.se) (window (row + 256) (col + 256) 256 f)

-- four quads stand at height 8
pub record FourAreSmall (w : Keeper) (four : Quarters) : Type 0 where
  pub nw : QuadStands w four.nw
  pub ne : QuadStands w four.ne
  pub sw : QuadStands w four.sw
  pub se : QuadStands w four.se
  pub nw_height : four.nw.height ≡ 8
  pub ne_height : four.ne.height ≡ 8
  pub sw_height : four.sw.height ≡ 8
  pub se_height : four.se.height ≡ 8

-- the cells of four quads were added to four squares of rows
pub record AddsQuads (w : Keeper) (four : Quarters) (old new : Squares) : Type 0 where
  pub nw : rows_cells new.nw ≡ cells_union (rows_cells old.nw) (placed 0 0 (quad_cells w four.nw))
  pub ne : rows_cells new.ne ≡ cells_union (rows_cells old.ne) (placed 0 0 (quad_cells w four.ne))
  pub sw : rows_cells new.sw ≡ cells_union (rows_cells old.sw) (placed 0 0 (quad_cells w four.sw))
  pub se : rows_cells new.se ≡ cells_union (rows_cells old.se) (placed 0 0 (quad_cells w four.se))
