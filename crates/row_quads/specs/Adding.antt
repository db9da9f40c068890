-- Four squares of rows, and the quads whose products are added to them.
use Rattle.std.specs.Prelude.{◌≡◌, length}
use Rattle.rel_model.specs.declared.Quad.{Quad}
use Rattle.rel_model.specs.Cells.{cells_union, cells_compose}
use Rattle.rel_model.specs.Equations.{side_of}
use Rattle.rel_model.specs.Quads.{Keeper, QuadStands, quad_cells}
use Rattle.bit_rows.specs.Rows.{rows_cells}
use Rattle.row_quads.specs.declared.squares.Squares.{Squares}

-- each of the four has 256 rows
pub record AreWhole (z : Squares) : Type 0 where
  pub nw : length z.nw ≡ 256
  pub ne : length z.ne ≡ 256
  pub sw : length z.sw ≡ 256
  pub se : length z.se ≡ 256

-- a column of two quads and a row of two quads stand at one height
pub record FourStand (w : Keeper) (column row : Quad × Quad) : Type 0 where
  pub upper : QuadStands w column.0
  pub lower : QuadStands w column.1
  pub west : QuadStands w row.0
  pub east : QuadStands w row.1
  pub lower_height : column.1.height ≡ column.0.height
  pub west_height : row.0.height ≡ column.0.height
  pub east_height : row.1.height ≡ column.0.height

-- a product was added to each of four squares: of the upper or lower quad of the column with the western or eastern
-- quad of the row
pub record AddsProducts (w : Keeper) (column row : Quad × Quad) (old new : Squares) : Type 0 where
  pub nw : rows_cells new.nw ≡ cells_union (rows_cells old.nw)
      (cells_compose (side_of column.0.height) (quad_cells w column.0) (quad_cells w row.0))
  pub ne : rows_cells new.ne ≡ cells_union (rows_cells old.ne)
      (cells_compose (side_of column.0.height) (quad_cells w column.0) (quad_cells w row.1))
  pub sw : rows_cells new.sw ≡ cells_union (rows_cells old.sw)
      (cells_compose (side_of column.1.height) (quad_cells w column.1) (quad_cells w row.0))
  pub se : rows_cells new.se ≡ cells_union (rows_cells old.se)
      (cells_compose (side_of column.1.height) (quad_cells w column.1) (quad_cells w row.1))
