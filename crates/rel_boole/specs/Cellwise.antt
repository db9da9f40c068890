-- Operators that work cell by cell.
use Rattle.std.specs.Prelude.{◌≡◌, ◌&&◌, ◌||◌, not, Bool, true, Option, IfSome}
use Rattle.rel_model.specs.declared.Quad.{Quad}
use Rattle.rel_model.specs.Cells.{Cells, cells_rect}
use Rattle.rel_model.specs.Equations.{Operator, Union, Inter, Diff, side_of}
use Rattle.rel_model.specs.Quads.{Keeper, IsKeeper, quad_cells, QuadStands, IsQuad}
use Rattle.rel_boole.specs.declared.boole.Boole.{Boole}
use Rattle.rel_boole.specs.declared.boole.Boole.TheVariants.{Union as UNION, Inter as INTER, Diff as DIFF}

-- whether the operator holds, given whether its operands do
abbrev pub holds_by : Boole → Bool → Bool → Bool
holds_by UNION x y = x || y
holds_by INTER x y = x && y
holds_by DIFF x y = x && not y

-- the set of an operator, cell by cell
abbrev pub cells_by : Boole → Cells → Cells → Cells
cells_by op f g i j = holds_by op (f i j) (g i j)

-- the operator of equations
abbrev pub operator_for : Boole → Operator
operator_for UNION = Union
operator_for INTER = Inter
operator_for DIFF = Diff

-- if there is an answer, it is the operator's result in all words in which both operands stand
abbrev pub CutsOff : Boole → Quad → Quad → Option Quad → Type 0
CutsOff op a b answer = (w : Keeper) → IsKeeper w → QuadStands w a → QuadStands w b → b.height ≡ a.height
    → IfSome answer (IsQuad w a.height (cells_by op (quad_cells w a) (quad_cells w b)))

-- if there is an answer, it is the operator's result in all words in which both operands stand and are full squares as
-- far as they are said to be
abbrev pub CutsOffFull : Boole → Quad → Quad → Bool → Bool → Option Quad → Type 0
CutsOffFull op a b a_full b_full answer = (w : Keeper) → IsKeeper w → QuadStands w a → QuadStands w b
    → b.height ≡ a.height
    → (a_full ≡ true → quad_cells w a ≡ cells_rect (side_of a.height) (side_of a.height))
    → (b_full ≡ true → quad_cells w b ≡ cells_rect (side_of b.height) (side_of b.height))
    → IfSome answer (IsQuad w a.height (cells_by op (quad_cells w a) (quad_cells w b)))
