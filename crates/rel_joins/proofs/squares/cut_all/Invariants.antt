use Rattle.std.proofs.Common.{◌≡◌, length}
use Rattle.rel_joins.specs.Columns.{closed_cells, AreBare}
use Rattle.rel_joins.proofs.Tiling.{Tiling}
use Rattle.rel_joins.proofs.squares.cut_all.Given as goal

-- the columns so far
abbrev pub invariant-columns : goal.invariant-columns
invariant-columns g l = (length l.rows ≡ length l.fn.rows) × AreBare l.fn.n l.rows
    × Tiling (g.Q.Core.worker l.fn.q) (g.Q.Core.worker l.q) (closed_cells l.fn.n l.fn.pairs) l.fn.blocks l.s l.fn.squares l.squares
