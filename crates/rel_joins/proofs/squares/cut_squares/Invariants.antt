use Rattle.rel_joins.proofs.Tiling.{Cutting}
use Rattle.rel_joins.proofs.squares.cut_squares.Given as goal

-- the squares so far
abbrev pub invariant-cuts : goal.invariant-cuts
invariant-cuts g l = Cutting (g.Q.Core.worker l.fn.q) (g.Q.Core.worker l.q) l.fn.rows l.fn.from l.b l.fn.squares l.squares
