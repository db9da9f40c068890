use Rattle.std.proofs.Common.{◌≡◌, ◌+◌, ◌^◌, ◌++◌, map, take}
use Rattle.rel_model.specs.Worker.{Keeps, MakesAtMost, MissesNothing}
use Rattle.k2_file.specs.Squares.{square_cells}
use Rattle.k2_file.specs.Levels.{level_bits, next_level, AreSquares}
use Rattle.k2_file.proofs.walk.push_level.Given as goal

-- the bits and the next squares of the squares so far
abbrev pub invariant-squares : goal.invariant-squares
invariant-squares g l = record {
  bits : l.bits.items ≡ l.fn.bits.items ++ level_bits (2 ^ l.height) (map (square_cells (g.E.Core.worker l.fn.engine) (2 ^ (l.height + 1))) (take l.square-index l.squares.items));
  next : AreSquares (g.E.Core.worker l.engine) g.E.Core.least l.height l.next.items (next_level (2 ^ l.height) (map (square_cells (g.E.Core.worker l.fn.engine) (2 ^ (l.height + 1))) (take l.square-index l.squares.items)));
  keeps : Keeps (g.E.Core.worker l.fn.engine) (g.E.Core.worker l.engine);
  room : MakesAtMost 0 (g.E.Core.worker l.fn.engine) (g.E.Core.worker l.engine);
  misses : MissesNothing (g.E.Core.worker l.fn.engine) (g.E.Core.worker l.engine);
}
