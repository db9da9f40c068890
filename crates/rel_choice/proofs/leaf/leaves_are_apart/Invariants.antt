use Rattle.std.proofs.Common.{◌≡◌, ◌<◌, ◌&&◌, ℕ, false}
use Rattle.rel_model.specs.Cells.{bits_cells, some_below}
use Rattle.rel_choice.proofs.leaf.leaves_are_apart.Given as goal

-- no row so far has a cell in both
abbrev pub invariant-rows : goal.invariant-rows
invariant-rows l = (x : ℕ) → x < l.row → (some_below l.fn.side (bits_cells l.fn.side l.fn.a x) && some_below l.fn.side (bits_cells l.fn.side l.fn.b x)) ≡ false
