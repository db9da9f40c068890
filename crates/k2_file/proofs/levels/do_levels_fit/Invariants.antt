use Rattle.std.proofs.Common.{◌*◌}
use Rattle.k2_file.specs.Told.{bits_told}
use Rattle.k2_file.proofs.ReadLevels.{IsLevel}
use Rattle.k2_file.proofs.levels.do_levels_fit.Given as goal

abbrev pub invariant-levels : goal.invariant-levels
invariant-levels l = IsLevel l.fn.levels l.fn.first (bits_told l.tree.count l.tree.bytes.now) l.fn.cell_count l.counter l.groups (4 * l.from)
