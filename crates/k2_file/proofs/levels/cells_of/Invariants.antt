use Rattle.std.proofs.Common.{◌-◌}
use Rattle.k2_file.specs.Told.{bits_told, told_by}
use Rattle.k2_file.proofs.ReadWalk.{IsWalk}
use Rattle.k2_file.proofs.levels.cells_of.Given as goal

abbrev pub invariant-levels : goal.invariant-levels
invariant-levels l =
    let xs = bits_told l.tree.count l.tree.bytes.now in
    IsWalk (told_by l.header xs) l.header.cell_count xs (l.header.height - l.done) l.corners.items l.from
