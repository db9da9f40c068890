use Rattle.std.proofs.Common.{◌≡◌, ◌*◌, ◌++◌, drop}
use Rattle.run_model.specs.Files.{zero_group}
use Rattle.k2_file.specs.Told.{bits_told}
use Rattle.k2_file.proofs.levels.first_zero_group.Given as goal

abbrev pub invariant-groups : goal.invariant-groups
invariant-groups l =
    let xs = bits_told l.tree.count l.tree.bytes.now ++ bits_told l.cells.count l.cells.bytes.now in
    zero_group 0 xs ≡ zero_group (4 * l.group) (drop (4 * l.group) xs)
