-- Bits that fit are few.
use Rattle.std.proofs.Common.{◌+◌, ◌-◌, ◌<◌, ◌^◌, length, sym, arith}
use Rattle.k2_file.specs.Told.{bits_told}
use Rattle.k2_file.proofs.ReadBits.{length-told}
use Rattle.k2_file.proofs.ReadLevels.{fit-few}
use Rattle.k2_file.proofs.levels.fault_in_levels.Goals as goal

pub first_zero_group-requires : goal.first_zero_group-requires
first_zero_group-requires c =
    let tree = c.args.tree.now in
    let header = c.args.header.now in
    let xs = bits_told tree.count tree.bytes.now in
    let n = length-told tree.count tree.bytes.now tree.fits in
    let few : length xs + header.cell_count < 2 ^ 50 =
    fit-few (header.height - 1) c.groups.result xs header.cell_count (sym c.if-not-do_levels_fit.ensures) (omega arith) c.groups.ensures.limit in
    omega (arith, n, few, c.requires.tree, c.requires.cells)
