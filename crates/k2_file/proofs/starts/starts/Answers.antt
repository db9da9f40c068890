-- Each level's bits are there, so the next level begins behind them.
use Rattle.std.proofs.Common.{◌+◌, ◌-◌, set, sym, subst, arith}
use Rattle.k2_file.specs.Told.{bits_told}
use Rattle.k2_file.proofs.ReadBits.{length-told}
use Rattle.k2_file.proofs.ReadStarts.{AreStarts, starts-room, starts-more, starts-all}
use Rattle.k2_file.proofs.starts.starts.Goals as goal

pub ones_in_groups-next-requires : goal.ones_in_groups-next-requires
ones_in_groups-next-requires c =
    let tree = c.args.tree.now in
    let n = length-told tree.count tree.bytes.now tree.fits in
    let r = starts-room (bits_told tree.count tree.bytes.now) c.args.cell_count c.args.height c.args.groups c.levels.level c.levels.places c.levels.groups c.levels.from c.levels.invariant c.levels-test.true in
    omega (arith, n, r)

pub overflow_add-from : goal.overflow_add-from
overflow_add-from c =
    let tree = c.args.tree.now in
    let n = length-told tree.count tree.bytes.now tree.fits in
    let r = starts-room (bits_told tree.count tree.bytes.now) c.args.cell_count c.args.height c.args.groups c.levels.level c.levels.places c.levels.groups c.levels.from c.levels.invariant c.levels-test.true in
    omega (arith, n, r)

pub levels-preserved : goal.levels-preserved
levels-preserved c =
    let tree = c.args.tree.now in
    let xs = bits_told tree.count tree.bytes.now in
    subst (λ g. AreStarts xs c.args.cell_count c.args.height c.args.groups (c.levels.level + 1) (set c.levels.places (c.levels.level - 1) c.levels.from) g (c.levels.from + c.levels.groups)) (sym c.ones_in_groups-next.ensures.value)
    (starts-more xs c.args.cell_count c.args.height c.args.groups c.levels.level c.levels.places c.levels.groups c.levels.from c.levels.invariant c.levels-test.true c.requires.high)

pub returns-clause-many : goal.returns-clause-many
returns-clause-many c = c.levels.invariant.many

pub returns-clause-value : goal.returns-clause-value
returns-clause-value c =
    let tree = c.args.tree.now in
    starts-all (bits_told tree.count tree.bytes.now) c.args.cell_count c.args.height c.args.groups c.levels.level c.levels.places c.levels.groups c.levels.from c.levels.invariant (omega (arith, c.levels-test.false, c.levels.auto.level-end)) c.requires.high
