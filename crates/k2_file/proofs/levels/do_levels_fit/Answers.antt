-- Each level's bits are there, or not; and below the last none is left.
use Rattle.std.proofs.Common.{◌≡◌, ◌+◌, ◌*◌, ◌∙◌, ℕ, length, take, drop, sym, subst, arith}
use Rattle.run_model.specs.Files.{ones}
use Rattle.k2_file.specs.Told.{bits_told}
use Rattle.k2_file.proofs.ReadBits.{length-told}
use Rattle.k2_file.proofs.ReadLevels.{IsLevel, level-more, level-short, level-all, level-left}
use Rattle.k2_file.proofs.levels.do_levels_fit.Goals as goal

pub overflow_sub-tree : goal.overflow_sub-tree
overflow_sub-tree c = let tree = c.args.tree.now in omega (arith, length-told tree.count tree.bytes.now tree.fits, c.levels.invariant.within)

pub returns-then-tree-from : goal.returns-then-tree-from
returns-then-tree-from c =
    let tree = c.args.tree.now in
    let xs = bits_told tree.count tree.bytes.now in
    let n : length xs ≡ tree.count = length-told tree.count tree.bytes.now tree.fits in
    sym (level-short c.args.levels c.args.first xs c.args.cell_count c.levels.counter c.levels.groups (4 * c.levels.from) c.levels.invariant c.levels-test.true
    (omega (arith, n, c.if-tree-from.true)))

pub ones_in_groups-next-requires : goal.ones_in_groups-next-requires
ones_in_groups-next-requires c =
    let tree = c.args.tree.now in
    let n = length-told tree.count tree.bytes.now tree.fits in
    omega (arith, n, c.levels.invariant.within, c.if-tree-from.false)

pub levels-preserved : goal.levels-preserved
levels-preserved c =
    let tree = c.args.tree.now in
    let xs = bits_told tree.count tree.bytes.now in
    let n : length xs ≡ tree.count = length-told tree.count tree.bytes.now tree.fits in
    let at : 4 * c.levels.from + 4 * c.levels.groups ≡ 4 * (c.levels.from + c.levels.groups) = omega arith in
    subst (λ (g : ℕ). IsLevel c.args.levels c.args.first xs c.args.cell_count (c.levels.counter + 1) g (4 * (c.levels.from + c.levels.groups))) (sym c.ones_in_groups-next.ensures.value)
    (subst (λ (f : ℕ). IsLevel c.args.levels c.args.first xs c.args.cell_count (c.levels.counter + 1) (ones (take (4 * c.levels.groups) (drop (4 * c.levels.from) xs))) f) at
    (level-more c.args.levels c.args.first xs c.args.cell_count c.levels.counter c.levels.groups (4 * c.levels.from) c.levels.invariant c.levels-test.true
    (omega (arith, n, c.if-tree-from.false))))

pub overflow_mul-from : goal.overflow_mul-from
overflow_mul-from c = let tree = c.args.tree.now in omega (arith, length-told tree.count tree.bytes.now tree.fits, c.levels.invariant.within)

pub returns-then-from-tree : goal.returns-then-from-tree
returns-then-from-tree c =
    let tree = c.args.tree.now in
    let xs = bits_told tree.count tree.bytes.now in
    let n : length xs ≡ tree.count = length-told tree.count tree.bytes.now tree.fits in
    sym (level-left c.args.levels c.args.first xs c.args.cell_count c.levels.counter c.levels.groups (4 * c.levels.from) c.levels.invariant c.levels-test.false
    (λ e. c.if-from-tree.true (e ∙ n)))

pub returns : goal.returns
returns c =
    let tree = c.args.tree.now in
    let xs = bits_told tree.count tree.bytes.now in
    let n : length xs ≡ tree.count = length-told tree.count tree.bytes.now tree.fits in
    c.are_of_groups.ensures
    ∙ sym (level-all c.args.levels c.args.first xs c.args.cell_count c.levels.counter c.levels.groups (4 * c.levels.from) c.levels.invariant c.levels-test.false (c.if-from-tree.false ∙ sym n))
