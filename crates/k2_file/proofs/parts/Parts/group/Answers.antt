-- The bits of the part that is asked.
use Rattle.std.proofs.Common.{◌≤◌, ◌+◌, ◌*◌, length, cond, subst, arith}
use Rattle.k2_file.specs.Told.{bits_in}
use Rattle.k2_file.proofs.ReadBits.{length-told}
use Rattle.k2_file.proofs.parts.Parts.group.Goals as goal

pub group-requires : goal.group-requires
group-requires c =
    let parts = c.args.self.now in
    let l = subst (λ b. 4 * c.args.number + 4 ≤ length (cond b (bits_in parts.cells) (bits_in parts.tree))) c.if-is_last.true c.requires in
    omega (arith, l, length-told parts.cells.count parts.cells.bytes.now parts.cells.fits)

pub group-requires-else-is_last : goal.group-requires-else-is_last
group-requires-else-is_last c =
    let parts = c.args.self.now in
    let l = subst (λ b. 4 * c.args.number + 4 ≤ length (cond b (bits_in parts.cells) (bits_in parts.tree))) c.if-is_last.false c.requires in
    omega (arith, l, length-told parts.tree.count parts.tree.bytes.now parts.tree.fits)
