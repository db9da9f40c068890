use Rattle.std.proofs.Common.{◌≡◌, ◌≤◌, ◌+◌, ◌*◌, ◌^◌, ◌%◌, ◌∙◌, ap, arith}
use Rattle.std.proofs.Math.Pow.{pow_mono}
use Rattle.rel_model.specs.Cells.{block_cells}
use Rattle.fork_quads.proofs.Placing.{one_block}
use Rattle.fork_quads.proofs.single.one_bit.Goals as goal

pub returns : goal.returns
returns c =
    let a = c.requires.row in
    let b = c.requires.col in
    let k = 8 * c.args.i + c.args.j in
    let p : 2 ^ k ≤ 2 ^ 63 = pow_mono {i = k} {j = 63} (omega arith) in
    let e : 1 * 2 ^ k % 18446744073709551616 ≡ 2 ^ k = omega (arith, p) in
    ap block_cells e ∙ one_block c.args.i c.args.j a b
