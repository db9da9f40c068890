use Rattle.std.proofs.Common.{◌≡◌, ◌≤◌, ◌<◌, ◌*◌, ◌^◌, ◌∙◌, arith}
use Rattle.std.proofs.Math.Pow.{pow_mono}
use Rattle.std.proofs.Math.Nat.{mod-eq_of_lt}
use Rattle.rv_types.proofs.sizes.subsets.Goals as goal

pub returns : goal.returns
returns c =
    let high : 2 ^ c.args.m ≤ 2 ^ 24 = pow_mono c.requires in
    let one : 1 * 2 ^ c.args.m ≡ 2 ^ c.args.m = omega arith in
    let fits : 1 * 2 ^ c.args.m < 18446744073709551616 = omega arith in
    mod-eq_of_lt fits ∙ one
