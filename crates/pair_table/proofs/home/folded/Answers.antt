use Rattle.std.proofs.Common.{◌≡◌, ◌<◌, ◌*◌, ◌+◌, ◌/◌, ◌%◌, ◌^◌, ◌∙◌, ℕ, subst, sym, ap, arith}
use Rattle.std.specs.Int.Bits.{bit_and}
use Rattle.pair_table.proofs.Homing.{masked, same_rest, smaller_rest}
use Rattle.pair_table.proofs.home.folded.Goals as goal

pub returns-clause-same : goal.returns-clause-same
returns-clause-same c =
    ap (λ (m : ℕ). (c.args.sum / 2 ^ c.args.bits * 2 + m) % c.args.count) (masked c.args.sum c.args.bits c.args.count c.requires.size)
    ∙ same_rest c.args.sum (2 ^ c.args.bits) c.args.count c.requires.size

pub returns-clause-smaller : goal.returns-clause-smaller
returns-clause-smaller c =
    let m : bit_and c.args.sum (c.args.count + 1) ≡ c.args.sum % 2 ^ c.args.bits = masked c.args.sum c.args.bits c.args.count c.requires.size in
    let s : c.args.sum / 2 ^ c.args.bits * 2 + c.args.sum % 2 ^ c.args.bits < c.args.sum = smaller_rest c.args.sum (2 ^ c.args.bits) c.args.count c.requires.size c.requires.some (omega arith) in
    subst (λ (y : ℕ). c.args.sum / 2 ^ c.args.bits * 2 + y < c.args.sum) (sym m) s
