use Rattle.std.proofs.Common.{◌≡◌, ◌-◌, ℕ, arith}
use Rattle.rel_slices.specs.Members.{first_height}
use Rattle.rel_slices.proofs.Membering.{tree_more}
use Rattle.rel_slices.proofs.member.first_quad.Goals as goal

pub returns-else-i-from-clause-room : goal.returns-else-i-from-clause-room
returns-else-i-from-clause-room g c =
    let least : ℕ = g.Q.Core.least in
    let e : c.bottom.result ≡ least = c.bottom.ensures in
    let n = c.if-i-from.false in
    let f = c.from.ensures in
    let a = c.high_quad.ensures.room in
    let m = tree_more (c.args.i - least) (first_height least c.args.i - least) (omega (arith, n, e, f)) in
    omega (arith, a, m)
