use Rattle.std.proofs.Common.{◌≡◌, ◌*◌, ◌/◌, ◌%◌, ◌^◌, ◌∙◌, sym, ap, arith}
use Rattle.std.proofs.Math.Pow.{pow_mono}
use Rattle.std.proofs.lemmas.Bool.{eqb-true}
use Rattle.rel_listing.proofs.RowSteps.{empty_row}
use Rattle.rel_listing.proofs.rows.row_is_empty.Goals as goal

pub returns : goal.returns
returns c e j =
    let a = c.args in
    let one : 1 * 2 ^ a.side % 18446744073709551616 ≡ 2 ^ a.side = let p = pow_mono {i = a.side} {j = 8} c.requires.small in omega (arith, p) in
    empty_row a.side a.bits a.i j (ap (λ n. a.bits / 2 ^ (a.side * a.i) % n) (sym one) ∙ eqb-true (a.bits / 2 ^ (a.side * a.i) % (1 * 2 ^ a.side % 18446744073709551616)) 0 e)
