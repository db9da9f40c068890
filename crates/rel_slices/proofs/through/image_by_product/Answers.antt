use Rattle.std.proofs.Common.{ℕ, ap, arith}
use Rattle.rel_model.specs.Roots.{line_product_room}
use Rattle.rel_slices.proofs.through.image_by_product.Goals as goal

pub returns-in_err-line-clause-room : goal.returns-in_err-line-clause-room
returns-in_err-line-clause-room g c =
    let q = c.requires.row in
    let b = c.in_err-line.ensures.line (omega (arith, q)) in
    let e = ap (λ (x : ℕ). line_product_room g.C.Core.least x c.args.u.cols c.args.r.cols) c.requires.row in
    omega (arith, b, e)

pub returns-clause-room : goal.returns-clause-room
returns-clause-room g c =
    let q = c.requires.row in
    let b = c.in_ok-line.ensures.line (omega (arith, q)) in
    let e = ap (λ (x : ℕ). line_product_room g.C.Core.least x c.args.u.cols c.args.r.cols) c.requires.row in
    omega (arith, b, e)
