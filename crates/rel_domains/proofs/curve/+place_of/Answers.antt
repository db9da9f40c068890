use Rattle.std.proofs.Common.{◌≡◌, ◌<◌, ◌+◌, ◌*◌, ◌^◌, ◌∙◌, ap, sym, subst, arith}
use Rattle.rel_domains.specs.Curve.{place}
use Rattle.rel_domains.proofs.Places.{place_lt}
use Rattle.rel_domains.proofs.curve.+place_of.Goals as goal

pub returns-then-depth-eq0-clause-within : goal.returns-then-depth-eq0-clause-within
returns-then-depth-eq0-clause-within t c =
    let a = c.args in
    let z : a.depth ≡ 0 = omega (arith, c.if-depth-eq0.true) in
    let side : c.side_of.result * a.i + a.j ≡ place a.least a.depth a.i a.j = ap (λ k. k * a.i + a.j) c.side_of.ensures ∙ sym (ap (λ d. place a.least d a.i a.j) z) in
    subst (λ k. k < 4 ^ (a.least + a.depth)) (sym side) (place_lt a.least a.depth a.i a.j c.requires.row c.requires.col)
