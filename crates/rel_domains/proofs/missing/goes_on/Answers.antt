use Rattle.std.proofs.Common.{◌≡◌, ◌+◌, sym, subst}
use Rattle.std.proofs.lemmas.Bool.{leb-true}
use Rattle.rel_domains.specs.declared.rule.Rule.TheVariants.{Remainder}
use Rattle.rel_domains.specs.Rules.{rule_cells, window}
use Rattle.rel_domains.proofs.Repeats.{diagonal-repeats, rest-repeats}
use Rattle.rel_domains.proofs.missing.goes_on.Goals as goal

pub returns-in-Remainder : goal.returns-in-Remainder
returns-in-Remainder c = λ t.
    let a = c.args in
    let by = c.in-Remainder.by in
    subst (λ r. window a.half (a.row + a.half) (a.col + a.half) (rule_cells a.shape.rows a.shape.cols r) ≡ window a.half a.row a.col (rule_cells a.shape.rows a.shape.cols r)) (sym c.in-Remainder.is)
    (diagonal-repeats a.shape.rows a.shape.cols a.half a.row a.col (Remainder by) c.if-row-half.false c.if-col-half.false (λ i j l k. rest-repeats by a.row a.col a.half i j (leb-true _ _ t) l))
