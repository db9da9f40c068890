use Rattle.std.proofs.Common.{◌≡◌, ◌+◌, sym, subst}
use Rattle.std.proofs.lemmas.Bool.{eqb-true}
use Rattle.rel_domains.specs.declared.rule.Rule.TheVariants.{Quotient, Remainder}
use Rattle.rel_domains.specs.Rules.{IsRule, rule_cells, window}
use Rattle.rel_domains.proofs.Repeats.{rows-repeat, quotient-repeats, remainder-repeats}
use Rattle.rel_domains.proofs.missing.repeats.Goals as goal

pub returns-in-Quotient : goal.returns-in-Quotient
returns-in-Quotient c = λ t col.
    let a = c.args in
    let by = c.in-Quotient.by in
    let p = subst (IsRule a.shape.rows) c.in-Quotient.is c.requires.rule in
    subst (λ r. window a.half (a.row + a.half) col (rule_cells a.shape.rows a.shape.cols r) ≡ window a.half a.row col (rule_cells a.shape.rows a.shape.cols r)) (sym c.in-Quotient.is)
    (rows-repeat a.shape.rows a.shape.cols a.half a.row col (Quotient by) c.if-row-half.false (λ i j l. quotient-repeats by a.row a.half i j p l (eqb-true _ _ t)))

pub returns-in-Remainder : goal.returns-in-Remainder
returns-in-Remainder c = λ t col.
    let a = c.args in
    let by = c.in-Remainder.by in
    subst (λ r. window a.half (a.row + a.half) col (rule_cells a.shape.rows a.shape.cols r) ≡ window a.half a.row col (rule_cells a.shape.rows a.shape.cols r)) (sym c.in-Remainder.is)
    (rows-repeat a.shape.rows a.shape.cols a.half a.row col (Remainder by) c.if-row-half.false (λ i j l. remainder-repeats by a.row a.half i j (eqb-true _ _ t)))
