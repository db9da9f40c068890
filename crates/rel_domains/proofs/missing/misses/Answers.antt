use Rattle.std.proofs.Common.{◌≡◌, sym, subst}
use Rattle.std.proofs.lemmas.Bool.{leb-true}
use Rattle.rel_domains.specs.declared.rule.Rule.TheVariants.{Quotient}
use Rattle.rel_domains.specs.Rules.{IsRule, rule_cells, window}
use Rattle.rel_model.specs.Cells.{no_cells}
use Rattle.rel_domains.proofs.Windows.{rule_free, quotients_before, quotients_behind}
use Rattle.rel_domains.proofs.missing.misses.Goals as goal

pub returns-then-end-by : goal.returns-then-end-by
returns-then-end-by c = λ t.
    let p = subst (IsRule c.args.shape.rows) c.in-Quotient.is c.requires.rule in
    subst (λ r. window c.args.side c.args.row c.args.col (rule_cells c.args.shape.rows c.args.shape.cols r) ≡ no_cells) (sym c.in-Quotient.is)
    (rule_free c.args.shape.rows c.args.shape.cols c.args.side c.args.row c.args.col c.min-end.result (Quotient c.in-Quotient.by) c.min-end.ensures
    (λ k j a b d e h. quotients_before c.in-Quotient.by c.args.row c.args.col c.args.side c.min-end.result k j p c.if-end-by.true b d h))

pub returns-else-end-by : goal.returns-else-end-by
returns-else-end-by c = λ t.
    let p = subst (IsRule c.args.shape.rows) c.in-Quotient.is c.requires.rule in
    subst (λ r. window c.args.side c.args.row c.args.col (rule_cells c.args.shape.rows c.args.shape.cols r) ≡ no_cells) (sym c.in-Quotient.is)
    (rule_free c.args.shape.rows c.args.shape.cols c.args.side c.args.row c.args.col c.min-end.result (Quotient c.in-Quotient.by) c.min-end.ensures
    (λ k j a b d e h. quotients_behind c.in-Quotient.by c.args.row c.args.col c.args.side k j p (leb-true _ _ t) a e h))
