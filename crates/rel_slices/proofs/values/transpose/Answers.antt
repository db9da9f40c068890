use Rattle.std.proofs.Common.{sym, subst}
use Rattle.rel_model.specs.Operators.{transpose}
use Rattle.rel_slices.specs.declared.thin.Value.{Value}
use Rattle.rel_slices.specs.declared.thin.Value.TheVariants.{Lines}
use Rattle.rel_slices.specs.Thin.{ValueStands, value_of, value_rows, value_cols, GivesValue}
use Rattle.rel_slices.proofs.Valuing.{turned_given}
use Rattle.rel_slices.proofs.values.transpose.Goals as goal

pub returns-in-Lines-clause-value : goal.returns-in-Lines-clause-value
returns-in-Lines-clause-value g c =
    let o = g.C.Core.worker c.args.core.now in
    let t = c.turned_over-turned in
    let h = subst (λ (x : Value). ValueStands o x) c.in-Lines.is c.requires.stands in
    subst (λ (x : Value). GivesValue o (value_cols x) (value_rows x) (transpose (value_of o x)) (Lines t.result)) (sym c.in-Lines.is)
    (turned_given o c.in-Lines.s t.result h t.ensures.turned t.ensures.count t.ensures.other t.ensures.lines)
