use Rattle.std.proofs.Common.{sym, subst}
use Rattle.rel_model.specs.Operators.{complement}
use Rattle.rel_slices.specs.declared.thin.Value.{Value}
use Rattle.rel_slices.specs.declared.thin.Value.TheVariants.{Whole, Lines}
use Rattle.rel_slices.specs.Thin.{ValueStands, value_of, value_rows, value_cols, GivesValue}
use Rattle.rel_slices.proofs.Valuing.{complement_lines_given, complement_whole_given}
use Rattle.rel_slices.proofs.values.complement.Goals as goal

pub returns-in_ok-rest-in-Whole-clause-value : goal.returns-in_ok-rest-in-Whole-clause-value
returns-in_ok-rest-in-Whole-clause-value g c =
    let laws = g.met.C.Core in
    let o = g.C.Core.worker c.args.core.now in
    let r = c.in-Whole.r in
    let s = subst (λ (x : Value). ValueStands o x) c.in-Whole.is c.requires.stands in
    subst (λ (x : Value). GivesValue (g.C.Core.worker c.diff.new.self) (value_rows x) (value_cols x) (complement (value_of o x)) (Whole c.in_ok-rest-in-Whole.rest)) (sym c.in-Whole.is)
    (complement_whole_given o (g.C.Core.worker c.full.new.self) (g.C.Core.worker c.diff.new.self) 0 0 r c.in_ok-full-in-Whole.full c.in_ok-rest-in-Whole.rest c.in_ok-full-in-Whole.ensures.keeps s
    (record { valid = laws.valid c.args.core.now r s; row_size = laws.row_size c.args.core.now r s; col_size = laws.col_size c.args.core.now r s }) c.in_ok-full-in-Whole.ensures.value c.in_ok-rest-in-Whole.ensures.value)

pub returns-in_ok-lines-in-Lines-clause-value : goal.returns-in_ok-lines-in-Lines-clause-value
returns-in_ok-lines-in-Lines-clause-value g c =
    let o = g.C.Core.worker c.args.core.now in
    let h = subst (λ (x : Value). ValueStands o x) c.in-Lines.is c.requires.stands in
    subst (λ (x : Value). GivesValue (g.C.Core.worker c.each.new.core) (value_rows x) (value_cols x) (complement (value_of o x)) (Lines c.in_ok-lines-in-Lines.lines)) (sym c.in-Lines.is)
    (complement_lines_given o (g.C.Core.worker c.full_lines.new.core) (g.C.Core.worker c.each.new.core) c.in-Lines.s c.in_ok-all-in-Lines.all c.in_ok-lines-in-Lines.lines c.in_ok-all-in-Lines.ensures.keeps h c.in_ok-all-in-Lines.ensures.lines c.in_ok-lines-in-Lines.ensures.lines)
