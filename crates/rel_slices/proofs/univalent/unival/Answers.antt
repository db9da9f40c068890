use Rattle.std.proofs.Common.{◌∙◌, Bool, sym, subst, ap}
use Rattle.rel_model.specs.Choice.{is_unival}
use Rattle.rel_slices.specs.declared.thin.Value.{Value}
use Rattle.rel_slices.specs.Thin.{line_of, line_set, laid, ValueStands, value_of}
use Rattle.rel_slices.proofs.Univalents.{columns_univalent, rows_univalent}
use Rattle.rel_slices.proofs.univalent.unival.Goals as goal

pub returns-then-s-clause-value : goal.returns-then-s-clause-value
returns-then-s-clause-value g c =
    let o = g.E.Core.worker c.args.engine.now in
    let s = c.in-Lines.s in
    c.all_apart.ensures.value ∙ sym (columns_univalent s.count s.other (line_set o s)) ∙ ap (λ (x : Bool). is_unival (laid x s.count s.other (line_set o s))) (sym c.if-s.true) ∙ ap (λ (x : Value). is_unival (value_of o x)) (sym c.in-Lines.is)

pub returns-else-s-clause-value : goal.returns-else-s-clause-value
returns-else-s-clause-value g c =
    let laws = g.met.E.Core in
    let engine = c.args.engine.now in
    let o = g.E.Core.worker engine in
    let s = c.in-Lines.s in
    let h = subst (λ (x : Value). ValueStands o x) c.in-Lines.is c.requires in
    c.each_single.ensures.value
    ∙ sym (rows_univalent s.count s.other (line_set o s) (λ i l. record { valid = laws.valid engine (line_of s i) (h.lines i l); row_size = laws.row_size engine (line_of s i) (h.lines i l); col_size = laws.col_size engine (line_of s i) (h.lines i l) }))
    ∙ ap (λ (x : Bool). is_unival (laid x s.count s.other (line_set o s))) (sym c.if-s.false) ∙ ap (λ (x : Value). is_unival (value_of o x)) (sym c.in-Lines.is)
