use Rattle.std.proofs.Common.{◌≡◌, sym, subst}
use Rattle.std.specs.Prelude.{◌↔◌, IsTrue}
use Rattle.rel_model.specs.Operators.{empty}
use Rattle.rel_slices.specs.declared.thin.Value.{Value}
use Rattle.rel_slices.specs.Thin.{line_of, line_set, ValueStands, value_of, value_rows, value_cols}
use Rattle.rel_slices.proofs.Valuing.{all_empty, each_empty}
use Rattle.rel_slices.proofs.vectors.is_empty.Goals as goal

pub returns-in-Lines : goal.returns-in-Lines
returns-in-Lines g c =
    let laws = g.met.C.Core in
    let o = g.C.Core.worker c.args.core.now in
    let s = c.in-Lines.s in
    let h = subst (λ (x : Value). ValueStands o x) c.in-Lines.is c.requires in
    let e = c.lines_empty.ensures in
    subst (λ (x : Value). IsTrue c.lines_empty.result ↔ (value_of o x ≡ empty (value_rows x) (value_cols x))) (sym c.in-Lines.is) (
      (λ t. all_empty s.turned s.count s.other (line_set o s) (e.0 t)),
      (λ t. e.1 (each_empty s.turned s.count s.other (line_set o s)
          (λ i l. record { valid = laws.valid c.args.core.now (line_of s i) (h.lines i l); row_size = laws.row_size c.args.core.now (line_of s i) (h.lines i l); col_size = laws.col_size c.args.core.now (line_of s i) (h.lines i l) }) t)),
    )
