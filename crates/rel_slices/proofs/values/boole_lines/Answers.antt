use Rattle.rel_slices.specs.Thin.{line_of}
use Rattle.rel_slices.proofs.Valuing.{boole_lines_given}
use Rattle.rel_slices.proofs.values.boole_lines.Goals as goal

pub returns-clause-value : goal.returns-clause-value
returns-clause-value g c =
    let laws = g.met.C.Core in
    let a = c.args.a.now in
    let q = c.requires.left in
    boole_lines_given (g.C.Core.worker c.args.core.now) (g.C.Core.worker c.each.new.core) c.args.op a c.args.b.now c.in_ok-lines.lines
    (λ i l. record { valid = laws.valid c.args.core.now (line_of a i) (q.lines i l); row_size = laws.row_size c.args.core.now (line_of a i) (q.lines i l); col_size = laws.col_size c.args.core.now (line_of a i) (q.lines i l) })
    c.requires.turned c.requires.counts c.requires.others c.in_ok-lines.ensures.lines
