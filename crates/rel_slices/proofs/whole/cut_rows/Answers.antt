use Rattle.std.proofs.Common.{◌≤◌, ◌∙◌, false, arith}
use Rattle.rel_model.specs.Relation.{Relation}
use Rattle.rel_model.specs.Algebra.{HasType}
use Rattle.rel_model.specs.Worker.{set_of}
use Rattle.rel_rows.specs.Rows.{row_of}
use Rattle.rel_slices.specs.Thin.{line_set}
use Rattle.rel_slices.proofs.Putting.{puts_all, lines_stand, lines_sets}
use Rattle.rel_slices.proofs.Laying.{laid_agree, rows_taken}
use Rattle.rel_slices.proofs.whole.cut_rows.Goals as goal

pub returns-clause-value : goal.returns-clause-value
returns-clause-value g c =
    let laws = g.met.C.Core in
    let core = c.args.core.now in
    let o = g.C.Core.worker core in
    let now = g.C.Core.worker c.rows.core in
    let r = c.args.r in
    let s = c.requires.standing in
    let R : Relation = set_of o r in
    let h = c.rows.invariant in
    let made = c.rows.made in
    let test = c.rows-test.false in
    let all : r.rows ≤ c.rows.i = omega (arith, test) in
    let p = puts_all o now _ c.args.turned r.rows r.cols (row_of R) c.rows.i made h all c.requires.few (laws.col_limit core r s) in
    let t : HasType r.rows r.cols R = record { valid = laws.valid core r s; row_size = laws.row_size core r s; col_size = laws.col_size core r s } in
    record {
      turned_is = h.turned_is;
      count_is = h.count_is;
      other_is = h.other_is;
      stands = lines_stand now _ _ _ _ made p;
      means = laid_agree false r.rows r.cols (line_set now made) (row_of R) (λ i l. lines_sets now _ _ _ _ made p i l) ∙ rows_taken r.rows r.cols R t;
    }
