use Rattle.std.proofs.Common.{◌≤◌, ◌∙◌, sym, subst}
use Rattle.rel_model.specs.Relation.{size_limit}
use Rattle.rv_eval.proofs.Operating.{type_of_fit, limits_of_fit}
use Rattle.rv_eval.proofs.shapes.shape_in.Goals as goal

pub returns : goal.returns
returns g c =
    let w = g.E.Core.worker c.args.engine.now in
    let x = c.args.v.now in
    let t = type_of_fit w x (g.met.E.Core.valid c.args.engine.now) (g.met.E.Core.row_size c.args.engine.now) (g.met.E.Core.col_size c.args.engine.now) c.requires in
    let l = limits_of_fit w x (g.met.E.Core.row_limit c.args.engine.now) (g.met.E.Core.col_limit c.args.engine.now) c.requires.stands in
    let s = c.shape_of.ensures in
    record {
      rows = s.rows;
      cols = s.cols;
      typed = record { valid = t.valid; row_size = t.row_size ∙ sym s.rows; col_size = t.col_size ∙ sym s.cols };
      row_size = t.row_size ∙ sym s.rows;
      col_size = t.col_size ∙ sym s.cols;
      row_limit = subst (λ k. k ≤ size_limit) (sym s.rows) l.0;
      col_limit = subst (λ k. k ≤ size_limit) (sym s.cols) l.1;
    }
