use Rattle.std.proofs.Common.{refl}
use Rattle.rel_slices.proofs.Valuing.{recast_value, value_same}
use Rattle.rel_values.proofs.Operating.{value_later}
use Rattle.rel_values.proofs.shaping.both_in_form.Goals as goal

pub returns-clause-forms : goal.returns-clause-forms
returns-clause-forms g c =
    let a = c.in_ok-first.ensures in
    let b = c.in_ok-second.ensures in
    let v = g.E.Core.worker c.in_form.new.engine in
    let w = g.E.Core.worker c.in_form-2.new.engine in
    record {
      left = value_later v w _ _ _ c.in_ok-first.first b.keeps a.value;
      left_form = a.form;
      right = recast_value w _ _ _ _ _ _ c.in_ok-second.second refl refl (value_same (g.E.Core.worker c.args.engine.now) v c.args.y.now a.keeps c.requires.right.stands) b.value;
      right_form = b.form;
    }
