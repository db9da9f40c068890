use Rattle.std.proofs.Common.{refl, ap, arith}
use Rattle.rel_model.specs.Operators.{complement}
use Rattle.rel_slices.proofs.Valuing.{value_same}
use Rattle.rel_values.proofs.Operating.{has_read, after}
use Rattle.rel_values.proofs.boole.complement.Goals as goal

pub returns : goal.returns
returns g c =
    let o = g.E.Core.worker c.args.engine.now in
    let v = g.E.Core.worker c.left_whole.new.engine in
    let k = c.left_whole.ensures.reads in
    record { operates = after c.complement_in_form.result (has_read k) c.complement_in_form.ensures.operates refl refl (ap complement (value_same o v c.args.v.now k.keeps c.requires.fits.stands)) (omega arith) }
