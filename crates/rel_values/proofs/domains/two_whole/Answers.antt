use Rattle.std.proofs.Common.{refl}
use Rattle.rel_slices.proofs.Valuing.{value_same}
use Rattle.rel_values.proofs.Operating.{regives}
use Rattle.rel_values.proofs.domains.two_whole.Goals as goal

pub returns-clause-second : goal.returns-clause-second
returns-clause-second g c =
    regives refl refl (value_same (g.E.Core.worker c.args.engine.now) (g.E.Core.worker c.whole.new.core) c.args.y.now c.in_ok-first.ensures.keeps c.requires.right.stands) c.in_ok-second.ensures.value
