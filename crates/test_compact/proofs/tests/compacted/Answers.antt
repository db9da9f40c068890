use Rattle.test_compact.proofs.Squares.{where_given}
use Rattle.test_compact.proofs.tests.compacted.Goals as goal

pub returns-clause-sound : goal.returns-clause-sound
returns-clause-sound g c = where_given c.compact.result _ _ (λ r k. k.sound 10 c.requires.size) c.compact.ensures.compacted
