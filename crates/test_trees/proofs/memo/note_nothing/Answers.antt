use Rattle.memo_laws.specs.Looking.{operator_of}
use Rattle.test_trees.proofs.Trying.{nothing_is_nothing}
use Rattle.test_trees.proofs.memo.note_nothing.Goals as goal

pub note-requires-clause-holds : goal.note-requires-clause-holds
note-requires-clause-holds c = nothing_is_nothing _ (operator_of c.args.op) c.args.height c.requires.of.canonical.none_at_0 c.requires.low c.requires.high
