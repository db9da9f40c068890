use Rattle.test_trees.proofs.Trying.{block_is_its_union}
use Rattle.test_trees.proofs.memo.note_union_with_itself.Goals as goal

pub note-requires-clause-holds : goal.note-requires-clause-holds
note-requires-clause-holds g c = block_is_its_union _ _ c.name_of_block-name.ensures.block
