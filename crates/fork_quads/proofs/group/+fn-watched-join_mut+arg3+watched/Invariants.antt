use Rattle.fork_quads.proofs.group.+fn-watched-join_mut+arg3+watched.Given as goal

abbrev pub decreases-watched : goal.decreases-watched
decreases-watched g l = l.count

abbrev pub decreases-join_mut+arg3 : goal.decreases-join_mut+arg3
decreases-join_mut+arg3 g l = l.less
