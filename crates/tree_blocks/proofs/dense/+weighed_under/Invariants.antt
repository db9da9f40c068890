use Rattle.tree_blocks.proofs.dense.+weighed_under.Given as goal

abbrev pub decreases-weighed_under : goal.decreases-weighed_under
decreases-weighed_under l = l.q.height
