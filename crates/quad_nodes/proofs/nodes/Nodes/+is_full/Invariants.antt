use Rattle.quad_nodes.proofs.nodes.Nodes.+is_full.Given as goal

abbrev pub decreases-is_full : goal.decreases-is_full
decreases-is_full l = l.q.height
