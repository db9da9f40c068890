use Rattle.quad_nodes.proofs.nodes.Nodes.+has.Given as goal

abbrev pub decreases-has : goal.decreases-has
decreases-has l = l.q.height
