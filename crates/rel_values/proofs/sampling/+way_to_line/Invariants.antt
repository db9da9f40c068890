use Rattle.rel_values.proofs.sampling.+way_to_line.Given as goal

abbrev pub decreases-way_to_line : goal.decreases-way_to_line
decreases-way_to_line g l = l.quad.height
