use Rattle.rel_compose.proofs.sums.+summed_quad.Given as goal

abbrev pub decreases-summed_quad : goal.decreases-summed_quad
decreases-summed_quad l = l.x.height
