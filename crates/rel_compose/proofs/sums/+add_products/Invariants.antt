use Rattle.rel_compose.proofs.sums.+add_products.Given as goal

abbrev pub decreases-add_products : goal.decreases-add_products
decreases-add_products l = l.a.height
