use Rattle.rel_listing.proofs.listing.+list_strip.Given as goal

abbrev pub decreases-list_strip : goal.decreases-list_strip
decreases-list_strip g l = l.height
