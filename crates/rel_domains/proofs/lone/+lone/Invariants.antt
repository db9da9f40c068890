use Rattle.rel_domains.proofs.lone.+lone.Given as goal

abbrev pub decreases-lone : goal.decreases-lone
decreases-lone g l = l.depth
