use Rattle.rel_closure.proofs.reflexive.+part.Given as goal

abbrev pub decreases-part : goal.decreases-part
decreases-part g l = l.count
