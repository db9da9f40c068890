use Rattle.rel_closure.proofs.transitive.trans.Given as goal

abbrev pub ghosts-trans_alone : goal.ghosts-trans_alone
ghosts-trans_alone g a = record { name = a.blank.name; parts = a.blank.parts }
