use Rattle.fork_quads.proofs.windows.+first_of.Given as goal

-- proposed from what the function passes where it calls itself
abbrev pub decreases-first_of : goal.decreases-first_of
decreases-first_of l = l.height
