use Rattle.std.proofs.Common.{take}
use Rattle.rel_model.specs.Worker.{Keeps, MakesAtMost, MissesNothing}
use Rattle.k2_write.specs.Writing.{named_sets}
use Rattle.k2_write.specs.Listed.{AreListed}
use Rattle.k2_write.proofs.listing.listing_of.Given as goal

-- the relations so far were visited, and have their bytes
abbrev pub invariant-rels : goal.invariant-rels
invariant-rels g l =
    AreListed (g.E.Core.worker l.engine) g.E.Core.least (named_sets (g.E.Core.worker l.fn.engine) (take l.entry-index l.fn.rels)) l.visits l.relations.items
    × Keeps (g.E.Core.worker l.fn.engine) (g.E.Core.worker l.engine)
    × MakesAtMost 0 (g.E.Core.worker l.fn.engine) (g.E.Core.worker l.engine)
    × MissesNothing (g.E.Core.worker l.fn.engine) (g.E.Core.worker l.engine)
