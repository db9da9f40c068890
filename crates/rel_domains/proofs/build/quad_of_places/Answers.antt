use Rattle.std.proofs.Common.{◌+◌, arith}
use Rattle.rel_domains.proofs.Listing.{cells_limit}
use Rattle.rel_domains.proofs.Knowing.{knows_nothing, no_names}
use Rattle.rel_domains.proofs.build.quad_of_places.Goals as goal

pub build-requires-clause-base : goal.build-requires-clause-base
build-requires-clause-base g c = let l = cells_limit (g.Q.Core.least + c.args.depth) c.requires.high in omega (arith, l)

pub build-requires-2-clause-base : goal.build-requires-2-clause-base
build-requires-2-clause-base g c = let l = cells_limit (g.Q.Core.least + c.args.depth) c.requires.high in omega (arith, l)

pub build-requires-2-clause-known : goal.build-requires-2-clause-known
build-requires-2-clause-known g c = knows_nothing _ _ _ _ (λ k. no_names 4096 k)
