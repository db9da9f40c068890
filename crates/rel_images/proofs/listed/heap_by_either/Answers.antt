use Rattle.rel_model.specs.Worker.{quad_set}
use Rattle.rel_images.proofs.Listing.{some_listed_heap}
use Rattle.rel_images.proofs.listed.heap_by_either.Goals as goal

pub returns-in-None-clause-heap : goal.returns-in-None-clause-heap
returns-in-None-clause-heap g c =
    let a = c.args in
    some_listed_heap (λ v. v.items) c.heap_listed.result g.Q.Core.least c.bottom.result a.quad.height a.turned (quad_set (g.Q.Core.worker a.q.now) a.quad) a.pairs.now a.xs.now c.bottom.ensures c.requires.pairs c.requires.within c.heap_listed.ensures
