use Rattle.std.proofs.Common.{◌∙◌, List, ℕ, sym, subst}
use Rattle.rel_model.specs.Trees.{top_height}
use Rattle.rel_model.specs.Worker.{quad_set}
use Rattle.rel_steps.proofs.Given.{kept_set}
use Rattle.rel_images.specs.Lines.{IsHeap, first_row}
use Rattle.rel_images.proofs.Steps.{image_heap}
use Rattle.rel_images.proofs.listed.reached_by_pairs.Goals as goal

pub heap_of-requires-clause-high : goal.heap_of-requires-clause-high
unfolding top_height
heap_of-requires-clause-high g c = g.met.Q.Quads.high_height c.args.q.now c.args.quad c.requires.stands

pub heap_by_either-requires-clause-high : goal.heap_by_either-requires-clause-high
unfolding top_height
heap_by_either-requires-clause-high g c = g.met.Q.Quads.high_height c.args.q.now c.args.quad c.requires.stands

pub heap_by_either-requires-clause-pairs : goal.heap_by_either-requires-clause-pairs
heap_by_either-requires-clause-pairs g c = kept_set (g.Q.Core.worker c.args.q.now) (g.Q.Core.worker c.heap_of.new.q) c.args.quad c.heap_of.ensures.reads.keeps c.requires.stands ∙ c.requires.pairs

pub returns-in-Some-heap_by_either-clause-heap : goal.returns-in-Some-heap_by_either-clause-heap
returns-in-Some-heap_by_either-clause-heap g c =
    let a = c.args in
    let u = g.Q.Core.worker a.q.now in
    let v = g.Q.Core.worker c.heap_of.new.q in
    image_heap g.Q.Core.least a.quad.height a.turned (first_row (quad_set u a.line)) (quad_set v a.quad) (quad_set u a.quad) c.deref.result.now c.in-Some-heap_by_either.ys.items (kept_set u v a.quad c.heap_of.ensures.reads.keeps c.requires.stands)
    (subst (λ (xs : List ℕ). IsHeap g.Q.Core.least a.quad.height (first_row (quad_set u a.line)) xs) (sym c.deref.ensures.value) c.in-Some.ensures.heap) c.in-Some-heap_by_either.ensures.heap
