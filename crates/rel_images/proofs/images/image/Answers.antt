use Rattle.std.proofs.Common.{◌≡◌, ◌^◌, ◌∙◌, ℕ, List}
use Rattle.rel_model.specs.Relation.{has}
use Rattle.rel_model.specs.Roots.{height_over}
use Rattle.rel_model.specs.Worker.{set_of}
use Rattle.rel_steps.proofs.Given.{gives_has}
use Rattle.rel_images.specs.Lines.{IsHeap, first_row, image_line, turned_cells}
use Rattle.rel_images.proofs.Roots.{roots_lower, width_fits, heap_narrow, heap_of_roots, image_gives}
use Rattle.rel_images.proofs.images.image.Given.{Over}
use Rattle.rel_images.proofs.images.image.Goals.{In-Some}
use Rattle.rel_images.proofs.images.image.Goals as goal

pub reached-requires-clause-no_higher : goal.reached-requires-clause-no_higher
reached-requires-clause-no_higher g c =
    let a = c.args in
    let core = g.met.Q.Core in
    roots_lower g.Q.Core.least a.r.rows a.r.cols a.u.rows a.u.cols c.root-line.result.height c.root-quad.result.height a.turned (core.row_limit a.q.now a.r c.requires.standing) (core.col_limit a.q.now a.r c.requires.standing)
    c.requires.row c.requires.middle c.root-line.ensures.same_height c.root-quad.ensures.same_height

pub answered-requires-clause-fits : goal.answered-requires-clause-fits
answered-requires-clause-fits g c =
    let a = c.args in
    let core = g.met.Q.Core in
    width_fits g.Q.Core.least a.r.rows a.r.cols c.width_of-cols.result c.root-quad.result.height a.turned (core.row_limit a.q.now a.r c.requires.standing) (core.col_limit a.q.now a.r c.requires.standing) c.root-quad.ensures.same_height c.width_of-cols.ensures

-- the heap holds the image of the line's relation
heap : (g : Over) (c : In-Some g) (xs : List ℕ) → xs ≡ c.in-Some.ys.items
    → IsHeap g.Q.Core.least c.root-quad.result.height (image_line (2 ^ c.root-quad.result.height) (first_row (has (set_of (g.Q.Core.worker c.args.q.now) c.args.u))) (turned_cells c.args.turned (has (set_of (g.Q.Core.worker c.args.q.now) c.args.r)))) xs
heap g c xs e =
    let a = c.args in
    let least : ℕ = g.Q.Core.least in
    let u = g.Q.Core.worker a.q.now in
    heap_of_roots least c.root-quad.result.height a.turned u (g.Q.Core.worker c.pays.new.q) c.root-line.result c.root-quad.result (height_over least a.u.rows a.u.cols) (height_over least a.r.rows a.r.cols) (has (set_of u a.u)) (has (set_of u a.r)) c.in-Some.ys.items xs
    c.pays.ensures.reads.keeps c.root-line.ensures c.root-quad.ensures e c.in-Some.ensures.heap

pub answered-requires-clause-narrow : goal.answered-requires-clause-narrow
answered-requires-clause-narrow g c =
    let a = c.args in
    let core = g.met.Q.Core in
    let least : ℕ = g.Q.Core.least in
    let u = g.Q.Core.worker a.q.now in
    let quad = c.root-quad.result in
    let stands = gives_has u (height_over least a.r.rows a.r.cols) (has (set_of u a.r)) quad c.root-quad.ensures in
    heap_narrow least quad.height c.width_of-cols.result a.r.rows a.r.cols a.turned (set_of u a.r) (first_row (has (set_of u a.u))) c.deref.result.now (core.valid a.q.now a.r c.requires.standing) (g.met.Q.Quads.low_height a.q.now quad stands)
    (core.row_size a.q.now a.r c.requires.standing) (core.col_size a.q.now a.r c.requires.standing) c.width_of-cols.ensures (heap g (goal.at.answered-requires-clause-narrow g c).In-Some c.deref.result.now c.deref.ensures.value)

pub returns-in-Ok-clause-value : goal.returns-in-Ok-clause-value
returns-in-Ok-clause-value g c =
    let a = c.args in
    let core = g.met.Q.Core in
    let u = g.Q.Core.worker a.q.now in
    image_gives g.Q.Core.least c.root-quad.result.height c.width_of-cols.result a.r.rows a.r.cols a.u.cols a.turned (set_of u a.u) (set_of u a.r) c.deref.result.now (g.Q.Core.worker c.answered.new.q) c.in-Ok.answer
    (core.valid a.q.now a.u c.requires.line) (core.valid a.q.now a.r c.requires.standing) (core.row_size a.q.now a.u c.requires.line ∙ c.requires.row) (core.col_size a.q.now a.u c.requires.line) c.requires.middle
    (core.row_size a.q.now a.r c.requires.standing) (core.col_size a.q.now a.r c.requires.standing) (core.row_limit a.q.now a.r c.requires.standing) (core.col_limit a.q.now a.r c.requires.standing) c.root-quad.ensures.same_height c.width_of-cols.ensures
    (heap g (goal.at.returns-in-Ok-clause-value g c).In-Some c.deref.result.now c.deref.ensures.value) c.in-Ok.ensures.value
