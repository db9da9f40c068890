use Rattle.std.proofs.Common.{◌∙◌, ℕ, length, refl, sym, ap}
use Rattle.rel_model.specs.declared.Quad.{Quad}
use Rattle.rel_model.specs.Cells.{Cells}
use Rattle.rel_model.specs.Relation.{has}
use Rattle.rel_model.specs.Roots.{height_over}
use Rattle.rel_model.specs.Worker.{set_of}
use Rattle.rel_steps.proofs.Given.{gives_has, gives_quad_set}
use Rattle.rel_listing.proofs.Lists.{listed, none_listed}
use Rattle.rel_listing.proofs.Halves.{none_of, some_pairs, empty_name}
use Rattle.rel_listing.proofs.listing.pairs_of.Goals as goal

pub returns-then-is_empty-clause-value : goal.returns-then-is_empty-clause-value
returns-then-is_empty-clause-value g c =
    let w = g.Q.Core.worker c.args.q.now in
    let r = c.args.r in
    let quad = c.root-quad.result in
    let h : ℕ = height_over g.Q.Core.least r.rows r.cols in
    let law = g.met.Q.Quads in
    let stands = gives_has w h (has (set_of w r)) quad c.root-quad.ensures in
    none_listed (set_of w r) c.new-pairs.result.items (g.met.Q.Core.valid c.args.q.now r c.requires)
    (sym (gives_quad_set w h (has (set_of w r)) quad c.root-quad.ensures)
    ∙ none_of w quad (law.none c.args.q.now quad.height (law.low_height c.args.q.now quad stands) (law.high_height c.args.q.now quad stands)) (c.is_empty.ensures.empty c.if-is_empty.true))
    c.new-pairs.ensures.items

pub returns-in-Err-clause-some : goal.returns-in-Err-clause-some
returns-in-Err-clause-some g c =
    let w = g.Q.Core.worker c.args.q.now in
    let r = c.args.r in
    let quad = c.root-quad.result in
    let h : ℕ = height_over g.Q.Core.least r.rows r.cols in
    let law = g.met.Q.Quads in
    let stands = gives_has w h (has (set_of w r)) quad c.root-quad.ensures in
    let none : Quad = record { height = quad.height; name = 0 } in
    some_pairs (length (set_of w r).pairs) quad.name (c.is_empty.ensures.filled c.if-is_empty.false)
    (empty_name w (set_of w r) quad (law.none c.args.q.now quad.height (law.low_height c.args.q.now quad stands) (law.high_height c.args.q.now quad stands))
    (λ k e. law.one_name c.args.q.now quad none stands k refl e) (gives_quad_set w h (has (set_of w r)) quad c.root-quad.ensures))

pub returns-in-Ok-clause-value : goal.returns-in-Ok-clause-value
returns-in-Ok-clause-value g c =
    let w = g.Q.Core.worker c.args.q.now in
    let r = c.args.r in
    let h : ℕ = height_over g.Q.Core.least r.rows r.cols in
    listed (set_of w r) c.new-pairs.result.items c.list_root.new.pairs.items (g.met.Q.Core.valid c.args.q.now r c.requires) c.new-pairs.ensures.items
    (λ i j. ap (λ (f : Cells). f i j) (gives_quad_set w h (has (set_of w r)) c.root-quad.result c.root-quad.ensures))
    c.in-Ok.ensures.pairs
