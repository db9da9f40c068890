use Rattle.std.proofs.Common.{◌≤◌, ◌∙◌, refl, sym, subst, arith, take}
use Rattle.std.proofs.lemmas.List.{take_all}
use Rattle.rel_model.specs.Relation.{size_limit}
use Rattle.rel_model.specs.Worker.{set_of}
use Rattle.rel_model.proofs.Workers.{keeps_itself, keeps_set, keeps_trans}
use Rattle.k2_write.specs.Visiting.{VisitedSet}
use Rattle.k2_write.specs.Writing.{named_sets}
use Rattle.k2_write.specs.Listed.{AreListed}
use Rattle.k2_write.proofs.Entering.{one_more, named_next, stands_at, all_listed}
use Rattle.k2_write.proofs.listing.listing_of.Goals as goal

pub rels-init : goal.rels-init
rels-init g c =
    let w = g.E.Core.worker c.args.engine.now in
    (record { lists = c.new-visits.ensures w g.E.Core.least; known = tt; relations = c.new-relations.ensures.items }, keeps_itself w, omega arith, refl)

pub rels-preserved : goal.rels-preserved
rels-preserved g c =
    let w0 = g.E.Core.worker c.args.engine.now in
    let w1 = g.E.Core.worker c.rels.engine in
    let w2 = g.E.Core.worker c.visit_rel.new.engine in
    let x = c.entry-item.result in
    let r = set_of w0 x.1 in
    let n = c.in_ok-root.root in
    let k = c.rels.entry-index in
    let kept = c.rels.invariant.1 in
    let stands = stands_at w0 c.args.rels.now k x c.requires c.rels-test.true c.entry-item.is in
    let rows = g.met.E.Core.row_size c.args.engine.now x.1 stands in
    let cols = g.met.E.Core.col_size c.args.engine.now x.1 stands in
    let same = keeps_set w0 w1 x.1 kept stands in
    let listed = one_more w1 w2 g.E.Core.least (named_sets w0 (take k c.args.rels.now)) (x.0, r) x.1.rows x.1.cols n c.rels.visits c.visit_rel.new.visits c.rels.relations.items c.push_named.new.out.items
    (record {
      valid = g.met.E.Core.valid c.args.engine.now x.1 stands;
      rows = subst (λ z. z ≤ size_limit) (sym rows) (g.met.E.Core.row_limit c.args.engine.now x.1 stands);
      cols = subst (λ z. z ≤ size_limit) (sym cols) (g.met.E.Core.col_limit c.args.engine.now x.1 stands);
    })
    rows cols c.rels.invariant.0 (subst (λ z. VisitedSet w1 w2 g.E.Core.least c.rels.visits c.visit_rel.new.visits z n) same c.in_ok-root.ensures.value) c.in_ok-push_named.ensures in
    let a = c.rels.invariant.2 in
    let b = c.in_ok-root.ensures.room in (
      subst (λ z. AreListed w2 g.E.Core.least z c.visit_rel.new.visits c.push_named.new.out.items) (sym (named_next w0 c.args.rels.now k x c.rels-test.true c.entry-item.is)) listed,
      keeps_trans w0 w1 w2 kept c.in_ok-root.ensures.keeps,
      omega (arith, a, b),
      c.in_ok-root.ensures.misses ∙ c.rels.invariant.3,
    )

pub returns-clause-value : goal.returns-clause-value
returns-clause-value g c =
    let w0 = g.E.Core.worker c.args.engine.now in
    all_listed (g.E.Core.worker c.rels.engine) g.E.Core.least (named_sets w0 c.args.rels.now) c.rels.visits c.rels.relations.items _
    (subst (λ z. AreListed (g.E.Core.worker c.rels.engine) g.E.Core.least (named_sets w0 z) c.rels.visits c.rels.relations.items) (take_all c.rels.entry-index c.args.rels.now c.rels-test.false) c.rels.invariant.0)
    refl refl
