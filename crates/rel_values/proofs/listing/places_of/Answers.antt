use Rattle.std.proofs.Common.{◌≡◌, ◌<◌, ◌∙◌, ℕ, false, [], List, length, ap, subst, arith}
use Rattle.rel_model.specs.Algebra.{HasType}
use Rattle.rel_model.specs.Relation.{Relation}
use Rattle.rel_listing.specs.Lists.{Adds}
use Rattle.rel_listing.proofs.Halves.{on_err}
use Rattle.rel_slices.specs.Thin.{line_of, line_set}
use Rattle.rel_slices.proofs.Putting.{set_line}
use Rattle.rel_values.proofs.LineLists.{listing_more, laid_listed, some_laid, up_to}
use Rattle.rel_values.proofs.listing.places_of.Goals as goal

pub returns-in_err-places-clause-some : goal.returns-in_err-places-clause-some
returns-in_err-places-clause-some g c =
    on_err _ (let laws = g.met.E.Core in
    let e = c.args.engine.now in
    let s = c.args.s.now in
    some_laid false s.count s.other (line_set (g.E.Core.worker e) s) c.lines.i
    (λ k l. record { valid = laws.valid e (line_of s k) (c.requires.lines k l); row_size = laws.row_size e (line_of s k) (c.requires.lines k l); col_size = laws.col_size e (line_of s k) (c.requires.lines k l) }) c.lines-test.true
    (subst (λ (r : Relation). 0 < length r.pairs) (set_line (g.E.Core.worker c.args.engine.now) (g.E.Core.worker c.lines.engine) c.args.s.now c.lines.i _ c.lines.invariant.keeps c.requires c.lines-test.true c.line.ensures) c.in_err-places.ensures.some))

pub returns-in_err-push_line-clause-some : goal.returns-in_err-push_line-clause-some
returns-in_err-push_line-clause-some g c =
    on_err _ (let laws = g.met.E.Core in
    let e = c.args.engine.now in
    let s = c.args.s.now in
    some_laid false s.count s.other (line_set (g.E.Core.worker e) s) c.lines.i
    (λ k l. record { valid = laws.valid e (line_of s k) (c.requires.lines k l); row_size = laws.row_size e (line_of s k) (c.requires.lines k l); col_size = laws.col_size e (line_of s k) (c.requires.lines k l) }) c.lines-test.true
    (subst (λ (ps : List (ℕ × ℕ)). 0 < length ps) (c.deref.ensures.value ∙ (c.in_ok-places.ensures.value
    ∙ ap (λ (r : Relation). r.pairs) (set_line (g.E.Core.worker c.args.engine.now) (g.E.Core.worker c.lines.engine) c.args.s.now c.lines.i _ c.lines.invariant.keeps c.requires c.lines-test.true c.line.ensures))) c.in_err-push_line.ensures.some))

pub lines-preserved : goal.lines-preserved
lines-preserved g c =
    let laws = g.met.E.Core in
    let e = c.args.engine.now in
    let s = c.args.s.now in
    let i : ℕ = c.lines.i in
    let n = c.in_ok-places.ensures in
    let here = c.requires.lines i c.lines-test.true in
    let t : HasType 1 s.other (line_set (g.E.Core.worker e) s i) = record { valid = laws.valid e (line_of s i) here; row_size = laws.row_size e (line_of s i) here; col_size = laws.col_size e (line_of s i) here } in
    listing_more (g.E.Core.worker e) (g.E.Core.worker c.lines.engine) (g.E.Core.worker c.pairs_of.new.q) s i c.lines.pairs.items c.deref.result.now c.push_line.new.pairs.items c.lines.invariant t
    (c.deref.ensures.value ∙ (c.in_ok-places.ensures.value
    ∙ ap (λ (r : Relation). r.pairs) (set_line (g.E.Core.worker c.args.engine.now) (g.E.Core.worker c.lines.engine) c.args.s.now c.lines.i _ c.lines.invariant.keeps c.requires c.lines-test.true c.line.ensures))) c.in_ok-push_line.ensures.items n.keeps n.room n.misses

pub returns-clause-value : goal.returns-clause-value
returns-clause-value g c =
    let laws = g.met.E.Core in
    let e = c.args.engine.now in
    let s = c.args.s.now in
    let w = g.E.Core.worker e in
    let end = c.lines.auto.i-end in
    let stop = c.lines-test.false in
    let all : c.lines.i ≡ s.count = omega (arith, end, stop) in
    laid_listed s.count s.other (line_set w s) c.lines.pairs.items
    (λ k l. record { valid = laws.valid e (line_of s k) (c.requires.lines k l); row_size = laws.row_size e (line_of s k) (c.requires.lines k l); col_size = laws.col_size e (line_of s k) (c.requires.lines k l) })
    (subst (λ (n : ℕ). Adds (up_to (line_set w s) n) [] c.lines.pairs.items) all c.lines.invariant.adds)
