use Rattle.std.proofs.Common.{◌≡◌, ◌∙◌, ℕ, false, Some, refl, sym, ap, subst, arith}
use Rattle.rel_model.specs.declared.Rel.{Rel}
use Rattle.rel_model.specs.Relation.{Relation}
use Rattle.rel_model.specs.Algebra.{HasType}
use Rattle.rel_model.specs.Worker.{set_of, Gives, MakesAtMost}
use Rattle.rel_model.proofs.Workers.{stands_some, gives_set}
use Rattle.rel_rows.specs.Rows.{row_added}
use Rattle.rel_rows.specs.Rooms.{strip_room}
use Rattle.rel_slices.specs.Thin.{line_of, line_set, laid}
use Rattle.rel_slices.proofs.Putting.{grows_first, grows_more, recast, set_line}
use Rattle.rel_slices.proofs.Laying.{rows_below, below_none, below_more, below_all, laid_one}
use Rattle.rel_slices.proofs.whole.as_rows.Goals as goal

pub returns-then-s-eq1-clause-value : goal.returns-then-s-eq1-clause-value
returns-then-s-eq1-clause-value g c =
    let laws = g.met.C.Core in
    let core = c.args.core.now in
    let o = g.C.Core.worker core in
    let s = c.args.s.now in
    let one : s.count ≡ 1 = c.if-s-eq1.true in
    let stands = c.requires.lines 0 (omega (arith, one)) in
    let t : HasType 1 s.other (line_set o s 0) = record { valid = laws.valid core (line_of s 0) stands; row_size = laws.row_size core (line_of s 0) stands; col_size = laws.col_size core (line_of s 0) stands } in
    subst (λ (x : Rel). Gives o s.count s.other (laid false s.count s.other (line_set o s)) x) (sym c.line.ensures)
    (subst (λ (n : ℕ). Gives o n s.other (laid false n s.other (line_set o s)) (line_of s 0)) (sym one)
    (record { means = stands_some o (line_of s 0) stands ∙ ap Some (laid_one s.other (line_set o s) t); row_size = refl; col_size = refl }))

pub lines-init : goal.lines-init
lines-init g c =
    let o = g.C.Core.worker c.args.core.now in
    let w = g.C.Core.worker c.empty.new.self in
    let s = c.args.s.now in
    grows_first o w _ s.count s.other _ c.in_ok-all.all
    (recast w s.count s.other s.count s.other _ _ c.in_ok-all.all refl refl (below_none s.count s.other (line_set o s)) c.in_ok-all.ensures.value)
    c.in_ok-all.ensures.keeps c.in_ok-all.ensures.misses c.in_ok-all.ensures.room

pub lines-preserved : goal.lines-preserved
lines-preserved g c =
    let o = g.C.Core.worker c.args.core.now in
    let now = g.C.Core.worker c.lines.core in
    let next = g.C.Core.worker c.with_row.new.q in
    let s = c.args.s.now in
    let i : ℕ = c.lines.i in
    let r = c.lines.all in
    let h = c.lines.invariant in
    let f : ℕ → Relation = line_set o s in
    let line = c.line-in-lines.result in
    let er : set_of now r ≡ rows_below i s.count s.other f = gives_set now _ _ _ r h.gives in
    let el : set_of now line ≡ f i = set_line o now s i _ h.keeps c.requires c.lines-test.true c.line-in-lines.ensures in
    grows_more o now next _ s.count s.other _ _ i r c.in_ok-all-2.all h c.in_ok-all-2.ensures.keeps c.in_ok-all-2.ensures.cause.done
    (subst (λ (x : ℕ). MakesAtMost (strip_room g.C.Core.least x s.other) now next) h.gives.row_size (subst (λ (x : ℕ). MakesAtMost (strip_room g.C.Core.least r.rows x) now next) h.gives.col_size c.in_ok-all-2.ensures.room))
    (recast next _ _ _ _ _ _ c.in_ok-all-2.all h.gives.row_size h.gives.col_size
    (ap (λ (x : Relation). row_added x i (set_of now line)) er ∙ ap (λ (x : Relation). row_added (rows_below i s.count s.other f) i x) el ∙ below_more i s.count s.other f)
    c.in_ok-all-2.ensures.value)

pub returns-clause-value : goal.returns-clause-value
returns-clause-value g c =
    let o = g.C.Core.worker c.args.core.now in
    let s = c.args.s.now in
    let t = c.lines-test.false in
    recast (g.C.Core.worker c.lines.core) s.count s.other s.count s.other _ _ c.lines.all refl refl (below_all c.lines.i s.count s.other (line_set o s) (omega (arith, t))) c.lines.invariant.gives
