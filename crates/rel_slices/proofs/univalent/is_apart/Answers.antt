use Rattle.std.proofs.Common.{◌≡◌, ◌<◌, ◌∙◌, ℕ, sym, ap, arith}
use Rattle.rel_model.specs.declared.Rel.{Rel}
use Rattle.rel_model.specs.Relation.{Relation}
use Rattle.rel_model.specs.Algebra.{HasType}
use Rattle.rel_model.specs.Worker.{set_of}
use Rattle.rel_slices.specs.Thin.{line_set}
use Rattle.rel_slices.specs.Ops.{meet}
use Rattle.rel_slices.proofs.Putting.{set_line, stands_line}
use Rattle.rel_slices.proofs.Univalents.{lines_meet, tried_none, tried_more, found_one, meets_is}
use Rattle.rel_slices.proofs.univalent.is_apart.Given.{Over}
use Rattle.rel_slices.proofs.univalent.is_apart.Goals.{After-meets}
use Rattle.rel_slices.proofs.univalent.is_apart.Goals as goal

-- what the call tells of the two lines
told : (g : Over) (c : After-meets g) → lines_meet (g.C.Core.worker c.args.core.now) c.args.s.now c.args.j c.earlier.k ≡ c.meets.result
told g c =
    let laws = g.met.C.Core in
    let o = g.C.Core.worker c.args.core.now in
    let now = g.C.Core.worker c.earlier.core in
    let s = c.args.s.now in
    let j : ℕ = c.args.j in
    let k : ℕ = c.earlier.k in
    let v = c.earlier.invariant in
    let lt = c.earlier-test.true in
    let place = c.requires.place in
    let lk : k < s.count = omega (arith, lt, place) in
    let u = c.line.result in
    let w = c.line-in-earlier.result in
    let eu = set_line o now s k u v.keeps c.requires.standing lk c.line.ensures in
    let ew = set_line o now s j w v.keeps c.requires.standing place c.line-in-earlier.ensures in
    let su = stands_line o now s k u v.keeps c.requires.standing lk c.line.ensures in
    let ru : u.rows ≡ 1 = ap (λ (x : Rel). x.rows) c.line.ensures in
    let cu : u.cols ≡ s.other = ap (λ (x : Rel). x.cols) c.line.ensures in
    let y : HasType 1 s.other (set_of now u) = record { valid = laws.valid c.earlier.core u su; row_size = laws.row_size c.earlier.core u su ∙ ru; col_size = laws.col_size c.earlier.core u su ∙ cu } in
    ap (λ (x : Relation). meet s.other x (line_set o s j)) (sym eu) ∙ ap (meet s.other (set_of now u)) (sym ew) ∙ meets_is now s.other u w c.meets.result y ru cu c.meets.ensures.value

pub earlier-init : goal.earlier-init
earlier-init g c = tried_none _ _

pub returns-then-meets-clause-value : goal.returns-then-meets-clause-value
returns-then-meets-clause-value g c =
    found_one c.args.j (lines_meet (g.C.Core.worker c.args.core.now) c.args.s.now c.args.j) c.earlier.k c.earlier-test.true (told g (goal.at.returns-then-meets-clause-value g c).After-meets ∙ c.if-meets.true)

pub earlier-preserved : goal.earlier-preserved
earlier-preserved g c =
    let m = c.meets.ensures in
    tried_more _ (g.C.Core.worker c.earlier.core) (g.C.Core.worker c.meets.new.self) _ c.earlier.k c.earlier.invariant (told g (goal.at.earlier-preserved g c).After-meets ∙ c.if-meets.false) m.keeps m.room m.misses
