use Rattle.std.proofs.Common.{◌≡◌, ◌∙◌, ℕ, true, refl, ap}
use Rattle.rel_slices.specs.Thin.{line_set}
use Rattle.rel_model.specs.Relation.{Relation, has}
use Rattle.rel_model.specs.Operators.{transpose}
use Rattle.rel_model.specs.Worker.{set_of}
use Rattle.rel_model.proofs.Workers.{gives_set}
use Rattle.rel_slices.specs.Thin.{laid}
use Rattle.rel_slices.specs.Ops.{picked}
use Rattle.rel_slices.proofs.Putting.{line_later}
use Rattle.rel_slices.proofs.Laying.{laid_agree, picked_agree}
use Rattle.rel_slices.proofs.Valuing.{recast_value, lines_value}
use Rattle.rel_slices.proofs.Products.{columns_few_value}
use Rattle.rel_slices.proofs.few.columns_by_few.Goals as goal

pub returns-clause-value : goal.returns-clause-value
returns-clause-value g c =
    let laws = g.met.C.Core in
    let o = g.C.Core.worker c.args.core.now in
    let w1 = g.C.Core.worker c.transpose.new.self in
    let w = g.C.Core.worker c.pick_lines.new.core in
    let a = c.args.a.now in
    let s = c.args.s in
    let t = c.in_ok-turned.turned in
    let tv = c.in_ok-turned.ensures.value in
    let et : set_of w1 t ≡ transpose (set_of o s) = gives_set w1 _ _ _ t tv in
    recast_value w _ _ _ _ _ _ _ refl tv.row_size
    (ap (λ (x : ℕ). laid true x a.other (λ j. picked a.count a.other (has (set_of w1 t) j) (line_set w1 a))) tv.row_size
    ∙ ap (λ (x : Relation). laid true s.cols a.other (λ j. picked a.count a.other (has x j) (line_set w1 a))) et
    ∙ laid_agree true s.cols a.other (λ j. picked a.count a.other (has (transpose (set_of o s)) j) (line_set w1 a)) (λ j. picked a.count a.other (has (transpose (set_of o s)) j) (line_set o a))
    (λ j l. picked_agree a.count a.other (has (transpose (set_of o s)) j) (line_set w1 a) (line_set o a) (λ i k. line_later o w1 a c.in_ok-turned.ensures.keeps c.requires.left i k))
    ∙ columns_few_value o a s (record { valid = laws.valid c.args.core.now s c.requires.right; row_size = laws.row_size c.args.core.now s c.requires.right; col_size = laws.col_size c.args.core.now s c.requires.right }) c.requires.columns c.requires.middle)
    (lines_value w _ _ _ _ c.in_ok-lines.lines c.in_ok-lines.ensures.lines)
