use Rattle.std.proofs.Common.{◌≡◌, ◌≤◌, ◌^◌, ◌∙◌, ℕ, Result, IfOk, ap, subst, sym}
use Rattle.rel_model.specs.declared.Rel.{Rel}
use Rattle.rel_model.specs.declared.Lack.{Lack}
use Rattle.rel_model.specs.Operators.{full}
use Rattle.rel_model.specs.Roots.{height_over}
use Rattle.rel_model.specs.Worker.{Gives}
use Rattle.rel_model.proofs.Heights.{height_over-rows, height_over-cols}
use Rattle.test_crew.proofs.tests.full_is_a_rectangle.Goals as goal

-- the root is as high as the tree of its sizes
height_is : (g : _) (c : goal.After-rect-arg-1 g) → c.root-root.result.height ≡ height_over g.Q.Core.least c.args.shape.rows c.args.shape.cols
height_is g c =
    let m = c.args.shape.rows in
    let n = c.args.shape.cols in
    let s : Gives (g.Q.Core.worker c.full.new.self) m n (full m n) c.given-full.result = subst (λ (a : Result Rel Lack). IfOk a (Gives (g.Q.Core.worker c.full.new.self) m n (full m n))) c.given-full.ensures c.full.ensures.value in
    c.root-root.ensures.same_height ∙ ap (λ (x : ℕ). height_over g.Q.Core.least x c.given-full.result.cols) s.row_size ∙ ap (λ (y : ℕ). height_over g.Q.Core.least m y) s.col_size

pub rect-requires-clause-row : goal.rect-requires-clause-row
rect-requires-clause-row g c = subst (λ (h : ℕ). c.args.shape.rows ≤ 2 ^ h) (sym (height_is g c)) (height_over-rows g.Q.Core.least c.args.shape.rows c.args.shape.cols c.requires.row)

pub rect-requires-clause-col : goal.rect-requires-clause-col
rect-requires-clause-col g c = subst (λ (h : ℕ). c.args.shape.cols ≤ 2 ^ h) (sym (height_is g c)) (height_over-cols g.Q.Core.least c.args.shape.rows c.args.shape.cols c.requires.col)
