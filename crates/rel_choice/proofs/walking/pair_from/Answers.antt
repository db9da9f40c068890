use Rattle.std.proofs.Common.{◌^◌, ℕ, sym, subst, None}
use Rattle.rel_model.specs.Cells.{Cells}
use Rattle.rel_model.specs.Trees.{top_height}
use Rattle.rel_model.specs.Worker.{quad_set}
use Rattle.rel_choice.specs.Leasts.{Least, IsLeast, IsLeastPair, row_meets, from_row}
use Rattle.rel_steps.proofs.Given.{kept_set}
use Rattle.rel_choice.proofs.Nearest.{pair-none, pair-some, row-has_least}
use Rattle.rel_choice.proofs.walking.pair_from.Goals as goal

pub side_of-side-requires : goal.side_of-side-requires
unfolding top_height
side_of-side-requires g c = g.met.Q.Quads.high_height c.args.q.now c.args.quad c.requires

pub returns-in_err-row-clause-value : goal.returns-in_err-row-clause-value
returns-in_err-row-clause-value g c =
    let w = g.Q.Core.worker c.args.q.now in
    let f : Cells = quad_set w c.args.quad in
    let side : ℕ = 2 ^ c.args.quad.height in
    let none : IsLeast (row_meets side f) c.args.from side None = subst (λ (x : ℕ). IsLeast (row_meets side f) c.args.from x None) c.side_of-side.ensures c.in_err-row.ensures.value in
    subst (λ o. IsLeastPair f (from_row c.args.from) o) (sym c.from_residual.ensures) (pair-none f side c.args.from (g.met.Q.Quads.square c.args.q.now c.args.quad c.requires) none)

pub returns-in_err-column-clause-value : goal.returns-in_err-column-clause-value
returns-in_err-column-clause-value g c =
    let w = g.Q.Core.worker c.args.q.now in
    let v = g.Q.Core.worker c.row_from.new.q in
    let f : Cells = quad_set w c.args.quad in
    let side : ℕ = 2 ^ c.args.quad.height in
    let row : Least (row_meets side f) c.args.from side c.in_ok-row.row = subst (λ (x : ℕ). Least (row_meets side f) c.args.from x c.in_ok-row.row) c.side_of-side.ensures c.in_ok-row.ensures.value in
    let e = kept_set w v c.args.quad c.in_ok-row.ensures.keeps c.requires in
    let here : IsLeast (f c.in_ok-row.row) 0 c.side_of-side.result None = subst (λ (h : Cells). IsLeast (h c.in_ok-row.row) 0 c.side_of-side.result None) e c.in_err-column.ensures.value in
    let none : IsLeast (f c.in_ok-row.row) 0 side None = subst (λ (x : ℕ). IsLeast (f c.in_ok-row.row) 0 x None) c.side_of-side.ensures here in
    absurd (row-has_least f side c.args.from c.in_ok-row.row row none)

pub returns-clause-value : goal.returns-clause-value
returns-clause-value g c =
    let w = g.Q.Core.worker c.args.q.now in
    let v = g.Q.Core.worker c.row_from.new.q in
    let f : Cells = quad_set w c.args.quad in
    let side : ℕ = 2 ^ c.args.quad.height in
    let row : Least (row_meets side f) c.args.from side c.in_ok-row.row = subst (λ (x : ℕ). Least (row_meets side f) c.args.from x c.in_ok-row.row) c.side_of-side.ensures c.in_ok-row.ensures.value in
    let e = kept_set w v c.args.quad c.in_ok-row.ensures.keeps c.requires in
    let here : Least (f c.in_ok-row.row) 0 c.side_of-side.result c.in_ok-column.column = subst (λ (h : Cells). Least (h c.in_ok-row.row) 0 c.side_of-side.result c.in_ok-column.column) e c.in_ok-column.ensures.value in
    let column : Least (f c.in_ok-row.row) 0 side c.in_ok-column.column = subst (λ (x : ℕ). Least (f c.in_ok-row.row) 0 x c.in_ok-column.column) c.side_of-side.ensures here in
    pair-some f side c.args.from c.in_ok-row.row c.in_ok-column.column (g.met.Q.Quads.square c.args.q.now c.args.quad c.requires) row column
