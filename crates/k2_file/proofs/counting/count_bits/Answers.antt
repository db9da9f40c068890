use Rattle.std.proofs.Common.{◌≡◌, ◌^◌, ◌∙◌, ℕ, sym, subst, arith}
use Rattle.std.specs.Prelude.{IfOk}
use Rattle.rel_model.specs.Relation.{has}
use Rattle.rel_model.specs.Worker.{set_of}
use Rattle.k2_file.specs.Squares.{piece}
use Rattle.k2_file.proofs.WriteHeights.{file_height-high, file_height-low, file_height-sizes}
use Rattle.k2_file.proofs.WriteLevels.{count-under}
use Rattle.k2_file.proofs.WriteCounts.{part-under}
use Rattle.k2_file.proofs.counting.count_bits.Goals as goal

pub counted_part-requires-clause-high : goal.counted_part-requires-clause-high
counted_part-requires-clause-high g c = let h = file_height-high c.args.rel.rows c.args.rel.cols in omega (arith, h, c.requires.height)

pub returns-clause-value : goal.returns-clause-value
returns-clause-value g c =
    let w = g.E.Core.worker c.args.engine.now in
    let R = set_of w c.args.rel in
    let h : ℕ = c.args.height in
    let low = file_height-low c.args.rel.rows c.args.rel.cols in
    let e = file_height-sizes h c.args.rel.rows c.args.rel.cols R.rows R.cols c.requires.height (g.met.E.Core.row_size c.args.engine.now c.args.rel c.requires.stands) (g.met.E.Core.col_size c.args.engine.now c.args.rel c.requires.stands) in
    let u = part-under (g.E.Core.worker c.first_square-first.new.engine) g.E.Core.least h (piece (2 ^ h) 0 0 (has R)) c.first_square-first.result c.first_square-first.ensures.shows in
    subst (λ (z : ℕ). IfOk c.counted_part.result (λ (x : ℕ). x ≡ z)) (u ∙ sym (count-under R h e (omega (arith, low, c.requires.height)))) c.counted_part.ensures.value
