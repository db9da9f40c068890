use Rattle.std.proofs.Common.{◌∙◌, ◌&&◌, sym, ap, not, arith}
use Rattle.rel_model.specs.Cells.{bits_cells, some_below}
use Rattle.rel_model.proofs.Somes.{some_from, some_none}
use Rattle.rel_choice.proofs.leaf.leaves_are_apart.Goals as goal

pub returns-then-row_is_shared : goal.returns-then-row_is_shared
returns-then-row_is_shared c =
    sym (ap not (some_from c.args.side (λ i. some_below c.args.side (bits_cells c.args.side c.args.a i) && some_below c.args.side (bits_cells c.args.side c.args.b i)) c.rows.row c.rows-test.true (sym c.row_is_shared.ensures ∙ c.if-row_is_shared.true)))

pub returns : goal.returns
returns c =
    let l = c.rows-test.false in
    sym (ap not (some_none c.args.side (λ i. some_below c.args.side (bits_cells c.args.side c.args.a i) && some_below c.args.side (bits_cells c.args.side c.args.b i)) (λ k s. c.rows.invariant k (omega arith))))
