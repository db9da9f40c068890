use Rattle.std.proofs.Common.{◌∙◌, refl, arith, length, get_or}
use Rattle.rel_joins.proofs.Uniting.{uniting_none, uniting_more, uniting_all, successors, reaches_step, ends_within}
use Rattle.rel_joins.proofs.columns.close_columns.Goals as goal

pub elements-init : goal.elements-init
elements-init c = uniting_none c.args.col c.args.rows.now c.requires.bare

pub reached-requires : goal.reached-requires
reached-requires c =
    let s = c.requires.size in
    let e = c.elements.invariant.len in
    record { ends = c.row_of.ensures.ends (length c.elements.rows) (ends_within c.args.pairs.now (omega (arith, s, e)) c.requires.within) }

pub elements-preserved : goal.elements-preserved
elements-preserved c =
    let x = get_or c.args.order.now c.elements.x-index 0 in
    uniting_more x c.reached.result c.requires.order c.requires.size c.elements.invariant (omega (arith, c.elements-test.true)) refl refl
    (λ j i. c.reached.ensures j i ∙ reaches_step c.args.n x c.args.col c.args.pairs.now c.row_of.result.now c.elements.rows c.requires.within c.requires.sorted c.row_of.ensures.among j
    (successors x c.requires.order c.elements.invariant (omega (arith, c.elements-test.true)) refl j i))

pub returns-clause-cells : goal.returns-clause-cells
returns-clause-cells c = uniting_all c.requires.within c.requires.sorted c.requires.order c.elements.invariant (omega (arith, c.elements-test.false))
