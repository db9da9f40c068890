use Rattle.std.proofs.Common.{◌≡◌, take}
use Rattle.run_model.specs.Texts.{rows_text}
use Rattle.rv_print.specs.Listed.{with_pairs}
use Rattle.rv_print.proofs.marked.mark_pairs.Given as goal

-- the pairs so far are marked
abbrev pub invariant-pairs : goal.invariant-pairs
invariant-pairs l = l.cells ≡ rows_text (with_pairs l.fn.shape.rows l.fn.shape.cols (take l.pair-index l.fn.pairs))
