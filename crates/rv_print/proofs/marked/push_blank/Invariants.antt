use Rattle.std.proofs.Common.{◌≡◌, ◌++◌, []}
use Rattle.std.specs.List.{range_with_len, flat_map}
use Rattle.run_model.specs.Texts.{row_text}
use Rattle.rv_print.specs.Listed.{with_pairs}
use Rattle.rv_print.proofs.marked.push_blank.Given as goal

-- the lines so far
abbrev pub invariant-rows : goal.invariant-rows
invariant-rows l = l.out.items ≡ l.fn.out.items ++ flat_map (row_text (with_pairs l.fn.shape.rows l.fn.shape.cols [])) (range_with_len 0 l.counter)
