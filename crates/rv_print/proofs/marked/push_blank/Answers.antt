use Rattle.std.proofs.Common.{◌++◌, ◌∙◌, [], ap, arith}
use Rattle.std.specs.List.{range_with_len, flat_map}
use Rattle.run_model.specs.Texts.{row_text, rows_text}
use Rattle.rv_print.specs.Listed.{with_pairs}
use Rattle.rv_print.proofs.Setting.{blank-more}
use Rattle.rv_print.proofs.marked.push_blank.Goals as goal

pub rows-preserved : goal.rows-preserved
rows-preserved c =
    blank-more c.args.shape.rows c.args.shape.cols c.rows.counter c.args.out.now.items c.rows.out.items c.push_none.new.out.items c.push.new.self.items
    c.rows.invariant c.in_ok-push_none.ensures c.in_ok-push.ensures.items

pub returns : goal.returns
unfolding rows_text
returns c =
    let none = with_pairs c.args.shape.rows c.args.shape.cols [] in
    c.rows.invariant ∙ ap (λ n. c.args.out.now.items ++ flat_map (row_text none) (range_with_len 0 n)) (omega arith)
