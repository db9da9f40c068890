use Rattle.std.proofs.Common.{◌∙◌, ◌++◌, ap}
use Rattle.std.specs.Prelude.{codes}
use Rattle.std.specs.Fmt.{decimal}
use Rattle.run_model.specs.Texts.{unit_text, unit_limit, outcome_text}
use Rattle.rv_print.proofs.Chains.{part_more, where_numbered}
use Rattle.rv_print.proofs.faults.push_too_large.Goals as goal

pub returns : goal.returns
unfolding outcome_text
returns c =
    let unit = c.in_ok-extend_from_slice.ensures.items ∙ ap (λ t. c.push_number.new.out.items ++ t) c.unit_name.ensures in
    where_numbered _ c.args.out.now.items (decimal c.args.wanted ++ unit_text c.args.unit) (codes " pass the limit ") c.extend_from_slice.new.self.items c.push_number_after.new.out.items _ (unit_limit c.args.unit) c.limit_of.ensures
    c.push_number_after.ensures (part_more c.args.out.now.items (decimal c.args.wanted) (unit_text c.args.unit) _ _ unit c.in_ok-push_number.ensures)
