use Rattle.std.proofs.Common.{◌≡◌, ◌++◌, arith}
use Rattle.std.specs.Prelude.{codes}
use Rattle.std.specs.Fmt.{decimal}
use Rattle.run_model.specs.Texts.{place_text, type_fault_text}
use Rattle.rv_print.proofs.Chains.{part_more, where_numbered}
use Rattle.rv_print.proofs.faults.push_arity.Goals as goal

pub returns : goal.returns
unfolding type_fault_text
returns c =
    let said = place_text c.args.at ++ c.args.name.now ++ codes " takes " in
    let takes : c.push_number.new.out.items ≡ c.push_said.new.out.items ++ decimal c.args.takes = grind (arith, c.in_ok-push_number.ensures, c.from.ensures) in
    where_numbered _ c.args.out.now.items (said ++ decimal c.args.takes) (codes " arguments, not ") c.push_number.new.out.items c.push_number_after.new.out.items _ c.args.given c.from-2.ensures
    c.push_number_after.ensures (part_more c.args.out.now.items said (decimal c.args.takes) _ _ takes c.in_ok-push_said.ensures)
