use Rattle.std.proofs.Common.{◌≡◌, ◌++◌, arith}
use Rattle.std.specs.Prelude.{codes}
use Rattle.std.specs.Fmt.{decimal}
use Rattle.run_model.specs.Texts.{outcome_text}
use Rattle.rv_print.proofs.Chains.{where_ok, where_more, numbered_more}
use Rattle.rv_print.proofs.faults.push_changed.Goals as goal

pub returns : goal.returns
unfolding outcome_text
returns c =
    let old = c.args.out.now.items in
    let name = c.args.name.now in
    let named : c.extend_from_slice.new.self.items ≡ old ++ name = grind (arith, c.in_ok-extend_from_slice.ensures.items, c.bytes.ensures) in
    let seen : c.push_number_after.new.out.items ≡ old ++ ((name ++ codes " changed: version ") ++ decimal c.args.seen) =
    numbered_more old name (codes " changed: version ") _ _ c.args.seen c.in_ok-push_number_after.ensures named in
    let found : c.push_number_after-2.new.out.items
    ≡ old ++ ((((name ++ codes " changed: version ") ++ decimal c.args.seen) ++ codes " at the read, ") ++ decimal c.args.found) =
    numbered_more old ((name ++ codes " changed: version ") ++ decimal c.args.seen) (codes " at the read, ") _ _ c.args.found c.in_ok-push_number_after-2.ensures seen in
    where_more _ old ((((name ++ codes " changed: version ") ++ decimal c.args.seen) ++ codes " at the read, ") ++ decimal c.args.found) (codes " at the commit") _ _
    (where_ok _ _ _ _ c.extend_from_slice-2.ensures.items) found
