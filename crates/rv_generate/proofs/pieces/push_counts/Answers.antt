use Rattle.std.proofs.Common.{◌++◌, codes}
use Rattle.std.specs.Fmt.{decimal}
use Rattle.rv_generate.specs.Generator.{counts_text}
use Rattle.rv_generate.proofs.Behind.{begun, then_one, then_two}
use Rattle.rv_generate.proofs.pieces.push_counts.Goals as goal

pub returns : goal.returns
unfolding counts_text
returns c =
    let old = c.args.out.now.items in
    let n = decimal c.args.s in
    let one = codes " COUNT C" ++ n in
    let two = one ++ codes " & C" ++ n in
    let three = two ++ codes "^. COUNT syq(C" ++ n in
    let four = three ++ codes ",C" ++ n in
    let first = begun old _ (codes " COUNT C") n c.in_ok-push_with_number.ensures in
    let second = then_two old _ _ one (codes " & C") n first c.in_ok-push_with_number-2.ensures in
    let third = then_two old _ _ two (codes "^. COUNT syq(C") n second c.in_ok-push_with_number-3.ensures in
    let fourth = then_two old _ _ three (codes ",C") n third c.in_ok-push_with_number-4.ensures in
    then_one old _ _ four (codes ").") fourth c.in_ok-extend_from_slice.ensures.items
