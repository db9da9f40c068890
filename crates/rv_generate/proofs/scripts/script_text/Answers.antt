use Rattle.std.proofs.Common.{◌∙◌, ◌∷◌, [], ◌++◌, ap, codes}
use Rattle.std.specs.Fmt.{decimal}
use Rattle.rv_generate.specs.Generator.{rows_text, closure_text, counts_text, script_text}
use Rattle.rv_generate.proofs.Behind.{begun, then_one}
use Rattle.rv_generate.proofs.scripts.script_text.Goals as goal

pub returns-clause-text : goal.returns-clause-text
unfolding script_text
returns-clause-text c =
    let old = c.new-out.result.items in
    let x = c.args.draws.now.state in
    let s = c.args.s in
    let name = codes "REL G" ++ decimal s in
    let sizes = name ++ codes " 64 64 {" in
    let rows = sizes ++ rows_text x 63 in
    let graph = rows ++ codes "}." in
    let closure = graph ++ closure_text s in
    let counts = closure ++ counts_text s in
    let named = begun old _ (codes "REL G") (decimal s) c.in_ok-push_with_number.ensures in
    let sized = then_one old _ _ name (codes " 64 64 {") named c.in_ok-extend_from_slice.ensures.items in
    let listed = then_one old _ _ sizes (rows_text x 63) sized c.in_ok-push_rows.ensures.text in
    let drawn = then_one old _ _ rows (codes "}.") listed c.in_ok-extend_from_slice-2.ensures.items in
    let closed = then_one old _ _ graph (closure_text s) drawn c.in_ok-push_closure.ensures in
    let counted = then_one old _ _ closure (counts_text s) closed c.in_ok-push_counts.ensures in
    then_one old _ _ counts (10 ∷ []) counted c.in_ok-push.ensures.items
    ∙ ap (λ zs. zs ++ script_text x s) c.new-out.ensures.items
