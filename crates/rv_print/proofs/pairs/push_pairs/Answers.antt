use Rattle.std.proofs.Common.{◌∙◌, ◌++◌, sym, ap, arith, append_assoc, take, get_or}
use Rattle.std.specs.List.{flat_map}
use Rattle.std.proofs.lemmas.List.{append-nil, take_all}
use Rattle.run_model.specs.Page.{pair_text}
use Rattle.rv_print.proofs.Lines.{pairs-more}
use Rattle.rv_print.proofs.pairs.push_pairs.Goals as goal

pub pairs-init : goal.pairs-init
pairs-init c = sym (append-nil c.args.out.now.items)

pub pairs-preserved : goal.pairs-preserved
pairs-preserved c =
    let ps = c.args.pairs.now in
    let k = c.pairs.pair-index in
    let old = c.args.out.now.items in
    let p = get_or ps k (0, 0) in
    c.in_ok-push_pair.ensures ∙ ap (λ zs. zs ++ pair_text p) c.pairs.invariant ∙ append_assoc old (flat_map pair_text (take k ps)) (pair_text p) ∙ ap (λ zs. old ++ zs) (sym (pairs-more pair_text ps k (0, 0) c.pairs-test.true))

pub returns : goal.returns
returns c = c.pairs.invariant ∙ ap (λ zs. c.args.out.now.items ++ flat_map pair_text zs) (take_all c.pairs.pair-index c.args.pairs.now (omega (arith, c.pairs-test.false)))
