use Rattle.std.proofs.Common.{◌∙◌, ◌++◌, map, length, drop, ap, arith}
use Rattle.std.proofs.Math.ListN.{drop_of_length-le}
use Rattle.std.proofs.lemmas.List.{append-nil, take_all, length-map}
use Rattle.rel_values.proofs.Turning.{turned_pair, turned_more, turned_pairs}
use Rattle.rel_values.proofs.listing.turn.Goals as goal

pub pairs-preserved : goal.pairs-preserved
pairs-preserved c = turned_more c.args.pairs.now c.pairs.pairs c.pairs.k (0, 0) c.pairs-test.true c.pairs.invariant

pub returns-clause-pairs : goal.returns-clause-pairs
returns-clause-pairs c r v e =
    let n = c.pairs.k in
    let ps = c.args.pairs.now in
    let xs = c.pairs.pairs in
    turned_pairs r ps xs c.sort_unstable.new.self v e
    (c.pairs.invariant ∙ ap (λ zs. map turned_pair zs ++ drop n ps) (take_all n ps (omega (arith, c.pairs-test.false))) ∙ ap (λ zs. map turned_pair ps ++ zs) (drop_of_length-le ps (omega (arith, c.pairs-test.false))) ∙ append-nil (map turned_pair ps))
    c.sort_unstable.ensures.permutation c.sort_unstable.ensures.sorted

pub returns-clause-len : goal.returns-clause-len
returns-clause-len c =
    let n = c.pairs.k in
    let ps = c.args.pairs.now in
    c.sort_unstable.ensures.len
    ∙ ap (λ zs. length zs) (c.pairs.invariant ∙ ap (λ zs. map turned_pair zs ++ drop n ps) (take_all n ps (omega (arith, c.pairs-test.false))) ∙ ap (λ zs. map turned_pair ps ++ zs) (drop_of_length-le ps (omega (arith, c.pairs-test.false))) ∙ append-nil (map turned_pair ps))
    ∙ length-map ps turned_pair
