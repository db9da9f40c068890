use Rattle.std.proofs.Common.{refl, arith, get_or}
use Rattle.std.proofs.lemmas.List.{drop_all}
use Rattle.rel_listing.proofs.Strips.{drop_next}
use Rattle.rel_listing.proofs.RowSteps.{word_fits, rowing_none, rowing_more, rowing_all}
use Rattle.rel_listing.proofs.rows.list_row.Goals as goal

pub leaves-init : goal.leaves-init
leaves-init c = rowing_none c.args.side c.args.row c.args.i c.args.pairs.now.items refl c.requires.spaced

pub list_bits-requires-clause-columns : goal.list_bits-requires-clause-columns
list_bits-requires-clause-columns c =
    let words = c.args.words.now in
    word_fits c.args.side c.leaves.invariant.at (get_or words c.leaves.bits-index (0, 0)) _ _ (drop_next words c.leaves.bits-index (0, 0) c.leaves-test.true) c.leaves.invariant.rest_is

pub leaves-preserved : goal.leaves-preserved
leaves-preserved c =
    let words = c.args.words.now in
    rowing_more (get_or words c.leaves.bits-index (0, 0)) (drop_next words c.leaves.bits-index (0, 0) c.leaves-test.true) c.in_ok-list_bits.ensures c.leaves.invariant

pub returns : goal.returns
returns c = rowing_all (drop_all c.leaves.bits-index c.args.words.now (omega (arith, c.leaves-test.false))) c.leaves.invariant
