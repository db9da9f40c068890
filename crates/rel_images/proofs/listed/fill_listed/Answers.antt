use Rattle.std.proofs.Common.{◌-◌, ◌^◌, List, ℕ, arith, subst}
use Rattle.std.proofs.lemmas.List.{take_all}
use Rattle.rel_images.specs.Lines.{bits_of, line_under}
use Rattle.rel_images.proofs.Listing.{Listed, listed_none, pair_within, listed_heap}
use Rattle.rel_images.proofs.listed.fill_listed.Goals as goal

pub pairs-init : goal.pairs-init
pairs-init c = let a = c.args in listed_none a.bottom (a.height - a.bottom) a.turned (line_under a.bottom (bits_of a.xs.now) (a.height - a.bottom) 1) a.ys.now c.requires.zeros

pub add_by_pair-requires-clause-within : goal.add_by_pair-requires-clause-within
add_by_pair-requires-clause-within c = (pair_within (2 ^ c.args.height) (2 ^ c.args.height) c.args.pairs.now c.pairs.i-index _ c.requires.within c.pairs-test.true).0

pub add_by_pair-requires-clause-over : goal.add_by_pair-requires-clause-over
add_by_pair-requires-clause-over c = (pair_within (2 ^ c.args.height) (2 ^ c.args.height) c.args.pairs.now c.pairs.i-index _ c.requires.within c.pairs-test.true).1

pub returns : goal.returns
returns c =
    let a = c.args in
    let x = line_under a.bottom (bits_of a.xs.now) (a.height - a.bottom) 1 in
    listed_heap a.bottom a.height c.leaves_of.result a.turned x a.pairs.now c.pairs.ys c.mark.new.xs c.requires.low c.leaves_of.ensures
    (subst (λ (ps : List (ℕ × ℕ)). Listed a.bottom (a.height - a.bottom) a.turned x ps c.pairs.ys) (take_all c.pairs.i-index a.pairs.now (omega (arith, c.pairs-test.false))) c.pairs.invariant) c.mark.ensures
