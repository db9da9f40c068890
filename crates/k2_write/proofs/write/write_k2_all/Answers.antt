use Rattle.std.proofs.Common.{◌∙◌, length, ap, arith}
use Rattle.k2_write.specs.Writing.{named_sets, listed_bytes}
use Rattle.k2_write.proofs.Filing.{file_is, bits_are, few_relations, count_named}
use Rattle.k2_write.proofs.write.write_k2_all.Goals as goal

pub returns-then-bits-gt-SAVE_LIMIT-clause-over : goal.returns-then-bits-gt-SAVE_LIMIT-clause-over
returns-then-bits-gt-SAVE_LIMIT-clause-over g c =
    let named = named_sets (g.E.Core.worker c.args.engine.now) c.args.rels.now in
    let is = bits_are named c.in_ok-listing.listing c.as_slice-squares.result.now c.as_slice-relations.result.now c.in-Some.bits c.in_ok-listing.ensures.value
    c.as_slice-squares.ensures.keys c.as_slice-relations.ensures.value c.in-Some.ensures in
    let over = c.if-bits-gt-SAVE_LIMIT.true in
    (omega (arith, is, over), is)

pub overflow_cast-rels : goal.overflow_cast-rels
overflow_cast-rels g c =
    let within = c.if-bits-gt-SAVE_LIMIT.false in
    let bits = c.in-Some.ensures in
    let a = ap length c.as_slice-squares.ensures.keys in
    let b = ap length c.as_slice-relations.ensures.value in
    let few = few_relations (g.E.Core.worker c.args.engine.now) c.args.rels.now c.in_ok-listing.listing c.in_ok-listing.ensures.value (omega (arith, within, bits, a, b)) in
    omega (arith, few)

pub returns-clause-text : goal.returns-clause-text
returns-clause-text g c =
    let w = g.E.Core.worker c.args.engine.now in
    c.in_ok-out.ensures
    ∙ ((λ i. listed_bytes (c.as_slice-squares.ensures.keys i) (length c.args.rels.now) (c.as_slice-relations.ensures.value i))
    ∙ file_is (named_sets w c.args.rels.now) c.in_ok-listing.listing (length c.args.rels.now) c.in_ok-listing.ensures.value (count_named w c.args.rels.now))

pub returns-clause-within : goal.returns-clause-within
returns-clause-within g c =
    let w = g.E.Core.worker c.args.engine.now in
    let named = named_sets w c.args.rels.now in
    let is = bits_are named c.in_ok-listing.listing c.as_slice-squares.result.now c.as_slice-relations.result.now c.in-Some.bits c.in_ok-listing.ensures.value
    c.as_slice-squares.ensures.keys c.as_slice-relations.ensures.value c.in-Some.ensures in
    let same = ap length (returns-clause-text g c) in
    let within = c.if-bits-gt-SAVE_LIMIT.false in
    omega (arith, is, same, within)
