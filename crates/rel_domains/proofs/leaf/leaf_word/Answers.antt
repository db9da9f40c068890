use Rattle.std.proofs.Common.{◌≡◌, ◌<◌, ◌+◌, ◌-◌, ◌^◌, ◌∙◌, ℕ, eqb, take, get_or, length, ap, sym, subst, arith, bit_or}
use Rattle.std.proofs.Math.Seq.{take-length}
use Rattle.std.specs.Int.{bit_at}
use Rattle.std.proofs.lemmas.Nat.{mul-pow}
use Rattle.rel_domains.specs.Curve.{holds}
use Rattle.rel_domains.proofs.Leaves.{few_cells, place_from, one_more, shifted, still_small, leaf_cells}
use Rattle.rel_domains.proofs.leaf.leaf_word.Goals as goal

pub overflow_shl-bits : goal.overflow_shl-bits
overflow_shl-bits c =
    let p = place_from c.args.base (c.args.base + 4 ^ c.args.least) c.args.places.now c.places.place-index c.requires.from c.places-test.true in
    omega (arith, p.0, p.1, few_cells c.args.least c.requires.low)

pub places-preserved : goal.places-preserved
places-preserved c =
    let x = get_or c.args.places.now c.places.place-index 0 in
    let p = place_from c.args.base (c.args.base + 4 ^ c.args.least) c.args.places.now c.places.place-index c.requires.from c.places-test.true in
    let f = few_cells c.args.least c.requires.low in
    let s : x - c.args.base < 4 ^ c.args.least = omega (arith, p.0, p.1) in
    let e = shifted (x - c.args.base) (omega arith) in
    subst (λ w. ((k : ℕ) → eqb (bit_at (bit_or c.places.bits w) k) 1 ≡ holds (take (c.places.place-index + 1) c.args.places.now) (c.args.base + k)) × (bit_or c.places.bits w < 2 ^ (4 ^ c.args.least))) (sym e)
    (one_more c.args.base c.places.bits c.places.place-index c.args.places.now c.places-test.true p.0 c.places.invariant.0, still_small (4 ^ c.args.least) c.places.bits (x - c.args.base) c.places.invariant.1 s)

pub returns-clause-cells : goal.returns-clause-cells
returns-clause-cells c = leaf_cells c.args.least c.args.base c.places.bits c.args.places.now (λ k. c.places.invariant.0 k ∙ ap (λ xs. holds xs (c.args.base + k)) whole)
  where
    whole : take c.places.place-index c.args.places.now ≡ c.args.places.now
    whole = let a = c.places.auto.place-index-end in let b = c.places-test.false in let e : c.places.place-index ≡ length c.args.places.now = omega arith in ap (λ n. take n c.args.places.now) e ∙ take-length c.args.places.now

pub returns-clause-none_past : goal.returns-clause-none_past
returns-clause-none_past c = subst (λ n. c.places.bits < 2 ^ n) (mul-pow 2 2 c.args.least) c.places.invariant.1
