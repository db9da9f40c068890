use Rattle.std.proofs.Common.{refl, arith}
use Rattle.rel_model.specs.declared.Quad.{Quad}
use Rattle.fork_quads.proofs.Products.{raised_value}
use Rattle.rel_model.proofs.QuadLaws.{keeps_itself, keeps_on, keeps_most, counts_on}
use Rattle.fork_quads.proofs.product.+raised.Goals as goal

pub returns-clause-value : goal.returns-clause-value
returns-clause-value t c =
    let none : Quad = record { height = c.args.q.height; name = 0 } in
    raised_value c.args.nodes.now c.corner.new.self c.raised.new.nodes c.args.height c.args.q c.in_ok-next.next none c.raised.result c.bottom.ensures.work refl c.in_ok-next.ensures.value c.raised.ensures.value

pub returns-then-q-height-clause-keeps : goal.returns-then-q-height-clause-keeps
returns-then-q-height-clause-keeps t c = keeps_itself c.args.nodes.now _ c.bottom.ensures.work

pub returns-in_err-next-clause-keeps : goal.returns-in_err-next-clause-keeps
returns-in_err-next-clause-keeps t c =
    let low = c.requires.low in
    let less = c.if-q-height.false in
    keeps_most _ _ c.args.nodes.now c.corner.new.self (omega (arith, low, less)) c.in_err-next.ensures.keeps

pub raised-requires : goal.raised-requires
raised-requires t c =
    let low = c.requires.low in
    let less = c.if-q-height.false in
    let d = c.decreases in
    let e = c.in_ok-next.ensures.value.same_height in
    (omega (arith, low, less, d, e), (c.in_ok-next.ensures.value.stands, (omega (arith, low, less, e), c.requires.high)))

pub returns-clause-keeps : goal.returns-clause-keeps
returns-clause-keeps t c =
    let low = c.requires.low in
    let less = c.if-q-height.false in
    let e = c.in_ok-next.ensures.value.same_height in
    keeps_most _ _ c.args.nodes.now c.raised.new.nodes (omega (arith, low, less, e)) (keeps_on _ _ c.args.nodes.now c.corner.new.self c.raised.new.nodes c.in_ok-next.ensures.keeps c.raised.ensures.keeps)

pub returns-clause-counts : goal.returns-clause-counts
returns-clause-counts t c = counts_on c.args.nodes.now c.corner.new.self c.raised.new.nodes c.raised.result c.in_ok-next.ensures.counts c.raised.ensures.counts
