use Rattle.std.proofs.Common.{arith}
use Rattle.rel_plain.proofs.Composing.{parts, on_ok, first_through, second_through}
use Rattle.rel_plain.proofs.compose.+push_through.Goals as goal

pub push_through-requires : goal.push_through-requires
push_through-requires t c =
    let s = parts _ c.split_at.result.0.now c.split_at.result.1.now c.args.pairs.now c.requires c.split_at.ensures.front c.split_at.ensures.back in
    let a = c.split_at.ensures.back_len in let b = c.if-pairs-eq0.false in let d = c.if-pairs-eq1.false in
    (omega (arith, a, b, d), s.back)

pub push_through-requires-then-j-row : goal.push_through-requires-then-j-row
push_through-requires-then-j-row t c =
    let s = parts _ c.split_at.result.0.now c.split_at.result.1.now c.args.pairs.now c.requires c.split_at.ensures.front c.split_at.ensures.back in
    let a = c.split_at.ensures.front_len in let b = c.if-pairs-eq0.false in let d = c.if-pairs-eq1.false in
    (omega (arith, a, b, d), s.front)

pub push_through-requires-2 : goal.push_through-requires-2
push_through-requires-2 t c =
    let s = parts _ c.split_at.result.0.now c.split_at.result.1.now c.args.pairs.now c.requires c.split_at.ensures.front c.split_at.ensures.back in
    let a = c.split_at.ensures.front_len in let b = c.if-pairs-eq0.false in let d = c.if-pairs-eq1.false in
    (omega (arith, a, b, d), s.front)

pub push_through-requires-3 : goal.push_through-requires-3
push_through-requires-3 t c =
    let s = parts _ c.split_at.result.0.now c.split_at.result.1.now c.args.pairs.now c.requires c.split_at.ensures.front c.split_at.ensures.back in
    let a = c.split_at.ensures.back_len in let b = c.if-pairs-eq0.false in let d = c.if-pairs-eq1.false in
    (omega (arith, a, b, d), s.back)

pub returns-then-row-j-2 : goal.returns-then-row-j-2
returns-then-row-j-2 t c =
    let s = parts _ c.split_at.result.0.now c.split_at.result.1.now c.args.pairs.now c.requires c.split_at.ensures.front c.split_at.ensures.back in
    let a = c.split_at.ensures.back_len in let b = c.if-pairs-eq0.false in let d = c.if-pairs-eq1.false in
    on_ok c.push_through.result _ _ (second_through c.args.i c.args.j c.args.out.now.items c.push_through.new.out.items c.split_at.result.0.now c.split_at.result.1.now c.args.pairs.now (0, 0) s.whole c.requires (omega (arith, a, b, d)) c.if-row-j-2.true) c.push_through.ensures

pub returns-then-j-row : goal.returns-then-j-row
returns-then-j-row t c =
    let s = parts _ c.split_at.result.0.now c.split_at.result.1.now c.args.pairs.now c.requires c.split_at.ensures.front c.split_at.ensures.back in
    let a = c.split_at.ensures.back_len in let b = c.if-pairs-eq0.false in let d = c.if-pairs-eq1.false in
    on_ok c.push_through-then-j-row.result _ _ (first_through c.args.i c.args.j c.args.out.now.items c.push_through-then-j-row.new.out.items c.split_at.result.0.now c.split_at.result.1.now c.args.pairs.now (0, 0) s.whole c.requires (omega (arith, a, b, d)) c.if-j-row.true) c.push_through-then-j-row.ensures
