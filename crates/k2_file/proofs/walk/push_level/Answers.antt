use Rattle.std.proofs.Common.{◌<◌, ◌+◌, ◌∙◌, ◌^◌, length, refl, sym, subst, arith}
use Rattle.std.proofs.lemmas.List.{append-nil}
use Rattle.rel_model.proofs.Workers.{keeps_itself, keeps_trans}
use Rattle.k2_file.proofs.WriteWalk.{none-yet, same-at, level-more, next-more, square-now}
use Rattle.k2_file.proofs.walk.push_level.Goals as goal

pub squares-init : goal.squares-init
squares-init g c = record {
  bits = sym (append-nil c.args.bits.now.items);
  next = none-yet (g.E.Core.worker c.args.engine.now) g.E.Core.least c.args.height c.new-next.result.items c.new-next.ensures.items;
  keeps = keeps_itself _;
  room = omega arith;
  misses = refl;
}

pub push_square-requires-clause-next : goal.push_square-requires-clause-next
push_square-requires-clause-next g c = c.squares.invariant.next.sound

pub push_square-requires-clause-square : goal.push_square-requires-clause-square
push_square-requires-clause-square g c =
    let xs = c.args.squares.now.items in
    let i = c.squares.square-index in
    let same = c.deref-square-items.ensures.value in
    let here : i < length xs = subst (λ zs. i < length zs) same c.squares-test.true in
    square-now (g.E.Core.worker c.args.engine.now) (g.E.Core.worker c.squares.engine) g.E.Core.least (c.args.height + 1) xs i _ c.squares.invariant.keeps c.requires here (same-at xs c.deref-square-items.result.now i _ same here)

pub squares-preserved : goal.squares-preserved
squares-preserved g c =
    let a = g.E.Core.worker c.args.engine.now in
    let b = g.E.Core.worker c.squares.engine in
    let least = g.E.Core.least in
    let h = c.args.height in
    let xs = c.args.squares.now.items in
    let i = c.squares.square-index in
    let inv = c.squares.invariant in
    let done = c.in_ok-push_square.ensures in
    let same = c.deref-square-items.ensures.value in
    let here : i < length xs = subst (λ zs. i < length zs) same c.squares-test.true in
    record {
      bits = level-more a b least h (2 ^ h) xs i _ c.args.bits.now.items c.squares.bits.items c.push_square.new.bits.items
          inv.keeps c.requires here (same-at xs c.deref-square-items.result.now i _ same here) inv.bits done.bits;
      next = next-more a b (g.E.Core.worker c.push_square.new.engine) least h xs i _ c.squares.next.items c.push_square.new.next.items
          inv.keeps c.requires here (same-at xs c.deref-square-items.result.now i _ same here) inv.next done.next;
      keeps = keeps_trans _ _ _ inv.keeps done.keeps;
      room = omega (arith, inv.room, done.room);
      misses = done.misses ∙ inv.misses;
    }
