use Rattle.std.proofs.Common.{◌<◌, ◌∙◌, length, refl, sym, subst, arith}
use Rattle.std.proofs.lemmas.List.{append-nil}
use Rattle.rel_model.proofs.Workers.{keeps_itself, keeps_trans}
use Rattle.k2_file.proofs.WriteWalk.{same-at, level-more, square-now}
use Rattle.k2_file.proofs.walk.push_cells.Goals as goal

pub squares-init : goal.squares-init
squares-init g c = record { bits = sym (append-nil c.args.bits.now.items); keeps = keeps_itself _; room = omega arith; misses = refl }

pub push_four-requires : goal.push_four-requires
push_four-requires g c =
    let xs = c.args.squares.now.items in
    let i = c.squares.square-index in
    let same = c.deref-square-items.ensures.value in
    let here : i < length xs = subst (λ zs. i < length zs) same c.squares-test.true in
    square-now (g.E.Core.worker c.args.engine.now) (g.E.Core.worker c.squares.engine) g.E.Core.least 1 xs i _ c.squares.invariant.keeps c.requires here (same-at xs c.deref-square-items.result.now i _ same here)

pub squares-preserved : goal.squares-preserved
squares-preserved g c =
    let xs = c.args.squares.now.items in
    let i = c.squares.square-index in
    let inv = c.squares.invariant in
    let done = c.in_ok-push_four.ensures in
    let same = c.deref-square-items.ensures.value in
    let here : i < length xs = subst (λ zs. i < length zs) same c.squares-test.true in
    record {
      bits = level-more (g.E.Core.worker c.args.engine.now) (g.E.Core.worker c.squares.engine) g.E.Core.least 0 1 xs i _ c.args.bits.now.items c.squares.bits.items c.push_four.new.bits.items
          inv.keeps c.requires here (same-at xs c.deref-square-items.result.now i _ same here) inv.bits done.bits;
      keeps = keeps_trans _ _ _ inv.keeps done.keeps;
      room = omega (arith, inv.room, done.room);
      misses = done.misses ∙ inv.misses;
    }
