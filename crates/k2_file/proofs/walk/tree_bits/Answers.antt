use Rattle.std.proofs.Common.{◌-◌, ◌∙◌, ℕ, Bool, List, sym, subst, arith}
use Rattle.rel_model.specs.Worker.{set_of}
use Rattle.rel_model.proofs.Workers.{keeps_trans}
use Rattle.k2_file.proofs.WriteHeights.{file_height-sizes}
use Rattle.k2_file.proofs.WriteWalk.{Walk, walk-start, walk-next, walk-sound}
use Rattle.k2_file.proofs.walk.tree_bits.Goals as goal

pub levels-init : goal.levels-init
levels-init g c =
    let w = g.E.Core.worker c.first_squares.new.engine in
    let R = set_of (g.E.Core.worker c.args.engine.now) c.args.rel in
    let h : ℕ = c.args.height in
    let e = file_height-sizes h c.args.rel.rows c.args.rel.cols R.rows R.cols c.requires.height (g.met.E.Core.row_size c.args.engine.now c.args.rel c.requires.stands) (g.met.E.Core.col_size c.args.engine.now c.args.rel c.requires.stands) in
    record {
      walk = subst (λ (bits : List Bool). Walk w g.E.Core.least (h - 1) R c.in_ok-squares.squares.items bits) (sym c.new-tree.ensures.items)
          (walk-start w g.E.Core.least h R c.in_ok-squares.squares.items e c.requires.low c.in_ok-squares.ensures.squares);
      keeps = c.in_ok-squares.ensures.keeps;
      room = c.in_ok-squares.ensures.room;
      misses = c.in_ok-squares.ensures.misses;
    }

pub levels-preserved : goal.levels-preserved
levels-preserved g c =
    let inv = c.levels.invariant in
    let done = c.in_ok-squares-2.ensures in
    record {
      walk = walk-next (g.E.Core.worker c.levels.engine) (g.E.Core.worker c.push_level.new.engine) g.E.Core.least c.levels.level (set_of (g.E.Core.worker c.args.engine.now) c.args.rel)
          c.levels.squares.items c.in_ok-squares-2.squares.items c.levels.tree.items c.push_level.new.bits.items c.levels-test.true inv.walk done.next done.bits;
      keeps = keeps_trans _ _ _ inv.keeps done.keeps;
      room = omega (arith, inv.room, done.room);
      misses = done.misses ∙ inv.misses;
    }

pub push_cells-requires : goal.push_cells-requires
push_cells-requires g c =
    let t = c.levels-test.false in
    walk-sound (g.E.Core.worker c.levels.engine) g.E.Core.least c.levels.level (set_of (g.E.Core.worker c.args.engine.now) c.args.rel) c.levels.squares.items c.levels.tree.items (omega (arith, t)) c.levels.invariant.walk
