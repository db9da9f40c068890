use Rattle.std.proofs.Common.{◌≡◌, ◌++◌}
use Rattle.std.specs.List.{range_with_len, flat_map}
use Rattle.run_model.specs.Texts.{row_text}
use Rattle.rel_model.specs.Worker.{set_of, Keeps, MakesAtMost, MissesNothing}
use Rattle.rv_print.proofs.rows.push_rows.Given as goal

abbrev pub invariant-rows : goal.invariant-rows
invariant-rows g l = record {
  text : l.out.items ≡ l.fn.out.items ++ flat_map (row_text (set_of (g.E.Core.worker l.fn.engine) l.rel)) (range_with_len 0 l.i);
  keeps : Keeps (g.E.Core.worker l.fn.engine) (g.E.Core.worker l.engine);
  room : MakesAtMost 0 (g.E.Core.worker l.fn.engine) (g.E.Core.worker l.engine);
  misses : MissesNothing (g.E.Core.worker l.fn.engine) (g.E.Core.worker l.engine);
}
