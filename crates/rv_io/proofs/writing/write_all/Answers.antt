use Rattle.std.proofs.Common.{◌≤◌, ◌-◌, ◌∙◌, length, arith, length-take, length-drop, ℕ}
use Rattle.rv_io.proofs.Pieces.{written_more}
use Rattle.rv_io.proofs.writing.write_all.Goals as goal

pub writes-preserved : goal.writes-preserved
writes-preserved g c =
    let some = c.in-Ok.ensures.some.within in
    let count : c.in-Ok.count ≤ length c.args.bytes.now - c.writes.sent = omega (arith, some, length-take {A = ℕ}, length-drop {A = ℕ}) in
    record {
      within = omega (arith, count);
      written = written_more _ _ _ c.args.bytes.now c.writes.sent c.in-Ok.count c.writes.invariant.within count c.writes.invariant.written c.in-Ok.ensures.bytes;
      later = omega (arith, c.writes.invariant.later, c.write.ensures.later);
      kept = c.in-Ok.ensures.kept ∙ c.writes.invariant.kept;
    }
