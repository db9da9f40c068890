-- The tests of the name, and then those of the root.
use Rattle.std.proofs.Common.{sym, length}
use Rattle.k2_parts.specs.Told.{quadrants_told}
use Rattle.k2_parts.specs.Roots.{last_name}
use Rattle.k2_parts.proofs.Entering.{is-fault-name, is-fault-root, is-root}
use Rattle.k2_parts.proofs.roots.read_root.Goals as goal

pub returns-in-Err-clause-fault : goal.returns-in-Err-clause-fault
returns-in-Err-clause-fault c =
    is-fault-name (quadrants_told c.args.squares.now.quads.now) c.args.squares.now.heights.now (length c.args.roots.now) (last_name c.args.roots.now) c.args.bytes.now c.in-Err.fault
    (sym c.in-Err.ensures.fault)

pub returns-in-Some-clause-fault : goal.returns-in-Some-clause-fault
returns-in-Some-clause-fault c =
    is-fault-root (quadrants_told c.args.squares.now.quads.now) c.args.squares.now.heights.now (length c.args.roots.now) (last_name c.args.roots.now) c.args.bytes.now c.in-Ok.name.now
    c.number_at-rows.result c.number_at-cols.result c.number_at-root.result c.in-Ok.ensures.name c.number_at-rows.ensures c.number_at-cols.ensures c.number_at-root.ensures
    (sym c.in-Ok.ensures.fault) c.in-Some.fault (sym c.in-Some.ensures)

pub returns-in-Ok-new-clause-root : goal.returns-in-Ok-new-clause-root
returns-in-Ok-new-clause-root c =
    is-root c.args.squares.now c.args.roots.now c.args.bytes.now c.in-Ok.name.now
    c.number_at-rows.result c.number_at-cols.result c.number_at-root.result c.in-Ok.ensures.name c.number_at-rows.ensures c.number_at-cols.ensures c.number_at-root.ensures
    (sym c.in-Ok.ensures.fault) c.in-Ok-new.name c.in-Ok-new.ensures (sym c.in_default.ensures)
