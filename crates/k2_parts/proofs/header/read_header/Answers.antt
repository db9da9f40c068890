-- The tests of the header, one by one.
use Rattle.std.proofs.Common.{◌≤◌, ◌<◌, length, sym, arith}
use Rattle.run_model.specs.SharedFiles.{entries_at}
use Rattle.k2_parts.proofs.Headers.{header-magic, header-short, header-end, header-good}
use Rattle.k2_parts.proofs.header.read_header.Goals as goal

pub returns-then-not-begins_shared-clause-fault : goal.returns-then-not-begins_shared-clause-fault
returns-then-not-begins_shared-clause-fault c = sym (header-magic c.args.bytes.now (sym c.if-not-begins_shared.ensures))

pub returns-then-bytes-lt-HEADER-clause-fault : goal.returns-then-bytes-lt-HEADER-clause-fault
returns-then-bytes-lt-HEADER-clause-fault c =
    sym (header-short c.args.bytes.now (sym c.if-not-begins_shared.ensures) c.if-bytes-lt-HEADER.true)

pub returns-then-bytes-end-clause-fault : goal.returns-then-bytes-end-clause-fault
returns-then-bytes-end-clause-fault c =
    let over : length c.args.bytes.now < entries_at c.args.bytes.now = omega (arith, c.number_at.ensures, c.end.ensures, c.if-bytes-end.true) in
    sym (header-end c.args.bytes.now (sym c.if-not-begins_shared.ensures) c.if-bytes-lt-HEADER.false over)

pub returns-clause-fault : goal.returns-clause-fault
returns-clause-fault c =
    let long : entries_at c.args.bytes.now ≤ length c.args.bytes.now = omega (arith, c.number_at.ensures, c.end.ensures, c.if-bytes-end.false) in
    sym (header-good c.args.bytes.now (sym c.if-not-begins_shared.ensures) c.if-bytes-lt-HEADER.false long)
