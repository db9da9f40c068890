-- Each quadrant moves from the rest behind those that were read.
use Rattle.std.proofs.Common.{◌≡◌, ◌+◌, ◌-◌, ◌*◌, suc, ℕ, List, drop, subst, arith}
use Rattle.run_model.specs.SharedFiles.{quadrants_in}
use Rattle.k2_parts.specs.Tests.{TellsFour, IsAdded}
use Rattle.k2_parts.proofs.Listing.{read_bad, read_more, tail, next_drop, fault_there}
use Rattle.k2_parts.proofs.quads.read_quads.Goals as goal

pub returns-in-Ok-false-clause-fault : goal.returns-in-Ok-false-clause-fault
returns-in-Ok-false-clause-fault c =
    let bytes = c.args.bytes.now in
    let all = quadrants_in c.args.count bytes in
    let left = c.args.count - c.quads.done in
    let k = c.args.count - (c.quads.done + 1) in
    let e : left ≡ suc k = omega (arith, c.quads-test.true) in
    let t = subst (λ (xs : List ℕ). TellsFour xs c.quadrant_in.result) (tail (16 * c.quads.done) bytes) c.quadrant_in.ensures in
    fault_there all c.quads.done c.from.result c.from.ensures
    (read_bad all c.quads.done left k (drop (16 * c.quads.done) bytes) c.quads.listing c.quads.invariant e c.quadrant_in.result t
    (subst (IsAdded c.quads.listing c.add.new.self c.quadrant_in.result) c.in-Ok-false.field-0-test c.in-Ok-false.ensures))

pub quads-preserved : goal.quads-preserved
quads-preserved c =
    let bytes = c.args.bytes.now in
    let all = quadrants_in c.args.count bytes in
    let left = c.args.count - c.quads.done in
    let k = c.args.count - (c.quads.done + 1) in
    let e : left ≡ suc k = omega (arith, c.quads-test.true) in
    let t = subst (λ (xs : List ℕ). TellsFour xs c.quadrant_in.result) (tail (16 * c.quads.done) bytes) c.quadrant_in.ensures in
    read_more all c.quads.done left k (drop (16 * c.quads.done) bytes) c.quads.listing c.quads.invariant e c.quadrant_in.result t
    (drop (16 * (c.quads.done + 1)) bytes) c.add.new.self (next_drop (16 * c.quads.done) (16 * (c.quads.done + 1)) bytes (omega arith))
    (subst (IsAdded c.quads.listing c.add.new.self c.quadrant_in.result) c.in-Ok-true.field-0-test c.in-Ok-true.ensures)
