-- The relations of the parts are the file's, and their nodes are within its cost.
use Rattle.std.proofs.Common.{subst, arith}
use Rattle.k2_read.specs.Reading.{AreRead}
use Rattle.k2_parts.specs.Told.{quadrants_told}
use Rattle.k2_read.specs.Numbers.{IsSound}
use Rattle.std.specs.List.{AllByRecursion}
use Rattle.k2_read.proofs.Answering.{all-relations, all-cost}
use Rattle.k2_read.proofs.Sounds.{form-sound}
use Rattle.k2_read.proofs.all.read_k2_all.Goals as goal
use Rattle.std.proofs.Common.{sym}

pub built_all-requires-clause-sound : goal.built_all-requires-clause-sound
built_all-requires-clause-sound g c =
    subst (λ qs. AllByRecursion (λ r. IsSound (quadrants_told qs) r.rows r.cols r.root) c.in-Ok.form.roots.items) (sym c.as_slice.ensures.value) (form-sound c.args.bytes.now c.in-Ok.form c.in-Ok.ensures.form)

pub returns-in-Ok-built_all-clause-answer : goal.returns-in-Ok-built_all-clause-answer
returns-in-Ok-built_all-clause-answer g c = (
  c.in-Ok.ensures.form.passes,
  subst (λ es. AreRead (g.E.Core.worker c.built_all.new.engine) es c.in-Ok-built_all.list.items)
      (all-relations c.args.bytes.now c.in-Ok.form c.in-Ok.ensures.form c.as_slice.result.now c.as_slice.ensures.value) c.in-Ok-built_all.ensures.value,
)

pub returns-in-Ok-built_all-clause-room : goal.returns-in-Ok-built_all-clause-room
returns-in-Ok-built_all-clause-room g c =
    let e = all-cost c.args.bytes.now c.in-Ok.form c.in-Ok.ensures.form c.as_slice.result.now c.as_slice.ensures.value g.E.Core.least in
    omega (arith, e, c.in-Ok-built_all.ensures.room)

pub returns-in-Err-Full-clause-room : goal.returns-in-Err-Full-clause-room
returns-in-Err-Full-clause-room g c =
    let e = all-cost c.args.bytes.now c.in-Ok.form c.in-Ok.ensures.form c.as_slice.result.now c.as_slice.ensures.value g.E.Core.least in
    omega (arith, e, c.in-Err-Full.ensures.room)

pub returns-clause-room : goal.returns-clause-room
returns-clause-room g c =
    let e = all-cost c.args.bytes.now c.in-Ok.form c.in-Ok.ensures.form c.as_slice.result.now c.as_slice.ensures.value g.E.Core.least in
    omega (arith, e, c.in-Err-NoMemory.ensures.room)
