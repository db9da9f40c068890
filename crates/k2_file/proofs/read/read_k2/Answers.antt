-- The relation of the form is the file's, and its room is within the file's cost.
use Rattle.std.proofs.Common.{arith}
use Rattle.k2_file.proofs.ReadListed.{gives-formed, room-formed}
use Rattle.k2_file.proofs.read.read_k2.Goals as goal

pub returns-in-Ok-built_relation-clause-answer : goal.returns-in-Ok-built_relation-clause-answer
returns-in-Ok-built_relation-clause-answer g c =
    (c.in-Ok.ensures.form.good, gives-formed (g.E.Core.worker c.built_relation.new.engine) c.args.bytes.now c.in-Ok.form c.in-Ok-built_relation.rel c.in-Ok.ensures.form c.in-Ok-built_relation.ensures.value)

pub returns-in-Ok-built_relation-clause-room : goal.returns-in-Ok-built_relation-clause-room
returns-in-Ok-built_relation-clause-room g c =
    omega (arith, c.in-Ok-built_relation.ensures.few, room-formed g.E.Core.least c.args.bytes.now c.in-Ok.form c.in-Ok.ensures.form)

pub returns-in-Err-Full-clause-room : goal.returns-in-Err-Full-clause-room
returns-in-Err-Full-clause-room g c =
    omega (arith, c.in-Err-Full.ensures.few, room-formed g.E.Core.least c.args.bytes.now c.in-Ok.form c.in-Ok.ensures.form)

pub returns-in-Err-NoMemory-clause-room : goal.returns-in-Err-NoMemory-clause-room
returns-in-Err-NoMemory-clause-room g c =
    omega (arith, c.in-Err-NoMemory.ensures.few, room-formed g.E.Core.least c.args.bytes.now c.in-Ok.form c.in-Ok.ensures.form)
