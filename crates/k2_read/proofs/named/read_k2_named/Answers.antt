-- The root of a name has its relation, whose nodes are within the cost; and no test tells that a name is missing.
use Rattle.std.proofs.Common.{rules, refl, sym, subst, arith}
use Rattle.std.specs.Prelude.{IsSome}
use Rattle.run_model.specs.SharedFiles.{shared_relations, relation_named}
use Rattle.k2_read.specs.Reading.{IsMissing}
use Rattle.k2_read.proofs.Answering.{read-fault, named-none, named-found, named-stands, named-given, named-cost}
use Rattle.k2_read.proofs.named.read_k2_named.Goals as goal

pub returns-in-Err-clause-answer : goal.returns-in-Err-clause-answer
returns-in-Err-clause-answer g c =
    let old = g.E.Core.worker c.args.engine.now in
    read-fault (IsSome (relation_named c.args.name.now (shared_relations c.args.bytes.now)))
    (IsMissing old old c.args.bytes.now c.args.name.now) old c.args.bytes.now c.in-Err.fault c.in-Err.ensures.fault

pub returns-in_default-clause-answer : goal.returns-in_default-clause-answer
returns-in_default-clause-answer g c = (
  c.in-Ok.ensures.form.passes,
  named-none c.args.bytes.now c.args.name.now c.in-Ok.form c.in-Ok.ensures.form c.as_slice.result.now c.as_slice.ensures.value (sym c.in_default.ensures),
  refl,
  omega arith,
)

pub built_relation-requires-clause-sound : goal.built_relation-requires-clause-sound
built_relation-requires-clause-sound g c =
    named-stands c.args.bytes.now c.args.name.now c.in-Ok.form c.in-Ok.ensures.form c.as_slice.result.now c.as_slice.ensures.value c.as_slice-2.result.now c.as_slice-2.ensures.value c.in-Some.root (sym c.in-Some.ensures)

pub returns-in-Ok-built_relation-clause-answer : goal.returns-in-Ok-built_relation-clause-answer
returns-in-Ok-built_relation-clause-answer g c = (
  c.in-Ok.ensures.form.passes,
  named-given c.args.bytes.now c.args.name.now c.in-Ok.form c.in-Ok.ensures.form c.as_slice.result.now c.as_slice.ensures.value c.as_slice-2.result.now c.as_slice-2.ensures.value c.in-Some.root (sym c.in-Some.ensures)
      (g.E.Core.worker c.built_relation.new.engine) c.in-Ok-built_relation.rel c.in-Ok-built_relation.ensures.value,
)

pub returns-in-Ok-built_relation-clause-room : goal.returns-in-Ok-built_relation-clause-room
returns-in-Ok-built_relation-clause-room g c =
    let e = named-cost c.args.bytes.now c.args.name.now c.in-Ok.form c.in-Ok.ensures.form c.as_slice.result.now c.as_slice.ensures.value c.as_slice-2.result.now c.as_slice-2.ensures.value c.in-Some.root (sym c.in-Some.ensures) g.E.Core.least in
    omega (arith, e, c.in-Ok-built_relation.ensures.room)

pub returns-in-Err-Full-clause-room : goal.returns-in-Err-Full-clause-room
returns-in-Err-Full-clause-room g c =
    let e = named-cost c.args.bytes.now c.args.name.now c.in-Ok.form c.in-Ok.ensures.form c.as_slice.result.now c.as_slice.ensures.value c.as_slice-2.result.now c.as_slice-2.ensures.value c.in-Some.root (sym c.in-Some.ensures) g.E.Core.least in
    omega (arith, e, c.in-Err-Full.ensures.room)

pub returns-clause-room : goal.returns-clause-room
returns-clause-room g c =
    let e = named-cost c.args.bytes.now c.args.name.now c.in-Ok.form c.in-Ok.ensures.form c.as_slice.result.now c.as_slice.ensures.value c.as_slice-2.result.now c.as_slice-2.ensures.value c.in-Some.root (sym c.in-Some.ensures) g.E.Core.least in
    omega (arith, e, c.in-Err-NoMemory.ensures.room)

pub returns-in-Err-Full-clause-answer : goal.returns-in-Err-Full-clause-answer
returns-in-Err-Full-clause-answer g c =
    let there = named-found c.args.bytes.now c.args.name.now c.in-Ok.form c.in-Ok.ensures.form c.as_slice.result.now c.as_slice.ensures.value c.as_slice-2.result.now c.as_slice-2.ensures.value c.in-Some.root (sym c.in-Some.ensures) in
    (c.in-Ok.ensures.form.passes, subst (λ o. IsSome o) (sym there) refl, search rules)
