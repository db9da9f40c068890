-- What was given stands, and goes on standing.
use Rattle.std.proofs.Common.{ℕ, Result, Ok, Err}
use Rattle.std.specs.Prelude.{IfOk}
use Rattle.rel_model.specs.declared.Rel.{Rel}
use Rattle.rel_model.specs.declared.Lack.{Lack}
use Rattle.rel_model.specs.declared.faults.DomainError.{DomainError}
use Rattle.rel_model.specs.Relation.{Relation}
use Rattle.rel_model.specs.Worker.{Worker, Stands, Gives, Keeps}
use Rattle.rel_model.proofs.Workers as workers

pub rel_later : (a b : Worker) (r : Rel) → Keeps a b → Stands a r → Stands b r
rel_later = workers.keeps_stands

pub given_stands : (w : Worker) (m n : ℕ) (value : Relation) (r : Result Rel Lack) → IfOk r (Gives w m n value) → IfOk r (Stands w)
given_stands w m n value (Ok r) h = workers.gives_stands w m n value r h
given_stands w m n value (Err e) h = h

pub wanted_stands : (w : Worker) (m n : ℕ) (value : Relation) (r : Result Rel DomainError) → IfOk r (Gives w m n value) → IfOk r (Stands w)
wanted_stands w m n value (Ok r) h = workers.gives_stands w m n value r h
wanted_stands w m n value (Err e) h = h

pub made_stands : (w : Worker) (m n : ℕ) (value : Relation) (r : Rel) → Gives w m n value r → Stands w r
made_stands = workers.gives_stands
