-- How a refusal of a meaning is told.
use Rattle.std.proofs.Common.{◌≡◌, ℕ, Err, refl}
use Rattle.rel_model.specs.declared.Lack.TheVariants.{NoMemory as NO_MEMORY}
use Rattle.rel_model.specs.declared.Lack.TheVariants.{Full}
use Rattle.rel_model.specs.Relation.{Relation}
use Rattle.rel_model.specs.Worker.{Worker}
use Rattle.lang_model.specs.declared.faults.TypeFault.{TypeFault}
use Rattle.lang_model.specs.Outcomes.{Ill, Answer, Not}
use Rattle.lang_model.specs.declared.faults.TypeFault.TheVariants.{NoMemory as FAULT_NO_MEMORY}
use Rattle.rv_eval.specs.declared.halt.Halt.{Halt}
use Rattle.rv_eval.specs.declared.halt.Halt.TheVariants.{Ill as ILL, Size as SIZE, Turns as TURNS, Lack as LACK}
use Rattle.rv_eval.specs.Ends.{HasHalted}
use Rattle.rv_eval.specs.Refusing.{told, told_ill, IsAnswerBy}

-- the refusal of a meaning
ill_answers : {X : Type 0} (is : X → Relation) (old new : Worker) (turns : ℕ) (a : Answer Relation) (fault : TypeFault) → a ≡ Not (Ill fault) → IsAnswerBy is old new turns a (Err (told_ill fault))
ill_answers is old new turns a FAULT_NO_MEMORY h = tt
ill_answers is old new turns a fault h = h

pub halted_answers : {X : Type 0} (is : X → Relation) (old new : Worker) (turns : ℕ) (a : Answer Relation) (halt : Halt) → HasHalted old new a halt → IsAnswerBy is old new turns a (Err (told turns halt))
halted_answers is old new turns a (ILL fault) h = ill_answers is old new turns a fault h
halted_answers is old new turns a (SIZE at wanted) h = (h, refl)
halted_answers is old new turns a (TURNS at) h = (h, refl)
halted_answers is old new turns a (LACK Full) h = h
halted_answers is old new turns a (LACK NO_MEMORY) h = tt
