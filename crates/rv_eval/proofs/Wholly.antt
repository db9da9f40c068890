-- From what is answered by a value to what is answered by its whole relation.
use Rattle.std.proofs.Common.{◌≡◌, ◌∙◌, ℕ, Bool, refl, Ok, Err, sym, ap}
use Rattle.std.specs.Prelude.{IsErrOf}
use Rattle.rel_model.specs.declared.Rel.{Rel}
use Rattle.rel_model.specs.declared.Lack.{Lack}
use Rattle.rel_model.specs.declared.Lack.TheVariants.{Full, NoMemory as NO_MEMORY}
use Rattle.rel_model.specs.Worker.{Worker, set_of, Keeps, HasCause}
use Rattle.rel_slices.specs.declared.thin.Value.{Value}
use Rattle.rel_slices.specs.Thin.{value_of}
use Rattle.lang_model.specs.declared.faults.TypeFault.TheVariants.{NoMemory as FAULT_NO_MEMORY}
use Rattle.lang_model.specs.Outcomes.{Got}
use Rattle.lang_model.specs.Eval.{Evaluated, Ahead, Comes}
use Rattle.rv_eval.specs.declared.halt.Halt.TheVariants.{Lack as LACK}
use Rattle.rv_eval.specs.declared.halt.Refused.{Refused}
use Rattle.rv_eval.specs.declared.halt.Refused.TheVariants.{Ill as IllRefused, Size as SizeRefused, Turns as TurnsRefused, Nodes, NoMemory}
use Rattle.rv_eval.specs.Refusing.{told, IsEvaluatedBy, IsEvaluated}
use Rattle.rv_eval.proofs.Going.{rose_before}

-- a refusal of the value is one of the relation
pub refused_evaluated : (old new : Worker) (turns : ℕ) (e : Evaluated) (r : Refused) → IsEvaluatedBy (value_of new) old new turns e (Err r) → IsEvaluated old new turns e (Err r)
refused_evaluated old new turns (Ahead fault) (IllRefused own) h = h
refused_evaluated old new turns (Ahead fault) (SizeRefused at wanted limit) h = h
refused_evaluated old new turns (Ahead fault) (TurnsRefused at limit) h = h
refused_evaluated old new turns (Ahead fault) Nodes h = h
refused_evaluated old new turns (Ahead fault) NoMemory h = h
refused_evaluated old new turns (Comes came) (IllRefused own) h = h
refused_evaluated old new turns (Comes came) (SizeRefused at wanted limit) h = h
refused_evaluated old new turns (Comes came) (TurnsRefused at limit) h = h
refused_evaluated old new turns (Comes came) Nodes h = h
refused_evaluated old new turns (Comes came) NoMemory h = h

pub refused_alike : (r x : Refused) → IsErrOf {T = Rel} (Err r) x → IsErrOf {T = Value} (Err r) x
refused_alike r x h = let same : r ≡ x = (cc) in ap (λ y. Err y) same

-- the relation of the value
pub whole_evaluated : (old mid new : Worker) (turns : ℕ) (e : Evaluated) (v : Value) (rel : Rel) → IsEvaluatedBy (value_of mid) old mid turns e (Ok v) → set_of new rel ≡ value_of mid v → IsEvaluated old new turns e (Ok rel)
whole_evaluated old mid new turns (Ahead fault) v rel h s = absurd h.0
whole_evaluated old mid new turns (Comes came) v rel h s = (h.0, h.1 ∙ ap (λ x. Got x h.0) (sym s))

-- there was no room or no memory to make it whole
pub lack_evaluated : (old mid new : Worker) (turns : ℕ) (e : Evaluated) (v : Value) (lean : Bool) (lack : Lack) → IsEvaluatedBy (value_of mid) old mid turns e (Ok v) → Keeps old mid → HasCause {T = Rel} lean mid new (Err lack)
    → IsEvaluated old new turns e (Err (told turns (LACK lack)))
lack_evaluated old mid new turns (Ahead fault) v lean lack h k c = absurd h.0
lack_evaluated old mid new turns (Comes came) v lean Full h k c = rose_before old.misses mid.misses new.misses k.misses (c.full refl)
lack_evaluated old mid new turns (Comes came) v lean NO_MEMORY h k c = tt

-- which is never reported as a fault
pub lack_no_fault : (turns : ℕ) (lack : Lack) (r : Refused) → r ≡ told turns (LACK lack) → IsErrOf {T = Rel} (Err r) (IllRefused FAULT_NO_MEMORY) → ⊥
lack_no_fault turns Full r e h = cc
lack_no_fault turns NO_MEMORY r e h = cc
