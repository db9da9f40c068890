-- From how the walk ends to how the expression of a command is evaluated: one lemma for each step between the calls.
-- 1. A value of the walk, or its refusal as it is told, evaluates the expression (`value_evaluates`, `halt_evaluates`).
-- 2. So does a refusal before anything is computed (`ahead_evaluates`).
-- 3. What evaluates another expression to the same evaluates this one, if this one is compound (`evaluates_compound`).
-- 4. What comes to the same answer at the same cost evaluates it as well (`evaluates_same`).
use Rattle.std.proofs.Common.{◌≡◌, ◌≤◌, ◌+◌, ◌∙◌, ℕ, refl, sym, ap, subst, arith, Result, Ok, Err, IfOk}
use Rattle.std.specs.Prelude.{IsErrOf}
use Rattle.rel_model.specs.declared.Lack.TheVariants.{Full, NoMemory as NO_MEMORY}
use Rattle.rel_model.specs.Relation.{Relation}
use Rattle.rel_model.specs.Worker.{Worker}
use Rattle.rel_model.proofs.Workers.{keeps_itself}
use Rattle.rel_slices.specs.declared.thin.Value.{Value}
use Rattle.rel_slices.specs.Thin.{value_of, IsLines}
use Rattle.rel_values.specs.Values.{Fits, owed}
use Rattle.lang_model.specs.declared.syntax.Expr.{Expr}
use Rattle.lang_model.specs.declared.faults.TypeFault.{TypeFault}
use Rattle.lang_model.specs.declared.faults.TypeFault.TheVariants.{NoMemory as FAULT_NO_MEMORY}
use Rattle.lang_model.specs.Outcomes.{Came}
use Rattle.lang_model.specs.declared.syntax.Script.{Script}
use Rattle.lang_model.specs.State.{State}
use Rattle.lang_model.specs.Eval.{Evaluated, Comes, early_fault, evaluated, IsCompound}
use Rattle.rv_eval.specs.declared.halt.Halt.{Halt}
use Rattle.rv_eval.specs.declared.halt.Halt.TheVariants.{Ill as ILL, Size as SIZE, Turns as TURNS, Lack as LACK}
use Rattle.rv_eval.specs.declared.halt.Refused.{Refused}
use Rattle.rv_eval.specs.declared.halt.Refused.TheVariants.{Ill as IllRefused, Nodes}
use Rattle.rv_eval.specs.Ends.{Ends}
use Rattle.rv_eval.specs.Refusing.{told, told_ill, IsAnswerBy, IsRefusedAhead, Evaluates}
use Rattle.rv_eval.proofs.Operating.{no_refusal, refused_for}
use Rattle.rv_eval.proofs.Telling.{halted_answers}
use Rattle.rv_eval.proofs.Ahead.{any_lines, never_full_ahead, ahead_evaluated}

-- ---- from the walk
pub value_evaluates : {least : ℕ} {old new : Worker} {turns left : ℕ} {expr : Expr} {m : Came Relation} {v : Value}
    → Ends least old new turns left 0 m (value_of new) (owed least) (Ok v) → (IsLines v → IsCompound expr) → Fits new v
    → Evaluates least old new turns expr (Comes m) (Ok v)
value_evaluates {least = least} {old = old} {new = new} {left = left} {m = m} {v = v} ends thin stands = record {
  answer = (left, ends.value);
  compound = λ h. absurd (no_refusal h);
  lines = thin;
  memory = λ h. no_refusal h;
  fits = stands;
  keeps = ends.keeps;
  room = ends.room;
  owes = (let o : new.made + owed least v ≤ old.made + (0 + m.cost least) = ends.owes in omega (arith, o));
}

-- a fault is never told as a full table, and never as the fault that memory ran out
fault_never_full : (fault : TypeFault) → told_ill fault ≡ Nodes → ⊥
fault_never_full FAULT_NO_MEMORY h = cc
fault_never_full fault h = cc

full_told : (turns : ℕ) (halt : Halt) → told turns halt ≡ Nodes → halt ≡ LACK Full
full_told turns (ILL fault) h = absurd (fault_never_full fault h)
full_told turns (SIZE at wanted) h = cc
full_told turns (TURNS at) h = cc
full_told turns (LACK Full) h = refl
full_told turns (LACK NO_MEMORY) h = cc

fault_never_memory : (fault : TypeFault) → told_ill fault ≡ IllRefused FAULT_NO_MEMORY → ⊥
fault_never_memory FAULT_NO_MEMORY h = cc
fault_never_memory fault h = cc

never_memory : (turns : ℕ) (halt : Halt) → told turns halt ≡ IllRefused FAULT_NO_MEMORY → ⊥
never_memory turns (ILL fault) h = fault_never_memory fault h
never_memory turns (SIZE at wanted) h = cc
never_memory turns (TURNS at) h = cc
never_memory turns (LACK Full) h = cc
never_memory turns (LACK NO_MEMORY) h = cc

pub halt_evaluates : {least : ℕ} {old new : Worker} {turns left : ℕ} {expr : Expr} {m : Came Relation} {halt : Halt}
    {refused : Refused} → refused ≡ told turns halt
    → Ends least old new turns left 0 m (value_of new) (owed least) (Err halt)
    → (IsErrOf {T = Value} (Err halt) (LACK Full) → IsCompound expr)
    → Evaluates least old new turns expr (Comes m) (Err refused)
halt_evaluates {old = old} {new = new} {turns = turns} {m = m} {halt = halt} is ends full = record {
  answer = subst (λ r. IsAnswerBy {X = Value} (value_of new) old new turns m.answer (Err r)) (sym is)
      (halted_answers (value_of new) old new turns m.answer halt ends.halted);
  compound = λ h. full (ap (λ x. Err x) (full_told turns halt (sym is ∙ refused_for h)));
  lines = tt;
  memory = λ h. never_memory turns halt (sym is ∙ refused_for h);
  fits = tt;
  keeps = ends.keeps;
  room = ends.room;
  owes = tt;
}

-- ---- what is refused before anything is computed
pub ahead_evaluates : {least : ℕ} {w : Worker} {turns : ℕ} (script : Script) (s : State) (expr : Expr) (r : Refused)
    → IsRefusedAhead (early_fault script s expr) r → (r ≡ IllRefused FAULT_NO_MEMORY → ⊥)
    → Evaluates least w w turns expr (evaluated script s expr turns) (Err r)
ahead_evaluates {w = w} {turns = turns} script s expr r early other = record {
  answer = ahead_evaluated script s expr w turns (value_of w) r early;
  compound = λ h. absurd (never_full_ahead (early_fault script s expr) r early h);
  lines = tt;
  memory = λ h. other (refused_for h);
  fits = tt;
  keeps = keeps_itself w;
  room = omega arith;
  owes = tt;
}

-- ---- of another expression, or to another result
pub evaluates_compound : {least : ℕ} {old new : Worker} {turns : ℕ} {other expr : Expr} {e : Evaluated}
    {result : Result Value Refused} → IsCompound expr → Evaluates least old new turns other e result
    → Evaluates least old new turns expr e result
evaluates_compound {expr = expr} {result = result} more e = record {
  answer = e.answer;
  compound = λ h. more;
  lines = any_lines result expr more;
  memory = e.memory;
  fits = e.fits;
  keeps = e.keeps;
  room = e.room;
  owes = e.owes;
}

pub evaluates_same : {least : ℕ} {old new : Worker} {turns : ℕ} {expr : Expr} {m n : Came Relation}
    {result : Result Value Refused} → m.answer ≡ n.answer → m.cost least ≡ n.cost least
    → Evaluates least old new turns expr (Comes m) result → Evaluates least old new turns expr (Comes n) result
evaluates_same {least = least} {old = old} {new = new} {turns = turns} {result = result} a c e = record {
  answer = subst (λ x. IsAnswerBy (value_of new) old new turns x result) a e.answer;
  compound = e.compound;
  lines = e.lines;
  memory = e.memory;
  fits = e.fits;
  keeps = e.keeps;
  room = subst (λ (k : ℕ). new.made ≤ old.made + k) c e.room;
  owes = subst (λ (k : ℕ). IfOk result (λ v. new.made + owed least v ≤ old.made + k)) c e.owes;
}
