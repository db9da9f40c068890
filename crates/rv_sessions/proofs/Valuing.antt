-- What the evaluator and the printer answer, as what an expression comes to.
use Rattle.std.proofs.Common.{◌≡◌, ◌∙◌, inl, inr, ℕ, List, Result, Ok, Err, refl, sym, ap, subst, arith}
use Rattle.rel_model.specs.declared.Rel.{Rel}
use Rattle.rel_model.specs.Relation.{Relation}
use Rattle.rel_model.specs.Worker.{Worker, Keeps, MakesAtMost}
use Rattle.rel_model.proofs.Workers.{keeps_trans}
use Rattle.lang_model.specs.declared.syntax.Expr.{Expr}
use Rattle.lang_model.specs.declared.faults.TypeFault.{TypeFault}
use Rattle.lang_model.specs.Outcomes.{Came}
use Rattle.lang_model.specs.declared.syntax.Script.{Script}
use Rattle.lang_model.specs.Eval.{Evaluated, Ahead, Comes, IsCompound, evaluated, cost_of_value}
use Rattle.run_model.specs.declared.outcome.Outcome.TheVariants.{Size as SIZE, Turns as TURNS, NoMemory as NO_MEMORY}
use Rattle.run_model.specs.declared.outcome.Outcome.{Outcome}
use Rattle.run_model.specs.Due.{Due, Early, Late, Refused as REFUSED, due_of_answer, due_of_value}
use Rattle.rv_eval.specs.Names.{state_of}
use Rattle.rv_eval.specs.declared.halt.Refused.{Refused}
use Rattle.rv_eval.specs.declared.halt.Refused.TheVariants.{Ill as ILL_REFUSED, Size as SIZE_REFUSED, Turns as TURNS_REFUSED, Nodes, NoMemory}
use Rattle.rv_eval.specs.Refusing.{IsAnswerBy, IsRefusedFor, IsEvaluatedBy}
use Rattle.rv_sessions.specs.declared.form.Form.{Form}
use Rattle.rv_sessions.specs.Valuing.{outcome_told, CameBy, CameOver}
use Rattle.rv_sessions.specs.Showing.{wanted_in, IsShown, CameShown}

module _ {X : Type 0} (stands : X → Type 0) (is : X → Relation) (old new : Worker) (expr : Expr) (turns : ℕ) where
  -- what is refused ahead of all computing
  came_ahead : (fault : TypeFault) (r : Refused) → IsRefusedFor {X = X} fault (Err r) →
      CameBy stands is old new expr turns (Ahead fault) (Err (outcome_told r))
  came_ahead fault (ILL_REFUSED own) h =
      λ then. inl (Early, ap (λ f. REFUSED Early (outcome_told (ILL_REFUSED f))) (sym h), tt)
  came_ahead fault (SIZE_REFUSED at wanted limit) h = absurd h
  came_ahead fault (TURNS_REFUSED at limit) h = absurd h
  came_ahead fault Nodes h = absurd h
  came_ahead fault NoMemory h = λ then. inr (inr refl)

  -- what has a meaning
  came_late : (came : Came Relation) (r : Refused) → IsAnswerBy is old new turns came.answer (Err r) →
      (r ≡ Nodes → IsCompound expr) →
      CameBy stands is old new expr turns (Comes came) (Err (outcome_told r))
  came_late came (ILL_REFUSED fault) h k = λ then. inl (Late, ap (due_of_answer then turns) h, tt)
  came_late came (SIZE_REFUSED at wanted limit) h k =
      λ then. inl (Late, ap (due_of_answer then turns) h.0 ∙ ap (λ l. REFUSED Late (SIZE at wanted l)) (sym h.1), tt)
  came_late came (TURNS_REFUSED at limit) h k =
      λ then. inl (Late, ap (due_of_answer then turns) h.0 ∙ ap (λ l. REFUSED Late (TURNS at l)) (sym h.1), tt)
  came_late came Nodes h k =
      λ then. inr (inl (refl, record { compound = k refl; not_ahead = tt; rose = h }))
  came_late came NoMemory h k = λ then. inr (inr refl)

  came_refused : (e : Evaluated) (r : Refused) → IsEvaluatedBy is old new turns e (Err r) →
      (r ≡ Nodes → IsCompound expr) →
      CameBy stands is old new expr turns e (Err (outcome_told r))
  came_refused (Ahead fault) r h k = came_ahead fault r h.0
  came_refused (Comes came) r h k = came_late came r h k

  came_value : (e : Evaluated) (x : X) → IsEvaluatedBy is old new turns e (Ok x) → stands x →
      CameBy stands is old new expr turns e (Ok x)
  came_value (Ahead fault) x h s = absurd h.0
  came_value (Comes came) x h s = (s, λ then. ap (due_of_answer then turns) h.1)

-- ---- the same with all that is known of the workers
module _ {X : Type 0} (stands : Worker → X → Type 0) (is : Worker → X → Relation) {leaf : ℕ} {script : Script}
    {names : List (List ℕ × Rel)} {expr : Expr} {turns : ℕ} {old new : Worker} where
  pub valued_over : {x : X} →
      IsEvaluatedBy (is new) old new turns (evaluated script (state_of old names) expr turns) (Ok x) → stands new x →
      Keeps old new → MakesAtMost (cost_of_value leaf (evaluated script (state_of old names) expr turns)) old new →
      CameOver (λ o n. CameBy (stands n) (is n) o n) leaf script names expr turns old new (Ok x)
  valued_over {x} h s k m = record {
    came = came_value (stands new) (is new) old new expr turns (evaluated script (state_of old names) expr turns) x h s;
    keeps = k;
    room = m;
  }

  pub refused_over : {refused : Refused} {o : Outcome} →
      IsEvaluatedBy (is new) old new turns (evaluated script (state_of old names) expr turns) (Err refused) →
      (refused ≡ Nodes → IsCompound expr) → o ≡ outcome_told refused →
      Keeps old new → MakesAtMost (cost_of_value leaf (evaluated script (state_of old names) expr turns)) old new →
      CameOver (λ o n. CameBy (stands n) (is n) o n) leaf script names expr turns old new (Err o)
  refused_over {refused} {o} h compound told k m =
      let e = evaluated script (state_of old names) expr turns in
      record {
        came = subst (λ it. CameBy (stands new) (is new) old new expr turns e (Err it)) (sym told)
            (came_refused (stands new) (is new) old new expr turns e refused h compound);
        keeps = k;
        room = m;
      }

-- ---- values that are shown
-- a value is shown, or refused, as it is in a form
shown_as : (form : Form) (old new : Worker) (expr : Expr) (turns : ℕ) (e : Evaluated) (r : Relation)
    (result : Result (List ℕ) Outcome) →
    ((then : Relation → Due) → due_of_value then turns e ≡ then r) → IsShown form r result →
    CameShown form old new expr turns e result
shown_as form old new expr turns e r (Ok bytes) v s = (r, v (wanted_in form) ∙ s.0, s.1)
shown_as form old new expr turns e r (Err o) v (inl s) = inl (Late, v (wanted_in form) ∙ s.0, s.1)
shown_as form old new expr turns e r (Err o) v (inr m) = inr (inr m)

module _ {X : Type 0} (stands : Worker → X → Type 0) (is : Worker → X → Relation) (form : Form) {leaf : ℕ}
    {script : Script} {names : List (List ℕ × Rel)} {expr : Expr} {turns : ℕ} {old mid new : Worker} {x : X} where
  -- an expression came to a value, which was then shown without a node
  pub shown_over : (result : Result (List ℕ) Outcome) →
      CameOver (λ o n. CameBy (stands n) (is n) o n) leaf script names expr turns old mid (Ok x) →
      Keeps mid new → MakesAtMost 0 mid new → IsShown form (is mid x) result →
      CameOver (CameShown form) leaf script names expr turns old new result
  shown_over result h k m s =
      let made = h.room in
      record {
        came = shown_as form old new expr turns (evaluated script (state_of old names) expr turns) (is mid x) result
            h.came.1 s;
        keeps = keeps_trans old mid new h.keeps k;
        room = omega (arith, made, m);
      }

  -- or memory ran out
  pub lacked_over : CameOver (λ o n. CameBy (stands n) (is n) o n) leaf script names expr turns old mid (Ok x) →
      Keeps mid new → MakesAtMost 0 mid new →
      CameOver (CameShown form) leaf script names expr turns old new (Err NO_MEMORY)
  lacked_over h k m = shown_over (Err NO_MEMORY) h k m (inr refl)

-- what was shown in one form was shown in the form that was asked for
pub in_form : {leaf : ℕ} {script : Script} {names : List (List ℕ × Rel)} {expr : Expr} {turns : ℕ} {old new : Worker}
    {result : Result (List ℕ) Outcome} {asked form : Form} →
    asked ≡ form → CameOver (CameShown form) leaf script names expr turns old new result →
    CameOver (CameShown asked) leaf script names expr turns old new result
in_form {leaf} {script} {names} {expr} {turns} {old} {new} {result} e h =
    subst (λ f. CameOver (CameShown f) leaf script names expr turns old new result) (sym e) h
