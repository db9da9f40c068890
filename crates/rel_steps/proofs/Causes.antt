-- The cause of what is answered after calls that missed nothing.
use Rattle.std.proofs.Common.{◌≡◌, ◌∙◌, ℕ, Bool, Result, IfOk, sym, ap, subst}
use Rattle.std.specs.Prelude.{Ok, Err}
use Rattle.std.specs.Result.{is_ok}
use Rattle.std.proofs.lemmas.Bool.{true≢false}
use Rattle.rel_model.specs.declared.Lack.{Lack}
use Rattle.rel_model.specs.Worker.{Worker, MissesNothing, Rose, HasCause}

-- what is given misses nothing
pub done_cause : {T : Type 0} (lean : Bool) (a b : Worker) (x : T) → MissesNothing a b → HasCause lean a b (Ok x)
done_cause lean a b x n = record {
  full = λ e. absurd (true≢false (ap is_ok e));
  no_memory = λ l e. true≢false (ap is_ok e);
  done = n;
  wanting = λ e. n;
}

-- after calls that missed nothing
pub later_cause : {T : Type 0} (lean : Bool) (u v w : Worker) (r : Result T Lack) → MissesNothing u v → HasCause lean v w r → HasCause lean u w r
later_cause lean u v w r e h = record {
  full = λ f. subst (λ (n : ℕ). Rose n w.misses) e (h.full f);
  no_memory = h.no_memory;
  done = subst (λ (n : ℕ). IfOk r (λ x. w.misses ≡ n)) e h.done;
  wanting = λ f. h.wanting f ∙ e;
}

-- a call that failed, after calls that missed nothing, is answered by its failure
pub failed_cause : {T : Type 0} (lean : Bool) (u v w : Worker) (x y : Lack) (r : Result T Lack) → MissesNothing u v → HasCause {T = T} lean v w (Err x) → r ≡ Err y → y ≡ x → HasCause lean u w r
failed_cause lean u v w x y r e h p q = subst (HasCause lean u w) (sym (p ∙ ap Err q)) (later_cause lean u v w (Err x) e h)
