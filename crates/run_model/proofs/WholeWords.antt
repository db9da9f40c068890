-- The batches leave the states that the next ones begin with, and the words of a closed log hold what is due of its events.
use Rattle.std.proofs.Common.{◌≡◌, ◌+◌, ◌-◌, ◌++◌, ℕ, List, [], ◌∷◌, length, take, refl, sym, ap, subst, ◌∙◌, arith, append_assoc, length-append}
use Rattle.std.proofs.lemmas.List.{take_at, drop_at}
use Rattle.std.specs.Prelude.{slice_get}
use Rattle.run_model.specs.declared.event.Event.{Event}
use Rattle.run_model.specs.Names.{no_names}
use Rattle.run_model.specs.Inputs.{Input}
use Rattle.run_model.specs.States.{begun, start, replay, gifts_due}
use Rattle.run_model.specs.Stored.{AreStored, AreAllInWords, events_between, StoredFrom, DueIsStored}
use Rattle.run_model.specs.Batches.{Batch, logs_of, BatchesLeaveStates}
use Rattle.run_model.proofs.Carrying.{stored}
use Rattle.run_model.proofs.Whole.{AllStand, all_stand, all_left, all_ran, of_batch, from_zero}

pub batches_leave_states : BatchesLeaveStates
batches_leave_states input batches outcomes are ran =
    let all = all_ran input batches outcomes ran 0 no_names (λ name. 0) batches (λ n. ap (slice_get batches) (from_zero n)) are in
    all_left input 0 [] batches (all_stand input 0 no_names (λ name. 0) batches [] are all refl (λ name. refl) tt)

-- ---- words
module _ (input : Input) where
  -- the events of a batch between those before and those behind
  pub between : (done log later : List Event) → events_between (length done) (length done + length log) (done ++ (log ++ later)) ≡ log
  between done log later =
      (λ i. take (more (length done) (length log) i) (drop_at done (log ++ later) (length done) refl i)) ∙ take_at log later (length log) refl
    where
      more : (m n : ℕ) → (m + n) - m ≡ n
      more m n = omega arith

  -- by induction on the batches: a batch's events stand between those before and those behind, and its
  -- words hold what is due of them
  pub all_stored : (bs : List Batch) (words : List (List ℕ)) (k : ℕ) (done : List Event) → AllStand input k done bs → AreAllInWords bs words →
      StoredFrom input (done ++ logs_of bs) (length done) bs words
  all_stored [] [] k done st h = tt
  all_stored [] (w ∷ ws) k done st h = h
  all_stored (b ∷ bs) [] k done st h = h
  all_stored (b ∷ bs) (w ∷ ws) k done st h =
      let here = between done b.log (logs_of bs) in
      let front : take (length done) (done ++ (b.log ++ logs_of bs)) ≡ done = take_at done (b.log ++ logs_of bs) (length done) refl in
      let one = stored b.means (of_batch input k) (gifts_due input) w b.log (replay (gifts_due input) start done) (begun b.first.names) st.0.of_kind st.0.same st.0.dues h.0 in (
        here,
        subst (λ l. AreStored (gifts_due input) w (replay (gifts_due input) start l) (events_between (length done) (length done + length b.log) (done ++ (b.log ++ logs_of bs)))) (sym front)
            (subst (AreStored (gifts_due input) w (replay (gifts_due input) start done)) (sym here) one),
        subst (λ l. StoredFrom input l (length done + length b.log) bs ws) (append_assoc done b.log (logs_of bs))
            (subst (λ n. StoredFrom input ((done ++ b.log) ++ logs_of bs) n bs ws) (length-append done b.log) (all_stored bs ws (k + 1) (done ++ b.log) st.1 h.1)),
      )

pub due_is_stored : DueIsStored
due_is_stored input batches outcomes words are ran h =
    let all = all_ran input batches outcomes ran 0 no_names (λ name. 0) batches (λ n. ap (slice_get batches) (from_zero n)) are in
    all_stored input batches words 0 [] (all_stand input 0 no_names (λ name. 0) batches [] are all refl (λ name. refl) tt) h
