-- The place of each batch in the history of a run of batches that are over: what the words of its table are to hold
-- there.
-- 1. Behind the logs of those before it stands its own, and then those of the later ones; so its events are those from
--    one place up to another.
-- 2. Its log stands behind the logs before, so its relations have the values that are due of the history there, and
--    the names that it leaves are those of the history then.
-- 3. Sessions of other batches have other numbers, so outcomes of this batch are those of its own sessions.
use Rattle.std.specs.List.{AllByRecursion}
use Rattle.std.proofs.Common.{◌≡◌, ◌<◌, ◌≤◌, ◌+◌, ◌++◌, ℕ, suc, Bool, true, eqb, List, [], ◌∷◌, length, take, Some, refl, sym, ap, subst, ◌∙◌, arith, append_assoc, append-nil, length-append}
use Rattle.std.proofs.lemmas.Bool.{eqb-true}
use Rattle.std.proofs.lemmas.List.{take_at}
use Rattle.std.specs.Prelude.{slice_get}
use Rattle.run_model.specs.declared.event.Event.{Event}
use Rattle.run_model.specs.declared.files.Loaded.{Loaded}
use Rattle.run_model.specs.declared.outcome.Outcome.{Outcome}
use Rattle.run_model.specs.Names.{no_names}
use Rattle.run_model.specs.Inputs.{Input, batch_of}
use Rattle.run_model.specs.States.{begun, start, replay, gifts_due, state_after}
use Rattle.run_model.specs.Turns.{StandsBehind}
use Rattle.run_model.specs.Batches.{state_left, LeaveStates}
use Rattle.run_model.specs.Stored.{FillsWhereFull, FillsInBatch, events_between, AreInWords, AreStored}
use Rattle.run_model.specs.Cost.{cost_of_batch}
use Rattle.run_model.proofs.Carrying.{stored}
use Rattle.run_model.proofs.Whole.{all_map, from_zero}
use Rattle.run_model.proofs.WholeWords.{batches_leave_states, between}
use Rattle.rv_runs.specs.Past.{Part, outcomes_of, made_in, Past, batch_of_past, ArePast, parts_of, batches_of, history_of, input_of_past}
use Rattle.rv_runs.proofs.PastNumbers.{Numbered, numbered}
use Rattle.rv_runs.proofs.WholeRuns.{AllBehind, all_behind, whole_runs}

-- batch number k of a run, whose events stand from this place on in the history: what a table's words need of it
pub record HasPlace (leaf : ℕ) (input : Input) (history : List Event) (outcomes : List (List Outcome)) (k from : ℕ) (p : Past) : Type 0 where
  -- they end within the history
  pub within : from + length p.log ≤ length history
  -- they are its log
  pub own : events_between from (from + length p.log) history ≡ p.log
  -- which is of its sessions alone
  pub events : AllByRecursion (λ e. batch_of input.ends e.session ≡ k) p.log
  -- words in which its relations stand hold what was due of them
  pub due_stored : (words : List ℕ) → AreInWords words p.means p.log →
      AreStored (gifts_due input) words (replay (gifts_due input) start (take from history)) p.log
  -- words that are full where one of its sessions found the table full are so for the run
  pub full : (words : List ℕ) → AllByRecursion (FillsWhereFull words) (outcomes_of p.parts) → FillsInBatch input.ends k words 1 outcomes
  -- its sessions made no more nodes than its commands may cost
  pub cost : made_in p.parts ≤ cost_of_batch leaf input history outcomes k
  -- the names that it leaves have the values that they have in the history behind it
  pub state : state_after input (take (from + length p.log) history) ≡ state_left (batch_of_past p)

-- ---- outcomes of one batch
module _ (ends : List ℕ) (b : ℕ) (words : List ℕ) where
  fills_append : (parts more : List Part) (s : ℕ) → FillsInBatch ends b words s (outcomes_of parts) → FillsInBatch ends b words (s + length parts) (outcomes_of more) →
      FillsInBatch ends b words s (outcomes_of (parts ++ more))
  fills_append [] more s h k = subst (λ n. FillsInBatch ends b words n (outcomes_of more)) (none s) k
    where
      none : (n : ℕ) → n + 0 ≡ n
      none n = omega arith
  fills_append (part ∷ parts) more s h k =
      (h.0, fills_append parts more (s + 1) h.1 (subst (λ n. FillsInBatch ends b words n (outcomes_of more)) (next s (length parts)) k))
    where
      next : (m n : ℕ) → m + suc n ≡ m + 1 + n
      next m n = omega arith

  -- those of its own sessions
  fills_own : (parts : List Part) (s : ℕ) → AllByRecursion (FillsWhereFull words) (outcomes_of parts) → FillsInBatch ends b words s (outcomes_of parts)
  fills_own [] s h = tt
  fills_own (part ∷ parts) s h = (λ is. h.0, fills_own parts (s + 1) h.1)

  -- sessions of another batch have none
  fills_other : (parts : List Part) (s j : ℕ) → ((n : ℕ) → s ≤ n → n < s + length parts → batch_of ends n ≡ j) → (j ≡ b → ⊥) → FillsInBatch ends b words s (outcomes_of parts)
  fills_other [] s j own other = tt
  fills_other (part ∷ parts) s j own other = (
    λ is. absurd (other (sym (own s (omega arith) (omega arith)) ∙ is)),
    fills_other parts (s + 1) j (λ n low high. own n (omega (arith, low)) (omega (arith, high))) other,
  )

  -- nor have those of later ones
  fills_later : (ps : List Past) (k number : ℕ) → Numbered ends k number ps → b < k → FillsInBatch ends b words number (outcomes_of (parts_of ps))
  fills_later [] k number own l = tt
  fills_later (p ∷ ps) k number own l =
      fills_append p.parts (parts_of ps) number (fills_other p.parts number k own.0 (λ e. omega (arith, l, e)))
      (fills_later ps (k + 1) (number + length p.parts) own.1 (omega (arith, l)))

-- where words are full as the sessions of a batch found them, they are so for this batch of the run
pub filled_in_batch : (ends words : List ℕ) (before : List Past) (p : Past) (after : List Past) (k number : ℕ) → Numbered ends k number (before ++ p ∷ after) →
    AllByRecursion (FillsWhereFull words) (outcomes_of p.parts) → FillsInBatch ends (k + length before) words number (outcomes_of (parts_of (before ++ p ∷ after)))
filled_in_batch ends words [] p after k number own h =
    fills_append ends (k + 0) words p.parts (parts_of after) number (fills_own ends (k + 0) words p.parts number h)
    (fills_later ends (k + 0) words after (k + 1) (number + length p.parts) own.1 (omega arith))
filled_in_batch ends words (x ∷ before) p after k number own h =
    fills_append ends (k + suc (length before)) words x.parts (parts_of (before ++ p ∷ after)) number
    (fills_other ends (k + suc (length before)) words x.parts number k own.0 (λ e. omega (arith, e)))
    (subst (λ b. FillsInBatch ends b words (number + length x.parts) (outcomes_of (parts_of (before ++ p ∷ after)))) (next k (length before))
    (filled_in_batch ends words before p after (k + 1) (number + length x.parts) own.1 h))
  where
    next : (m n : ℕ) → m + 1 + n ≡ m + suc n
    next m n = omega arith

-- ---- the history around a batch
pub history_at : (before : List Past) (p : Past) (after : List Past) → history_of (before ++ p ∷ after) ≡ history_of before ++ (p.log ++ history_of after)
history_at [] p after = refl
history_at (x ∷ before) p after = ap (λ (l : List Event). x.log ++ l) (history_at before p after) ∙ sym (append_assoc x.log (history_of before) (p.log ++ history_of after))

module _ (input : Input) where
  -- its log stands behind those before it
  behind_at : (before : List Past) (p : Past) (after : List Past) (k : ℕ) (done : List Event) → AllBehind input k done (batches_of (before ++ p ∷ after)) →
      StandsBehind input (λ s. eqb (batch_of input.ends s) (k + length before)) p.means p.first (done ++ history_of before) p.log
  behind_at [] p after k done h =
      subst (λ n. StandsBehind input (λ s. eqb (batch_of input.ends s) n) p.means p.first (done ++ []) p.log) (none k)
      (subst (λ (l : List Event). StandsBehind input (λ s. eqb (batch_of input.ends s) k) p.means p.first l p.log) (sym (append-nil done)) h.0)
    where
      none : (n : ℕ) → n ≡ n + 0
      none n = omega arith
  behind_at (x ∷ before) p after k done h =
      subst (λ n. StandsBehind input (λ s. eqb (batch_of input.ends s) n) p.means p.first (done ++ (x.log ++ history_of before)) p.log) (next k (length before))
      (subst (λ (l : List Event). StandsBehind input (λ s. eqb (batch_of input.ends s) (k + 1 + length before)) p.means p.first l p.log)
      (append_assoc done x.log (history_of before)) (behind_at before p after (k + 1) (done ++ x.log) h.1))
    where
      next : (m n : ℕ) → m + 1 + n ≡ m + suc n
      next m n = omega arith

  -- the history behind it has the state that it leaves
  left_at : (before : List Past) (p : Past) (after : List Past) (done : List Event) → LeaveStates input done (batches_of (before ++ p ∷ after)) →
      state_after input (done ++ (history_of before ++ p.log)) ≡ state_left (batch_of_past p)
  left_at [] p after done h = h.0
  left_at (x ∷ before) p after done h =
      ap (state_after input) (ap (λ (l : List Event). done ++ l) (append_assoc x.log (history_of before) p.log) ∙ sym (append_assoc done x.log (history_of before ++ p.log)))
      ∙ left_at before p after (done ++ x.log) h.2

-- the batch at a place
at_place : (before : List Past) (p : Past) (after : List Past) → slice_get (before ++ p ∷ after) (length before) ≡ Some p
at_place [] p after = refl
at_place (x ∷ before) p after = at_place before p after

-- a batch among others, with those before it and those behind
pub has_place : (leaf : ℕ) (files : List Loaded) (turns : ℕ) (asked : Bool) (ps before : List Past) (p : Past) (after : List Past) → ps ≡ before ++ p ∷ after →
    ArePast leaf files turns 1 no_names (λ name. 0) ps →
    HasPlace leaf (input_of_past files turns asked ps) (history_of ps) (outcomes_of (parts_of ps)) (length before) (length (history_of before)) p
has_place leaf files turns asked ps before p after split h =
    subst (λ all. HasPlace leaf (input_of_past files turns asked all) (history_of all) (outcomes_of (parts_of all)) (length before) (length (history_of before)) p)
    (sym split) (here (subst (ArePast leaf files turns 1 no_names (λ name. 0)) split h))
  where
    here : ArePast leaf files turns 1 no_names (λ name. 0) (before ++ p ∷ after) →
        HasPlace leaf (input_of_past files turns asked (before ++ p ∷ after)) (history_of (before ++ p ∷ after)) (outcomes_of (parts_of (before ++ p ∷ after)))
        (length before) (length (history_of before)) p
    here are =
        let all = before ++ p ∷ after in
        let input = input_of_past files turns asked all in
        let done = history_of before in
        let later = history_of after in
        let whole = history_at before p after in
        let runs = whole_runs leaf files turns asked all are in
        let stands = subst (λ n. StandsBehind input (λ s. eqb (batch_of input.ends s) n) p.means p.first done p.log) (from_zero (length before))
        (behind_at input before p after 0 [] (all_behind leaf files turns asked all are)) in
        let long = length-append done (p.log ++ later) in
        let longer = length-append p.log later in
        let same = ap length whole in
        let front : take (length done) (history_of all) ≡ done = ap (take (length done)) whole ∙ take_at done (p.log ++ later) (length done) refl in
        let upto : take (length done + length p.log) (history_of all) ≡ done ++ p.log =
        ap (take (length done + length p.log)) (whole ∙ sym (append_assoc done p.log later)) ∙ take_at (done ++ p.log) later (length done + length p.log) (length-append done p.log) in
        record {
          within = omega (arith, long, longer, same);
          own = ap (events_between (length done) (length done + length p.log)) whole ∙ between input done p.log later;
          events = all_map (λ e. eqb (batch_of input.ends e.session) (length before) ≡ true) (λ e. batch_of input.ends e.session ≡ length before)
              (λ e i. eqb-true (batch_of input.ends e.session) (length before) i) p.log stands.of_kind;
          due_stored = λ words k.
              subst (λ l. AreStored (gifts_due input) words (replay (gifts_due input) start l) p.log) (sym front)
              (stored p.means (λ s. eqb (batch_of input.ends s) (length before)) (gifts_due input) words p.log (replay (gifts_due input) start done) (begun p.first.names)
              stands.of_kind stands.same stands.dues k);
          full = λ words k.
              subst (λ b. FillsInBatch input.ends b words 1 (outcomes_of (parts_of all))) (from_zero (length before))
              (filled_in_batch input.ends words before p after 0 1 (numbered 0 all) k);
          cost = runs.costs (length before) p (at_place before p after);
          state = ap (state_after input) upto ∙ left_at input before p after []
              (batches_leave_states input (batches_of all) (outcomes_of (parts_of all)) runs.batches runs.ran);
        }
