-- What each session of a run of batches has in the whole history: it ran in its batch, and its replies, files and cost
-- are those of its steps on the states of the history.
-- 1. The log of its batch stands behind those before it, and no other batch has events of its number; so the states
--    that it took are those of the whole history just before its commands.
-- 2. What is known of the sessions of each batch is put together, batch by batch.
use Rattle.std.proofs.Common.{◌≡◌, ◌<◌, ◌≤◌, ◌+◌, ◌++◌, ℕ, zero, suc, cond, eqb, List, [], ◌∷◌, length, Option, Some, None, refl, sym, ap, subst, ◌∙◌, arith}
use Rattle.std.proofs.lemmas.Bool.{eq-eqb}
use Rattle.std.specs.Prelude.{slice_get}
use Rattle.lang_model.specs.declared.syntax.Script.{Script}
use Rattle.run_model.specs.declared.event.Event.{Event}
use Rattle.run_model.specs.Inputs.{Input, Reading, NoScript, Flawed, Runs, batch_of}
use Rattle.run_model.specs.Steps.{steps}
use Rattle.run_model.specs.States.{state_for}
use Rattle.run_model.specs.Batches.{Batch, logs_of, RanInBatch, SessionsRan}
use Rattle.run_model.specs.Page.{replies, saves_of, session_page, sessions_page, session_saves, sessions_saves}
use Rattle.run_model.specs.Cost.{cost_of_steps, cost_of_session, cost_in_batch}
use Rattle.run_model.specs.Turns.{TurnsInLog, state_taken}
use Rattle.run_model.specs.Sessions.{SessionRan}
use Rattle.run_model.proofs.Taking.{taken_is_state}
use Rattle.run_model.proofs.Whole.{others, not_earlier, not_later, Place}
use Rattle.rv_runs.specs.Past.{Part, outcomes_of, text_of, files_of, made_in, ToldScript, Told, AllTold, Past, batch_of_past, parts_of, readings_of}
use Rattle.rv_runs.proofs.PastNumbers.{Numbered}

abbrev past_count : Option Past → ℕ
past_count None = 0
past_count (Some p) = 1

abbrev past_or : Past → Option Past → Past
past_or d None = d
past_or d (Some p) = p

module _ (leaf : ℕ) (input : Input) (batches : List Batch) where
  -- the events of all batches
  abbrev history : List Event
  history = logs_of batches

  -- ---- one session
  -- a session in the whole run
  pub record InRun (s : ℕ) (reading : Reading) (part : Part) : Type 0 where
    pub ran : RanInBatch input batches s reading part.outcomes
    pub text : part.text ≡ session_page input history s reading part.outcomes
    pub saved : part.saved ≡ session_saves input history s reading part.outcomes
    pub cost : part.made ≤ cost_of_session leaf input history s reading part.outcomes

  -- those from number s on
  abbrev pub AllInRun : ℕ → List Reading → List Part → Type 0
  AllInRun s [] [] = Unit {0}
  AllInRun s (reading ∷ readings) (part ∷ parts) = InRun s reading part × AllInRun (s + 1) readings parts
  AllInRun s [] (part ∷ parts) = ⊥
  AllInRun s (reading ∷ readings) [] = ⊥

  module _ (k : ℕ) (p : Past) (at : slice_get batches k ≡ Some (batch_of_past p)) (place : Place input k (batch_of_past p) history) where
    -- the states that it took are those of the history
    same_states : (s : ℕ) → batch_of input.ends s ≡ k → (script : Script) (part : Part) → (t : ToldScript leaf input p.first p.means p.log s script part) →
        state_taken p.first.names p.means t.ts ≡ state_for input history s
    same_states s is script part t =
        let turns : TurnsInLog s t.ts t.seen p.log = record { turns = t.runs.turns; own = t.runs.own; begins = t.begins; all = t.events } in
        let before = others s place.done (not_earlier input s k is place.done place.is_earlier) in
        let behind = others s place.later (not_later input s k is place.later place.is_later) in
        λ i c. (sym (taken_is_state input (λ n. eqb (batch_of input.ends n) k) p.means p.first s t.ts place.done t.seen p.log place.later place.stands turns before behind c)
        ∙ ap (λ (l : List Event). state_for input l s c) (sym place.whole)) i

    ran_of : (s : ℕ) (reading : Reading) (part : Part) → Told leaf input p.first p.means p.log s reading part → SessionRan input p.first p.means p.log s reading part.outcomes
    ran_of s (NoScript fault) part t = (t.only, t.no_events)
    ran_of s (Flawed fault) part t = (t.only, t.no_events)
    ran_of s (Runs script) part t = (t.ts, t.seen, t.runs, t.begins, t.events)

    text_in : (s : ℕ) → batch_of input.ends s ≡ k → (reading : Reading) (part : Part) → Told leaf input p.first p.means p.log s reading part →
        part.text ≡ session_page input history s reading part.outcomes
    text_in s is (NoScript fault) part t = t.text
    text_in s is (Flawed fault) part t = t.text
    text_in s is (Runs script) part t = t.text ∙ ap (λ f. replies input script s (steps f script part.outcomes)) (same_states s is script part t)

    saved_in : (s : ℕ) → batch_of input.ends s ≡ k → (reading : Reading) (part : Part) → Told leaf input p.first p.means p.log s reading part →
        part.saved ≡ session_saves input history s reading part.outcomes
    saved_in s is (NoScript fault) part t = t.saved
    saved_in s is (Flawed fault) part t = t.saved
    saved_in s is (Runs script) part t = t.saved ∙ ap (λ f. saves_of input script (steps f script part.outcomes)) (same_states s is script part t)

    cost_in : (s : ℕ) → batch_of input.ends s ≡ k → (reading : Reading) (part : Part) → Told leaf input p.first p.means p.log s reading part →
        part.made ≤ cost_of_session leaf input history s reading part.outcomes
    cost_in s is (NoScript fault) part t = t.cost
    cost_in s is (Flawed fault) part t = t.cost
    cost_in s is (Runs script) part t = subst (λ f. part.made ≤ cost_of_steps leaf input script (steps f script part.outcomes)) (same_states s is script part t) t.cost

    -- the sessions of the batch
    pub all_in_run : (readings : List Reading) (parts : List Part) (s : ℕ) → ((n : ℕ) → s ≤ n → n < s + length parts → batch_of input.ends n ≡ k) →
        AllTold leaf input p.first p.means p.log s readings parts → AllInRun s readings parts
    all_in_run [] [] s own t = tt
    all_in_run [] (part ∷ parts) s own t = absurd t
    all_in_run (r ∷ rs) [] s own t = absurd t
    all_in_run (r ∷ rs) (part ∷ parts) s own t =
        let is = own s (omega arith) (omega arith) in
        let one : InRun s r part = record {
          ran = (batch_of_past p, ap (slice_get batches) is ∙ at, ran_of s r part t.0);
          text = text_in s is r part t.0;
          saved = saved_in s is r part t.0;
          cost = cost_in s is r part t.0;
        } in (
          one,
          all_in_run rs parts (s + 1) (λ n low high. own n (omega (arith, low)) (omega (arith, high))) t.1,
        )

  -- ---- all sessions
  -- those of batches, the first of which has this number
  abbrev pub PastsInRun : ℕ → List Past → Type 0
  PastsInRun number [] = Unit {0}
  PastsInRun number (p ∷ ps) = AllInRun number p.readings p.parts × PastsInRun (number + length p.parts) ps

  in_run_append : (rs qs : List Reading) (parts more : List Part) (s : ℕ) → AllInRun s rs parts → AllInRun (s + length parts) qs more → AllInRun s (rs ++ qs) (parts ++ more)
  in_run_append [] qs [] more s h k = subst (λ n. AllInRun n qs more) (none s) k
    where
      none : (n : ℕ) → n + 0 ≡ n
      none n = omega arith
  in_run_append [] qs (part ∷ parts) more s h k = absurd h
  in_run_append (r ∷ rs) qs [] more s h k = absurd h
  in_run_append (r ∷ rs) qs (part ∷ parts) more s h k = (h.0, in_run_append rs qs parts more (s + 1) h.1 (subst (λ n. AllInRun n qs more) (next s (length parts)) k))
    where
      next : (m n : ℕ) → m + suc n ≡ m + 1 + n
      next m n = omega arith

  pub whole_in_run : (ps : List Past) (number : ℕ) → PastsInRun number ps → AllInRun number (readings_of ps) (parts_of ps)
  whole_in_run [] number h = tt
  whole_in_run (p ∷ ps) number h = in_run_append p.readings (readings_of ps) p.parts (parts_of ps) number h.0 (whole_in_run ps (number + length p.parts) h.1)

  pub sessions_ran : (rs : List Reading) (parts : List Part) (s : ℕ) → AllInRun s rs parts → SessionsRan input batches s rs (outcomes_of parts)
  sessions_ran [] [] s h = tt
  sessions_ran [] (part ∷ parts) s h = absurd h
  sessions_ran (r ∷ rs) [] s h = absurd h
  sessions_ran (r ∷ rs) (part ∷ parts) s h = (h.0.ran, sessions_ran rs parts (s + 1) h.1)

  pub text_is_page : (rs : List Reading) (parts : List Part) (s : ℕ) → AllInRun s rs parts → text_of parts ≡ sessions_page input history s rs (outcomes_of parts)
  text_is_page [] [] s h = refl
  text_is_page [] (part ∷ parts) s h = absurd h
  text_is_page (r ∷ rs) [] s h = absurd h
  text_is_page (r ∷ rs) (part ∷ parts) s h = λ i. h.0.text i ++ text_is_page rs parts (s + 1) h.1 i

  pub files_are_saves : (rs : List Reading) (parts : List Part) (s : ℕ) → AllInRun s rs parts → files_of parts ≡ sessions_saves input history s rs (outcomes_of parts)
  files_are_saves [] [] s h = refl
  files_are_saves [] (part ∷ parts) s h = absurd h
  files_are_saves (r ∷ rs) [] s h = absurd h
  files_are_saves (r ∷ rs) (part ∷ parts) s h = λ i. h.0.saved i ++ files_are_saves rs parts (s + 1) h.1 i

  -- ---- cost
  -- the sessions of a batch made no more than these may cost, whatever sessions follow
  cost_here : (b : ℕ) (qs : List Reading) (more : List Part) (rs : List Reading) (parts : List Part) (s : ℕ) →
      ((n : ℕ) → s ≤ n → n < s + length parts → batch_of input.ends n ≡ b) → AllInRun s rs parts →
      made_in parts ≤ cost_in_batch leaf input history b s (rs ++ qs) (outcomes_of (parts ++ more))
  cost_here b qs more [] [] s own h = omega arith
  cost_here b qs more [] (part ∷ parts) s own h = absurd h
  cost_here b qs more (r ∷ rs) [] s own h = absurd h
  cost_here b qs more (r ∷ rs) (part ∷ parts) s own h =
      let is = eq-eqb (batch_of input.ends s) b (own s (omega arith) (omega arith)) in
      let one : cond (eqb (batch_of input.ends s) b) (cost_of_session leaf input history s r part.outcomes) 0 ≡ cost_of_session leaf input history s r part.outcomes =
      ap (λ t. cond t (cost_of_session leaf input history s r part.outcomes) 0) is in
      let c = h.0.cost in
      let rest = cost_here b qs more rs parts (s + 1) (λ n low high. own n (omega (arith, low)) (omega (arith, high))) h.1 in
      omega (arith, one, c, rest)

  -- and others take nothing away
  cost_later : (b : ℕ) (qs : List Reading) (more : List Part) (rs : List Reading) (parts : List Part) (s : ℕ) → AllInRun s rs parts →
      cost_in_batch leaf input history b (s + length parts) qs (outcomes_of more) ≤ cost_in_batch leaf input history b s (rs ++ qs) (outcomes_of (parts ++ more))
  cost_later b qs more [] [] s h = subst (λ n. cost_in_batch leaf input history b n qs (outcomes_of more) ≤ cost_in_batch leaf input history b s qs (outcomes_of more)) (none s) (omega arith)
    where
      none : (n : ℕ) → n ≡ n + 0
      none n = omega arith
  cost_later b qs more [] (part ∷ parts) s h = absurd h
  cost_later b qs more (r ∷ rs) [] s h = absurd h
  cost_later b qs more (r ∷ rs) (part ∷ parts) s h =
      let rest = cost_later b qs more rs parts (s + 1) h.1 in
      let same : cost_in_batch leaf input history b (s + suc (length parts)) qs (outcomes_of more) ≡ cost_in_batch leaf input history b (s + 1 + length parts) qs (outcomes_of more) =
      ap (λ n. cost_in_batch leaf input history b n qs (outcomes_of more)) (next s (length parts)) in
      omega (arith, rest, same)
    where
      next : (m n : ℕ) → m + suc n ≡ m + 1 + n
      next m n = omega arith

  -- each batch made no more than its commands may cost
  pub cost_at : (ps : List Past) (k number : ℕ) → Numbered input.ends k number ps → PastsInRun number ps → (n : ℕ) (p : Past) → slice_get ps n ≡ Some p →
      made_in p.parts ≤ cost_in_batch leaf input history (k + n) number (readings_of ps) (outcomes_of (parts_of ps))
  cost_at [] k number own h n p is = let q : 0 ≡ 1 = ap past_count is in absurd (omega (arith, q))
  cost_at (x ∷ ps) k number own h zero p is =
      subst (λ y. made_in y.parts ≤ cost_in_batch leaf input history (k + 0) number (readings_of (x ∷ ps)) (outcomes_of (parts_of (x ∷ ps)))) (ap (past_or x) is)
      (subst (λ b. made_in x.parts ≤ cost_in_batch leaf input history b number (readings_of (x ∷ ps)) (outcomes_of (parts_of (x ∷ ps)))) (none k)
      (cost_here k (readings_of ps) (parts_of ps) x.readings x.parts number own.0 h.0))
    where
      none : (m : ℕ) → m ≡ m + 0
      none m = omega arith
  cost_at (x ∷ ps) k number own h (suc n) p is =
      let rest = cost_at ps (k + 1) (number + length x.parts) own.1 h.1 n p is in
      let more = cost_later (k + suc n) (readings_of ps) (parts_of ps) x.readings x.parts number h.0 in
      let same : cost_in_batch leaf input history (k + 1 + n) (number + length x.parts) (readings_of ps) (outcomes_of (parts_of ps))
      ≡ cost_in_batch leaf input history (k + suc n) (number + length x.parts) (readings_of ps) (outcomes_of (parts_of ps)) =
      ap (λ b. cost_in_batch leaf input history b (number + length x.parts) (readings_of ps) (outcomes_of (parts_of ps))) (next k n) in
      omega (arith, rest, more, same)
    where
      next : (m n : ℕ) → m + 1 + n ≡ m + suc n
      next m n = omega arith
