-- Batches that are over make one lawful run.
-- 1. Each event of a batch is of a session of its own that told of a script; so that session ran its script in it.
-- 2. Numbers of sessions tell the batches, so these are the batches of the run; and each log stands behind those before
--    it.
-- 3. So each session has in the whole history what it told, and the closed logs are one lawful history.
use Rattle.std.specs.List.{AllByRecursion, list_any, flat_map}
use Rattle.std.proofs.Common.{◌≡◌, ◌<◌, ◌≤◌, ◌+◌, ◌-◌, ◌++◌, ℕ, zero, suc, Bool, true, cond, eqb, List, [], ◌∷◌, length, Some, refl, sym, ap, subst, ◌∙◌, arith, append_assoc, length-append}
use Rattle.std.proofs.lemmas.Bool.{eq-eqb, false≢true}
use Rattle.std.specs.Prelude.{slice_get, option_and_then}
use Rattle.run_model.specs.declared.event.Event.{Event}
use Rattle.run_model.specs.declared.files.Loaded.{Loaded}
use Rattle.run_model.specs.Inputs.{Input, Reading, NoScript, Flawed, Runs, AreReadings, Rise, script_of, script_at, batch_of}
use Rattle.run_model.specs.Names.{no_names}
use Rattle.run_model.specs.Due.{Workspace}
use Rattle.run_model.specs.Batches.{Batch, logs_of, IsOfBatch, state_left, versions_left, AreBatches, AreAllBatches}
use Rattle.run_model.specs.Page.{page, saves, event_line}
use Rattle.run_model.specs.Cost.{cost_in_batch, cost_of_batch}
use Rattle.run_model.specs.Turns.{StandsBehind}
use Rattle.run_model.specs.Sessions.{RanIn}
use Rattle.run_model.proofs.Whole.{none_of, one_of, all_stand, Place, place, from_zero, closed_logs_are_legal}
use Rattle.rv_runs.specs.Past.{Part, scripts_of, outcomes_of, Asks, Told, AllTold, IsWithin, made_in, Past, batch_of_past, ArePast, parts_of, readings_of, batches_of, history_of, ends_from, input_of_past, WholeRuns}
use Rattle.rv_runs.proofs.PastNumbers.{as_many, Numbered, numbered, are_read, rises}
use Rattle.rv_runs.proofs.PastSessions.{PastsInRun, all_in_run, whole_in_run, sessions_ran, text_is_page, files_are_saves, cost_at}

-- the logs of batches stand one behind the other, from number k on
abbrev pub AllBehind : Input → ℕ → List Event → List Batch → Type 0
AllBehind input k done [] = Unit {0}
AllBehind input k done (b ∷ bs) =
    StandsBehind input (λ s. eqb (batch_of input.ends s) k) b.means b.first done b.log × AllBehind input (k + 1) (done ++ b.log) bs

-- ---- sessions by their numbers
module _ (leaf : ℕ) (input : Input) (p : Past) where
  -- the reading of a session and what it told
  told_at : (rest : List Reading) (rs : List Reading) (parts : List Part) (s k : ℕ) → AllTold leaf input p.first p.means p.log s rs parts → k < length parts →
      (reading : Reading) × (part : Part) × (slice_get (rs ++ rest) k ≡ Some reading) × Told leaf input p.first p.means p.log (s + k) reading part
  told_at rest [] [] s k h l = absurd (omega (arith, l))
  told_at rest [] (part ∷ parts) s k h l = absurd h
  told_at rest (r ∷ rs) [] s k h l = absurd h
  told_at rest (r ∷ rs) (part ∷ parts) s zero h l = (r, part, refl, subst (λ n. Told leaf input p.first p.means p.log n r part) (same s) h.0)
    where
      same : (s : ℕ) → s ≡ s + 0
      same s = omega arith
  told_at rest (r ∷ rs) (part ∷ parts) s (suc k) h l =
      let m = told_at rest rs parts (s + 1) k h.1 (omega (arith, l)) in
      (m.0, m.1, m.2, subst (λ n. Told leaf input p.first p.means p.log n m.0 m.1) (later s k) m.3)
    where
      later : (s k : ℕ) → (s + 1) + k ≡ s + suc k
      later s k = omega arith

  -- a session with an event ran a script
  ran_script : (s : ℕ) (reading : Reading) (part : Part) → slice_get input.readings (s - 1) ≡ Some reading → Told leaf input p.first p.means p.log s reading part →
      list_any (λ e. eqb e.session s) p.log ≡ true → RanIn input p.first p.means p.log s
  unfolding script_at
  ran_script s (NoScript fault) part is t any = absurd (false≢true (sym (none_of s p.log t.no_events) ∙ any))
  ran_script s (Flawed fault) part is t any = absurd (false≢true (sym (none_of s p.log t.no_events) ∙ any))
  ran_script s (Runs script) part is t any = record {
    script = script;
    is_script = ap (option_and_then script_of) is;
    outcomes = part.outcomes;
    ts = t.ts;
    seen = t.seen;
    runs = t.runs;
    begins = t.begins;
    all = t.events;
  }

  -- so did the session of each event
  module _ (number : ℕ) (rest : List Reading) (told : AllTold leaf input p.first p.means p.log number p.readings p.parts) (low : 1 ≤ number)
      (at : (n : ℕ) → slice_get input.readings (number - 1 + n) ≡ slice_get (p.readings ++ rest) n) where
    event_ran : (e : Event) (xs ys : List Event) → p.log ≡ xs ++ e ∷ ys → IsWithin number (length p.parts) e → RanIn input p.first p.means p.log e.session
    event_ran e xs ys w i =
        let m = told_at rest p.readings p.parts number (e.session - number) told (omega (arith, i.0, i.1)) in
        let here = ap (slice_get input.readings) (place_of e.session number low i.0) ∙ (at (e.session - number) ∙ m.2) in
        ran_script e.session m.0 m.1 here (subst (λ n. Told leaf input p.first p.means p.log n m.0 m.1) (whole e.session number i.0) m.3)
        (ap (list_any (λ x. eqb x.session e.session)) w ∙ one_of e.session xs e ys (eq-eqb e.session e.session refl))
      where
        place_of : (s n : ℕ) → 1 ≤ n → n ≤ s → s - 1 ≡ n - 1 + (s - n)
        place_of s n l h = omega (arith, l, h)

        whole : (s n : ℕ) → n ≤ s → n + (s - n) ≡ s
        whole s n h = omega (arith, h)

    events_ran : (xs ys : List Event) → p.log ≡ xs ++ ys → AllByRecursion (IsWithin number (length p.parts)) ys → AllByRecursion (λ e. RanIn input p.first p.means p.log e.session) ys
    events_ran xs [] w h = tt
    events_ran xs (e ∷ es) w h = (event_ran e xs es w h.0, events_ran (xs ++ e ∷ []) es (w ∙ sym (append_assoc xs (e ∷ []) es)) h.1)

-- behind its readings stand those of later batches
skip : (parts : List Part) (rs rest : List Reading) (n : ℕ) → length rs ≡ length parts → slice_get (rs ++ rest) (length parts + n) ≡ slice_get rest n
skip [] [] rest n e = ap (slice_get rest) (from_zero n)
skip [] (r ∷ rs) rest n e = absurd (omega (arith, e))
skip (part ∷ parts) [] rest n e = absurd (omega (arith, e))
skip (part ∷ parts) (r ∷ rs) rest n e = ap (slice_get (r ∷ (rs ++ rest))) (next (length parts) n) ∙ skip parts rs rest n (omega (arith, e))
  where
    next : (m n : ℕ) → suc m + n ≡ suc (m + n)
    next m n = omega arith

-- ---- batches
module _ (leaf : ℕ) (files : List Loaded) (turns : ℕ) (input : Input) (asks : Asks files turns input) where
  -- where each event of each batch is of a session that ran in it
  abbrev AllRan : List Batch → Type 0
  AllRan [] = Unit {0}
  AllRan (b ∷ bs) = AllByRecursion (λ e. RanIn input b.first b.means b.log e.session) b.log × AllRan bs

  -- each event of each batch is of a session that ran, by induction on the batches: the numbers of a batch's sessions
  -- find its own readings
  all_ran : (ps : List Past) (number : ℕ) (state : Workspace) (versions : List ℕ → ℕ) → ArePast leaf files turns number state versions ps → 1 ≤ number →
      ((n : ℕ) → slice_get input.readings (number - 1 + n) ≡ slice_get (readings_of ps) n) → AllRan (batches_of ps)
  all_ran [] number state versions h low at = tt
  all_ran (p ∷ ps) number state versions h low at = (
    events_ran leaf input p number (readings_of ps) (h.1 input asks) low at [] p.log refl h.2,
    all_ran ps (number + length p.parts) (state_left (batch_of_past p)) (versions_left (batch_of_past p)) h.6 (omega (arith, low))
        (λ n. ap (slice_get input.readings) (later number (length p.parts) n low)
        ∙ (at (length p.parts + n) ∙ skip p.parts p.readings (readings_of ps) n (as_many p.parts p.readings h.0))),
  )
    where
      later : (m k n : ℕ) → 1 ≤ m → m + k - 1 + n ≡ m - 1 + (k + n)
      later m k n l = omega (arith, l)

  -- their events are of their own sessions
  of_batch : (k number count : ℕ) (log : List Event) → ((s : ℕ) → number ≤ s → s < number + count → batch_of input.ends s ≡ k) → 1 ≤ number →
      number + count ≤ length input.readings + 1 → AllByRecursion (IsWithin number count) log → AllByRecursion (IsOfBatch input k) log
  of_batch k number count [] own low high h = tt
  of_batch k number count (e ∷ es) own low high h =
      let from = h.0.0 in
      let below = h.0.1 in
      ((omega (arith, low, from), omega (arith, below, high), own e.session from below), of_batch k number count es own low high h.1)

  are_batches : (ps : List Past) (k number : ℕ) (state : Workspace) (versions : List ℕ → ℕ) → ArePast leaf files turns number state versions ps → 1 ≤ number →
      Numbered input.ends k number ps → number + length (parts_of ps) ≤ length input.readings + 1 → AreBatches input k state versions (batches_of ps)
  are_batches [] k number state versions h low own high = tt
  are_batches (p ∷ ps) k number state versions h low own high =
      let long = length-append p.parts (parts_of ps) in (
        h.4,
        h.5,
        of_batch k number (length p.parts) p.log own.0 low (omega (arith, long, high)) h.2,
        are_batches ps (k + 1) (number + length p.parts) (state_left (batch_of_past p)) (versions_left (batch_of_past p)) h.6 (omega (arith, low)) own.1 (omega (arith, long, high)),
      )

  -- ---- sessions in the whole history
  in_run : (batches : List Batch) → ((k : ℕ) (b : Batch) → slice_get batches k ≡ Some b → Place input k b (logs_of batches)) → (ps : List Past) (k number : ℕ)
      (state : Workspace) (versions : List ℕ → ℕ) → ((n : ℕ) → slice_get batches (k + n) ≡ slice_get (batches_of ps) n) →
      ArePast leaf files turns number state versions ps → Numbered input.ends k number ps → PastsInRun leaf input batches number ps
  in_run batches placed [] k number state versions at h own = tt
  in_run batches placed (p ∷ ps) k number state versions at h own =
      let here : slice_get batches k ≡ Some (batch_of_past p) = ap (slice_get batches) (none k) ∙ at 0 in (
        all_in_run leaf input batches k p here (placed k (batch_of_past p) here) p.readings p.parts number own.0 (h.1 input asks),
        in_run batches placed ps (k + 1) (number + length p.parts) (state_left (batch_of_past p)) (versions_left (batch_of_past p))
            (λ n. ap (slice_get batches) (next k n) ∙ at (suc n)) h.6 own.1,
      )
    where
      none : (n : ℕ) → n ≡ n + 0
      none n = omega arith

      next : (k n : ℕ) → (k + 1) + n ≡ k + suc n
      next k n = omega arith

-- ---- the run
module _ (leaf : ℕ) (files : List Loaded) (turns : ℕ) (asked : Bool) (ps : List Past) (h : ArePast leaf files turns 1 no_names (λ name. 0) ps) where
  abbrev input : Input
  input = input_of_past files turns asked ps

  abbrev batches : List Batch
  batches = batches_of ps

  pub all_read : AreReadings (scripts_of (parts_of ps)) (readings_of ps)
  all_read = are_read leaf files turns ps 1 no_names (λ name. 0) h

  -- they are the batches of the run
  pub all_batches : AreAllBatches input batches
  all_batches =
      let many = as_many (parts_of ps) (readings_of ps) all_read in
      are_batches leaf files turns input (refl, refl) ps 0 1 no_names (λ name. 0) h (omega arith) (numbered 0 ps) (omega (arith, many))

  -- each log stands behind those before it
  pub all_behind : AllBehind input 0 [] batches
  all_behind =
      let all = all_ran leaf files turns input (refl, refl) ps 1 no_names (λ name. 0) h (omega arith) (λ n. ap (slice_get (readings_of ps)) (from_zero n)) in
      all_stand input 0 no_names (λ name. 0) batches [] all_batches all refl (λ name. refl) tt

  placed : (k : ℕ) (b : Batch) → slice_get batches k ≡ Some b → Place input k b (logs_of batches)
  placed k b is = subst (λ n. Place input n b (logs_of batches)) (from_zero k) (place input batches 0 k no_names (λ name. 0) [] b all_batches all_behind tt is)

  pub all_in_whole : PastsInRun leaf input batches 1 ps
  all_in_whole = in_run leaf files turns input (refl, refl) batches placed ps 0 1 no_names (λ name. 0) (λ n. ap (slice_get batches) (from_zero n)) h (numbered 0 ps)

-- batches that are over make one lawful run: they are told by the numbers of its sessions, and each session has in the
-- whole history what it told in its batch
pub whole_runs : WholeRuns
unfolding page saves cost_of_batch
whole_runs leaf files turns asked ps h =
    let input = input_of_past files turns asked ps in
    let batches = batches_of ps in
    let read = all_read leaf files turns asked ps h in
    let many = as_many (parts_of ps) (readings_of ps) read in
    let are = all_batches leaf files turns asked ps h in
    let each = all_in_whole leaf files turns asked ps h in
    let sessions = whole_in_run leaf input batches ps 1 each in
    let ran = sessions_ran leaf input batches (readings_of ps) (parts_of ps) 1 sessions in
    record {
      batches = are;
      ran = ran;
      run = record {
        read = read;
        batches = subst (λ n. Rise 0 n (ends_from 0 ps)) (from_zero (length (parts_of ps)) ∙ sym many) (rises leaf files turns ps 0 1 no_names (λ name. 0) h);
        legal = closed_logs_are_legal input batches (outcomes_of (parts_of ps)) are ran;
        page_shown = ap (λ t. t ++ cond asked (flat_map event_line (history_of ps)) []) (text_is_page leaf input batches (readings_of ps) (parts_of ps) 1 sessions);
        files_put = files_are_saves leaf input batches (readings_of ps) (parts_of ps) 1 sessions;
      };
      costs = λ k p is.
          let most = cost_at leaf input batches ps 0 1 (numbered 0 ps) each k p is in
          subst (λ b. made_in p.parts ≤ cost_in_batch leaf input (history_of ps) b 1 (readings_of ps) (outcomes_of (parts_of ps))) (from_zero k) most;
    }
