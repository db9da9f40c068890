-- All sessions' promises together: the closed logs of all batches are one lawful history.
-- 1. Each event is of a session that ran in its batch, so that each assigned relation has the value that is due.
-- 2. Batch after batch, the state behind the log is that of the carried relations, with which the next batch begins.
-- 3. So each log stands behind those before it, and each session ran by the states of the whole history.
use Rattle.std.proofs.Common.{◌≡◌, ◌<◌, ◌≤◌, ◌+◌, ◌-◌, ◌++◌, ◌&&◌, ◌||◌, ℕ, zero, suc, Bool, true, false, cond, eqb, List, [], ◌∷◌, length, Option, Some, None, refl, sym, ap, subst, ◌∙◌, inl, inr, arith, append_assoc, add-zero}
use Rattle.std.specs.Prelude.{slice_get, option_and_then}
use Rattle.std.specs.List.{list_any, AllByRecursion}
use Rattle.std.proofs.lemmas.Bool.{cases_Bool, false≢true, eq-eqb, ne_eqb, or_parts}
use Rattle.run_model.specs.declared.event.Event.{Event}
use Rattle.run_model.specs.declared.event.Act.{Act}
use Rattle.run_model.specs.declared.event.Act.TheVariants.{Read, Assign, Remove}
use Rattle.run_model.specs.declared.outcome.Outcome.{Outcome}
use Rattle.rel_model.specs.Relation.{Relation}
use Rattle.run_model.specs.Names.{no_names}
use Rattle.run_model.specs.Inputs.{Input, Reading, NoScript, Flawed, Runs, script_of, script_at, batch_of}
use Rattle.run_model.specs.Due.{Workspace, Gifts}
use Rattle.run_model.specs.Versions.{version}
use Rattle.run_model.specs.States.{Replay, at_command, begun, start, events_of, replay_act, replay, gifts_due, state_after}
use Rattle.run_model.specs.Carried.{SameTo, carried_from, valued}
use Rattle.run_model.specs.Legal.{LegalSession, LegalSessions, assigns, BeginsWithAssign, GoesOn, AssignsTogether, BatchesInOrder}
use Rattle.run_model.specs.Turns.{StandsBehind}
use Rattle.run_model.specs.Sessions.{RanIn, SessionRan}
use Rattle.run_model.specs.Batches.{Batch, logs_of, IsOfBatch, state_left, versions_left, AreBatches, RanInBatch, SessionsRan, ClosedLogsAreLegal, LeaveStates}
use Rattle.run_model.proofs.Carrying.{carried_is_state}
use Rattle.run_model.proofs.Places.{version-append}
use Rattle.run_model.proofs.Standing.{Ahead, goes_on}
use Rattle.run_model.proofs.Taking.{replay_append}
use Rattle.run_model.proofs.Closing.{own_between, turns_run_script}
use Rattle.run_model.proofs.SessionValues.{sessions_make_due}

-- ---- events of sessions
-- a log without events of a session has none
pub none_of : (s : ℕ) (xs : List Event) → events_of s xs ≡ [] → list_any (λ e. eqb e.session s) xs ≡ false
none_of s [] h = refl
none_of s (x ∷ xs) h = elim (cases_Bool (eqb x.session s)) [
  | inl t ↦ absurd (some_event x (events_of s xs) (subst (λ b. cond b (x ∷ events_of s xs) (events_of s xs) ≡ []) t h))
  | inr f ↦ rw f (none_of s xs (subst (λ b. cond b (x ∷ events_of s xs) (events_of s xs) ≡ []) f h))
]
  where
    some_event : (y : Event) (ys : List Event) → y ∷ ys ≡ [] → ⊥
    some_event y ys e = let k : length (y ∷ ys) ≡ 0 = ap length e in omega (arith, k)

pub one_of : (s : ℕ) (xs : List Event) (e : Event) (ys : List Event) → eqb e.session s ≡ true → list_any (λ x. eqb x.session s) (xs ++ e ∷ ys) ≡ true
one_of s [] e ys h = ap (λ b. b || list_any (λ x. eqb x.session s) ys) h
one_of s (z ∷ xs) e ys h = ap (λ b. eqb z.session s || b) (one_of s xs e ys h) ∙ or_true (eqb z.session s)
  where
    or_true : (b : Bool) → (b || true) ≡ true
    or_true true = refl
    or_true false = refl

-- where another session's events stand, a session has none
pub others : (s : ℕ) (xs : List Event) → AllByRecursion (λ e. e.session ≡ s → ⊥) xs → events_of s xs ≡ []
others s [] h = refl
others s (x ∷ xs) h = rw (ne_eqb x.session s h.0) (others s xs h.1)

pub none_assigned : (s c : ℕ) (xs : List Event) → AllByRecursion (λ e. e.session ≡ s → ⊥) xs → list_any (assigns s c) xs ≡ false
none_assigned s c [] h = refl
none_assigned s c (x ∷ xs) h = rw (ne_eqb x.session s h.0) (none_assigned s c xs h.1)

-- and nothing is noted of its commands
module _ (gifts : ℕ → ℕ → Workspace → Gifts) (s : ℕ) where
  pub not_noted : (c t d : ℕ) (a : Act) (p : Replay Relation) → (t ≡ s → ⊥) →
      ((replay_act gifts t d a p).at_read s c ≡ p.at_read s c) × ((replay_act gifts t d a p).given s c ≡ p.given s c)
  not_noted c t d Read p n = (elsewhere c t d n p.now p.at_read, refl)
    where
      elsewhere : (c t d : ℕ) → (t ≡ s → ⊥) → (v : Workspace) (f : ℕ → ℕ → Workspace) → at_command t d v f s c ≡ f s c
      elsewhere c t d n v f = ap (λ b. cond (b && eqb c d) v (f s c)) (ne_eqb s t (λ e. n (sym e)))
  not_noted c t d (Assign name rel) p n = (refl, elsewhere c t d n (p.given t d + 1) p.given)
    where
      elsewhere : (c t d : ℕ) → (t ≡ s → ⊥) → (v : ℕ) (f : ℕ → ℕ → ℕ) → at_command t d v f s c ≡ f s c
      elsewhere c t d n v f = ap (λ b. cond (b && eqb c d) v (f s c)) (ne_eqb s t (λ e. n (sym e)))
  not_noted c t d (Remove name) p n = (refl, refl)

  pub unnoted : (c : ℕ) (xs : List Event) (p : Replay Relation) → AllByRecursion (λ e. e.session ≡ s → ⊥) xs →
      ((replay gifts p xs).at_read s c ≡ p.at_read s c) × ((replay gifts p xs).given s c ≡ p.given s c)
  unnoted c [] p h = (refl, refl)
  unnoted c (x ∷ xs) p h =
      let i = unnoted c xs (replay_act gifts x.session x.command x.act p) h.1 in
      let o = not_noted c x.session x.command x.act p h.0 in
      (i.0 ∙ o.0, i.1 ∙ o.1)

-- ---- lists
pub all_append : (P : Event → Type 0) (xs ys : List Event) → AllByRecursion P xs → AllByRecursion P ys → AllByRecursion P (xs ++ ys)
all_append P [] ys h k = k
all_append P (x ∷ xs) ys h k = (h.0, all_append P xs ys h.1 k)

-- where one property of an event implies another, it does so for all events of a list
pub all_map : (P Q : Event → Type 0) → ((e : Event) → P e → Q e) → (xs : List Event) → AllByRecursion P xs → AllByRecursion Q xs
all_map P Q f [] h = tt
all_map P Q f (x ∷ xs) h = (f x h.0, all_map P Q f xs h.1)

abbrev batch_count : Option Batch → ℕ
batch_count None = 0
batch_count (Some b) = 1

abbrev batch_or : Batch → Option Batch → Batch
batch_or d None = d
batch_or d (Some b) = b

-- ---- numbers of batches
module _ (input : Input) where
  -- events of batches below one, and from one on
  abbrev Earlier : ℕ → List Event → Type 0
  Earlier k = AllByRecursion (λ e. batch_of input.ends e.session < k)

  abbrev Later : ℕ → List Event → Type 0
  Later k = AllByRecursion (λ e. k ≤ batch_of input.ends e.session)

  abbrev pub of_batch : ℕ → ℕ → Bool
  of_batch k s = eqb (batch_of input.ends s) k

  pub not_earlier : (s k : ℕ) → batch_of input.ends s ≡ k → (xs : List Event) → Earlier k xs → AllByRecursion (λ e. e.session ≡ s → ⊥) xs
  not_earlier s k is xs h =
      all_map (λ e. batch_of input.ends e.session < k) (λ e. e.session ≡ s → ⊥)
      (λ e l q. let r : batch_of input.ends e.session ≡ batch_of input.ends s = ap (batch_of input.ends) q in omega (arith, l, r, is)) xs h

  pub not_later : (s k : ℕ) → batch_of input.ends s ≡ k → (xs : List Event) → Later (k + 1) xs → AllByRecursion (λ e. e.session ≡ s → ⊥) xs
  not_later s k is xs h =
      all_map (λ e. k + 1 ≤ batch_of input.ends e.session) (λ e. e.session ≡ s → ⊥)
      (λ e l q. let r : batch_of input.ends e.session ≡ batch_of input.ends s = ap (batch_of input.ends) q in omega (arith, l, r, is)) xs h

  pub own_later : (k : ℕ) (xs : List Event) → AllByRecursion (IsOfBatch input k) xs → Later k xs
  own_later k xs h = all_map (IsOfBatch input k) (λ e. k ≤ batch_of input.ends e.session) (λ e i. let q = i.2 in omega (arith, q)) xs h

  pub all_later : (k : ℕ) (state : Workspace) (versions : List ℕ → ℕ) (bs : List Batch) → AreBatches input k state versions bs → Later k (logs_of bs)
  all_later k state versions [] h = tt
  all_later k state versions (b ∷ bs) h =
      all_append (λ e. k ≤ batch_of input.ends e.session) b.log (logs_of bs) (own_later k b.log h.2)
      (all_map (λ e. k + 1 ≤ batch_of input.ends e.session) (λ e. k ≤ batch_of input.ends e.session) (λ e l. omega (arith, l)) (logs_of bs)
      (all_later (k + 1) (state_left b) (versions_left b) bs h.3))

  pub all_numbers : (k : ℕ) (state : Workspace) (versions : List ℕ → ℕ) (bs : List Batch) → AreBatches input k state versions bs →
      AllByRecursion (λ e. (1 ≤ e.session) × (e.session ≤ length input.readings)) (logs_of bs)
  all_numbers k state versions [] h = tt
  all_numbers k state versions (b ∷ bs) h =
      all_append (λ e. (1 ≤ e.session) × (e.session ≤ length input.readings)) b.log (logs_of bs)
      (all_map (IsOfBatch input k) (λ e. (1 ≤ e.session) × (e.session ≤ length input.readings)) (λ e i. (i.0, i.1)) b.log h.2)
      (all_numbers (k + 1) (state_left b) (versions_left b) bs h.3)

  -- the events of a batch before those of later ones
  pub in_order : (k : ℕ) (xs ys : List Event) → AllByRecursion (IsOfBatch input k) xs → Later (k + 1) ys → BatchesInOrder input.ends ys → BatchesInOrder input.ends (xs ++ ys)
  in_order k [] ys h l o = o
  in_order k (x ∷ xs) ys h l o = (
    all_append (λ e. batch_of input.ends x.session ≤ batch_of input.ends e.session) xs ys
        (all_map (IsOfBatch input k) (λ e. batch_of input.ends x.session ≤ batch_of input.ends e.session) (λ e i. let p = h.0.2 in let q = i.2 in omega (arith, p, q)) xs h.1)
        (all_map (λ e. k + 1 ≤ batch_of input.ends e.session) (λ e. batch_of input.ends x.session ≤ batch_of input.ends e.session) (λ e i. let p = h.0.2 in omega (arith, p, i)) ys l),
    in_order k xs ys h.1 l o,
  )

  -- the events of the batches stand in the order of the batches: by induction, a batch's own
  -- come before the later ones'
  pub all_in_order : (k : ℕ) (state : Workspace) (versions : List ℕ → ℕ) (bs : List Batch) → AreBatches input k state versions bs → BatchesInOrder input.ends (logs_of bs)
  all_in_order k state versions [] h = tt
  all_in_order k state versions (b ∷ bs) h =
      in_order k b.log (logs_of bs) h.2 (all_later (k + 1) (state_left b) (versions_left b) bs h.3)
      (all_in_order (k + 1) (state_left b) (versions_left b) bs h.3)

  -- ---- each batch behind the earlier ones
  -- so do all batches stand, from number k on
  abbrev pub AllStand : ℕ → List Event → List Batch → Type 0
  AllStand k done [] = Unit {0}
  AllStand k done (b ∷ bs) = StandsBehind input (of_batch k) b.means b.first done b.log × AllStand (k + 1) (done ++ b.log) bs

  -- where each event of each batch is of a session that ran in it
  abbrev AllRan : List Batch → Type 0
  AllRan [] = Unit {0}
  AllRan (b ∷ bs) = AllByRecursion (λ e. RanIn input b.first b.means b.log e.session) b.log × AllRan bs

  -- of a batch's sessions nothing is noted behind the events of earlier ones
  pub same_to : (k : ℕ) (done : List Event) (names : Workspace) → (replay (gifts_due input) start done).now ≡ names → Earlier k done →
      SameTo (of_batch k) (replay (gifts_due input) start done) (begun names)
  same_to k done names now earlier = record {
    now = now;
    at_read = λ s c is. (unnoted (gifts_due input) s c done start (not_earlier s k (number s k is) done earlier)).0;
    given = λ s c is. (unnoted (gifts_due input) s c done start (not_earlier s k (number s k is) done earlier)).1;
  }
    where
      number : (s k : ℕ) → eqb (batch_of input.ends s) k ≡ true → batch_of input.ends s ≡ k
      number s k is = grind (arith, is)

  -- behind a batch the history has the state and the versions that it leaves
  pub left_behind : (k : ℕ) (done : List Event) (b : Batch) → StandsBehind input (of_batch k) b.means b.first done b.log →
      (state_after input (done ++ b.log) ≡ state_left b) × ((name : List ℕ) → version name (done ++ b.log) ≡ versions_left b name)
  unfolding state_after carried_from
  left_behind k done b stands = (
    ap (λ p. p.now) (replay_append (gifts_due input) start done b.log)
        ∙ (carried_is_state (of_batch k) (gifts_due input) b.means b.first.names (replay (gifts_due input) start done) b.log stands.of_kind stands.same stands.dues).now,
    λ name. version-append name done b.log ∙ ap (λ n. n + version name b.log) (sym (stands.versions name)),
  )

  pub all_left : (k : ℕ) (done : List Event) (bs : List Batch) → AllStand k done bs → LeaveStates input done bs
  all_left k done [] st = tt
  all_left k done (b ∷ bs) st =
      let l = left_behind k done b st.0 in
      (l.0, l.1, all_left (k + 1) (done ++ b.log) bs st.1)

  -- by induction on the batches: the state and versions behind the log so far are those that the next batch begins
  -- with, so that its log stands behind it
  pub all_stand : (k : ℕ) (state : Workspace) (versions : List ℕ → ℕ) (bs : List Batch) (done : List Event) → AreBatches input k state versions bs → AllRan bs →
      (replay (gifts_due input) start done).now ≡ state → ((name : List ℕ) → version name done ≡ versions name) → Earlier k done → AllStand k done bs
  unfolding carried_from
  all_stand k state versions [] done h r now vs earlier = tt
  all_stand k state versions (b ∷ bs) done h r now vs earlier =
      let stands : StandsBehind input (of_batch k) b.means b.first done b.log = record {
        of_kind = all_map (IsOfBatch input k) (λ e. of_batch k e.session ≡ true) (λ e i. eq-eqb (batch_of input.ends e.session) k i.2) b.log h.2;
        same = same_to k done (valued b.means b.first.names) (now ∙ sym h.0) earlier;
        dues = sessions_make_due input b.first b.means b.log r.0;
        versions = λ name. h.1 name ∙ sym (vs name);
      } in (
        stands,
        all_stand (k + 1) (state_left b) (versions_left b) bs (done ++ b.log) h.3 r.1
            (ap (λ p. p.now) (replay_append (gifts_due input) start done b.log)
            ∙ (carried_is_state (of_batch k) (gifts_due input) b.means b.first.names (replay (gifts_due input) start done) b.log stands.of_kind stands.same stands.dues).now)
            (λ name. version-append name done b.log ∙ ap (λ n. n + version name b.log) (sym (stands.versions name)))
            (all_append (λ e. batch_of input.ends e.session < k + 1) done b.log
            (all_map (λ e. batch_of input.ends e.session < k) (λ e. batch_of input.ends e.session < k + 1) (λ e l. omega (arith, l)) done earlier)
            (all_map (IsOfBatch input k) (λ e. batch_of input.ends e.session < k + 1) (λ e i. let q = i.2 in omega (arith, q)) b.log h.2)),
      )

  -- what stands before a batch and behind it
  pub record Place (k : ℕ) (b : Batch) (history : List Event) : Type 0 where
    pub done : List Event
    pub later : List Event
    pub whole : history ≡ done ++ (b.log ++ later)
    pub stands : StandsBehind input (of_batch k) b.means b.first done b.log
    pub is_earlier : Earlier k done
    pub is_later : Later (k + 1) later

  -- a batch stands in the whole history behind the earlier batches and before the later ones: by induction to its place
  pub place : (bs : List Batch) (k n : ℕ) (state : Workspace) (versions : List ℕ → ℕ) (done : List Event) (b : Batch) → AreBatches input k state versions bs →
      AllStand k done bs → Earlier k done → slice_get bs n ≡ Some b → Place (k + n) b (done ++ logs_of bs)
  place [] k n state versions done b h st earlier is = let q : 0 ≡ 1 = ap batch_count is in absurd (omega (arith, q))
  place (x ∷ bs) k zero state versions done b h st earlier is =
      subst (λ y. Place (k + 0) y (done ++ (x.log ++ logs_of bs))) (ap (batch_or x) is)
      (subst (λ n. Place n x (done ++ (x.log ++ logs_of bs))) (sym (add-zero k)) here)
    where
      here : Place k x (done ++ (x.log ++ logs_of bs))
      here = record {
        done = done;
        later = logs_of bs;
        whole = refl;
        stands = st.0;
        is_earlier = earlier;
        is_later = all_later (k + 1) (state_left x) (versions_left x) bs h.3;
      }
  place (x ∷ bs) k (suc n) state versions done b h st earlier is =
      subst (Place (k + suc n) b) (append_assoc done x.log (logs_of bs))
      (subst (λ m. Place m b ((done ++ x.log) ++ logs_of bs)) (later k n)
      (place bs (k + 1) n (state_left x) (versions_left x) (done ++ x.log) b h.3 st.1
      (all_append (λ e. batch_of input.ends e.session < k + 1) done x.log
      (all_map (λ e. batch_of input.ends e.session < k) (λ e. batch_of input.ends e.session < k + 1) (λ e l. omega (arith, l)) done earlier)
      (all_map (IsOfBatch input k) (λ e. batch_of input.ends e.session < k + 1) (λ e i. let q = i.2 in omega (arith, q)) x.log h.2))
      is))
    where
      later : (k n : ℕ) → (k + 1) + n ≡ k + suc n
      later k n = omega arith

  -- ---- sessions in their batches
  module _ (batches : List Batch) (outcomes : List (List Outcome)) (ran : SessionsRan input batches 1 input.readings outcomes) where
    ran_at : (readings : List Reading) (outcomes : List (List Outcome)) (s k : ℕ) → SessionsRan input batches s readings outcomes → k < length readings →
        (reading : Reading) × (os : List Outcome) × (slice_get readings k ≡ Some reading) × RanInBatch input batches (s + k) reading os
    ran_at [] [] s k h l = absurd (omega (arith, l))
    ran_at [] (o ∷ os) s k h l = absurd h
    ran_at (r ∷ rs) [] s k h l = absurd h
    ran_at (r ∷ rs) (o ∷ os) s zero h l = (r, o, refl, subst (λ n. RanInBatch input batches n r o) (same s) h.0)
      where
        same : (s : ℕ) → s ≡ s + 0
        same s = omega arith
    ran_at (r ∷ rs) (o ∷ os) s (suc k) h l =
        let m = ran_at rs os (s + 1) k h.1 (omega (arith, l)) in
        (m.0, m.1, m.2, subst (λ n. RanInBatch input batches n m.0 m.1) (later s k) m.3)
      where
        later : (s k : ℕ) → (s + 1) + k ≡ s + suc k
        later s k = omega arith

    -- a session with an event ran a script
    ran_script : (b : Batch) (s : ℕ) (reading : Reading) (os : List Outcome) → slice_get input.readings (s - 1) ≡ Some reading →
        SessionRan input b.first b.means b.log s reading os → list_any (λ e. eqb e.session s) b.log ≡ true → RanIn input b.first b.means b.log s
    unfolding script_at
    ran_script b s (NoScript fault) os is h any = absurd (false≢true (sym (none_of s b.log h.1) ∙ any))
    ran_script b s (Flawed fault) os is h any = absurd (false≢true (sym (none_of s b.log h.1) ∙ any))
    ran_script b s (Runs script) os is h any = record {
      script = script;
      is_script = ap (option_and_then script_of) is;
      outcomes = os;
      ts = h.0;
      seen = h.1;
      runs = h.2;
      begins = h.3;
      all = h.4;
    }

    event_ran : (k : ℕ) (b : Batch) → slice_get batches k ≡ Some b → (e : Event) (xs ys : List Event) → b.log ≡ xs ++ e ∷ ys → IsOfBatch input k e →
        RanIn input b.first b.means b.log e.session
    event_ran k b is e xs ys w i =
        let m = ran_at input.readings outcomes 1 (e.session - 1) ran (omega (arith, i.0, i.1)) in
        let r = subst (λ n. RanInBatch input batches n m.0 m.1) (whole e.session i.0) m.3 in
        let same : r.0 ≡ b = ap (batch_or r.0) (sym r.1 ∙ (ap (slice_get batches) i.2 ∙ is)) in
        ran_script b e.session m.0 m.1 m.2 (subst (λ x. SessionRan input x.first x.means x.log e.session m.0 m.1) same r.2)
        (ap (list_any (λ x. eqb x.session e.session)) w ∙ one_of e.session xs e ys (eq-eqb e.session e.session refl))
      where
        whole : (n : ℕ) → 1 ≤ n → 1 + (n - 1) ≡ n
        whole n l = omega (arith, l)

    batch_ran : (k : ℕ) (b : Batch) → slice_get batches k ≡ Some b → (xs ys : List Event) → b.log ≡ xs ++ ys → AllByRecursion (IsOfBatch input k) ys →
        AllByRecursion (λ e. RanIn input b.first b.means b.log e.session) ys
    batch_ran k b is xs [] w h = tt
    batch_ran k b is xs (e ∷ es) w h =
        (event_ran k b is e xs es w h.0, batch_ran k b is (xs ++ e ∷ []) es (w ∙ sym (append_assoc xs (e ∷ []) es)) h.1)

    pub all_ran : (k : ℕ) (state : Workspace) (versions : List ℕ → ℕ) (bs : List Batch) → ((n : ℕ) → slice_get batches (k + n) ≡ slice_get bs n) →
        AreBatches input k state versions bs → AllRan bs
    all_ran k state versions [] at h = tt
    all_ran k state versions (b ∷ bs) at h = (
      batch_ran k b (ap (slice_get batches) (sym (add-zero k)) ∙ at 0) [] b.log refl h.2,
      all_ran (k + 1) (state_left b) (versions_left b) bs (λ n. ap (slice_get batches) (later k n) ∙ at (suc n)) h.3,
    )
      where
        later : (k n : ℕ) → (k + 1) + n ≡ k + suc n
        later k n = omega arith

    -- ---- assignments
    together_in : (b : Batch) (xs ys : List Event) → b.log ≡ xs ++ ys → AllByRecursion (λ e. RanIn input b.first b.means b.log e.session) ys → AssignsTogether ys
    together_in b xs [] w h = tt
    together_in b xs (e ∷ es) w h =
        let r = h.0 in
        let ahead : Ahead e.session r.ts [] b.log = record { new = r.seen; turns = r.runs.turns; begins = r.begins; own = r.runs.own; all = r.all } in (
          goes_on e.session r.ts [] b.log b.log ahead r.runs.once refl xs e es w refl,
          together_in b (xs ++ e ∷ []) es (w ∙ sym (append_assoc xs (e ∷ []) es)) h.1,
        )

    none_append : (p : Event → Bool) (xs ys : List Event) → list_any p xs ≡ false → list_any p ys ≡ false → list_any p (xs ++ ys) ≡ false
    none_append p [] ys h k = k
    none_append p (x ∷ xs) ys h k =
        let a : (p x ≡ false) × (list_any p xs ≡ false) = or_parts (p x) (list_any p xs) h in rw a.0 (none_append p xs ys a.1 k)

    goes_further : (e : Event) (es ys : List Event) → GoesOn e es → list_any (assigns e.session e.command) ys ≡ false → GoesOn e (es ++ ys)
    goes_further e es ys h n = λ a. elim (h a) [
      | inl b ↦ inl (begins es b)
      | inr f ↦ inr (none_append (assigns e.session e.command) es ys f n)
    ]
      where
        begins : (es : List Event) → BeginsWithAssign e.session e.command es → BeginsWithAssign e.session e.command (es ++ ys)
        begins [] b = absurd b
        begins (x ∷ xs) b = b

    together_append : (k : ℕ) (xs ys : List Event) → AllByRecursion (IsOfBatch input k) xs → Later (k + 1) ys → AssignsTogether xs → AssignsTogether ys → AssignsTogether (xs ++ ys)
    together_append k [] ys h l t u = u
    together_append k (e ∷ es) ys h l t u = (
      goes_further e es ys t.0 (none_assigned e.session e.command ys (not_later e.session k h.0.2 ys l)),
      together_append k es ys h.1 l t.1 u,
    )

    all_together : (k : ℕ) (state : Workspace) (versions : List ℕ → ℕ) (bs : List Batch) → AreBatches input k state versions bs → AllRan bs → AssignsTogether (logs_of bs)
    all_together k state versions [] h r = tt
    all_together k state versions (b ∷ bs) h r =
        together_append k b.log (logs_of bs) h.2 (all_later (k + 1) (state_left b) (versions_left b) bs h.3) (together_in b [] b.log refl r.0)
        (all_together (k + 1) (state_left b) (versions_left b) bs h.3 r.1)

    -- ---- all sessions
    module _ (placed : (k : ℕ) (b : Batch) → slice_get batches k ≡ Some b → Place k b (logs_of batches)) where
      legal_session : (s : ℕ) (reading : Reading) (os : List Outcome) → RanInBatch input batches s reading os → LegalSession input (logs_of batches) s reading os
      legal_session s reading os r =
          let p = placed (batch_of input.ends s) r.0 r.1 in
          let before = others s p.done (not_earlier s (batch_of input.ends s) refl p.done p.is_earlier) in
          let behind = others s p.later (not_later s (batch_of input.ends s) refl p.later p.is_later) in
          subst (λ h. LegalSession input h s reading os) (sym p.whole) (here r.0 p.done p.later p.stands before behind reading r.2)
        where
          here : (b : Batch) (done later : List Event) → StandsBehind input (of_batch (batch_of input.ends s)) b.means b.first done b.log →
              events_of s done ≡ [] → events_of s later ≡ [] → (reading : Reading) → SessionRan input b.first b.means b.log s reading os →
              LegalSession input (done ++ (b.log ++ later)) s reading os
          here b done later st before behind (NoScript fault) h = (h.0, own_between s done b.log later before behind ∙ h.1)
          here b done later st before behind (Flawed fault) h = (h.0, own_between s done b.log later before behind ∙ h.1)
          here b done later st before behind (Runs script) h =
              turns_run_script input (of_batch (batch_of input.ends s)) b.means b.first s script os h.0 done h.1 b.log later st h.2 h.3 h.4 before behind

      legal_sessions : (readings : List Reading) (outcomes : List (List Outcome)) (s : ℕ) → SessionsRan input batches s readings outcomes →
          LegalSessions input (logs_of batches) s readings outcomes
      legal_sessions [] [] s h = tt
      legal_sessions [] (o ∷ os) s h = absurd h
      legal_sessions (r ∷ rs) [] s h = absurd h
      legal_sessions (r ∷ rs) (o ∷ os) s h = (legal_session s r o h.0, legal_sessions rs os (s + 1) h.1)

pub from_zero : (n : ℕ) → 0 + n ≡ n
from_zero n = omega arith

-- the logs of all batches are a lawful history: each has its place there, so each session ran by its states
pub closed_logs_are_legal : ClosedLogsAreLegal
closed_logs_are_legal input batches outcomes are ran =
    let all = all_ran input batches outcomes ran 0 no_names (λ name. 0) batches (λ n. ap (slice_get batches) (from_zero n)) are in
    let stand = all_stand input 0 no_names (λ name. 0) batches [] are all refl (λ name. refl) tt in
    let placed : (k : ℕ) (b : Batch) → slice_get batches k ≡ Some b → Place input k b (logs_of batches) =
    λ k b is. subst (λ n. Place input n b (logs_of batches)) (from_zero k) (place input batches 0 k no_names (λ name. 0) [] b are stand tt is) in
    record {
      numbers = all_numbers input 0 no_names (λ name. 0) batches are;
      sessions = legal_sessions input batches outcomes ran placed input.readings outcomes 1 ran;
      together = all_together input batches outcomes ran 0 no_names (λ name. 0) batches are all;
      batches = all_in_order input 0 no_names (λ name. 0) batches are;
    }
