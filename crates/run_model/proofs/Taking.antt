-- What a session took at a command's first turn is the state of the history before the command's first event, and what
-- changed between its turns changed between its events.
-- 1. The session has no event in earlier and later batches, so that its events stand in the log of its own.
-- 2. There they stand behind the logs that its turns took.
-- 3. The state of that part of the history is that of the carried relations.
use Rattle.std.proofs.Common.{◌≡◌, ◌+◌, ℕ, Bool, true, false, cond, eqb, List, [], ◌∷◌, ◌++◌, Option, Some, None, option_map, refl, sym, ap, subst, ◌∙◌, arith}
use Rattle.std.specs.List.{list_any, AllByRecursion}
use Rattle.rel_model.specs.declared.Rel.{Rel}
use Rattle.run_model.specs.declared.event.Event.{Event}
use Rattle.rel_model.specs.Relation.{Relation}
use Rattle.run_model.specs.Names.{no_names}
use Rattle.run_model.specs.Due.{Workspace, Gifts}
use Rattle.run_model.specs.Versions.{version, version_behind, first_changed}
use Rattle.run_model.specs.States.{Replay, is_of, events_of, events_before, before_first, before_second, begun, start, replay_act, replay, gifts_due, state_after, state_for}
use Rattle.run_model.specs.Carried.{carry_act, carried_from, AllHaveDue}
use Rattle.run_model.specs.Legal.{change_at, change_for}
use Rattle.run_model.specs.Turns.{BeginsLog, Turn, taken, second_taken, taken_again, state_of_log, log_or_none, change_taken, TurnsInLog, TakenIsState, TakenIsChange}
use Rattle.run_model.proofs.Carrying.{carried_is_state}
use Rattle.run_model.proofs.Places.{behind_log, behind_none, first_none, first_passes, second_none, second_passes, before_is, none_is, version-append}
use Rattle.run_model.proofs.Standing.{none_own, Ahead, taken_first, taken_second}

-- ---- logs
abbrev log_count : Option (List Event) → ℕ
log_count None = 0
log_count (Some l) = 1

abbrev log_of : Option (List Event) → List Event
log_of None = []
log_of (Some l) = l

-- behind the last event of a command nothing matters
module _ (s c : ℕ) where
  first_cut : (xs ys : List Event) → list_any (is_of s c) ys ≡ false → before_first s c (xs ++ ys) ≡ before_first s c xs
  first_cut [] ys h = first_none s c ys h
  first_cut (x ∷ xs) ys h = ap (λ o. cond (is_of s c x) (Some []) (option_map (λ l. x ∷ l) o)) (first_cut xs ys h)

  second_cut : (xs ys : List Event) → list_any (is_of s c) ys ≡ false → before_second s c (xs ++ ys) ≡ before_second s c xs
  second_cut [] ys h = second_none s c ys h
  second_cut (x ∷ xs) ys h = λ i.
      option_map (λ l. x ∷ l) (cond (is_of s c x) (first_cut xs ys h i) (second_cut xs ys h i))

  -- what stands before the first event begins the log
  first_begins : (xs l : List Event) → before_first s c xs ≡ Some l → BeginsLog l xs
  first_begins [] l h = let k : 0 ≡ 1 = ap log_count h in absurd (omega (arith, k))
  first_begins (x ∷ xs) l h = picked (is_of s c x) (before_first s c xs) (first_begins xs) h
    where
      picked : (b : Bool) (o : Option (List Event)) → ((k : List Event) → o ≡ Some k → BeginsLog k xs) →
          cond b (Some []) (option_map (λ l. x ∷ l) o) ≡ Some l → BeginsLog l (x ∷ xs)
      picked true o f e = subst (λ k. BeginsLog k (x ∷ xs)) (ap log_of e) (x ∷ xs, refl)
      picked false None f e = let k : 0 ≡ 1 = ap log_count e in absurd (omega (arith, k))
      picked false (Some k) f e =
          let r = f k refl in subst (λ k. BeginsLog k (x ∷ xs)) (ap log_of e) (r.0, ap (λ z. x ∷ z) r.1)

  -- a command that has a second event has a first one
  again_first : (ts : List Turn) (m : List Event) → taken_again c ts ≡ Some m → (l : List Event) × (taken c ts ≡ Some l)
  again_first [] m h = let k : 0 ≡ 1 = ap log_count h in absurd (omega (arith, k))
  again_first (t ∷ ts) m h = picked (list_any (λ e. eqb e.command c) t.put) (again_first ts m) h
    where
      picked : (b : Bool) → (taken_again c ts ≡ Some m → (l : List Event) × (taken c ts ≡ Some l)) →
          cond b (second_taken t.took t.put (taken c ts)) (taken_again c ts) ≡ Some m →
          (l : List Event) × (cond b (Some t.took) (taken c ts) ≡ Some l)
      picked true f h = (t.took, refl)
      picked false f h = f h

-- ---- a session in its batch
module _ (s : ℕ) (ts : List Turn) (done seen log later : List Event) (stand : TurnsInLog s ts seen log)
    (before : events_of s done ≡ []) (behind : events_of s later ≡ []) (c : ℕ) where
  ahead : Ahead s ts [] log
  ahead = record { new = seen; turns = stand.turns; begins = stand.begins; own = stand.own; all = stand.all }

  taken_log : before_first s c log ≡ taken c ts
  taken_log = sym (behind_none (before_first s c log)) ∙ taken_first s c ts [] log log ahead refl

  again_log : before_second s c log ≡ taken_again c ts
  again_log = sym (behind_none (before_second s c log)) ∙ taken_second s c ts [] log log ahead refl

  abbrev history : List Event
  history = done ++ (log ++ later)

  first_there : before_first s c history ≡ behind_log done (taken c ts)
  first_there =
      first_passes s c done (log ++ later) (none_own s c done before)
      ∙ ap (behind_log done) (first_cut s c log later (none_own s c later behind) ∙ taken_log)

  second_there : before_second s c history ≡ behind_log done (taken_again c ts)
  second_there =
      second_passes s c done (log ++ later) (none_own s c done before)
      ∙ ap (behind_log done) (second_cut s c log later (none_own s c later behind) ∙ again_log)

-- ---- states
pub replay_append : (gifts : ℕ → ℕ → Workspace → Gifts) (p : Replay Relation) (xs ys : List Event) → replay gifts p (xs ++ ys) ≡ replay gifts (replay gifts p xs) ys
replay_append gifts p [] ys = refl
replay_append gifts p (x ∷ xs) ys = replay_append gifts (replay_act gifts x.session x.command x.act p) xs ys

begins_due : (gifts : ℕ → ℕ → Workspace → Gifts) (means : Rel → Relation) (p : Replay Rel) (xs ys : List Event) →
    AllHaveDue gifts means p (xs ++ ys) → AllHaveDue gifts means p xs
begins_due gifts means p [] ys h = tt
begins_due gifts means p (x ∷ xs) ys h = (h.0, begins_due gifts means (carry_act x.session x.command x.act p) xs ys h.1)

begins_kind : (kind : ℕ → Bool) (xs ys : List Event) → AllByRecursion (λ e. kind e.session ≡ true) (xs ++ ys) → AllByRecursion (λ e. kind e.session ≡ true) xs
begins_kind kind [] ys h = tt
begins_kind kind (x ∷ xs) ys h = (h.0, begins_kind kind xs ys h.1)

-- the state that a command took is that of the history before its first event: the log that its turn took ends there,
-- and its replay is that of the carried relations
pub taken_is_state : TakenIsState
unfolding state_for state_after carried_from
taken_is_state input kind means first s ts done seen log later place stand before behind c =
    which (taken c ts) (taken_log s ts done seen log later stand before behind c) (first_there s ts done seen log later stand before behind c)
  where
    which : (o : Option (List Event)) → before_first s c log ≡ o → before_first s c (done ++ (log ++ later)) ≡ behind_log done o →
        state_for input (done ++ (log ++ later)) s c ≡ state_of_log first.names means o
    which None own there =
        ap (λ t. cond t (replay (gifts_due input) start (events_before s c (done ++ (log ++ later)))).now no_names)
        (none_is s c (done ++ (log ++ later)) there)
    which (Some l) own there =
        let b = before_is s c (done ++ (log ++ later)) (done ++ l) there in
        let part = first_begins s c log l own in
        let dues = begins_due (gifts_due input) means (begun first.names) l part.0 (subst (AllHaveDue (gifts_due input) means (begun first.names)) part.1 place.dues) in
        let of_kind = begins_kind kind l part.0 (subst (AllByRecursion (λ e. kind e.session ≡ true)) part.1 place.of_kind) in
        ap (λ t. cond t (replay (gifts_due input) start (events_before s c (done ++ (log ++ later)))).now no_names) b.1
        ∙ (ap (λ h. (replay (gifts_due input) start h).now) b.0
        ∙ (ap (λ p. p.now) (replay_append (gifts_due input) start done l)
        ∙ (carried_is_state kind (gifts_due input) means first.names (replay (gifts_due input) start done) l of_kind place.same dues).now))

-- ---- changes
same_changes : (f g : List ℕ → ℕ) (v w : List ℕ → ℕ) → ((name : List ℕ) → f name ≡ g name) → ((name : List ℕ) → v name ≡ w name) →
    (names : List (List ℕ)) → first_changed f v names ≡ first_changed g w names
same_changes f g v w h k names = λ i. first_changed (λ name. h name i) (λ name. k name i) names

-- a name changed between a command's turns exactly if it did between its events: both compare versions in the same two
-- logs, of which each has the earlier batches' in front
pub taken_is_change : TakenIsChange
unfolding change_for
taken_is_change versions s ts done seen log later first stand before behind c names =
    which (taken_again c ts) (taken c ts) refl refl
    (first_there s ts done seen log later stand before behind c) (second_there s ts done seen log later stand before behind c)
  where
    -- versions behind the events of earlier batches
    counted : (l : List Event) (name : List ℕ) → version name (done ++ l) ≡ version_behind versions l name
    counted l name = version-append name done l ∙ ap (λ n. n + version name l) (sym (first name))

    which : (o p : Option (List Event)) → taken_again c ts ≡ o → taken c ts ≡ p → before_first s c (done ++ (log ++ later)) ≡ behind_log done (taken c ts) →
        before_second s c (done ++ (log ++ later)) ≡ behind_log done (taken_again c ts) →
        change_at (λ name. version name (events_before s c (done ++ (log ++ later)))) (λ l name. version name l) (before_second s c (done ++ (log ++ later))) names
        ≡ change_taken versions ts c names
    which None p is has one two =
        ap (λ o. change_at (λ name. version name (events_before s c (done ++ (log ++ later)))) (λ l name. version name l) o names) (two ∙ ap (behind_log done) is)
        ∙ sym (ap (λ o. change_at (version_behind versions (log_or_none (taken c ts))) (version_behind versions) o names) is)
    which (Some m) None is has one two =
        let k : 0 ≡ 1 = ap log_count (sym has ∙ (again_first s c ts m is).1) in absurd (omega (arith, k))
    which (Some m) (Some l) is has one two =
        let at = (before_is s c (done ++ (log ++ later)) (done ++ l) (one ∙ ap (behind_log done) has)).0 in
        ap (λ o. change_at (λ name. version name (events_before s c (done ++ (log ++ later)))) (λ l name. version name l) o names) (two ∙ ap (behind_log done) is)
        ∙ (same_changes (λ name. version name (events_before s c (done ++ (log ++ later)))) (version_behind versions (log_or_none (taken c ts)))
        (λ name. version name (done ++ m)) (version_behind versions m)
        (λ name. ap (version name) at ∙ (counted l name ∙ sym (ap (λ o. version_behind versions (log_or_none o) name) has))) (counted m) names
        ∙ sym (ap (λ o. change_at (version_behind versions (log_or_none (taken c ts))) (version_behind versions) o names) is))
