-- A block reads and assigns as if in one moment, or it is refused.
-- 1. Its session ran its script by the states of the history, so its step has the events that its outcome tells.
-- 2. Where it is done its assignments stand together, behind the log before its second event, on whose state it is due the
--    same as on the one that it read, since no name that it reads changed.
-- 3. Where it tells of a change, that is the first one.
use Rattle.std.specs.Prelude.{slice_get, option_and_then}
use Rattle.std.specs.Option.{option_map_or}
use Rattle.std.proofs.Common.{◌≡◌, ◌≢◌, ◌≤◌, ◌+◌, ◌-◌, ℕ, zero, suc, Bool, cond, List, [], ◌∷◌, ◌++◌, map, length, Option, Some, None, refl, sym, ap, subst, ◌∙◌, inl, inr, arith, add-zero}
use Rattle.std.proofs.lemmas.Bool.{false≢true}
use Rattle.lang_model.specs.declared.syntax.Item.{Item}
use Rattle.lang_model.specs.declared.syntax.Let.{Let as BlockLet}
use Rattle.lang_model.specs.declared.syntax.Script.{Script}
use Rattle.rel_model.specs.Relation.{Relation}
use Rattle.run_model.specs.declared.event.Event.{Event}
use Rattle.run_model.specs.declared.event.Act.TheVariants.{Read}
use Rattle.run_model.specs.declared.outcome.Outcome.{Outcome}
use Rattle.run_model.specs.declared.outcome.Outcome.TheVariants.{Done, Nodes, NoMemory, Changed}
use Rattle.run_model.specs.Names.{no_names}
use Rattle.run_model.specs.Inputs.{Input, Reading, Runs, script_of, script_at, item_at}
use Rattle.run_model.specs.Due.{Workspace, Gifts, Due, Values, outcome_due, due_of_block, due, given_all}
use Rattle.run_model.specs.Steps.{ending, steps}
use Rattle.run_model.specs.Events.{Reads, entry_of, entries, giving, HasDeeds}
use Rattle.run_model.specs.Outcomes.{IsOutcome, lets_of}
use Rattle.run_model.specs.Versions.{Change, version}
use Rattle.run_model.specs.Blocks.{block_reads}
use Rattle.run_model.specs.States.{Replay, events_of, events_before, before_second, start, replay_act, replay, gifts_of_item, gifts_of_script, gifts_due, state_after, state_for}
use Rattle.run_model.specs.Legal.{IsCommit, CommitsItem, change_at, change_for, RunsScript, LegalSession, LegalSessions, IsLegal}
use Rattle.run_model.proofs.Committing.{blocks_are_at_once}
use Rattle.run_model.proofs.Entries.{event, reads_event, heads, tails, not_empty}
use Rattle.relview.specs.Blocks.{IsBlock, change_before, IsDoneAtOnce, IsChangedAt, CommitsByVersions, OnlyReads, IsAtomic}
use Rattle.relview.proofs.BlockPlaces.{mine, SecondAt, second_at, AllAssign, from_second, all_mine}
use Rattle.relview.proofs.Tabled.{StoredBy}
use Rattle.relview.proofs.BlockValues.{stored_behind, replay_append, Noted, others_keep, read_notes, assigns_all}
use Rattle.relview.proofs.BlockSteps.{own_commands, Found, find_step, find_commit, ActsAsBlock, acts_as_block}
use Rattle.relview.proofs.BlockDue.{is_success, not_done, block_is, refused_reads, done_deeds_are, all_read, all_assign}

-- ---- the session
abbrev reading_or : Reading → Option Reading → Reading
reading_or d None = d
reading_or d (Some x) = x

abbrev some_change : Option Change → ℕ
some_change None = 0
some_change (Some x) = 1

abbrev some_reading : Option Reading → ℕ
some_reading None = 0
some_reading (Some x) = 1

abbrev list_or : List Outcome → Option (List Outcome) → List Outcome
list_or d None = d
list_or d (Some x) = x

abbrev some_list : Option (List Outcome) → ℕ
some_list None = 0
some_list (Some x) = 1

module _ (input : Input) (history : List Event) where
  -- a session that was read as a script ran that script with its outcomes, by induction on the sessions
  session_runs : (k s : ℕ) (readings : List Reading) (all : List (List Outcome)) (script : Script) (own : List Outcome) →
      LegalSessions input history s readings all → slice_get readings k ≡ Some (Runs script) → slice_get all k ≡ Some own →
      RunsScript input history (s + k) script own
  session_runs k s [] all script own h r o = let z : 0 ≡ 1 = ap some_reading r in absurd (omega (arith, z))
  session_runs k s (x ∷ xs) [] script own h r o = absurd h
  session_runs zero s (x ∷ xs) (y ∷ ys) script own h r o =
      subst (λ (n : ℕ). RunsScript input history n script own) (sym (add-zero s))
      (subst (λ (l : List Outcome). RunsScript input history s script l) (ap (list_or y) o)
      (subst (λ (z : Reading). LegalSession input history s z y) (ap (reading_or x) r) h.0))
  session_runs (suc k) s (x ∷ xs) (y ∷ ys) script own h r o =
      let whole : (s + 1) + k ≡ s + suc k = omega arith in
      subst (λ (n : ℕ). RunsScript input history n script own) whole (session_runs k (s + 1) xs ys script own h.1 r o)

-- ---- one block
module _ (input : Input) (history : List Event) (outcomes : List (List Outcome)) (words : ℕ → List ℕ) (legal : IsLegal input history outcomes)
    (stored : StoredBy (gifts_due input) words start history)
    (s c : ℕ) (script : Script) (lets : List BlockLet) (outcome : Outcome) (is : IsBlock input outcomes s c script lets outcome)
    (some : (l : BlockLet) × (ls : List BlockLet) × (lets ≡ l ∷ ls)) where
  whole_number : (n : ℕ) → 1 ≤ n → 1 + (n - 1) ≡ n
  whole_number n l = omega (arith, l)

  runs : RunsScript input history s script is.own
  runs =
      subst (λ (n : ℕ). RunsScript input history n script is.own) (whole_number s is.from_session)
      (session_runs input history (s - 1) 1 input.readings outcomes script is.own legal.sessions is.is_script is.is_own)

  acts : ActsAsBlock input script lets is.item
  acts = acts_as_block input script lets is.item is.is_block

  found : Found input script s (state_for input history s) is.item outcome c (map entry_of (events_of s history))
  unfolding steps item_at
  found =
      subst (λ (n : ℕ). Found input script s (state_for input history s) is.item outcome n (map entry_of (events_of s history))) (whole_number c is.from_command)
      (find_step input script s (state_for input history s) (c - 1) 1 no_names script.items.items is.own (map entry_of (events_of s history)) is.item outcome
      runs.events runs.outcomes_due is.is_item is.came)

  commits : IsCommit outcome (change_for history s c (block_reads lets))
  unfolding item_at
  commits =
      let all = find_commit (change_for history s) (c - 1) 1 script.items.items is.own is.item outcome runs.commits is.is_item is.came in
      let here = subst (λ (n : ℕ). CommitsItem (change_for history s n) (lets_of is.item) outcome) (whole_number c is.from_command) all in
      subst (λ (o : Option (List BlockLet)). CommitsItem (change_for history s c) o outcome) is.is_block here

  -- what is due of it on the state that it read
  abbrev read_due : Due
  read_due = due_of_block input script lets (state_for input history s c)

  due_is : due input script is.item (state_for input history s c) found.snap ≡ read_due
  due_is = acts.due_is (state_for input history s c) found.snap

  is_outcome : IsOutcome is.item read_due outcome
  is_outcome = subst (λ (d : Due). IsOutcome is.item d outcome) due_is found.is_outcome

  has : HasDeeds (ending outcome) is.item read_due found.deeds
  has = subst (λ (d : Due). HasDeeds (ending outcome) is.item d found.deeds) due_is found.has

  -- its events
  own_events : map entry_of (mine s c history) ≡ entries s c found.deeds
  own_events = own_commands s c history ∙ found.only

  -- (d) one that is refused reads
  pub refused : outcome ≢ Done → OnlyReads history s c
  refused off =
      all_mine s c (λ e. e.act ≡ Read) history
      (all_read s c found.deeds (mine s c history) (refused_reads input script lets is.item acts read_due outcome found.deeds off has) own_events)

  -- what is given where it is due to be done
  pub record Given : Type 0 where
    pub gifts : Gifts
    pub due_to : read_due ≡ Values gifts
    pub first : List ℕ × Relation
    pub others : Gifts
    pub parts : gifts ≡ first ∷ others

  given_if : outcome_due read_due ≡ Done → Given
  given_if e = elim (block_is input script lets (state_for input history s c)) [
    | inl g ↦ parts g.0 g.1 g.2
    | inr r ↦ absurd (not_done r.1 (sym (ap outcome_due r.2) ∙ e) r.3)
  ]
    where
      parts : (gs : Gifts) → read_due ≡ Values gs → length gs ≡ length lets → Given
      parts [] e l = let n : length lets ≡ length (some.0 ∷ some.1) = ap length some.2 in absurd (omega (arith, l, n))
      parts (g ∷ gs) e l = record { gifts = g ∷ gs; due_to = e; first = g; others = gs; parts = refl }

  -- (b) one that tells of a change tells the first one
  at_second : (o : Option (List Event)) (change : Change) → before_second s c history ≡ o →
      change_at (λ name. version name (events_before s c history)) (λ log name. version name log) o (block_reads lets) ≡ Some change →
      (before : List Event) × (before_second s c history ≡ Some before) × (change_before history before s c lets ≡ Some change)
  at_second None change e h = let z : 0 ≡ 1 = ap some_change h in absurd (omega (arith, z))
  at_second (Some log) change e h = (log, e, h)

  pub changed : (name : List ℕ) (seen found : ℕ) → outcome ≡ Changed name seen found → IsChangedAt history s c lets name seen found
  unfolding change_for
  changed name seen found e =
      let k : change_for history s c (block_reads lets) ≡ Some (record { name = name; seen = seen; found = found }) =
      subst (λ (o : Outcome). IsCommit o (change_for history s c (block_reads lets))) e commits in
      let r = at_second (before_second s c history) (record { name = name; seen = seen; found = found }) refl k in
      record { before = r.0; is_before = r.1; change = r.2 }

  -- (a) one that is done
  due_done : outcome ≡ Done → outcome_due read_due ≡ Done
  due_done done = elim is_outcome [
    | inl e ↦ sym e ∙ done
    | inr (inl n) ↦ absurd (not_done outcome done (ap ending n.0))
    | inr (inr (inl m)) ↦ absurd (lacks_not (sym m.0 ∙ done))
    | inr (inr (inr k)) ↦ absurd (changes_not k.0.0 k.0.1 k.0.2 (sym k.0.3 ∙ done))
  ]
    where
      lacks_not : NoMemory ≡ Done → ⊥
      lacks_not e = false≢true (ap (λ (x : Outcome). is_success (ending x)) e)

      changes_not : (name : List ℕ) (seen later : ℕ) → Changed name seen later ≡ Done → ⊥
      changes_not name seen later e = false≢true (ap (λ (x : Outcome). is_success (ending x)) e)

  -- what the command gives by its number is what its block gives on the state that it read
  gifts_are : (state : Workspace) (gifts : Gifts) → state ≡ state_for input history s c → read_due ≡ Values gifts → gifts_due input s c state ≡ gifts
  unfolding gifts_due script_at item_at
  gifts_are state gifts same e =
      ap (λ (o : Option Reading). option_map_or (gifts_of_script input c state) (option_and_then script_of o) []) is.is_script
      ∙ (ap (λ (o : Option Item). option_map_or (gifts_of_item input script state) o []) is.is_item
      ∙ (acts.gives_is (due input script is.item state None)
      ∙ (ap given_all (acts.due_is state None)
      ∙ (ap (λ (t : Workspace). given_all (due_of_block input script lets t)) same ∙ ap given_all e))))

  module _ (done : outcome ≡ Done) where
    given : Given
    given = given_if (due_done done)

    done_events : map entry_of (mine s c history) ≡ entries s c (Reads ∷ giving given.gifts)
    done_events =
        own_events ∙ ap (entries s c) (done_deeds_are input script lets is.item acts read_due given.gifts found.deeds given.due_to
        (subst (λ (o : Outcome). HasDeeds (ending o) is.item read_due found.deeds) done has))

    no_change : change_for history s c (block_reads lets) ≡ None
    no_change = subst (λ (o : Outcome). IsCommit o (change_for history s c (block_reads lets))) done commits

    module _ (e f : Event) (es : List Event) (own : mine s c history ≡ e ∷ f ∷ es) where
      at : SecondAt s c history e f es
      at = second_at s c history e f es own

      entries_are : entry_of e ∷ map entry_of (f ∷ es) ≡ entries s c (Reads ∷ giving given.gifts)
      entries_are = ap (map entry_of) (sym own) ∙ done_events

      is_read : e ≡ event s c Read
      is_read = reads_event e s c (heads _ _ _ _ entries_are)

      deeds_are : map entry_of (f ∷ es) ≡ entries s c (giving given.gifts)
      deeds_are = tails _ _ _ _ entries_are

      all : AllAssign s c (f ∷ es)
      all = all_assign s c given.gifts (f ∷ es) deeds_are

      abbrev log : List Event
      log = at.pre ++ e ∷ at.mid

      abbrev gifts_by : ℕ → ℕ → Workspace → Gifts
      gifts_by = gifts_due input

      abbrev first_replay : Replay Relation
      first_replay = replay gifts_by start at.pre

      read_state : first_replay.now ≡ state_for input history s c
      unfolding state_for state_after
      read_state =
          sym (ap (λ (b : Bool). cond b (replay gifts_by start (events_before s c history)).now no_names) at.any
          ∙ ap (λ (l : List Event). (replay gifts_by start l).now) at.before)

      noted : Noted gifts_by words s c (replay gifts_by start log) first_replay.now 0
      noted =
          let same : replay gifts_by start log ≡ replay gifts_by (replay_act gifts_by s c Read first_replay) at.mid =
          replay_append gifts_by words start at.pre (e ∷ at.mid)
          ∙ ap (λ (y : Event). replay gifts_by (replay_act gifts_by y.session y.command y.act first_replay) at.mid) is_read in
          let at_first = others_keep gifts_by words s c at.pre start no_names 0 at.quiet (record { read = refl; given = refl }) in
          subst (λ (q : Replay Relation). Noted gifts_by words s c q first_replay.now 0) (sym same)
          (others_keep gifts_by words s c at.mid (replay_act gifts_by s c Read first_replay) first_replay.now 0 at.quiet_mid
          (read_notes gifts_by words s c first_replay no_names at_first))

      at_once : IsDoneAtOnce input history (words s) s c script lets
      unfolding change_for state_after
      at_once =
          let rest = from_second s c history e f es at all.0 all.1 legal.together in
          let kept = stored_behind gifts_by words start log ((f ∷ es) ++ rest.0) (subst (StoredBy gifts_by words start) rest.1 stored) in
          let told = assigns_all gifts_by words s c given.gifts given.gifts 0 first_replay.now (replay gifts_by start log) (f ∷ es) rest.0 noted
          (gifts_are first_replay.now given.gifts read_state given.due_to) (λ j. ap (slice_get given.gifts) (from_none j)) deeds_are kept in
          record {
            before = log;
            is_before = at.second;
            unchanged = sym (ap (λ (o : Option (List Event)). change_at (λ name. version name (events_before s c history)) (λ l name. version name l) o (block_reads lets)) at.second) ∙ no_change;
            gifts = given.gifts;
            due = sym (blocks_are_at_once input script history s c lets log at.second no_change) ∙ given.due_to;
            assigned = f ∷ es;
            behind = rest.0;
            together = rest.1;
            deeds = deeds_are;
            no_more = rest.2;
            values = ap (λ (q : Replay Relation). q.now) (replay_append gifts_by words start log (f ∷ es)) ∙ told.0;
            in_words = told.1;
          }
        where
          from_none : (j : ℕ) → 0 + j ≡ j
          from_none j = omega arith

    done_by : (xs : List Event) → mine s c history ≡ xs → IsDoneAtOnce input history (words s) s c script lets
    done_by [] h = absurd (not_empty _ _ (sym (ap (map entry_of) (sym h) ∙ done_events)))
    done_by (e ∷ []) h =
        let both : entry_of e ∷ [] ≡ entries s c (Reads ∷ giving (given.first ∷ given.others)) =
        ap (map entry_of) (sym h) ∙ (done_events ∙ ap (λ (gs : Gifts). entries s c (Reads ∷ giving gs)) given.parts) in
        absurd (not_empty _ _ (sym (tails _ _ _ _ both)))
    done_by (e ∷ f ∷ es) h = at_once e f es h

    pub done_at_once : IsDoneAtOnce input history (words s) s c script lets
    done_at_once = done_by (mine s c history) refl

  -- (c) versions decide
  pub decided : outcome ≢ Nodes → outcome ≢ NoMemory → (gifts : Gifts) → read_due ≡ Values gifts → CommitsByVersions history s c lets outcome
  decided nodes memory gifts due_to = elim is_outcome [
    | inl e ↦
        let done : outcome ≡ Done = e ∙ ap outcome_due due_to in
        let r = done_at_once done in
        record { before = r.before; is_before = r.is_before; commits = inl (done, r.unchanged) }
    | inr (inl n) ↦ absurd (nodes n.0)
    | inr (inr (inl m)) ↦ absurd (memory m.0)
    | inr (inr (inr k)) ↦
        let r = changed k.0.0 k.0.1 k.0.2 k.0.3 in
        record {
          before = r.before;
          is_before = r.is_before;
          commits = inr (record { name = k.0.0; seen = k.0.1; found = k.0.2 }, k.0.3, r.change);
        }
  ]

  pub is_atomic : IsAtomic input history (words s) s c script lets outcome
  is_atomic = record {
    done = done_at_once;
    changed = changed;
    decided = decided;
    refused = refused;
  }
