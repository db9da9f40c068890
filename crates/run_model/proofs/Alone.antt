-- One script alone: its run is lawful exactly if it is the one that the script decides.
-- 1. An item that does nothing is due the same on each state, so that it does not matter which one it is said to see.
-- 2. An item that does something sees the workspace behind the events of the items before it.
-- 3. Between the read of a block and its next event nothing stands, so that no name changed.
-- 4. So the items of a lawful run come to what the computing definition says, one after another, and back.
use Rattle.std.proofs.Common.{◌≡◌, ◌⊎◌, ◌+◌, ℕ, suc, List, [], ◌∷◌, ◌++◌, map, length, Option, Some, None, refl, sym, ap, subst, ◌∙◌, arith, inl, inr, append_assoc, add-zero}
use Rattle.std.specs.Prelude.{IsSome, slice_get}
use Rattle.std.specs.List.{AllByRecursion}
use Rattle.std.proofs.lemmas.Bool.{false≢true}
use Rattle.lang_model.specs.declared.syntax.Command.TheVariants.{}
use Rattle.lang_model.specs.declared.syntax.Item.{Item}
use Rattle.lang_model.specs.declared.syntax.Script.{Script}
use Rattle.run_model.specs.declared.event.Event.{Event}
use Rattle.run_model.specs.declared.outcome.Outcome.{Outcome}
use Rattle.run_model.specs.Inputs.{Input, script_at, item_at}
use Rattle.run_model.specs.Due.{Workspace, Due, outcome_due, due}
use Rattle.run_model.specs.Steps.{ending, Snapshots, snaps_behind, snap_for, steps_from}
use Rattle.run_model.specs.Events.{Deed, Reads, Entry, entry_of, entries, HasDeeds, AreEvents}
use Rattle.run_model.specs.Outcomes.{lets_of, MayBeChanged, IsChanged, IsOutcome, AreOutcomes}
use Rattle.run_model.specs.Versions.{Change}
use Rattle.run_model.specs.Blocks.{block_reads}
use Rattle.run_model.specs.Legal.{IsCommit, CommitsItem, CommitsFrom, change_for}
use Rattle.lang_model.specs.declared.syntax.Let.{Let as BlockLet}
use Rattle.run_model.specs.States.{start, replay, gifts_due, state_for}
use Rattle.run_model.specs.Solo.{Told, state_behind, deeds_due, solo_from, Suffices}
use Rattle.run_model.proofs.Refusing.{due_fails_well}
use Rattle.run_model.proofs.Entries.{entry, heads, not_empty, split, map_append, Below, From, below_more, below_append, below_own}
use Rattle.run_model.proofs.Behind.{replay_append, read_stays, given_stays, behind, sees_now}
use Rattle.run_model.proofs.AloneSteps.{deeds_are, has_deeds, Ignores, events_from, solo_numbers, block_reads_first, block_deeds, lone_block, commits_alone, ignores}

-- ---- the two directions
module _ (input : Input) (script : Script) (only : script_at input 1 ≡ Some script) (history : List Event) where
  abbrev state_of : ℕ → Workspace
  state_of = state_for input history 1

  abbrev now_behind : List Event → Workspace
  now_behind done = (replay (gifts_due input) start done).now

  -- an item sees the workspace of then, or it does not matter
  sees : (c : ℕ) (item : Item) (d : Due) (done mine rest : List Event) (state : Workspace) → now_behind done ≡ state →
      history ≡ done ++ (mine ++ rest) → Below c done → From (c + 1) (map entry_of rest) →
      map entry_of mine ≡ entries 1 c (deeds_due item d) → (state_of c ≡ state) ⊎ Ignores input script item
  sees c item d done [] rest state now h b f own = inr (ignores input script item d (no_deeds (deeds_due item d) (sym own)))
    where
      no_deeds : (deeds : List Deed) → entries 1 c deeds ≡ [] → deeds ≡ []
      no_deeds [] e = refl
      no_deeds (x ∷ xs) e = absurd (not_empty (entry 1 c x) (entries 1 c xs) e)
  sees c item d done (e ∷ es) rest state now h b f own =
      let n = first_number (deeds_due item d) own in
      inl (ap (λ l. state_for input l 1 c) h ∙ (sees_now input c done e (es ++ rest) b n.0 n.1 ∙ now))
    where
      first_number : (deeds : List Deed) → entry_of e ∷ map entry_of es ≡ entries 1 c deeds → (e.session ≡ 1) × (e.command ≡ c)
      first_number [] k = absurd (not_empty (entry_of e) (map entry_of es) k)
      first_number (x ∷ xs) k =
          let q = heads (entry_of e) (entry 1 c x) (map entry_of es) (entries 1 c xs) k in
          (ap (λ (y : Entry). y.session) q, ap (λ (y : Entry). y.command) q)

  due_seen : (c : ℕ) (item : Item) (state : Workspace) (snap : Option Workspace) → (state_of c ≡ state) ⊎ Ignores input script item →
      due input script item (state_of c) snap ≡ due input script item state snap
  due_seen c item state snap (inl e) = ap (λ s. due input script item s snap) e
  due_seen c item state snap (inr i) = i.same_due (state_of c) state snap

  snaps_seen : (c : ℕ) (item : Item) (state : Workspace) (o : Outcome) (snaps : Snapshots) → (state_of c ≡ state) ⊎ Ignores input script item →
      snaps_behind item o (state_of c) snaps ≡ snaps_behind item o state snaps
  snaps_seen c item state o snaps (inl e) = ap (λ s. snaps_behind item o s snaps) e
  snaps_seen c item state o snaps (inr i) = i.same_snaps o (state_of c) state snaps

  -- behind the events of one more item
  goes_on : (c : ℕ) (item : Item) (snap : Option Workspace) (state : Workspace) (done mine : List Event) → Below c done →
      now_behind done ≡ state → item_at script c ≡ Some item →
      map entry_of mine ≡ entries 1 c (deeds_due item (due input script item state snap)) →
      now_behind (done ++ mine) ≡ state_behind item (due input script item state snap) state
  goes_on c item snap state done mine b now at own =
      ap (λ p. p.now) (replay_append (gifts_due input) start done mine)
      ∙ behind input script only c state snap (replay (gifts_due input) start done) now
      (read_stays (gifts_due input) c done start b) (given_stays (gifts_due input) c done start b) mine item at
      (due input script item state snap) refl own

  abbrev Placed : ℕ → List Item → Type 0
  Placed c items = (k : ℕ) → item_at script (c + k) ≡ slice_get items k

  placed_here : (c : ℕ) (item : Item) (items : List Item) → Placed c (item ∷ items) → item_at script c ≡ Some item
  placed_here c item items h = ap (item_at script) (sym (add-zero c)) ∙ h 0

  placed_later : (c : ℕ) (item : Item) (items : List Item) → Placed c (item ∷ items) → Placed (c + 1) items
  placed_later c item items h k = ap (item_at script) (later c k) ∙ h (suc k)
    where
      later : (c k : ℕ) → (c + 1) + k ≡ c + suc k
      later c k = omega arith

  -- a block of a session that runs alone is not refused at its commit
  unchanged : (c : ℕ) (item : Item) (d : Due) (o : Outcome) (deeds : List Deed) (done mine rest : List Event) (ls : Option (List BlockLet)) →
      lets_of item ≡ ls → history ≡ done ++ (mine ++ rest) → Below c done → From (c + 1) (map entry_of rest) → map entry_of mine ≡ entries 1 c deeds →
      HasDeeds (ending o) item d deeds → CommitsItem (change_for history 1 c) ls o → IsChanged o → MayBeChanged item d → ⊥
  unchanged c item d o deeds done mine rest None is w b f own has commit (name, seen, found, told) may =
      false≢true (subst IsSome is may.0)
  unchanged c item d o deeds done mine rest (Some ls) is w b f own has commit (name, seen, found, told) may =
      let all : deeds ≡ Reads ∷ Reads ∷ [] = subst (λ x. HasDeeds (ending x) item d deeds) told has ∙ (block_reads_first item ls is).2 in
      let no = lone_block c history done mine rest (Reads ∷ []) (block_reads ls) w b f (own ∙ ap (entries 1 c) all) in
      let yes : change_for history 1 c (block_reads ls) ≡ Some (record { name = name; seen = seen; found = found }) =
      subst (λ x. IsCommit x (change_for history 1 c (block_reads ls))) told commit in
      let k : 0 ≡ 1 = ap changes_count (sym no ∙ yes) in omega (arith, k)
    where
      changes_count : Option Change → ℕ
      changes_count None = 0
      changes_count (Some x) = 1

  is_due : (item : Item) (d : Due) (o : Outcome) → IsOutcome item d o → Suffices o → (IsChanged o → MayBeChanged item d → ⊥) → o ≡ outcome_due d
  is_due item d o (inl e) s n = e
  is_due item d o (inr (inl e)) s n = absurd (s.0 e.0)
  is_due item d o (inr (inr (inl e))) s n = absurd (s.1 e.0)
  is_due item d o (inr (inr (inr e))) s n = absurd (n e.0 e.1)

  abbrev alone : ℕ → Workspace → Snapshots → List Item → Told
  alone c state snaps items = solo_from input script c state snaps items

  -- a lawful run is the computed one, by induction on the items: an item's entries stand first, it sees the state
  -- behind those before it or ignores the state, and so it is due the same
  pub to_solo : (items : List Item) (outcomes : List Outcome) (c : ℕ) (snaps : Snapshots) (state : Workspace) (done rest : List Event) →
      Below c done → now_behind done ≡ state → history ≡ done ++ rest → Placed c items → length outcomes ≡ length items →
      AreEvents input script 1 (steps_from state_of c snaps items outcomes) (map entry_of rest) →
      AreOutcomes input script (steps_from state_of c snaps items outcomes) → AllByRecursion Suffices outcomes →
      CommitsFrom (change_for history 1) c items outcomes →
      (outcomes ≡ (alone c state snaps items).outcomes) × (map entry_of rest ≡ (alone c state snaps items).log)
  to_solo [] [] c snaps state done rest b now h placed l ev oc su cm = (refl, ev)
  to_solo [] (o ∷ outcomes) c snaps state done rest b now h placed l ev oc su cm = absurd (omega (arith, l))
  to_solo (item ∷ items) [] c snaps state done rest b now h placed l ev oc su cm = absurd (omega (arith, l))
  to_solo (item ∷ items) (o ∷ outcomes) c snaps state done rest b now h placed l ev oc su cm =
      let snap = snap_for item snaps in
      let d' = due input script item (state_of c) snap in
      let d = due input script item state snap in
      let parts = split rest (entries 1 c ev.0) ev.1 ev.2 in
      let mine = parts.0 in
      let later = parts.1 in
      let whole : history ≡ done ++ (mine ++ later) = h ∙ ap (λ t. done ++ t) parts.2 in
      let numbers = subst (From (c + 1)) (sym parts.4) (events_from input script state_of items outcomes (c + 1) (snaps_behind item o (state_of c) snaps) ev.1 ev.4) in
      let told = is_due item d' o oc.0 su.0 (unchanged c item d' o ev.0 done mine later (lets_of item) refl whole b numbers parts.3 ev.3 cm.0) in
      let deeds = deeds_are item d' ev.0 (due_fails_well input script item (state_of c) snap) (subst (λ x. HasDeeds (ending x) item d' ev.0) told ev.3) in
      let own' : map entry_of mine ≡ entries 1 c (deeds_due item d') = parts.3 ∙ ap (entries 1 c) deeds in
      let seen = sees c item d' done mine later state now whole b numbers own' in
      let same : d' ≡ d = due_seen c item state snap seen in
      let own : map entry_of mine ≡ entries 1 c (deeds_due item d) = own' ∙ ap (λ x. entries 1 c (deeds_due item x)) same in
      let told_d : o ≡ outcome_due d = told ∙ ap outcome_due same in
      let snaps_same : snaps_behind item o (state_of c) snaps ≡ snaps_behind item (outcome_due d) state snaps =
      snaps_seen c item state o snaps seen ∙ ap (λ x. snaps_behind item x state snaps) told_d in
      let r = to_solo items outcomes (c + 1) (snaps_behind item o (state_of c) snaps) (state_behind item d state) (done ++ mine) later
      (below_append (c + 1) done mine (below_more c done b) (below_own c mine (deeds_due item d) own))
      (goes_on c item snap state done mine b now (placed_here c item items placed) own)
      (whole ∙ sym (append_assoc done mine later)) (placed_later c item items placed) (omega (arith, l))
      (subst (AreEvents input script 1 (steps_from state_of (c + 1) (snaps_behind item o (state_of c) snaps) items outcomes)) (sym parts.4) ev.4)
      oc.1 su.1 cm.1 in (
        (λ i. told_d i ∷ (r.0 ∙ ap (λ z. (alone (c + 1) (state_behind item d state) z items).outcomes) snaps_same) i),
        ap (map entry_of) parts.2 ∙ (map_append mine later
            ∙ (λ i. own i ++ (r.1 ∙ ap (λ z. (alone (c + 1) (state_behind item d state) z items).log) snaps_same) i)),
      )

  -- and back: where the entries are the computed ones, each item's own stand first, so that the state that it sees is
  -- the computed one, and what came is what is due
  pub from_solo : (items : List Item) (c : ℕ) (snaps : Snapshots) (state : Workspace) (done rest : List Event) →
      Below c done → now_behind done ≡ state → history ≡ done ++ rest → Placed c items →
      map entry_of rest ≡ (alone c state snaps items).log →
      AreEvents input script 1 (steps_from state_of c snaps items (alone c state snaps items).outcomes) (map entry_of rest)
      × AreOutcomes input script (steps_from state_of c snaps items (alone c state snaps items).outcomes)
      × CommitsFrom (change_for history 1) c items (alone c state snaps items).outcomes
  from_solo [] c snaps state done rest b now h placed log = (log, tt, tt)
  from_solo (item ∷ items) c snaps state done rest b now h placed log =
      let snap = snap_for item snaps in
      let d' = due input script item (state_of c) snap in
      let d = due input script item state snap in
      let behind_it = snaps_behind item (outcome_due d) state snaps in
      let next = alone (c + 1) (state_behind item d state) behind_it items in
      let parts = split rest (entries 1 c (deeds_due item d)) next.log log in
      let mine = parts.0 in
      let later = parts.1 in
      let whole : history ≡ done ++ (mine ++ later) = h ∙ ap (λ t. done ++ t) parts.2 in
      let numbers = subst (From (c + 1)) (sym parts.4) (solo_numbers input script items (c + 1) (state_behind item d state) behind_it) in
      let seen = sees c item d done mine later state now whole b numbers parts.3 in
      let same : d' ≡ d = due_seen c item state snap seen in
      let snaps_same : snaps_behind item (outcome_due d) (state_of c) snaps ≡ behind_it = snaps_seen c item state (outcome_due d) snaps seen in
      let r = from_solo items (c + 1) behind_it (state_behind item d state) (done ++ mine) later
      (below_append (c + 1) done mine (below_more c done b) (below_own c mine (deeds_due item d) parts.3))
      (goes_on c item snap state done mine b now (placed_here c item items placed) parts.3)
      (whole ∙ sym (append_assoc done mine later)) (placed_later c item items placed) parts.4 in
      let well = due_fails_well input script item state snap in (
        (
          deeds_due item d,
          map entry_of later,
          ap (map entry_of) parts.2 ∙ (map_append mine later ∙ ap (λ t. t ++ map entry_of later) parts.3),
          subst (λ x. HasDeeds (ending (outcome_due d)) item x (deeds_due item d)) (sym same) (has_deeds item d well),
          subst (λ z. AreEvents input script 1 (steps_from state_of (c + 1) z items next.outcomes) (map entry_of later)) (sym snaps_same) r.0,
        ),
        (
          inl (ap outcome_due (sym same)),
          subst (λ z. AreOutcomes input script (steps_from state_of (c + 1) z items next.outcomes)) (sym snaps_same) r.1,
        ),
        (
          commits_alone (lets_of item) d well (change_for history 1 c)
              (λ ls is.
              let deeds = block_deeds item ls is d in
              lone_block c history done mine later deeds.0 (block_reads ls) whole b numbers (parts.3 ∙ ap (entries 1 c) deeds.1)),
          r.2,
        ),
      )
