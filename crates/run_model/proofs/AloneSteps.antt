-- One script alone: what its items are due, and which events stand between those of one command.
use Rattle.std.proofs.Common.{◌≡◌, ◌⊎◌, ◌+◌, ℕ, cond, List, [], ◌∷◌, ◌++◌, map, Option, Some, None, refl, sym, ap, subst, ◌∙◌, arith, inl, inr, append-nil, add-zero}
use Rattle.lang_model.specs.declared.syntax.Command.TheVariants.{Relation as RELATION, Let, Print as PRINT, List as LIST, Count, Typed, Remove as DROP, Snap, At, Load, Save, LoadAll, SaveAll, Atomic, Explain}
use Rattle.lang_model.specs.declared.syntax.Item.{Item}
use Rattle.lang_model.specs.declared.syntax.Item.TheVariants.{Function, Program, Command as COMMAND}
use Rattle.lang_model.specs.declared.syntax.Script.{Script}
use Rattle.run_model.specs.declared.event.Event.{Event}
use Rattle.run_model.specs.declared.event.Act.TheVariants.{Read}
use Rattle.run_model.specs.declared.outcome.Outcome.{Outcome}
use Rattle.run_model.specs.declared.outcome.Outcome.TheVariants.{Done, Parse, Ill, Size, Turns, Nodes, TooLarge, TooLong, NoFile, BadFile as BAD_FILE, NoMemory, Changed}
use Rattle.run_model.specs.Inputs.{Input}
use Rattle.run_model.specs.Due.{Workspace, Due, Nothing, Value, Values, Bytes, Explained, Refused, outcome_due, due, due_of_command, gives}
use Rattle.run_model.specs.Steps.{Ending, Succeeds, Fails, Changes, LacksMemory, ending, Snapshots, snapped, keep, kept_at, snaps_behind, snap_for, steps_from}
use Rattle.run_model.specs.Events.{Deed, Reads, Removes, Entry, entry_of, entries, giving, first_of, reads_of, all_reads_of, HasDeeds, AreEvents}
use Rattle.run_model.specs.Outcomes.{lets_of}
use Rattle.run_model.specs.Versions.{Change, version}
use Rattle.run_model.specs.Blocks.{block_reads}
use Rattle.run_model.specs.Legal.{IsCommit, CommitsItem, change_at, change_for}
use Rattle.lang_model.specs.declared.syntax.Let.{Let as BlockLet}
use Rattle.run_model.specs.States.{events_before, before_first, before_second}
use Rattle.run_model.specs.Solo.{state_behind, deeds_due, solo_from}
use Rattle.run_model.proofs.Refusing.{FailsWell}
use Rattle.run_model.proofs.Entries.{event, entry, reads_event, heads, tails, not_empty, none, Below, From, from_own, from_append, from_less, not_below, not_from, passes, is_own}
use Rattle.run_model.proofs.Places.{behind_log, first_none, first_here, second_here, second_passes, version-append, nothing_changed}

-- ---- deeds
abbrev deed_count : List Deed → ℕ
deed_count [] = 0
deed_count (x ∷ xs) = 1

some_deed : (x : Deed) (xs : List Deed) → x ∷ xs ≡ [] → ⊥
some_deed x xs h = let e : 1 ≡ 0 = ap deed_count h in omega (arith, e)

-- the deeds of an outcome that is due are those that are due
pub deeds_are : (item : Item) (d : Due) (deeds : List Deed) → FailsWell d → HasDeeds (ending (outcome_due d)) item d deeds → deeds ≡ deeds_due item d
deeds_are item Nothing deeds f h = h
deeds_are item (Value r) deeds f h = h
deeds_are item (Values gifts) deeds f h = h
deeds_are item (Bytes bytes) deeds f h = h
deeds_are item (Explained steps) deeds f h = h
deeds_are item (Refused when outcome) deeds f h = subst (λ x. HasDeeds x item (Refused when outcome) deeds) f h

-- the outcome that is due has the deeds that are due: case by case, a refusal being a failure that only reads
pub has_deeds : (item : Item) (d : Due) → FailsWell d → HasDeeds (ending (outcome_due d)) item d (deeds_due item d)
has_deeds item Nothing f = refl
has_deeds item (Value r) f = refl
has_deeds item (Values gifts) f = refl
has_deeds item (Bytes bytes) f = refl
has_deeds item (Explained steps) f = refl
has_deeds item (Refused when outcome) f = subst (λ x. HasDeeds x item (Refused when outcome) (reads_of item)) (sym f) refl

-- ---- items that do nothing
module _ (input : Input) (script : Script) where
  -- what is due, and which snapshots are kept, is the same on each state
  pub record Ignores (item : Item) : Type 0 where
    pub same_due : (s t : Workspace) (snap : Option Workspace) → due input script item s snap ≡ due input script item t snap
    pub same_snaps : (o : Outcome) (s t : Workspace) (snaps : Snapshots) → snaps_behind item o s snaps ≡ snaps_behind item o t snaps

  kept_none : (x : Ending) (item : Item) → snapped item ≡ None → (s t : Workspace) (snaps : Snapshots) → kept_at x item s snaps ≡ kept_at x item t snaps
  kept_none Succeeds item n s t snaps = ap (λ o. keep o s snaps) n ∙ sym (ap (λ o. keep o t snaps) n)
  kept_none Fails item n s t snaps = refl
  kept_none Changes item n s t snaps = refl
  kept_none LacksMemory item n s t snaps = refl

  keeps_none : (item : Item) → snapped item ≡ None → (o : Outcome) (s t : Workspace) (snaps : Snapshots) →
      snaps_behind item o s snaps ≡ snaps_behind item o t snaps
  keeps_none item n o s t snaps = kept_none (ending o) item n s t snaps

  -- an item that begins with a deed does something
  does : (item : Item) (x : Deed) → first_of item ≡ x ∷ [] → (y : Deed) → reads_of item ≡ y ∷ [] → (d : Due) → deeds_due item d ≡ [] → ⊥
  does item x f y r Nothing h = some_deed x (giving (gives item Nothing)) (sym (ap (λ l. l ++ giving (gives item Nothing)) f) ∙ h)
  does item x f y r (Value v) h = some_deed x (giving (gives item (Value v))) (sym (ap (λ l. l ++ giving (gives item (Value v))) f) ∙ h)
  does item x f y r (Values gifts) h = some_deed x (giving (gives item (Values gifts))) (sym (ap (λ l. l ++ giving (gives item (Values gifts))) f) ∙ h)
  does item x f y r (Bytes bytes) h = some_deed x (giving (gives item (Bytes bytes))) (sym (ap (λ l. l ++ giving (gives item (Bytes bytes))) f) ∙ h)
  does item x f y r (Explained steps) h = some_deed x (giving (gives item (Explained steps))) (sym (ap (λ l. l ++ giving (gives item (Explained steps))) f) ∙ h)
  does item x f y r (Refused when outcome) h = some_deed y [] (sym r ∙ h)

  -- an item without deeds ignores the workspace
  pub ignores : (item : Item) (d : Due) → deeds_due item d ≡ [] → Ignores item
  unfolding due due_of_command
  ignores (COMMAND (RELATION name rows rows_at cols cols_at list)) d h =
      record { same_due = λ s t snap. refl; same_snaps = keeps_none (COMMAND (RELATION name rows rows_at cols cols_at list)) refl }
  ignores (COMMAND (Let name e)) d h = absurd (does (COMMAND (Let name e)) Reads refl Reads refl d h)
  ignores (COMMAND (PRINT e)) d h = absurd (does (COMMAND (PRINT e)) Reads refl Reads refl d h)
  ignores (COMMAND (LIST e)) d h = absurd (does (COMMAND (LIST e)) Reads refl Reads refl d h)
  ignores (COMMAND (Count e)) d h = absurd (does (COMMAND (Count e)) Reads refl Reads refl d h)
  ignores (COMMAND (Typed e)) d h = absurd (does (COMMAND (Typed e)) Reads refl Reads refl d h)
  ignores (COMMAND (DROP at name)) d h = absurd (does (COMMAND (DROP at name)) (Removes name) refl Reads refl d h)
  ignores (COMMAND (Snap name)) d h = absurd (does (COMMAND (Snap name)) Reads refl Reads refl d h)
  ignores (COMMAND (At at name e)) d h =
      record { same_due = λ s t snap. refl; same_snaps = keeps_none (COMMAND (At at name e)) refl }
  ignores (COMMAND (Load name file)) d h =
      record { same_due = λ s t snap. refl; same_snaps = keeps_none (COMMAND (Load name file)) refl }
  ignores (COMMAND (Save e file)) d h = absurd (does (COMMAND (Save e file)) Reads refl Reads refl d h)
  ignores (COMMAND (LoadAll file)) d h =
      record { same_due = λ s t snap. refl; same_snaps = keeps_none (COMMAND (LoadAll file)) refl }
  ignores (COMMAND (SaveAll file)) d h = absurd (does (COMMAND (SaveAll file)) Reads refl Reads refl d h)
  ignores (COMMAND (Atomic lets)) d h = absurd (does (COMMAND (Atomic lets)) Reads refl Reads refl d h)
  ignores (COMMAND (Explain e)) d h = absurd (does (COMMAND (Explain e)) Reads refl Reads refl d h)
  ignores (Function at name params body) d h =
      record { same_due = λ s t snap. refl; same_snaps = keeps_none (Function at name params body) refl }
  ignores (Program at name params decls body result) d h =
      record { same_due = λ s t snap. refl; same_snaps = keeps_none (Program at name params decls body result) refl }

-- ---- numbers of entries
-- the entries of steps from number c on
pub events_from : (input : Input) (script : Script) (f : ℕ → Workspace) (items : List Item) (outcomes : List Outcome) (c : ℕ) (snaps : Snapshots) (log : List Entry) →
    AreEvents input script 1 (steps_from f c snaps items outcomes) log → From c log
events_from input script f [] outcomes c snaps log h = subst (From c) (sym h) tt
events_from input script f (item ∷ items) [] c snaps log h = subst (From c) (sym h) tt
events_from input script f (item ∷ items) (o ∷ outcomes) c snaps log h =
    subst (From c) (sym h.2)
    (from_append c (entries 1 c h.0) h.1 (from_own c h.0)
    (from_less c h.1 (events_from input script f items outcomes (c + 1) (snaps_behind item o (f c) snaps) h.1 h.4)))

-- and of the computing definition
pub solo_numbers : (input : Input) (script : Script) (items : List Item) (c : ℕ) (state : Workspace) (snaps : Snapshots) →
    From c (solo_from input script c state snaps items).log
solo_numbers input script [] c state snaps = tt
solo_numbers input script (item ∷ items) c state snaps =
    let d = due input script item state (snap_for item snaps) in
    let more = solo_numbers input script items (c + 1) (state_behind item d state) (snaps_behind item (outcome_due d) state snaps) in
    from_append c (entries 1 c (deeds_due item d))
    (solo_from input script (c + 1) (state_behind item d state) (snaps_behind item (outcome_due d) state snaps) items).log
    (from_own c (deeds_due item d)) (from_less c _ more)

-- ---- blocks
not_some : (ls : List BlockLet) → None ≡ Some ls → ⊥
not_some ls e = let k : 0 ≡ 1 = ap count e in omega (arith, k)
  where
    count : Option (List BlockLet) → ℕ
    count None = 0
    count (Some l) = 1

-- a block reads, and once more where it is refused at its commit
pub block_reads_first : (item : Item) (ls : List BlockLet) → lets_of item ≡ Some ls →
    (first_of item ≡ Reads ∷ []) × (reads_of item ≡ Reads ∷ []) × (all_reads_of item ≡ Reads ∷ Reads ∷ [])
block_reads_first (COMMAND (RELATION name rows rows_at cols cols_at list)) ls e = absurd (not_some ls e)
block_reads_first (COMMAND (Let name x)) ls e = absurd (not_some ls e)
block_reads_first (COMMAND (PRINT x)) ls e = absurd (not_some ls e)
block_reads_first (COMMAND (LIST x)) ls e = absurd (not_some ls e)
block_reads_first (COMMAND (Count x)) ls e = absurd (not_some ls e)
block_reads_first (COMMAND (Typed x)) ls e = absurd (not_some ls e)
block_reads_first (COMMAND (DROP at name)) ls e = absurd (not_some ls e)
block_reads_first (COMMAND (Snap name)) ls e = absurd (not_some ls e)
block_reads_first (COMMAND (At at name x)) ls e = absurd (not_some ls e)
block_reads_first (COMMAND (Load name file)) ls e = absurd (not_some ls e)
block_reads_first (COMMAND (Save x file)) ls e = absurd (not_some ls e)
block_reads_first (COMMAND (LoadAll file)) ls e = absurd (not_some ls e)
block_reads_first (COMMAND (SaveAll file)) ls e = absurd (not_some ls e)
block_reads_first (COMMAND (Atomic lets)) ls e = (refl, refl, refl)
block_reads_first (COMMAND (Explain x)) ls e = absurd (not_some ls e)
block_reads_first (Function at name params body) ls e = absurd (not_some ls e)
block_reads_first (Program at name params decls body result) ls e = absurd (not_some ls e)

-- so the deeds that are due of it begin with a read
pub block_deeds : (item : Item) (ls : List BlockLet) → lets_of item ≡ Some ls → (d : Due) → (more : List Deed) × (deeds_due item d ≡ Reads ∷ more)
block_deeds item ls e Nothing = (giving (gives item Nothing), ap (λ l. l ++ giving (gives item Nothing)) (block_reads_first item ls e).0)
block_deeds item ls e (Value v) = (giving (gives item (Value v)), ap (λ l. l ++ giving (gives item (Value v))) (block_reads_first item ls e).0)
block_deeds item ls e (Values gifts) = (giving (gives item (Values gifts)), ap (λ l. l ++ giving (gives item (Values gifts))) (block_reads_first item ls e).0)
block_deeds item ls e (Bytes bytes) = (giving (gives item (Bytes bytes)), ap (λ l. l ++ giving (gives item (Bytes bytes))) (block_reads_first item ls e).0)
block_deeds item ls e (Explained steps) = (giving (gives item (Explained steps)), ap (λ l. l ++ giving (gives item (Explained steps))) (block_reads_first item ls e).0)
block_deeds item ls e (Refused when outcome) = ([], (block_reads_first item ls e).1)

-- between the events of a command of a session that runs alone nothing changes
change_is_none : (seen : List ℕ → ℕ) (o : Option (List Event)) → ((l : List Event) → o ≡ Some l → (name : List ℕ) → seen name ≡ version name l) →
    (names : List (List ℕ)) → change_at seen (λ l name. version name l) o names ≡ None
change_is_none seen None h names = refl
change_is_none seen (Some l) h names = nothing_changed seen (λ name. version name l) (h l refl) names

-- where no event comes between the read and the second event, or there is no second one
lone_change : (c : ℕ) (done more : List Event) (names : List (List ℕ)) → Below c done →
    (before_first 1 c more ≡ Some []) ⊎ (before_first 1 c more ≡ None) →
    change_for (done ++ event 1 c Read ∷ more) 1 c names ≡ None
unfolding change_for
lone_change c done more names b h =
    let not_there = not_below c done b in
    let own = is_own c (event 1 c Read) refl refl in
    let first : events_before 1 c (done ++ event 1 c Read ∷ more) ≡ done =
    passes c done (event 1 c Read ∷ more) not_there ∙ (ap (λ t. done ++ cond t [] (event 1 c Read ∷ events_before 1 c more)) own ∙ append-nil done) in
    let second : before_second 1 c (done ++ event 1 c Read ∷ more) ≡ behind_log done (behind_log (event 1 c Read ∷ []) (before_first 1 c more)) =
    second_passes 1 c done (event 1 c Read ∷ more) not_there ∙ ap (behind_log done) (second_here 1 c (event 1 c Read) more own) in
    change_is_none (λ name. version name (events_before 1 c (done ++ event 1 c Read ∷ more))) (before_second 1 c (done ++ event 1 c Read ∷ more))
    (λ l e name. ap (version name) first ∙ same_version h l (sym second ∙ e) name) names
  where
    of_some : List Event → Option (List Event) → List Event
    of_some d None = d
    of_some d (Some l) = l

    count : Option (List Event) → ℕ
    count None = 0
    count (Some l) = 1

    same_version : (before_first 1 c more ≡ Some []) ⊎ (before_first 1 c more ≡ None) → (l : List Event) →
        behind_log done (behind_log (event 1 c Read ∷ []) (before_first 1 c more)) ≡ Some l → (name : List ℕ) → version name done ≡ version name l
    same_version (inl y) l e name =
        let is : done ++ event 1 c Read ∷ [] ≡ l = ap (of_some []) (sym (ap (λ o. behind_log done (behind_log (event 1 c Read ∷ []) o)) y) ∙ e) in
        sym (add-zero (version name done)) ∙ (sym (version-append name done (event 1 c Read ∷ [])) ∙ ap (version name) is)
    same_version (inr n) l e name =
        let k : 0 ≡ 1 = ap count (sym (ap (λ o. behind_log done (behind_log (event 1 c Read ∷ []) o)) n) ∙ e) in absurd (omega (arith, k))

-- the events of a block in the history of a session that runs alone: the next one is its own, or it has none
pub lone_block : (c : ℕ) (history done mine rest : List Event) (deeds : List Deed) (names : List (List ℕ)) → history ≡ done ++ (mine ++ rest) → Below c done →
    From (c + 1) (map entry_of rest) → map entry_of mine ≡ entries 1 c (Reads ∷ deeds) → change_for history 1 c names ≡ None
lone_block c history done [] rest deeds names w b f own = absurd (not_empty _ _ (sym own))
lone_block c history done (e ∷ es) rest deeds names w b f own =
    let is = reads_event e 1 c (heads _ _ _ _ own) in
    ap (λ h. change_for h 1 c names) (w ∙ ap (λ x. done ++ x ∷ (es ++ rest)) is)
    ∙ lone_change c done (es ++ rest) names b (next es deeds (tails _ _ _ _ own))
  where
    next : (es : List Event) (deeds : List Deed) → map entry_of es ≡ entries 1 c deeds →
        (before_first 1 c (es ++ rest) ≡ Some []) ⊎ (before_first 1 c (es ++ rest) ≡ None)
    next es [] h = inr (ap (λ l. before_first 1 c (l ++ rest)) (none es h) ∙ first_none 1 c rest (not_from c rest f))
    next [] (d ∷ ds) h = absurd (not_empty _ _ (sym h))
    next (x ∷ xs) (d ∷ ds) h =
        let q = heads (entry_of x) (entry 1 c d) (map entry_of xs) (entries 1 c ds) h in
        inl (first_here 1 c x (xs ++ rest) (is_own c x (ap (λ (y : Entry). y.session) q) (ap (λ (y : Entry). y.command) q)))

-- an outcome that is due has no change where there is none
commit_of_none : (o : Outcome) → (ending o ≡ Changes → ⊥) → (change : Option Change) → change ≡ None → IsCommit o change
commit_of_none Done n change h = h
commit_of_none (Parse fault) n change h = tt
commit_of_none (Ill fault) n change h = tt
commit_of_none (Size at wanted limit) n change h = tt
commit_of_none (Turns at limit) n change h = tt
commit_of_none Nodes n change h = tt
commit_of_none (TooLarge wanted counted) n change h = tt
commit_of_none (TooLong bits) n change h = tt
commit_of_none (NoFile name) n change h = tt
commit_of_none (BAD_FILE name kind) n change h = tt
commit_of_none NoMemory n change h = tt
commit_of_none (Changed name seen found) n change h = absurd (n refl)

abbrev ending_number : Ending → ℕ
ending_number Succeeds = 0
ending_number Fails = 1
ending_number Changes = 2
ending_number LacksMemory = 3

-- what is due is never a change
due_unchanged : (d : Due) → FailsWell d → ending (outcome_due d) ≡ Changes → ⊥
due_unchanged Nothing f e = let k : 0 ≡ 2 = ap ending_number e in omega (arith, k)
due_unchanged (Value r) f e = let k : 0 ≡ 2 = ap ending_number e in omega (arith, k)
due_unchanged (Values gifts) f e = let k : 0 ≡ 2 = ap ending_number e in omega (arith, k)
due_unchanged (Bytes bytes) f e = let k : 0 ≡ 2 = ap ending_number e in omega (arith, k)
due_unchanged (Explained steps) f e = let k : 0 ≡ 2 = ap ending_number e in omega (arith, k)
due_unchanged (Refused when outcome) f e = let k : 1 ≡ 2 = ap ending_number (sym f ∙ e) in omega (arith, k)

-- an item commits with the outcome that is due, if no name of its block changed: what is due is never a change
pub commits_alone : (o : Option (List BlockLet)) (d : Due) → FailsWell d → (change : List (List ℕ) → Option Change) →
    ((ls : List BlockLet) → o ≡ Some ls → change (block_reads ls) ≡ None) → CommitsItem change o (outcome_due d)
commits_alone None d f change h = tt
commits_alone (Some ls) d f change h = commit_of_none (outcome_due d) (due_unchanged d f) (change (block_reads ls)) (h ls refl)
