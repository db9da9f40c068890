-- The run of one script, whatever its bytes are: both directions of the law.
use Rattle.std.proofs.Common.{◌≡◌, ◌≤◌, ◌⊎◌, ◌&&◌, ◌+◌, ◌-◌, ℕ, suc, Bool, true, false, eqb, List, [], ◌∷◌, ◌++◌, map, length, Some, refl, sym, ap, subst, ◌∙◌, arith, inl, inr}
use Rattle.std.specs.Prelude.{slice_get, option_and_then}
use Rattle.std.specs.List.{list_any, AllByRecursion}
use Rattle.std.proofs.lemmas.Bool.{false≢true, eq-eqb, ne_eqb, and_from, and_right}
use Rattle.lang_model.specs.declared.syntax.Command.TheVariants.{
  Relation as RELATION,
  Let,
  Print as PRINT,
  List as LIST,
  Count,
  Typed,
  Remove as DROP,
  Snap,
  At,
  Load,
  Save,
  LoadAll,
  SaveAll,
  Atomic,
  Explain,
}
use Rattle.lang_model.specs.declared.syntax.Item.{Item}
use Rattle.lang_model.specs.declared.syntax.Item.TheVariants.{Function, Program, Command as COMMAND}
use Rattle.lang_model.specs.declared.syntax.Script.{Script}
use Rattle.run_model.specs.declared.event.Event.{Event}
use Rattle.run_model.specs.declared.event.Act.{Act}
use Rattle.run_model.specs.declared.event.Act.TheVariants.{Read, Assign, Remove}
use Rattle.run_model.specs.declared.outcome.Outcome.{Outcome}
use Rattle.run_model.specs.declared.outcome.Outcome.TheVariants.{Parse, Ill}
use Rattle.run_model.specs.Names.{no_names}
use Rattle.run_model.specs.Inputs.{Input, Reading, NoScript, Flawed, Runs, batch_of, script_of, script_at, item_at}
use Rattle.run_model.specs.Due.{Workspace, Gifts, Due, Nothing, Value, Values, Bytes, Explained, Refused, outcome_due, due, gives}
use Rattle.run_model.specs.Steps.{Snapshots, snaps_behind, snap_for, steps}
use Rattle.run_model.specs.Events.{Deed, Reads, Gives, Removes, deed_of, Entry, entry_of, entries, giving, first_of, reads_of, AreEvents}
use Rattle.run_model.specs.Outcomes.{AreOutcomes}
use Rattle.run_model.specs.States.{events_of, state_for}
use Rattle.run_model.specs.Legal.{CommitsFrom, change_for, RunsScript, LegalSession, LegalSessions, is_assign, assigns, BeginsWithAssign, AssignsTogether, IsNotBefore, BatchesInOrder}
use Rattle.run_model.specs.Solo.{state_behind, deeds_due, solo_from, solo, Suffices, SoloIsLegal}
use Rattle.run_model.proofs.Entries.{entry, heads, tails, not_empty, none, split, From, one_session, sessions_from}
use Rattle.run_model.proofs.Alone.{to_solo, from_solo}
use Rattle.run_model.proofs.AloneSteps.{solo_numbers}

-- ---- the assignments of each command
-- whether a deed gives
abbrev gives_name : Deed → Bool
gives_name Reads = false
gives_name (Gives name m n) = true
gives_name (Removes name) = false

-- all deeds give
abbrev AllGive : List Deed → Type 0
AllGive = AllByRecursion (λ d. gives_name d ≡ true)

-- behind a deed that gives all give
abbrev GiveOn : List Deed → Type 0
GiveOn [] = Unit {0}
GiveOn (d ∷ ds) = (gives_name d ≡ true → AllGive ds) × GiveOn ds

giving_all : (gs : Gifts) → AllGive (giving gs)
giving_all [] = tt
giving_all (g ∷ gs) = (refl, giving_all gs)

all_on : (ds : List Deed) → AllGive ds → GiveOn ds
all_on [] h = tt
all_on (d ∷ ds) h = (λ g. h.1, all_on ds h.1)

-- a deed that does not give, and then deeds that give
one_on : (x : Deed) (ds : List Deed) → gives_name x ≡ false → AllGive ds → GiveOn (x ∷ ds)
one_on x ds n h = (λ g. absurd (false≢true (sym n ∙ g)), all_on ds h)

-- of the deeds that are due all behind the first assignment are assignments
module _ (item : Item) where
  quiet_on : first_of item ≡ [] → reads_of item ≡ [] → (d : Due) → GiveOn (deeds_due item d)
  quiet_on f r Nothing = subst (λ l. GiveOn (l ++ giving (gives item Nothing))) (sym f) (all_on (giving (gives item Nothing)) (giving_all (gives item Nothing)))
  quiet_on f r (Value v) = subst (λ l. GiveOn (l ++ giving (gives item (Value v)))) (sym f) (all_on (giving (gives item (Value v))) (giving_all (gives item (Value v))))
  quiet_on f r (Values gs) = subst (λ l. GiveOn (l ++ giving (gives item (Values gs)))) (sym f) (all_on (giving (gives item (Values gs))) (giving_all (gives item (Values gs))))
  quiet_on f r (Bytes bytes) = subst (λ l. GiveOn (l ++ giving (gives item (Bytes bytes)))) (sym f) (all_on (giving (gives item (Bytes bytes))) (giving_all (gives item (Bytes bytes))))
  quiet_on f r (Explained steps) = subst (λ l. GiveOn (l ++ giving (gives item (Explained steps)))) (sym f) (all_on (giving (gives item (Explained steps))) (giving_all (gives item (Explained steps))))
  quiet_on f r (Refused when outcome) = subst GiveOn (sym r) tt

  first_on : (x : Deed) → gives_name x ≡ false → first_of item ≡ x ∷ [] → reads_of item ≡ Reads ∷ [] → (d : Due) → GiveOn (deeds_due item d)
  first_on x n f r Nothing = subst (λ l. GiveOn (l ++ giving (gives item Nothing))) (sym f) (one_on x (giving (gives item Nothing)) n (giving_all (gives item Nothing)))
  first_on x n f r (Value v) = subst (λ l. GiveOn (l ++ giving (gives item (Value v)))) (sym f) (one_on x (giving (gives item (Value v))) n (giving_all (gives item (Value v))))
  first_on x n f r (Values gs) = subst (λ l. GiveOn (l ++ giving (gives item (Values gs)))) (sym f) (one_on x (giving (gives item (Values gs))) n (giving_all (gives item (Values gs))))
  first_on x n f r (Bytes bytes) = subst (λ l. GiveOn (l ++ giving (gives item (Bytes bytes)))) (sym f) (one_on x (giving (gives item (Bytes bytes))) n (giving_all (gives item (Bytes bytes))))
  first_on x n f r (Explained steps) = subst (λ l. GiveOn (l ++ giving (gives item (Explained steps)))) (sym f) (one_on x (giving (gives item (Explained steps))) n (giving_all (gives item (Explained steps))))
  first_on x n f r (Refused when outcome) = subst GiveOn (sym r) (one_on Reads [] refl tt)

-- behind the first assignment of an item there are only assignments, case by case: an item gives last of all
deeds_on : (item : Item) (d : Due) → GiveOn (deeds_due item d)
deeds_on (COMMAND (RELATION name rows rows_at cols cols_at list)) d =
    quiet_on (COMMAND (RELATION name rows rows_at cols cols_at list)) refl refl d
deeds_on (COMMAND (Let name e)) d = first_on (COMMAND (Let name e)) Reads refl refl refl d
deeds_on (COMMAND (PRINT e)) d = first_on (COMMAND (PRINT e)) Reads refl refl refl d
deeds_on (COMMAND (LIST e)) d = first_on (COMMAND (LIST e)) Reads refl refl refl d
deeds_on (COMMAND (Count e)) d = first_on (COMMAND (Count e)) Reads refl refl refl d
deeds_on (COMMAND (Typed e)) d = first_on (COMMAND (Typed e)) Reads refl refl refl d
deeds_on (COMMAND (DROP at name)) d = first_on (COMMAND (DROP at name)) (Removes name) refl refl refl d
deeds_on (COMMAND (Snap name)) d = first_on (COMMAND (Snap name)) Reads refl refl refl d
deeds_on (COMMAND (At at name e)) d = quiet_on (COMMAND (At at name e)) refl refl d
deeds_on (COMMAND (Load name file)) d = quiet_on (COMMAND (Load name file)) refl refl d
deeds_on (COMMAND (Save e file)) d = first_on (COMMAND (Save e file)) Reads refl refl refl d
deeds_on (COMMAND (LoadAll file)) d = quiet_on (COMMAND (LoadAll file)) refl refl d
deeds_on (COMMAND (SaveAll file)) d = first_on (COMMAND (SaveAll file)) Reads refl refl refl d
deeds_on (COMMAND (Atomic lets)) d = first_on (COMMAND (Atomic lets)) Reads refl refl refl d
deeds_on (COMMAND (Explain e)) d = first_on (COMMAND (Explain e)) Reads refl refl refl d
deeds_on (Function at name params body) d = quiet_on (Function at name params body) refl refl d
deeds_on (Program at name params decls body result) d = quiet_on (Program at name params decls body result) refl refl d

-- an act that assigns gives, and one whose deed gives assigns
assign_gives : (a : Act) (d : Deed) → deed_of a ≡ d → is_assign a ≡ true → gives_name d ≡ true
assign_gives Read d h y = absurd (false≢true y)
assign_gives (Assign name rel) d h y = sym (ap gives_name h)
assign_gives (Remove name) d h y = absurd (false≢true y)

gives_assign : (a : Act) (d : Deed) → deed_of a ≡ d → gives_name d ≡ true → is_assign a ≡ true
gives_assign Read d h y = absurd (false≢true (ap gives_name h ∙ y))
gives_assign (Assign name rel) d h y = refl
gives_assign (Remove name) d h y = absurd (false≢true (ap gives_name h ∙ y))

-- no assignment of a command stands among entries of later ones
none_later : (s c : ℕ) (xs : List Event) → s ≡ 1 → From (c + 1) (map entry_of xs) → list_any (assigns s c) xs ≡ false
none_later s c [] e h = refl
none_later s c (x ∷ xs) e h =
    rw (ne_eqb x.command c (λ k. absurd (omega (arith, h.0.1)))) (rw (and_right (eqb x.session s) false refl) (none_later s c xs e h.1))

-- so the assignments of one command stand together
together_own : (c : ℕ) (deeds : List Deed) → GiveOn deeds → (mine later : List Event) → map entry_of mine ≡ entries 1 c deeds →
    From (c + 1) (map entry_of later) → AssignsTogether later → AssignsTogether (mine ++ later)
together_own c [] on mine later own f t = subst (λ l. AssignsTogether (l ++ later)) (sym (none mine own)) t
together_own c (d ∷ ds) on [] later own f t = t
together_own c (d ∷ ds) on (e ∷ es) later own f t =
    let q = heads (entry_of e) (entry 1 c d) (map entry_of es) (entries 1 c ds) own in
    let more = tails (entry_of e) (entry 1 c d) (map entry_of es) (entries 1 c ds) own in
    (λ a. goes q ds es (on.0 (assign_gives e.act d (ap (λ (x : Entry). x.deed) q) a)) more, together_own c ds on.1 es later more f t)
  where
    goes : entry_of e ≡ entry 1 c d → (ds : List Deed) (es : List Event) → AllGive ds → map entry_of es ≡ entries 1 c ds →
        BeginsWithAssign e.session e.command (es ++ later) ⊎ (list_any (assigns e.session e.command) (es ++ later) ≡ false)
    goes q [] es all more =
        let n : e.command ≡ c = ap (λ (x : Entry). x.command) q in
        let s : e.session ≡ 1 = ap (λ (x : Entry). x.session) q in
        inr (ap (λ l. list_any (assigns e.session e.command) (l ++ later)) (none es more)
        ∙ subst (λ m. list_any (assigns e.session m) later ≡ false) (sym n) (none_later e.session c later s f))
    goes q (y ∷ ys) [] all more = absurd (not_empty _ _ (sym more))
    goes q (y ∷ ys) (x ∷ xs) all more =
        let k = heads (entry_of x) (entry 1 c y) (map entry_of xs) (entries 1 c ys) more in
        let n : x.command ≡ e.command = ap (λ (z : Entry). z.command) k ∙ sym (ap (λ (z : Entry). z.command) q) in
        let s : x.session ≡ e.session = ap (λ (z : Entry). z.session) k ∙ sym (ap (λ (z : Entry). z.session) q) in
        inl (and_from (eqb x.session e.session && eqb x.command e.command) (is_assign x.act)
        (and_from (eqb x.session e.session) (eqb x.command e.command) (eq-eqb x.session e.session s) (eq-eqb x.command e.command n))
        (gives_assign x.act y (ap (λ (z : Entry). z.deed) k) all.0))

together : (input : Input) (script : Script) (items : List Item) (c : ℕ) (state : Workspace) (snaps : Snapshots) (rest : List Event) →
    map entry_of rest ≡ (solo_from input script c state snaps items).log → AssignsTogether rest
together input script [] c state snaps rest log = subst AssignsTogether (sym (none rest log)) tt
together input script (item ∷ items) c state snaps rest log =
    let d = due input script item state (snap_for item snaps) in
    let later_snaps = snaps_behind item (outcome_due d) state snaps in
    let next = solo_from input script (c + 1) (state_behind item d state) later_snaps items in
    let parts = split rest (entries 1 c (deeds_due item d)) next.log log in
    let t = together input script items (c + 1) (state_behind item d state) later_snaps parts.1 parts.4 in
    let f = subst (From (c + 1)) (sym parts.4) (solo_numbers input script items (c + 1) (state_behind item d state) later_snaps) in
    subst AssignsTogether (sym parts.2) (together_own c (deeds_due item d) (deeds_on item d) parts.0 parts.1 parts.3 f t)

-- as many outcomes as items
as_many : (input : Input) (script : Script) (items : List Item) (c : ℕ) (state : Workspace) (snaps : Snapshots) →
    length (solo_from input script c state snaps items).outcomes ≡ length items
as_many input script [] c state snaps = refl
as_many input script (item ∷ items) c state snaps =
    let d = due input script item state (snap_for item snaps) in
    ap suc (as_many input script items (c + 1) (state_behind item d state) (snaps_behind item (outcome_due d) state snaps))

-- ---- sessions
-- of one session there is no other number
numbers_one : (n : ℕ) (xs : List Event) → n ≡ 1 → AllByRecursion (λ e. (1 ≤ e.session) × (e.session ≤ n)) xs → AllByRecursion (λ e. e.session ≡ 1) xs
numbers_one n [] e h = tt
numbers_one n (x ∷ xs) e h = (omega (arith, h.0.0, h.0.1, e), numbers_one n xs e h.1)

one_numbers : (n : ℕ) (xs : List Event) → n ≡ 1 → AllByRecursion (λ e. e.session ≡ 1) xs → AllByRecursion (λ e. (1 ≤ e.session) × (e.session ≤ n)) xs
one_numbers n [] e h = tt
one_numbers n (x ∷ xs) e h = ((omega (arith, h.0), omega (arith, h.0, e)), one_numbers n xs e h.1)

-- of one session all events are of one batch
no_earlier : (ends : List ℕ) (e : Event) (xs : List Event) → e.session ≡ 1 → AllByRecursion (λ e. e.session ≡ 1) xs → IsNotBefore ends e xs
no_earlier ends e [] s h = tt
no_earlier ends e (x ∷ xs) s h =
    (let q : batch_of ends e.session ≡ batch_of ends x.session = ap (batch_of ends) (s ∙ sym h.0) in omega (arith, q), no_earlier ends e xs s h.1)

one_batch : (ends : List ℕ) (xs : List Event) → AllByRecursion (λ e. e.session ≡ 1) xs → BatchesInOrder ends xs
one_batch ends [] h = tt
one_batch ends (x ∷ xs) h = (no_earlier ends x xs h.0 h.1, one_batch ends xs h.1)

placed_first : (script : Script) (k : ℕ) → item_at script (1 + k) ≡ slice_get script.items.items k
unfolding item_at
placed_first script k = ap (slice_get script.items.items) (less k)
  where
    less : (k : ℕ) → (1 + k) - 1 ≡ k
    less k = omega arith

module _ (input : Input) (history : List Event) (outcomes : List Outcome) where
  abbrev IsSolo : Reading → Type 0
  IsSolo reading = (outcomes ≡ (solo input reading).outcomes) × (map entry_of history ≡ (solo input reading).log)

  -- of bytes that do not run
  no_event : (fault : Outcome) → AllByRecursion (λ e. e.session ≡ 1) history →
      (outcomes ≡ fault ∷ []) × (events_of 1 history ≡ []) → (outcomes ≡ fault ∷ []) × (map entry_of history ≡ [])
  no_event fault one h = (h.0, ap (map entry_of) (sym (one_session history one) ∙ h.1))

  no_entry : (fault : Outcome) → (outcomes ≡ fault ∷ []) × (map entry_of history ≡ []) →
      (outcomes ≡ fault ∷ []) × (events_of 1 history ≡ [])
  no_entry fault h = (h.0, ap (events_of 1) (none history h.1))

  -- of a script
  script_only : (script : Script) → input.readings ≡ Runs script ∷ [] → script_at input 1 ≡ Some script
  unfolding script_at
  script_only script is = ap (λ rs. option_and_then script_of (slice_get rs 0)) is

  runs_solo : (script : Script) → input.readings ≡ Runs script ∷ [] → AllByRecursion (λ e. e.session ≡ 1) history →
      AllByRecursion Suffices outcomes → RunsScript input history 1 script outcomes → IsSolo (Runs script)
  unfolding solo steps
  runs_solo script is one su r =
      to_solo input script (script_only script is) history script.items.items outcomes 1 no_names no_names [] history tt refl refl
      (placed_first script) r.each (subst (λ l. AreEvents input script 1 (steps (state_for input history 1) script outcomes) (map entry_of l)) (one_session history one) r.events)
      r.outcomes_due su r.commits

  -- where outcomes and log are the computed ones, the session ran its script: all events are its own, and each item
  -- came to what is due on the state that it sees
  solo_runs : (script : Script) → input.readings ≡ Runs script ∷ [] → IsSolo (Runs script) → RunsScript input history 1 script outcomes
  unfolding solo steps
  solo_runs script is h =
      let log : map entry_of history ≡ (solo_from input script 1 no_names no_names script.items.items).log = h.1 in
      let numbers = subst (From 1) (sym log) (solo_numbers input script script.items.items 1 no_names no_names) in
      let r = from_solo input script (script_only script is) history script.items.items 1 no_names no_names [] history tt refl refl
      (placed_first script) log in
      record {
        each = ap length h.0 ∙ as_many input script script.items.items 1 no_names no_names;
        events =
            subst (λ l. AreEvents input script 1 (steps (state_for input history 1) script outcomes) (map entry_of l))
            (sym (one_session history (sessions_from 1 history numbers)))
            (subst (λ os. AreEvents input script 1 (steps (state_for input history 1) script os) (map entry_of history)) (sym h.0) r.0);
        outcomes_due = subst (λ os. AreOutcomes input script (steps (state_for input history 1) script os)) (sym h.0) r.1;
        commits = subst (CommitsFrom (change_for history 1) 1 script.items.items) (sym h.0) r.2;
      }

  session_solo : (reading : Reading) → input.readings ≡ reading ∷ [] → AllByRecursion (λ e. e.session ≡ 1) history →
      AllByRecursion Suffices outcomes → LegalSession input history 1 reading outcomes → IsSolo reading
  unfolding solo
  session_solo (NoScript fault) is one su h = no_event (Parse fault) one h
  session_solo (Flawed fault) is one su h = no_event (Ill fault) one h
  session_solo (Runs script) is one su h = runs_solo script is one su h

  solo_session : (reading : Reading) → input.readings ≡ reading ∷ [] → IsSolo reading → LegalSession input history 1 reading outcomes
  unfolding solo
  solo_session (NoScript fault) is h = no_entry (Parse fault) h
  solo_session (Flawed fault) is h = no_entry (Ill fault) h
  solo_session (Runs script) is h = solo_runs script is h

  solo_sessions : (reading : Reading) → IsSolo reading → AllByRecursion (λ e. e.session ≡ 1) history
  unfolding solo
  solo_sessions (NoScript fault) h = subst (AllByRecursion (λ e. e.session ≡ 1)) (sym (none history h.1)) tt
  solo_sessions (Flawed fault) h = subst (AllByRecursion (λ e. e.session ≡ 1)) (sym (none history h.1)) tt
  solo_sessions (Runs script) h =
      sessions_from 1 history (subst (From 1) (sym h.1) (solo_numbers input script script.items.items 1 no_names no_names))

  solo_together : (reading : Reading) → IsSolo reading → AssignsTogether history
  unfolding solo
  solo_together (NoScript fault) h = subst AssignsTogether (sym (none history h.1)) tt
  solo_together (Flawed fault) h = subst AssignsTogether (sym (none history h.1)) tt
  solo_together (Runs script) h = together input script script.items.items 1 no_names no_names history h.1

-- the run of one script is lawful exactly if it is the computed one: the laws of numbers, assignments and batches hold
-- where there is one session
pub solo_is_legal : SoloIsLegal
solo_is_legal input reading history outcomes is su = (
  (λ legal.
      session_solo input history outcomes reading is (numbers_one (length input.readings) history (ap length is) legal.numbers) su
      (subst (λ rs. LegalSessions input history 1 rs (outcomes ∷ [])) is legal.sessions).0),
  (λ h. record {
    numbers = one_numbers (length input.readings) history (ap length is) (solo_sessions input history outcomes reading h);
    sessions = subst (λ rs. LegalSessions input history 1 rs (outcomes ∷ [])) (sym is) (solo_session input history outcomes reading is h, tt);
    together = solo_together input history outcomes reading h;
    batches = one_batch input.ends history (solo_sessions input history outcomes reading h);
  }),
)
