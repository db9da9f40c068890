-- What the first items of a session did, joined by one item more.
-- 1. The turns of the items so far are of commands up to their number, and those of the next item of the next one. So
--    earlier commands took what they took, and the next one the log of its first turn.
-- 2. All that was taken stands in the worker of then, and its relations are kept: the states and the snapshots are those
--    of the later worker, name by name.
-- 3. So the steps are those of before, and one more behind them; and so are their events, outcomes, values, replies,
--    files and cost.
use Rattle.std.proofs.Common.{◌≡◌, ◌≤◌, ◌+◌, ℕ, suc, List, [], ◌∷◌, ◌++◌, map, length, Option, Some, None, refl, sym, ap, subst, ◌∙◌, arith, length-append, add-zero}
use Rattle.std.specs.Prelude.{◌^◌, ◌-◌, min, slice_get}
use Rattle.std.specs.List.{AllByRecursion}
use Rattle.rel_model.specs.Worker.{Worker, set_of, Keeps, MakesAtMost}
use Rattle.rel_model.proofs.Workers.{keeps_itself, keeps_trans}
use Rattle.lang_model.specs.declared.syntax.Item.{Item}
use Rattle.lang_model.specs.declared.syntax.Script.{Script}
use Rattle.run_model.specs.declared.outcome.Outcome.{Outcome}
use Rattle.run_model.specs.Names.{no_names}
use Rattle.run_model.specs.Inputs.{Input}
use Rattle.run_model.specs.Due.{Workspace, gives}
use Rattle.run_model.specs.Steps.{Step, due_at, ending, snaps_behind, snap_for, steps}
use Rattle.run_model.specs.Events.{entry_of, AreEvents}
use Rattle.run_model.specs.declared.event.Event.{Event}
use Rattle.run_model.specs.Versions.{Change}
use Rattle.run_model.specs.Legal.{CommitsItem, CommitsFrom}
use Rattle.run_model.proofs.Extending.{change_old, change_new, once_append, commits_agree}
use Rattle.run_model.specs.Outcomes.{IsOutcome, AreOutcomes, lets_of}
use Rattle.run_model.specs.Page.{SavedFile, replies, saves_of}
use Rattle.run_model.specs.Cost.{cost_of_step, cost_of_steps}
use Rattle.run_model.specs.Carried.{Carried, carried_from}
use Rattle.run_model.specs.Turns.{Turn, puts_of, IsTurn, taken, state_of_log, state_taken, change_taken}
use Rattle.run_model.specs.Sessions.{HasValuesAt, HasValues, RunsTurns, steps_taken}
use Rattle.turn_book.specs.Views.{View}
use Rattle.rv_sessions.specs.declared.transcript.Transcript.{Transcript}
use Rattle.run_model.specs.Filed.{saved_all}
use Rattle.rv_sessions.specs.Telling.{texts_of}
use Rattle.rv_workspace.specs.Starts.{first_of}
use Rattle.rv_sessions.specs.Standing.{first_names, first_versions, TurnStands, Kept, meant_all}
use Rattle.rv_sessions.specs.Doing.{names_took, deeds_by, state_of_turns, snap_meant, Did}
use Rattle.rv_sessions.specs.Running.{snaps_after, nodes_in, RoseBy, IsAmong, RanSoFar}
use Rattle.rv_sessions.specs.Sessions.{RanScript}
use Rattle.rv_sessions.proofs.FoldingTurns.{all_append, all_weaker, through_none, through_append, among_more, up_to, of_next, first_log, LogStands, taken_old, taken_new, rels_new, entries_by, entries_append, taken_stands, turns_stand}
use Rattle.rv_sessions.proofs.FoldingKept.{carried_stands, meant_same, all_meant_same, behind_meant, snap_is_meant}
use Rattle.rv_sessions.proofs.FoldingSteps.{same_item, steps_agree, snaps_agree, step_at, steps_none, snaps_none, steps_push, snaps_push, numbered, few_more, events_push, cost_push, replies_push, saves_push}
use Rattle.rv_sessions.proofs.FoldingValues.{values_more, nodes_push, rose_more}

-- a sum with 1, either way round
turned : (n : ℕ) → 1 + n ≡ n + 1
turned n = omega arith

-- ---- passes
-- a pass that began as another did
abbrev begun_as : View → View → View
begun_as u v = record {
  book = v.book;
  house = v.house;
  start = u.start;
  seen = v.seen;
  mine = v.mine;
  joined = v.joined;
  spare = v.spare;
  turn = v.turn;
}

is_begun_as : (u v : View) → v.start ≡ u.start → v ≡ begun_as u v
is_begun_as u v e = λ i. record {
  book = v.book;
  house = v.house;
  start = e i;
  seen = v.seen;
  mine = v.mine;
  joined = v.joined;
  spare = v.spare;
  turn = v.turn;
}

-- ---- states of logs
log_state : (v w : Worker) → Keeps v w → (first : Carried) (o : Option (List Event)) → LogStands v first o → state_of_log first (set_of v) o ≡ state_of_log first (set_of w) o
log_state v w k first None h = refl
log_state v w k first (Some log) h = meant_same v w k (carried_from first log) (carried_stands v first log h.0 h.1)

first_state : (w : Worker) (first : Carried) (us : List Turn) → state_of_log first (set_of w) (first_log us) ≡ state_of_turns w first us
first_state w first [] = refl
first_state w first (u ∷ us) = refl

-- ---- commits
no_commits : (f : ℕ → List (List ℕ) → Option Change) (items : List Item) (c : ℕ) → CommitsFrom f c items []
no_commits f [] c = tt
no_commits f (x ∷ xs) c = tt

-- one outcome more: the commits of the earlier items are untouched, and the next item has the one that is known of it,
-- by induction on the outcomes
commits_push : (f : ℕ → List (List ℕ) → Option Change) (items : List Item) (outcomes : List Outcome) (c : ℕ) (item : Item) (o : Outcome) →
    slice_get items (length outcomes) ≡ Some item → CommitsFrom f c items outcomes → CommitsItem (f (c + length outcomes)) (lets_of item) o →
    CommitsFrom f c items (outcomes ++ o ∷ [])
commits_push f [] outcomes c item o there h k = tt
commits_push f (x ∷ xs) [] c item o there h k = (
  subst (λ m. CommitsItem (f m) (lets_of x) o) (add-zero c) (subst (λ z. CommitsItem (f (c + 0)) (lets_of z) o) (sym (same_item x item there)) k),
  no_commits f xs (c + 1),
)
commits_push f (x ∷ xs) (p ∷ ps) c item o there h k =
    (h.0, commits_push f xs ps (c + 1) item o there h.1 (subst (λ m. CommitsItem (f m) (lets_of item) o) (later c (length ps)) k))
  where
    later : (c k : ℕ) → c + suc k ≡ (c + 1) + k
    later c k = omega arith

module _ (leaf : ℕ) (input : Input) (script : Script) (s : ℕ) where
  -- ---- nothing yet
  no_steps : (w : Worker) (first : Carried) → steps_taken first (set_of w) [] script [] ≡ []
  unfolding steps
  no_steps w first = steps_none (state_taken first (set_of w) []) script.items.items 1 no_names

  -- before the first item nothing is done
  pub nothing_yet : (w : Worker) (v : View) → RanSoFar leaf input script s w w v v [] [] [] []
  unfolding replies saves_of
  nothing_yet w v =
      let none = sym (no_steps w (first_names v)) in
      record {
        ts = [];
        through = through_none v;
        own = tt;
        stand = tt;
        snaps_are = sym (snaps_none (state_taken (first_names v) (set_of w) []) script.items.items 1 no_names);
        snaps_stand = tt;
        few = omega arith;
        once = tt;
        commits = no_commits (change_taken (first_versions v) []) script.items.items 1;
        events = subst (λ (l : List Step). AreEvents input script s l []) none refl;
        outcomes_due = subst (λ (l : List Step). AreOutcomes input script l) none tt;
        values = subst (λ (l : List Step). AllByRecursion (HasValues input script (set_of w) []) l) none tt;
        text_is = ap (replies input script s) none;
        saved_is = ap (saves_of input script) none;
        room = subst (λ (l : List Step). MakesAtMost (cost_of_steps leaf input script l) w w) none (less w.made 0);
        missed = at_most w.misses (2 ^ 64 - 1);
        keeps = keeps_itself w;
      }
    where
      less : (n k : ℕ) → n ≤ n + k
      less n k = omega arith

      at_most : (n top : ℕ) → min (n + 0) top ≤ n
      at_most n top = omega arith

  -- ---- one item more
  module _ (old mid new : Worker) (before between after : View) (snaps left : Kept) (outcomes : List Outcome) (text : List ℕ) (saved : List SavedFile)
      (item : Item) (outcome : Outcome) (more_text : List ℕ) (more_saved : List SavedFile) (there : slice_get script.items.items (length outcomes) ≡ Some item)
      (r : RanSoFar leaf input script s old mid before (begun_as before between) snaps outcomes text saved)
      (d : Did leaf input script s (length outcomes + 1) item mid new (begun_as before between) after snaps left outcome more_text more_saved) where
    abbrev count : ℕ
    count = length outcomes

    abbrev all : List Turn
    all = r.ts ++ d.ts

    -- the states of then, and those of now
    abbrev earlier : ℕ → Workspace
    earlier = state_taken (first_names before) (set_of mid) r.ts

    abbrev later : ℕ → Workspace
    later = state_taken (first_names before) (set_of new) all

    -- the steps of then, and the one of this item
    abbrev done : List Step
    done = steps_taken (first_names before) (set_of mid) r.ts script outcomes

    abbrev step : Step
    step = record { number = count + 1; item = item; state = state_of_turns new (first_names before) d.ts; snap = snap_meant new item snaps; outcome = outcome }

    -- ---- states
    same_states : (c : ℕ) → c ≤ count → earlier c ≡ later c
    same_states c l =
        log_state mid new d.keeps (first_names before) (taken c r.ts) (taken_stands mid (first_names before) c r.ts r.stand)
        ∙ ap (state_of_log (first_names before) (set_of new)) (sym (taken_old s count c r.ts d.ts l d.own))

    own_state : later (1 + count) ≡ state_of_turns new (first_names before) d.ts
    own_state =
        ap later (turned count) ∙ ap (state_of_log (first_names before) (set_of new)) (taken_new s count r.ts d.ts r.own d.begun d.own)
        ∙ first_state new (first_names before) d.ts

    -- ---- snapshots
    snaps_before : snaps_after later 1 no_names script.items.items outcomes ≡ meant_all new snaps
    snaps_before =
        sym (snaps_agree earlier later count same_states script.items.items outcomes 1 no_names (omega arith))
        ∙ (sym r.snaps_are ∙ all_meant_same mid new d.keeps snaps r.snaps_stand)

    snaps_are : meant_all new left ≡ snaps_after later 1 no_names script.items.items (outcomes ++ outcome ∷ [])
    snaps_are =
        ap (meant_all new) d.snaps_left
        ∙ (behind_meant new (ending outcome) item (names_took (first_names before) d.ts) snaps
        ∙ sym (snaps_push later script.items.items outcomes 1 no_names item outcome there
        ∙ (λ i. snaps_behind item outcome (own_state i) (snaps_before i))))

    -- ---- steps
    same_step : step_at later (1 + count) (snaps_after later 1 no_names script.items.items outcomes) item outcome ≡ step
    same_step = λ i. record {
      number = turned count i;
      item = item;
      state = own_state i;
      snap = (ap (snap_for item) snaps_before ∙ snap_is_meant new item snaps) i;
      outcome = outcome;
    }

    steps_are : done ++ step ∷ [] ≡ steps_taken (first_names before) (set_of new) all script (outcomes ++ outcome ∷ [])
    unfolding steps
    steps_are = sym (
        steps_push later script.items.items outcomes 1 no_names item outcome there
        ∙ (λ i. sym (steps_agree earlier later count same_states script.items.items outcomes 1 no_names (omega arith)) i ++ same_step i ∷ []))

    -- ---- what is asked of them
    events : AreEvents input script s (done ++ step ∷ []) (map entry_of (puts_of all))
    events =
        subst (AreEvents input script s (done ++ step ∷ [])) (sym (entries_append r.ts d.ts))
        (events_push input script s done step (map entry_of (puts_of r.ts)) (map entry_of (puts_of d.ts)) (deeds_by d.ts) r.events (entries_by s count d.ts d.own) d.deeds)

    outcomes_due : AreOutcomes input script (done ++ step ∷ [])
    outcomes_due = all_append (λ (x : Step). IsOutcome x.item (due_at input script x) x.outcome) done (step ∷ []) r.outcomes_due (d.lawful, tt)

    numbers : AllByRecursion (λ (x : Step). x.number ≤ count) done
    unfolding steps
    numbers = numbered earlier count script.items.items outcomes 1 no_names (omega arith)

    values : AllByRecursion (HasValues input script (set_of new) (puts_of all)) (done ++ step ∷ [])
    values =
        all_append (HasValues input script (set_of new) (puts_of all)) done (step ∷ [])
        (values_more mid new d.keeps input script (first_names before) s count r.ts d.ts r.stand d.own done numbers r.values)
        (subst (λ rs. HasValuesAt (ending outcome) (set_of new) rs (gives item (due_at input script step))) (sym (rels_new s count r.ts d.ts r.own d.own)) d.values, tt)

    room : MakesAtMost (cost_of_steps leaf input script (done ++ step ∷ [])) old new
    unfolding cost_of_step
    room = sums old.made mid.made new.made (cost_of_steps leaf input script done) (cost_of_step leaf input script step) (cost_of_steps leaf input script (done ++ step ∷ []))
        (cost_push input script leaf done step) r.room d.room
      where
        sums : (a b c m n k : ℕ) → k ≡ m + n → b ≤ a + m → c ≤ b + n → c ≤ a + k
        sums a b c m n k e h l = omega arith

    missed : min (old.misses + nodes_in (outcomes ++ outcome ∷ [])) (2 ^ 64 - 1) ≤ new.misses
    missed =
        subst (λ n. min (old.misses + n) (2 ^ 64 - 1) ≤ new.misses) (sym (nodes_push outcomes outcome))
        (rose_more (2 ^ 64 - 1) old.misses mid.misses new.misses (nodes_in outcomes) r.missed d.keeps.misses outcome d.missed)

    commits : CommitsFrom (change_taken (first_versions before) all) 1 script.items.items (outcomes ++ outcome ∷ [])
    commits =
        commits_push (change_taken (first_versions before) all) script.items.items outcomes 1 item outcome there
        (commits_agree (change_taken (first_versions before) r.ts) (change_taken (first_versions before) all) script.items.items outcomes 1
        (λ k low up. sym (change_old count (first_versions before) k r.ts d.ts (omega (arith, up)) (of_next s count d.ts d.own))) r.commits)
        (subst (λ z. CommitsItem z (lets_of item) outcome)
        (sym (change_new count (first_versions before) r.ts d.ts (up_to s count r.ts r.own)) ∙ ap (change_taken (first_versions before) all) (sym (turned count))) d.commits)

    one_longer : count + 1 ≡ length (outcomes ++ outcome ∷ [])
    one_longer = let l = length-append outcomes (outcome ∷ []) in omega arith

    joined : RanSoFar leaf input script s old new before after left (outcomes ++ outcome ∷ []) (text ++ more_text) (saved ++ more_saved)
    joined = record {
      ts = all;
      through = through_append r.ts d.ts before (begun_as before between) after r.through d.through;
      own = subst (λ n. AllByRecursion (IsAmong s n) all) one_longer (among_more s count r.ts d.ts r.own d.own);
      once = once_append count r.ts d.ts r.once d.once (up_to s count r.ts r.own) (of_next s count d.ts d.own);
      commits = commits;
      stand = all_append (TurnStands new (first_names before)) r.ts d.ts (turns_stand mid new d.keeps (first_names before) r.ts r.stand) d.stand;
      snaps_are = snaps_are;
      snaps_stand = d.snaps_stand;
      few = subst (λ n. n ≤ length script.items.items) one_longer (few_more script.items.items count item there);
      events = subst (λ (l : List Step). AreEvents input script s l (map entry_of (puts_of all))) steps_are events;
      outcomes_due = subst (AreOutcomes input script) steps_are outcomes_due;
      values = subst (AllByRecursion (HasValues input script (set_of new) (puts_of all))) steps_are values;
      text_is = (λ i. r.text_is i ++ d.text_is i) ∙ (sym (replies_push input script s done step) ∙ ap (replies input script s) steps_are);
      saved_is = (λ i. r.saved_is i ++ d.saved_is i) ∙ (sym (saves_push input script done step) ∙ ap (saves_of input script) steps_are);
      room = subst (λ (l : List Step). MakesAtMost (cost_of_steps leaf input script l) old new) steps_are room;
      missed = missed;
      keeps = keeps_trans old mid new r.keeps d.keeps;
    }

module _ {leaf : ℕ} {input : Input} {script : Script} {s : ℕ} where
  -- one item behind those that are done
  pub one_more : {old mid new : Worker} {before between after : View} {snaps left : Kept} {outcomes : List Outcome} {text more_text : List ℕ}
      {saved more_saved : List SavedFile} {item : Item} {outcome : Outcome} →
      RanSoFar leaf input script s old mid before between snaps outcomes text saved →
      slice_get script.items.items (length outcomes) ≡ Some item →
      Did leaf input script s (length outcomes + 1) item mid new between after snaps left outcome more_text more_saved →
      RanSoFar leaf input script s old new before after left (outcomes ++ outcome ∷ []) (text ++ more_text) (saved ++ more_saved)
  one_more {old} {mid} {new} {before} {between} {after} {snaps} {left} {outcomes} {text} {more_text} {saved} {more_saved} {item} {outcome} r there d =
      let e = is_begun_as before between r.through.kept.start in
      joined leaf input script s old mid new before between after snaps left outcomes text saved item outcome more_text more_saved there
      (subst (λ (v : View). RanSoFar leaf input script s old mid before v snaps outcomes text saved) e r)
      (subst (λ (v : View). Did leaf input script s (length outcomes + 1) item mid new v after snaps left outcome more_text more_saved) e d)

  -- where there are as many outcomes as items, the script ran in the turns so far
  pub runs_turns : {old new : Worker} {before after : View} {snaps : Kept} {outcomes : List Outcome} {text : List ℕ} {saved : List SavedFile}
      (r : RanSoFar leaf input script s old new before after snaps outcomes text saved) → length outcomes ≡ length script.items.items →
      RunsTurns input (first_of before.start) (set_of new) s script outcomes r.ts before.seen after.seen
  runs_turns {outcomes = outcomes} r each = record {
    turns = r.through.turns;
    own = all_weaker (IsAmong s (length outcomes)) (IsTurn s) (λ t h. h.turn) r.ts r.own;
    once = r.once;
    commits = r.commits;
    each = each;
    events = r.events;
    outcomes_due = r.outcomes_due;
    values = r.values;
  }

  -- and a transcript that tells what came of it tells of the script
  pub whole_script : {old new : Worker} {before after : View} {snaps : Kept} {outcomes : List Outcome} {text : List ℕ} {saved : List SavedFile} →
      RanSoFar leaf input script s old new before after snaps outcomes text saved → length outcomes ≡ length script.items.items →
      (told : Transcript) → told.outcomes.items ≡ outcomes → texts_of told.replies.items ≡ text → saved_all told.saves.items ≡ saved →
      RanScript leaf input s script old new before after told
  whole_script {old} {new} {before} {after} r each told os is_text is_saved =
      let back = sym os in
      record {
        ts = r.ts;
        runs = subst (λ l. RunsTurns input (first_of before.start) (set_of new) s script l r.ts before.seen after.seen) back (runs_turns r each);
        mine = r.through.mine;
        stand = r.stand;
        text = is_text ∙ (r.text_is ∙ ap (λ l. replies input script s (steps_taken (first_names before) (set_of new) r.ts script l)) back);
        saved = is_saved ∙ (r.saved_is ∙ ap (λ l. saves_of input script (steps_taken (first_names before) (set_of new) r.ts script l)) back);
        room = subst (λ l. MakesAtMost (cost_of_steps leaf input script (steps_taken (first_names before) (set_of new) r.ts script l)) old new) back r.room;
        missed = subst (λ l. RoseBy (nodes_in l) old.misses new.misses) back r.missed;
      }
