-- A run goes by the tree of its input alone.
-- 1. What commands give goes by it; so the states behind events, which replay what is given, do so too.
-- 2. So do the steps of each session (`Steps.antt`), and with them its page, saves and costs.
-- 3. Legality is taken from an input to its tree and back, by sessions.
use Rattle.std.proofs.Common.{◌≡◌, ◌+◌, ◌-◌, ◌==◌, ◌++◌, ℕ, cond, List, [], ◌∷◌, map, length, Option, Some, None, refl, sym, ap, subst, ◌∙◌}
use Rattle.std.specs.Prelude.{option_map, option_and_then, slice_get}
use Rattle.std.specs.List.{list_any, flat_map}
use Rattle.std.specs.Option.{option_map_or}
use Rattle.std.proofs.lemmas.Option.{slice_get-map}
use Rattle.std.proofs.lemmas.List.{length-map}
use Rattle.lang_model.specs.declared.syntax.Item.{Item}
use Rattle.lang_model.specs.declared.syntax.Script.{Script}
use Rattle.run_model.specs.declared.event.Event.{Event}
use Rattle.run_model.specs.declared.outcome.Outcome.{Outcome}
use Rattle.run_model.specs.declared.outcome.Outcome.TheVariants.{Parse, Ill}
use Rattle.run_model.specs.Names.{no_names}
use Rattle.run_model.specs.Inputs.{Input, Reading, NoScript, Flawed, Runs, script_of, script_at, item_at, batch_of}
use Rattle.run_model.specs.Due.{Workspace, Gifts}
use Rattle.run_model.specs.States.{start, replay, events_of, events_before, is_of, gifts_of_item, gifts_of_script, gifts_due, state_after, state_for}
use Rattle.run_model.specs.Events.{entry_of, AreEvents}
use Rattle.run_model.specs.Outcomes.{AreOutcomes}
use Rattle.run_model.specs.Legal.{change_for, steps_in, RunsScript, LegalSession, LegalSessions}
use Rattle.run_model.specs.Page.{SavedFile, event_line, refusals, session_page, sessions_page, page, session_saves, sessions_saves, saves}
use Rattle.run_model.specs.Cost.{cost_of_session, cost_of_sessions, cost_in_batch, cost_of_batch, cost_of_run}
use Rattle.rv_spell.specs.Plain.{ItemTree, item_tree, script_tree}
use Rattle.rv_reading.specs.Inputs.{ReadingTree, NoScriptTree, FlawedTree, RunsTree, reading_tree, InputTree, input_tree}
use Rattle.rv_reading.proofs.Items.{due_tree, due-tree}
use Rattle.rv_reading.proofs.Sights.{sight_of, sight-tree}
use Rattle.rv_reading.proofs.Steps.{Seen, seen, steps_by, script-steps, CommitsAlong, commits-along, EventsBy, events-by, OutcomesBy, outcomes-by, replies_by, replies-by, files_by, files-by, costs_by, costs-by}

-- ---- states
module _ (T : InputTree) where
  -- what an item gives on a state
  abbrev gifts_by_item : List ItemTree → Workspace → ItemTree → Gifts
  gifts_by_item items state item = (sight_of item).gives (due_tree T.turns T.files items item state None)

  -- what command c of a reading gives on a state
  abbrev gifts_by_reading : ℕ → Workspace → ReadingTree → Gifts
  gifts_by_reading c state (NoScriptTree fault) = []
  gifts_by_reading c state (FlawedTree fault) = []
  gifts_by_reading c state (RunsTree items) = option_map_or (gifts_by_item items state) (slice_get items (c - 1)) []

  -- what command c of session s gives on a state
  abbrev pub gifts_by : ℕ → ℕ → Workspace → Gifts
  gifts_by s c state = option_map_or (gifts_by_reading c state) (slice_get T.readings (s - 1)) []

  -- the workspace after events
  abbrev pub state_behind : List Event → Workspace
  state_behind es = (replay gifts_by start es).now

  -- the state just before the first event of a command
  abbrev pub state_at : List Event → ℕ → ℕ → Workspace
  state_at history s c = cond (list_any (is_of s c) history) (state_behind (events_before s c history)) no_names

module _ (input : Input) where
  gifts-item : (script : Script) (state : Workspace) (o : Option Item)
      → option_map_or (gifts_of_item input script state) o []
      ≡ option_map_or (gifts_by_item (input_tree input) (script_tree script) state) (option_map item_tree o) []
  gifts-item script state None = refl
  gifts-item script state (Some item) = λ i. (sight-tree item i).gives (due-tree input script item state None i)

  gifts-reading : (c : ℕ) (state : Workspace) (o : Option Reading)
      → option_map_or (gifts_of_script input c state) (option_and_then script_of o) []
      ≡ option_map_or (gifts_by_reading (input_tree input) c state) (option_map reading_tree o) []
  unfolding item_at
  gifts-reading c state None = refl
  gifts-reading c state (Some (NoScript fault)) = refl
  gifts-reading c state (Some (Flawed fault)) = refl
  gifts-reading c state (Some (Runs script)) =
      gifts-item script state (slice_get script.items.items (c - 1))
      ∙ ap (λ o. option_map_or (gifts_by_item (input_tree input) (script_tree script) state) o [])
      (sym (slice_get-map item_tree script.items.items (c - 1)))

  pub gifts-by : gifts_due input ≡ gifts_by (input_tree input)
  unfolding gifts_due script_at
  gifts-by = λ i s c state.
      (gifts-reading c state (slice_get input.readings (s - 1))
      ∙ ap (λ o. option_map_or (gifts_by_reading (input_tree input) c state) o [])
      (sym (slice_get-map reading_tree input.readings (s - 1)))) i

  pub state-behind : (es : List Event) → state_after input es ≡ state_behind (input_tree input) es
  unfolding state_after
  state-behind es = ap (λ g. (replay g start es).now) gifts-by

  -- the state just before a command goes by the input's tree, as does the state behind any events
  state-at : (history : List Event) (s : ℕ) → state_for input history s ≡ state_at (input_tree input) history s
  unfolding state_for
  state-at history s = λ i c. cond (list_any (is_of s c) history) (state-behind (events_before s c history) i) no_names

-- ---- sessions
module _ (T : InputTree) (history : List Event) where
  -- the steps of session s
  abbrev steps_of_session : ℕ → List ItemTree → List Outcome → List Seen
  steps_of_session s items outcomes = steps_by (state_at T history s) 1 no_names items outcomes

  -- its page
  abbrev session_text : ℕ → ReadingTree → List Outcome → List ℕ
  session_text s (NoScriptTree fault) outcomes = refusals s outcomes
  session_text s (FlawedTree fault) outcomes = refusals s outcomes
  session_text s (RunsTree items) outcomes = replies_by T.turns T.files items s (steps_of_session s items outcomes)

  -- the pages of sessions from number s on
  abbrev sessions_text : ℕ → List ReadingTree → List (List Outcome) → List ℕ
  sessions_text s (reading ∷ readings) (outcomes ∷ others) =
      session_text s reading outcomes ++ sessions_text (s + 1) readings others
  sessions_text s [] others = []
  sessions_text s (reading ∷ readings) [] = []

  -- its files
  abbrev session_files : ℕ → ReadingTree → List Outcome → List SavedFile
  session_files s (NoScriptTree fault) outcomes = []
  session_files s (FlawedTree fault) outcomes = []
  session_files s (RunsTree items) outcomes = files_by T.turns T.files items (steps_of_session s items outcomes)

  -- those of sessions from number s on
  abbrev sessions_files : ℕ → List ReadingTree → List (List Outcome) → List SavedFile
  sessions_files s (reading ∷ readings) (outcomes ∷ others) =
      session_files s reading outcomes ++ sessions_files (s + 1) readings others
  sessions_files s [] others = []
  sessions_files s (reading ∷ readings) [] = []

  -- its cost
  abbrev session_cost : ℕ → ℕ → ReadingTree → List Outcome → ℕ
  session_cost leaf s (NoScriptTree fault) outcomes = 0
  session_cost leaf s (FlawedTree fault) outcomes = 0
  session_cost leaf s (RunsTree items) outcomes = costs_by T.turns T.files items leaf (steps_of_session s items outcomes)

  -- the cost of sessions from number s on
  abbrev sessions_cost : ℕ → ℕ → List ReadingTree → List (List Outcome) → ℕ
  sessions_cost leaf s (reading ∷ readings) (outcomes ∷ others) =
      session_cost leaf s reading outcomes + sessions_cost leaf (s + 1) readings others
  sessions_cost leaf s [] others = 0
  sessions_cost leaf s (reading ∷ readings) [] = 0

  -- that of those of batch b
  abbrev batch_cost : ℕ → ℕ → ℕ → List ReadingTree → List (List Outcome) → ℕ
  batch_cost leaf b s (reading ∷ readings) (outcomes ∷ others) =
      cond (batch_of T.ends s == b) (session_cost leaf s reading outcomes) 0
      + batch_cost leaf b (s + 1) readings others
  batch_cost leaf b s [] others = 0
  batch_cost leaf b s (reading ∷ readings) [] = 0

  -- a session runs its script
  pub record RunsItems (s : ℕ) (items : List ItemTree) (outcomes : List Outcome) : Type 0 where
    pub each : length outcomes ≡ length items
    pub events : EventsBy T.turns T.files items s (steps_of_session s items outcomes) (map entry_of (events_of s history))
    pub outcomes_due : OutcomesBy T.turns T.files items (steps_of_session s items outcomes)
    pub commits : CommitsAlong (change_for history s) 1 items outcomes

  -- one session
  abbrev LawfulSession : ℕ → ReadingTree → List Outcome → Type 0
  LawfulSession s (NoScriptTree fault) outcomes = (outcomes ≡ Parse fault ∷ []) × (events_of s history ≡ [])
  LawfulSession s (FlawedTree fault) outcomes = (outcomes ≡ Ill fault ∷ []) × (events_of s history ≡ [])
  LawfulSession s (RunsTree items) outcomes = RunsItems s items outcomes

  -- sessions from number s on
  abbrev LawfulSessions : ℕ → List ReadingTree → List (List Outcome) → Type 0
  LawfulSessions s [] [] = Unit {0}
  LawfulSessions s (reading ∷ readings) (outcomes ∷ others) =
      LawfulSession s reading outcomes × LawfulSessions (s + 1) readings others
  LawfulSessions s [] (outcomes ∷ others) = ⊥
  LawfulSessions s (reading ∷ readings) [] = ⊥

-- the page of a run
abbrev pub page_by : InputTree → List Event → List (List Outcome) → List ℕ
page_by T history outcomes = sessions_text T history 1 T.readings outcomes ++ cond T.history (flat_map event_line history) []

-- its files
abbrev pub saves_of_run : InputTree → List Event → List (List Outcome) → List SavedFile
saves_of_run T history outcomes = sessions_files T history 1 T.readings outcomes

-- its cost
abbrev pub run_cost : ℕ → InputTree → List Event → List (List Outcome) → ℕ
run_cost leaf T history outcomes = sessions_cost T history leaf 1 T.readings outcomes

-- that of a batch
abbrev pub cost_by_batch : ℕ → InputTree → List Event → List (List Outcome) → ℕ → ℕ
cost_by_batch leaf T history outcomes b = batch_cost T history leaf b 1 T.readings outcomes

-- its sessions
abbrev pub LawfulRun : InputTree → List Event → List (List Outcome) → Type 0
LawfulRun T history outcomes = LawfulSessions T history 1 T.readings outcomes

module _ (input : Input) (history : List Event) where
  steps-session : (s : ℕ) (script : Script) (outcomes : List Outcome)
      → map seen (steps_in input history s script outcomes)
      ≡ steps_of_session (input_tree input) history s (script_tree script) outcomes
  steps-session s script outcomes =
      script-steps (state_for input history s) script outcomes
      ∙ ap (λ f. steps_by f 1 no_names (script_tree script) outcomes) (state-at input history s)

  session-text : (s : ℕ) (reading : Reading) (outcomes : List Outcome)
      → session_page input history s reading outcomes ≡ session_text (input_tree input) history s (reading_tree reading) outcomes
  session-text s (NoScript fault) outcomes = refl
  session-text s (Flawed fault) outcomes = refl
  session-text s (Runs script) outcomes =
      replies-by input script s (steps_in input history s script outcomes)
      ∙ ap (replies_by input.turns input.files (script_tree script) s) (steps-session s script outcomes)

  sessions-text : (s : ℕ) (readings : List Reading) (outcomes : List (List Outcome))
      → sessions_page input history s readings outcomes ≡ sessions_text (input_tree input) history s (map reading_tree readings) outcomes
  sessions-text s [] outcomes = refl
  sessions-text s (r ∷ rs) [] = refl
  sessions-text s (r ∷ rs) (o ∷ os) = λ i. session-text s r o i ++ sessions-text (s + 1) rs os i

  session-files : (s : ℕ) (reading : Reading) (outcomes : List Outcome)
      → session_saves input history s reading outcomes ≡ session_files (input_tree input) history s (reading_tree reading) outcomes
  session-files s (NoScript fault) outcomes = refl
  session-files s (Flawed fault) outcomes = refl
  session-files s (Runs script) outcomes =
      files-by input script (steps_in input history s script outcomes)
      ∙ ap (files_by input.turns input.files (script_tree script)) (steps-session s script outcomes)

  sessions-files : (s : ℕ) (readings : List Reading) (outcomes : List (List Outcome))
      → sessions_saves input history s readings outcomes ≡ sessions_files (input_tree input) history s (map reading_tree readings) outcomes
  sessions-files s [] outcomes = refl
  sessions-files s (r ∷ rs) [] = refl
  sessions-files s (r ∷ rs) (o ∷ os) = λ i. session-files s r o i ++ sessions-files (s + 1) rs os i

  session-cost : (leaf s : ℕ) (reading : Reading) (outcomes : List Outcome)
      → cost_of_session leaf input history s reading outcomes ≡ session_cost (input_tree input) history leaf s (reading_tree reading) outcomes
  session-cost leaf s (NoScript fault) outcomes = refl
  session-cost leaf s (Flawed fault) outcomes = refl
  session-cost leaf s (Runs script) outcomes =
      costs-by input script leaf (steps_in input history s script outcomes)
      ∙ ap (costs_by input.turns input.files (script_tree script) leaf) (steps-session s script outcomes)

  sessions-cost : (leaf s : ℕ) (readings : List Reading) (outcomes : List (List Outcome))
      → cost_of_sessions leaf input history s readings outcomes ≡ sessions_cost (input_tree input) history leaf s (map reading_tree readings) outcomes
  sessions-cost leaf s [] outcomes = refl
  sessions-cost leaf s (r ∷ rs) [] = refl
  sessions-cost leaf s (r ∷ rs) (o ∷ os) = λ i. session-cost leaf s r o i + sessions-cost leaf (s + 1) rs os i

  batch-cost : (leaf b s : ℕ) (readings : List Reading) (outcomes : List (List Outcome))
      → cost_in_batch leaf input history b s readings outcomes ≡ batch_cost (input_tree input) history leaf b s (map reading_tree readings) outcomes
  batch-cost leaf b s [] outcomes = refl
  batch-cost leaf b s (r ∷ rs) [] = refl
  batch-cost leaf b s (r ∷ rs) (o ∷ os) = λ i.
      cond (batch_of input.ends s == b) (session-cost leaf s r o i) 0 + batch-cost leaf b (s + 1) rs os i

  -- ---- legality
  events-session : (s : ℕ) (script : Script) (outcomes : List Outcome)
      → AreEvents input script s (steps_in input history s script outcomes) (map entry_of (events_of s history))
      ≡ EventsBy input.turns input.files (script_tree script) s (steps_of_session (input_tree input) history s (script_tree script) outcomes) (map entry_of (events_of s history))
  events-session s script outcomes =
      events-by input script s (steps_in input history s script outcomes) (map entry_of (events_of s history))
      ∙ ap (λ xs. EventsBy input.turns input.files (script_tree script) s xs (map entry_of (events_of s history))) (steps-session s script outcomes)

  outcomes-session : (s : ℕ) (script : Script) (outcomes : List Outcome)
      → AreOutcomes input script (steps_in input history s script outcomes)
      ≡ OutcomesBy input.turns input.files (script_tree script) (steps_of_session (input_tree input) history s (script_tree script) outcomes)
  outcomes-session s script outcomes =
      outcomes-by input script (steps_in input history s script outcomes)
      ∙ ap (OutcomesBy input.turns input.files (script_tree script)) (steps-session s script outcomes)

  runs-items : (s : ℕ) (script : Script) (outcomes : List Outcome) → RunsScript input history s script outcomes
      → RunsItems (input_tree input) history s (script_tree script) outcomes
  runs-items s script outcomes h = record {
    each = h.each ∙ sym (length-map script.items.items item_tree);
    events = subst (λ (P : Type 0). P) (events-session s script outcomes) h.events;
    outcomes_due = subst (λ (P : Type 0). P) (outcomes-session s script outcomes) h.outcomes_due;
    commits = subst (λ (P : Type 0). P) (commits-along (change_for history s) 1 script.items.items outcomes) h.commits;
  }

  runs-script : (s : ℕ) (script : Script) (outcomes : List Outcome)
      → RunsItems (input_tree input) history s (script_tree script) outcomes → RunsScript input history s script outcomes
  runs-script s script outcomes h = record {
    each = h.each ∙ length-map script.items.items item_tree;
    events = subst (λ (P : Type 0). P) (sym (events-session s script outcomes)) h.events;
    outcomes_due = subst (λ (P : Type 0). P) (sym (outcomes-session s script outcomes)) h.outcomes_due;
    commits = subst (λ (P : Type 0). P) (sym (commits-along (change_for history s) 1 script.items.items outcomes)) h.commits;
  }

  lawful-session : (s : ℕ) (reading : Reading) (outcomes : List Outcome) → LegalSession input history s reading outcomes
      → LawfulSession (input_tree input) history s (reading_tree reading) outcomes
  lawful-session s (NoScript fault) outcomes h = h
  lawful-session s (Flawed fault) outcomes h = h
  lawful-session s (Runs script) outcomes h = runs-items s script outcomes h

  legal-session : (s : ℕ) (reading : Reading) (outcomes : List Outcome)
      → LawfulSession (input_tree input) history s (reading_tree reading) outcomes → LegalSession input history s reading outcomes
  legal-session s (NoScript fault) outcomes h = h
  legal-session s (Flawed fault) outcomes h = h
  legal-session s (Runs script) outcomes h = runs-script s script outcomes h

  lawful-sessions : (s : ℕ) (readings : List Reading) (outcomes : List (List Outcome))
      → LegalSessions input history s readings outcomes
      → LawfulSessions (input_tree input) history s (map reading_tree readings) outcomes
  lawful-sessions s [] [] h = h
  lawful-sessions s (r ∷ rs) (o ∷ os) h = (lawful-session s r o h.0, lawful-sessions (s + 1) rs os h.1)
  lawful-sessions s [] (o ∷ os) h = absurd h
  lawful-sessions s (r ∷ rs) [] h = absurd h

  -- and back: sessions that are lawful by their trees are legal, one after another
  legal-sessions : (s : ℕ) (readings : List Reading) (outcomes : List (List Outcome))
      → LawfulSessions (input_tree input) history s (map reading_tree readings) outcomes
      → LegalSessions input history s readings outcomes
  legal-sessions s [] [] h = h
  legal-sessions s (r ∷ rs) (o ∷ os) h = (legal-session s r o h.0, legal-sessions (s + 1) rs os h.1)
  legal-sessions s [] (o ∷ os) h = absurd h
  legal-sessions s (r ∷ rs) [] h = absurd h

  -- ---- a run
  module _ (outcomes : List (List Outcome)) where
    pub lawful-run : LegalSessions input history 1 input.readings outcomes → LawfulRun (input_tree input) history outcomes
    lawful-run = lawful-sessions 1 input.readings outcomes

    pub legal-run : LawfulRun (input_tree input) history outcomes → LegalSessions input history 1 input.readings outcomes
    legal-run = legal-sessions 1 input.readings outcomes

    pub page-by : page input history outcomes ≡ page_by (input_tree input) history outcomes
    unfolding page
    page-by = ap (λ text. text ++ cond input.history (flat_map event_line history) []) (sessions-text 1 input.readings outcomes)

    pub saves-run : saves input history outcomes ≡ saves_of_run (input_tree input) history outcomes
    unfolding saves
    saves-run = sessions-files 1 input.readings outcomes

    pub run-cost : (leaf : ℕ) → cost_of_run leaf input history outcomes ≡ run_cost leaf (input_tree input) history outcomes
    unfolding cost_of_run
    run-cost leaf = sessions-cost leaf 1 input.readings outcomes

    pub cost-batch : (leaf b : ℕ) → cost_of_batch leaf input history outcomes b ≡ cost_by_batch leaf (input_tree input) history outcomes b
    unfolding cost_of_batch
    cost-batch leaf b = batch-cost leaf b 1 input.readings outcomes
