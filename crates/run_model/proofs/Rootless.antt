-- States, pages, saves and costs by the entries of a history alone.
use Rattle.std.proofs.Common.{◌≡◌, ◌+◌, ◌&&◌, ◌||◌, ◌++◌, ℕ, Bool, true, false, cond, eqb, List, [], ◌∷◌, map, refl, sym, ap, ◌∙◌}
use Rattle.std.specs.Prelude.{slice_get, codes}
use Rattle.std.specs.List.{list_any, flat_map}
use Rattle.std.specs.Fmt.{decimal}
use Rattle.run_model.specs.declared.event.Event.{Event}
use Rattle.run_model.specs.declared.event.Act.{Act}
use Rattle.run_model.specs.declared.event.Act.TheVariants.{Read, Assign, Remove}
use Rattle.run_model.specs.declared.outcome.Outcome.{Outcome}
use Rattle.rel_model.specs.Relation.{Relation}
use Rattle.run_model.specs.Names.{no_names, remove}
use Rattle.run_model.specs.Inputs.{Input, Reading, NoScript, Flawed, Runs, batch_of}
use Rattle.run_model.specs.Due.{Workspace, Gifts}
use Rattle.run_model.specs.Events.{Deed, Reads, Gives, Removes, deed_of, Entry, entry_of}
use Rattle.run_model.specs.Steps.{steps}
use Rattle.run_model.specs.States.{Replay, start, at_command, set_by, replay_act, replay, is_of, events_before, gifts_due, state_after, state_for}
use Rattle.run_model.specs.Page.{line_feed, sizes_text, replies, act_text, event_line, session_page, sessions_page, page, saves_of, session_saves, sessions_saves, saves}
use Rattle.run_model.specs.Cost.{cost_of_steps, cost_of_session, cost_of_sessions, cost_in_batch, cost_of_batch, cost_of_run}
use Rattle.run_model.specs.Run.{SameWithoutRoots, RootsMeanNothing, OneScriptOnePage}
use Rattle.run_model.proofs.Solo.{solo_is_legal}

-- ---- states
module _ (gifts : ℕ → ℕ → Workspace → Gifts) where
  abbrev replay_deed : ℕ → ℕ → Deed → Replay Relation → Replay Relation
  replay_deed s c Reads p = record { now = p.now; at_read = at_command s c p.now p.at_read; given = p.given }
  replay_deed s c (Gives name m n) p = record {
    now = set_by name (slice_get (gifts s c (p.at_read s c)) (p.given s c)) p.now;
    at_read = p.at_read;
    given = at_command s c (p.given s c + 1) p.given;
  }
  replay_deed s c (Removes name) p = record { now = remove name p.now; at_read = p.at_read; given = p.given }

  abbrev replay_entries : Replay Relation → List Entry → Replay Relation
  replay_entries p [] = p
  replay_entries p (x ∷ xs) = replay_entries (replay_deed x.session x.command x.deed p) xs

  act_deed : (s c : ℕ) (a : Act) (p : Replay Relation) → replay_act gifts s c a p ≡ replay_deed s c (deed_of a) p
  act_deed s c Read p = refl
  act_deed s c (Assign name rel) p = refl
  act_deed s c (Remove name) p = refl

  -- a replay of events is one of their entries, event by event: no step asks for a relation's root
  by_entries : (xs : List Event) (p : Replay Relation) → replay gifts p xs ≡ replay_entries p (map entry_of xs)
  by_entries [] p = refl
  by_entries (x ∷ xs) p =
      by_entries xs (replay_act gifts x.session x.command x.act p)
      ∙ ap (λ q. replay_entries q (map entry_of xs)) (act_deed x.session x.command x.act p)

abbrev is_at : ℕ → ℕ → Entry → Bool
is_at s c x = eqb x.session s && eqb x.command c

abbrev before_entry : ℕ → ℕ → List Entry → List Entry
before_entry s c [] = []
before_entry s c (x ∷ xs) = cond (is_at s c x) [] (x ∷ before_entry s c xs)

pick : (b : Bool) (x : Event) (xs : List Event) → map entry_of (cond b [] (x ∷ xs)) ≡ cond b [] (entry_of x ∷ map entry_of xs)
pick true x xs = refl
pick false x xs = refl

before_by : (s c : ℕ) (xs : List Event) → map entry_of (events_before s c xs) ≡ before_entry s c (map entry_of xs)
before_by s c [] = refl
before_by s c (x ∷ xs) =
    pick (is_of s c x) x (events_before s c xs) ∙ ap (λ l. cond (is_of s c x) [] (entry_of x ∷ l)) (before_by s c xs)

any_by : (s c : ℕ) (xs : List Event) → list_any (is_of s c) xs ≡ list_any (is_at s c) (map entry_of xs)
any_by s c [] = refl
any_by s c (x ∷ xs) = ap (λ b. is_of s c x || b) (any_by s c xs)

abbrev state_by : Input → List Entry → ℕ → ℕ → Workspace
state_by input log s c =
    cond (list_any (is_at s c) log) (replay_entries (gifts_due input) start (before_entry s c log)).now no_names

-- so is the state that a command sees: events and entries are cut alike before the command's first
state_for_by : (input : Input) (xs : List Event) (s c : ℕ) → state_for input xs s c ≡ state_by input (map entry_of xs) s c
unfolding state_for state_after
state_for_by input xs s c = λ i.
    cond (any_by s c xs i)
    ((ap (λ p. p.now) (by_entries (gifts_due input) (events_before s c xs) start)
    ∙ ap (λ l. (replay_entries (gifts_due input) start l).now) (before_by s c xs)) i)
    no_names

-- ---- the page
abbrev deed_text : Deed → List ℕ
deed_text Reads = codes "read"
deed_text (Gives name m n) = codes "assign " ++ name ++ codes " " ++ sizes_text m n
deed_text (Removes name) = codes "drop " ++ name

act_text_by : (a : Act) → act_text a ≡ deed_text (deed_of a)
act_text_by Read = refl
act_text_by (Assign name rel) = refl
act_text_by (Remove name) = refl

abbrev entry_line : Entry → List ℕ
entry_line x = decimal x.session ++ codes "." ++ decimal x.command ++ codes " " ++ deed_text x.deed ++ line_feed

lines_by : (xs : List Event) → flat_map event_line xs ≡ flat_map entry_line (map entry_of xs)
unfolding event_line
lines_by [] = refl
lines_by (x ∷ xs) = λ i.
    (decimal x.session ++ codes "." ++ decimal x.command ++ codes " " ++ act_text_by x.act i ++ line_feed) ++ lines_by xs i

module _ (input : Input) (first second : List Event) (same : map entry_of first ≡ map entry_of second) where
  states : (s : ℕ) → state_for input first s ≡ state_for input second s
  states s = λ i c. (state_for_by input first s c ∙ (ap (λ l. state_by input l s c) same ∙ sym (state_for_by input second s c))) i

  session_same : (s : ℕ) (reading : Reading) (os : List Outcome) → session_page input first s reading os ≡ session_page input second s reading os
  session_same s (NoScript fault) os = refl
  session_same s (Flawed fault) os = refl
  session_same s (Runs script) os = ap (λ f. replies input script s (steps f script os)) (states s)

  sessions_same : (s : ℕ) (readings : List Reading) (outcomes : List (List Outcome)) →
      sessions_page input first s readings outcomes ≡ sessions_page input second s readings outcomes
  sessions_same s [] outcomes = refl
  sessions_same s (r ∷ rs) [] = refl
  sessions_same s (r ∷ rs) (o ∷ os) = λ i. session_same s r o i ++ sessions_same (s + 1) rs os i

  session_saved : (s : ℕ) (reading : Reading) (os : List Outcome) → session_saves input first s reading os ≡ session_saves input second s reading os
  session_saved s (NoScript fault) os = refl
  session_saved s (Flawed fault) os = refl
  session_saved s (Runs script) os = ap (λ f. saves_of input script (steps f script os)) (states s)

  sessions_saved : (s : ℕ) (readings : List Reading) (outcomes : List (List Outcome)) →
      sessions_saves input first s readings outcomes ≡ sessions_saves input second s readings outcomes
  sessions_saved s [] outcomes = refl
  sessions_saved s (r ∷ rs) [] = refl
  sessions_saved s (r ∷ rs) (o ∷ os) = λ i. session_saved s r o i ++ sessions_saved (s + 1) rs os i

  session_costs : (leaf s : ℕ) (reading : Reading) (os : List Outcome) → cost_of_session leaf input first s reading os ≡ cost_of_session leaf input second s reading os
  session_costs leaf s (NoScript fault) os = refl
  session_costs leaf s (Flawed fault) os = refl
  session_costs leaf s (Runs script) os = ap (λ f. cost_of_steps leaf input script (steps f script os)) (states s)

  sessions_cost : (leaf s : ℕ) (readings : List Reading) (outcomes : List (List Outcome)) →
      cost_of_sessions leaf input first s readings outcomes ≡ cost_of_sessions leaf input second s readings outcomes
  sessions_cost leaf s [] outcomes = refl
  sessions_cost leaf s (r ∷ rs) [] = refl
  sessions_cost leaf s (r ∷ rs) (o ∷ os) = λ i. session_costs leaf s r o i + sessions_cost leaf (s + 1) rs os i

  batch_cost : (leaf b s : ℕ) (readings : List Reading) (outcomes : List (List Outcome)) → cost_in_batch leaf input first b s readings outcomes ≡ cost_in_batch leaf input second b s readings outcomes
  batch_cost leaf b s [] outcomes = refl
  batch_cost leaf b s (r ∷ rs) [] = refl
  batch_cost leaf b s (r ∷ rs) (o ∷ os) = λ i.
      cond (eqb (batch_of input.ends s) b) (session_costs leaf s r o i) 0 + batch_cost leaf b (s + 1) rs os i

  without_roots : (outcomes : List (List Outcome)) → SameWithoutRoots input outcomes first second
  unfolding page saves cost_of_run cost_of_batch
  without_roots outcomes = record {
    page = λ i.
        sessions_same 1 input.readings outcomes i
        ++ cond input.history ((lines_by first ∙ (ap (flat_map entry_line) same ∙ sym (lines_by second))) i) [];
    saves = sessions_saved 1 input.readings outcomes;
    cost = λ leaf. sessions_cost leaf 1 input.readings outcomes;
    cost_of_batches = λ leaf b. batch_cost leaf b 1 input.readings outcomes;
  }

pub roots_mean_nothing : RootsMeanNothing
roots_mean_nothing input outcomes first second same = without_roots input first second same outcomes

pub one_script_one_page : OneScriptOnePage
one_script_one_page input reading first second os others is su tu legal lawful =
    let a = (solo_is_legal input reading first os is su).0 legal in
    let b = (solo_is_legal input reading second others is tu).0 lawful in
    let told : os ≡ others = a.0 ∙ sym b.0 in
    let same = without_roots input first second (a.1 ∙ sym b.1) (os ∷ []) in (
      told,
      same.page ∙ ap (λ o. page input second (o ∷ [])) told,
      same.saves ∙ ap (λ o. saves input second (o ∷ [])) told,
    )
