-- States that look alike to the items make the same run: each item is due the same, and keeps the same snapshot.
use Rattle.std.specs.List.{AllByRecursion}
use Rattle.std.proofs.Common.{◌≡◌, ◌+◌, ◌++◌, ℕ, List, [], ◌∷◌, Option, Some, None, refl, sym, ap, subst, ◌∙◌, Bool, true, false, cond, eqb, map}
use Rattle.lang_model.specs.declared.syntax.Command.TheVariants.{
  Relation as RELATION,
  Let,
  Print as PRINT,
  List as LIST,
  Count,
  Typed,
  Remove as DROP,
  Snap,
  At,
  Load,
  Save,
  LoadAll,
  SaveAll,
  Atomic,
  Explain,
}
use Rattle.lang_model.specs.declared.syntax.Item.{Item}
use Rattle.lang_model.specs.declared.syntax.Item.TheVariants.{Function, Program, Command as COMMAND}
use Rattle.lang_model.specs.declared.syntax.Script.{Script}
use Rattle.run_model.specs.declared.outcome.Outcome.{Outcome}
use Rattle.lang_model.specs.State.{State}
use Rattle.rel_model.specs.declared.Rel.{Rel}
use Rattle.run_model.specs.declared.event.Event.{Event}
use Rattle.rel_model.specs.Relation.{Relation}
use Rattle.lang_model.specs.Eval.{AgreeOn}
use Rattle.run_model.specs.Names.{no_names, lookup}
use Rattle.run_model.specs.Inputs.{Input}
use Rattle.run_model.specs.Due.{Workspace, Due, Gifts, gives, due}
use Rattle.run_model.specs.Steps.{Ending, Succeeds, Fails, Changes, LacksMemory, ending, Snapshots, snapped, keep, kept_at, snaps_behind, snap_for, Step, due_at, steps_from, steps}
use Rattle.run_model.specs.Events.{entry_of, HasDeeds}
use Rattle.run_model.specs.Outcomes.{IsOutcome}
use Rattle.run_model.specs.Page.{reply, replies, save_at, saves_of}
use Rattle.run_model.specs.Cost.{cost_of_item, cost_of_step}
use Rattle.run_model.specs.Laws.{names_asked, takes_all, OneWhereAll, LooksAlike, SnapsAgree}
use Rattle.run_model.specs.Lifting.{LookAlike, SameRun, LookAlikeRunAlike, MeanAlike, OtherWorkerRunsAlike}
use Rattle.run_model.specs.Turns.{puts_of, state_taken}
use Rattle.run_model.specs.Sessions.{rel_of, rels_of, HaveValues, HasValuesAt, HasValues}
use Rattle.run_model.proofs.Depending.{due_by_names}

pub agree_itself : (s : State) (names : List (List ℕ)) → AgreeOn s s names
agree_itself s [] = tt
agree_itself s (n ∷ names) = (refl, agree_itself s names)

pub snaps_itself : (o : Option Workspace) (names : List (List ℕ)) → SnapsAgree o o names
snaps_itself None names = tt
snaps_itself (Some s) names = agree_itself (lookup s) names

-- an item that keeps a snapshot takes all relations
pub keep_alike : (item : Item) (s t : Workspace) (snaps : Snapshots) → OneWhereAll (takes_all item) s t → keep (snapped item) s snaps ≡ keep (snapped item) t snaps
keep_alike (COMMAND (RELATION name rows rows_at cols cols_at list)) s t snaps h = refl
keep_alike (COMMAND (Let name e)) s t snaps h = refl
keep_alike (COMMAND (PRINT e)) s t snaps h = refl
keep_alike (COMMAND (LIST e)) s t snaps h = refl
keep_alike (COMMAND (Count e)) s t snaps h = refl
keep_alike (COMMAND (Typed e)) s t snaps h = refl
keep_alike (COMMAND (DROP at name)) s t snaps h = refl
keep_alike (COMMAND (Snap name)) s t snaps h = ap (λ x. keep (Some name) x snaps) h
keep_alike (COMMAND (At at name e)) s t snaps h = refl
keep_alike (COMMAND (Load name file)) s t snaps h = refl
keep_alike (COMMAND (Save e file)) s t snaps h = refl
keep_alike (COMMAND (LoadAll file)) s t snaps h = refl
keep_alike (COMMAND (SaveAll file)) s t snaps h = refl
keep_alike (COMMAND (Atomic lets)) s t snaps h = refl
keep_alike (COMMAND (Explain e)) s t snaps h = refl
keep_alike (Function at name params body) s t snaps h = refl
keep_alike (Program at name params decls body result) s t snaps h = refl

-- the same snapshots are kept on both states: one is kept only on success, of an item that takes all relations
pub kept_alike : (x : Ending) (item : Item) (s t : Workspace) (snaps : Snapshots) → OneWhereAll (takes_all item) s t →
    kept_at x item s snaps ≡ kept_at x item t snaps
kept_alike Succeeds item s t snaps h = keep_alike item s t snaps h
kept_alike Fails item s t snaps h = refl
kept_alike Changes item s t snaps h = refl
kept_alike LacksMemory item s t snaps h = refl

module _ (input : Input) (script : Script) (f g : ℕ → Workspace) where
  abbrev before : ℕ → Snapshots → List Item → List Outcome → List Step
  before = steps_from f

  abbrev behind : ℕ → Snapshots → List Item → List Outcome → List Step
  behind = steps_from g

  -- behind an item both have the same snapshots
  pub next : (c : ℕ) (item : Item) (o : Outcome) (snaps : Snapshots) → LooksAlike item (f c) (g c) →
      snaps_behind item o (f c) snaps ≡ snaps_behind item o (g c) snaps
  next c item o snaps h = kept_alike (ending o) item (f c) (g c) snaps h.1

  -- the same is due
  pub same : (c : ℕ) (item : Item) (snaps : Snapshots) → LooksAlike item (f c) (g c) →
      due input script item (f c) (snap_for item snaps) ≡ due input script item (g c) (snap_for item snaps)
  same c item snaps h = (due_by_names input script item (f c) (g c) (snap_for item snaps) (snap_for item snaps) h (snaps_itself (snap_for item snaps) (names_asked item))).0

  -- at the same cost
  pub cost : (leaf c : ℕ) (item : Item) (snaps : Snapshots) → LooksAlike item (f c) (g c) → (d : Due) →
      cost_of_item leaf input script item (f c) (snap_for item snaps) d ≡ cost_of_item leaf input script item (g c) (snap_for item snaps) d
  cost leaf c item snaps h = (due_by_names input script item (f c) (g c) (snap_for item snaps) (snap_for item snaps) h (snaps_itself (snap_for item snaps) (names_asked item))).1 leaf

  -- the whole runs are the same, by induction on the items: each is due the same at the same cost, and leaves the
  -- same snapshots to the rest
  pub run_alike : (items : List Item) (outcomes : List Outcome) (c : ℕ) (snaps : Snapshots) → LookAlike f g c items →
      SameRun input script (before c snaps items outcomes) (behind c snaps items outcomes)
  unfolding replies saves_of cost_of_step
  run_alike [] outcomes c snaps h = record {
    events = λ s log k. k;
    outcomes = λ k. k;
    values = λ means evs k. k;
    replies = λ s. refl;
    saves = refl;
    cost = λ leaf. refl;
  }
  run_alike (item ∷ items) [] c snaps h = record {
    events = λ s log k. k;
    outcomes = λ k. k;
    values = λ means evs k. k;
    replies = λ s. refl;
    saves = refl;
    cost = λ leaf. refl;
  }
  run_alike (item ∷ items) (o ∷ outcomes) c snaps h =
      let snap = snap_for item snaps in
      let d = same c item snaps h.0 in
      let r = subst (λ z. SameRun input script (before (c + 1) (snaps_behind item o (f c) snaps) items outcomes) (behind (c + 1) z items outcomes))
      (next c item o snaps h.0) (run_alike items outcomes (c + 1) (snaps_behind item o (f c) snaps) h.1) in
      record {
        events = λ s log k. (k.0, k.1, k.2, subst (λ x. HasDeeds (ending o) item x k.0) d k.3, r.events s k.1 k.4);
        values = λ means evs k. (
          subst (λ x. HasValuesAt (ending o) means (rels_of c evs) (gives item x)) d k.0,
          r.values means evs k.1,
        );
        outcomes = λ k. (subst (λ x. IsOutcome item x o) d k.0, r.outcomes k.1);
        replies = λ s i. reply s c item (d i) o ++ r.replies s i;
        saves = λ i. save_at (ending o) item (d i) ++ r.saves i;
        cost = λ leaf i. (cost leaf c item snaps h.0 (due input script item (f c) snap) ∙ ap (cost_of_item leaf input script item (g c) snap) d) i + r.cost leaf i;
      }

pub look_alike_run_alike : LookAlikeRunAlike
unfolding steps
look_alike_run_alike input script outcomes f g h = run_alike input script f g script.items.items outcomes 1 no_names h

-- ---- another worker
module _ (means other : Rel → Relation) where
  pub values_other : (rs : List Rel) (gs : Gifts) → AllByRecursion (λ rel. means rel ≡ other rel) rs → HaveValues means rs gs → HaveValues other rs gs
  values_other [] [] h k = k
  values_other [] (g ∷ gs) h k = k
  values_other (r ∷ rs) [] h k = k
  values_other (r ∷ rs) (g ∷ gs) h k = (sym h.0 ∙ k.0, values_other rs gs h.1 k.1)

  pub all_append : (xs ys : List Rel) → AllByRecursion (λ rel. means rel ≡ other rel) xs → AllByRecursion (λ rel. means rel ≡ other rel) ys →
      AllByRecursion (λ rel. means rel ≡ other rel) (xs ++ ys)
  all_append [] ys h k = k
  all_append (x ∷ xs) ys h k = (h.0, all_append xs ys h.1 k)

  pub rels_alike : (c : ℕ) (evs : List Event) → MeanAlike means other evs → AllByRecursion (λ rel. means rel ≡ other rel) (rels_of c evs)
  rels_alike c [] h = tt
  rels_alike c (e ∷ es) h = picked (eqb e.command c) (all_append (rel_of e.act) (rels_of c es) h.0 (rels_alike c es h.1)) (rels_alike c es h.1)
    where
      picked : (b : Bool) → AllByRecursion (λ rel. means rel ≡ other rel) (rel_of e.act ++ rels_of c es) → AllByRecursion (λ rel. means rel ≡ other rel) (rels_of c es) →
          AllByRecursion (λ rel. means rel ≡ other rel) (cond b (rel_of e.act ++ rels_of c es) (rels_of c es))
      picked true x y = x
      picked false x y = y

  pub at_other : (x : Ending) (rs : List Rel) (gs : Gifts) → AllByRecursion (λ rel. means rel ≡ other rel) rs → HasValuesAt x means rs gs → HasValuesAt x other rs gs
  at_other Succeeds rs gs h k = values_other rs gs h k
  at_other Fails rs gs h k = k
  at_other Changes rs gs h k = k
  at_other LacksMemory rs gs h k = k

  pub all_other : (input : Input) (script : Script) (evs : List Event) → MeanAlike means other evs → (steps : List Step) →
      AllByRecursion (HasValues input script means evs) steps → AllByRecursion (HasValues input script other evs) steps
  all_other input script evs h [] k = tt
  all_other input script evs h (step ∷ steps) k = (
    at_other (ending step.outcome) (rels_of step.number evs) (gives step.item (due_at input script step)) (rels_alike step.number evs h) k.0,
    all_other input script evs h steps k.1,
  )

-- a session ran for one worker as it ran for another to which the relations mean the same: the states that its turns
-- took look alike, and so does each value that it gave
pub other_worker_runs_alike : OtherWorkerRunsAlike
other_worker_runs_alike input first means other s script outcomes ts old new alike agree r =
    let same = look_alike_run_alike input script outcomes (state_taken first.names means ts) (state_taken first.names other ts) alike in
    record {
      turns = r.turns;
      own = r.own;
      once = r.once;
      each = r.each;
      events = same.events s (map entry_of (puts_of ts)) r.events;
      outcomes_due = same.outcomes r.outcomes_due;
      values = all_other means other input script (puts_of ts) agree (steps (state_taken first.names other ts) script outcomes)
          (same.values means (puts_of ts) r.values);
      commits = r.commits;
    }
