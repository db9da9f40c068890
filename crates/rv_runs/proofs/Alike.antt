-- What a session promises in its own worker it promises in one that holds all that stands there.
-- 1. Relations that stand mean the same in both, those of the first names as well.
-- 2. So the names that events leave have the same values, and each command took the same state.
-- 3. So the session has the same steps, and ran its script in the same turns.
use Rattle.std.specs.List.{list_any, AllByRecursion}
use Rattle.std.proofs.Common.{◌≡◌, ◌+◌, ◌++◌, ℕ, suc, Bool, true, false, cond, eqb, List, [], ◌∷◌, Option, Some, refl, sym, ap, subst, ◌∙◌, arith}
use Rattle.std.specs.Prelude.{unwrap_or}
use Rattle.rel_model.specs.declared.Rel.{Rel}
use Rattle.rel_model.specs.Relation.{Relation}
use Rattle.rel_model.specs.Worker.{Worker, Stands, set_of}
use Rattle.rel_model.specs.Seats.{Holds}
use Rattle.lang_model.specs.declared.syntax.Item.{Item}
use Rattle.lang_model.specs.declared.syntax.Script.{Script}
use Rattle.run_model.specs.declared.event.Event.{Event}
use Rattle.run_model.specs.declared.event.Act.{Act}
use Rattle.run_model.specs.declared.event.Act.TheVariants.{Read, Assign, Remove}
use Rattle.run_model.specs.declared.outcome.Outcome.{Outcome}
use Rattle.run_model.specs.Names.{lookup, set, remove}
use Rattle.run_model.specs.Inputs.{Input}
use Rattle.run_model.specs.Due.{Workspace}
use Rattle.run_model.specs.Steps.{steps}
use Rattle.run_model.specs.States.{Replay, begun}
use Rattle.run_model.specs.Carried.{Carried, First, carry_act, carry, carried_from, valued}
use Rattle.run_model.specs.Laws.{names_taken, takes_all, OneWhereAll}
use Rattle.run_model.specs.Lifting.{LookAlike, MeanAlike}
use Rattle.run_model.specs.Turns.{Turn, puts_of, taken, state_of_log, state_taken}
use Rattle.run_model.specs.Sessions.{rel_of, RunsTurns, steps_taken}
use Rattle.run_model.proofs.Carrying.{set_valued, remove_valued}
use Rattle.run_model.proofs.Lifted.{agree_itself, other_worker_runs_alike}
use Rattle.rv_workspace.specs.Books.{EventStands, HistoryStands, AllNamesStand}
use Rattle.rv_sessions.specs.Standing.{TurnsStand}

module _ (means other : Rel → Relation) where
  act_alike : (s c : ℕ) (a : Act) (p : Replay Rel) → AllByRecursion (λ rel. means rel ≡ other rel) (rel_of a) →
      valued means p.now ≡ valued other p.now → valued means (carry_act s c a p).now ≡ valued other (carry_act s c a p).now
  act_alike s c Read p k h = h
  act_alike s c (Assign name rel) p k h =
      set_valued means name rel p.now ∙ ((λ i. set name (k.0 i) (h i)) ∙ sym (set_valued other name rel p.now))
  act_alike s c (Remove name) p k h =
      remove_valued means name p.now ∙ (ap (remove name) h ∙ sym (remove_valued other name p.now))

  carry_alike : (log : List Event) (p : Replay Rel) → MeanAlike means other log → valued means p.now ≡ valued other p.now →
      valued means (carry p log).now ≡ valued other (carry p log).now
  carry_alike [] p k h = h
  carry_alike (e ∷ es) p k h =
      carry_alike es (carry_act e.session e.command e.act p) k.1 (act_alike e.session e.command e.act p k.0 h)

  -- the names that a log leaves have the same values in both, since the first names have, and the relations of the log
  carried_alike : (first : Carried) (log : List Event) → valued means first ≡ valued other first → MeanAlike means other log
      → valued means (carried_from first log) ≡ valued other (carried_from first log)
  unfolding carried_from
  carried_alike first log f k = carry_alike log (begun first) k f

  -- what a turn took means the same in both: the first names, and the relations of the log
  abbrev TakesAlike : Carried → Turn → Type 0
  TakesAlike first t = (valued means first ≡ valued other first) × MeanAlike means other t.took

  module _ (first : Carried) where
    one_of_two : (b : Bool) (x : List Event) (o : Option (List Event)) → valued means (carried_from first x) ≡ valued other (carried_from first x)
        → state_of_log first means o ≡ state_of_log first other o
        → state_of_log first means (cond b (Some x) o) ≡ state_of_log first other (cond b (Some x) o)
    one_of_two true x o h k = h
    one_of_two false x o h k = k

    state_alike : (ts : List Turn) → AllByRecursion (TakesAlike first) ts → (c : ℕ) →
        state_taken first means ts c ≡ state_taken first other ts c
    state_alike [] h c = refl
    state_alike (t ∷ ts) h c =
        one_of_two (list_any (λ e. eqb e.command c) t.put) t.took (taken c ts) (carried_alike first t.took h.0.0 h.0.1) (state_alike ts h.1 c)

  alike_append : (xs ys : List Event) → MeanAlike means other xs → MeanAlike means other ys → MeanAlike means other (xs ++ ys)
  alike_append [] ys h k = k
  alike_append (x ∷ xs) ys h k = (h.0, alike_append xs ys h.1 k)

-- ---- states that are one look alike
one_where_all : (b : Bool) (s : Workspace) → OneWhereAll b s s
one_where_all false s = tt
one_where_all true s = refl

look_alike_itself : (f : ℕ → Workspace) (c : ℕ) (items : List Item) → LookAlike f f c items
look_alike_itself f c [] = tt
look_alike_itself f c (item ∷ items) = (
  (agree_itself (lookup (f c)) (names_taken item), one_where_all (takes_all item) (f c)),
  look_alike_itself f (c + 1) items,
)

-- ---- workers
module _ (w v : Worker) (holds : Holds w v) where
  rels_alike : (rels : List Rel) → AllByRecursion (Stands w) rels → AllByRecursion (λ rel. set_of w rel ≡ set_of v rel) rels
  rels_alike [] h = tt
  rels_alike (rel ∷ rels) h = (
    ap (λ o. unwrap_or o (record { rows = 0; cols = 0; pairs = [] })) (sym (holds.same rel h.0)),
    rels_alike rels h.1,
  )

  history_alike : (log : List Event) → HistoryStands w log → MeanAlike (set_of w) (set_of v) log
  history_alike [] h = tt
  history_alike (e ∷ es) h = (
    rels_alike (rel_of e.act) (h 0 e (omega arith)),
    history_alike es (λ k d l. h (suc k) d (omega arith)),
  )

  events_alike : (es : List Event) → AllByRecursion (EventStands w) es → MeanAlike (set_of w) (set_of v) es
  events_alike [] h = tt
  events_alike (e ∷ es) h = (rels_alike (rel_of e.act) h.0, events_alike es h.1)

  -- names that stand in the one worker have the same values in the other, relation by relation
  names_alike : (names : Carried) → AllNamesStand w names → valued (set_of w) names ≡ valued (set_of v) names
  names_alike [] h = refl
  names_alike (e ∷ es) h =
      let one = rels_alike (e.1 ∷ []) (h.0, tt) in
      (λ i. (e.0, one.0 i) ∷ names_alike es h.1 i)

  module _ (first : First) where
    took_alike : (ts : List Turn) → TurnsStand w first.names ts → AllByRecursion (TakesAlike (set_of w) (set_of v) first.names) ts
    took_alike [] h = tt
    took_alike (t ∷ ts) h = ((names_alike first.names h.0.first_stand, history_alike t.took h.0.log), took_alike ts h.1)

    put_alike : (ts : List Turn) → TurnsStand w first.names ts → MeanAlike (set_of w) (set_of v) (puts_of ts)
    put_alike [] h = tt
    put_alike (t ∷ ts) h =
        alike_append (set_of w) (set_of v) t.put (puts_of ts) (events_alike t.put h.0.own) (put_alike ts h.1)

    states_alike : (ts : List Turn) → TurnsStand w first.names ts → state_taken first.names (set_of w) ts ≡ state_taken first.names (set_of v) ts
    states_alike ts h = λ i c. state_alike (set_of w) (set_of v) first.names ts (took_alike ts h) c i

    -- the session has the same steps
    pub steps_alike : (ts : List Turn) (script : Script) (outcomes : List Outcome) → TurnsStand w first.names ts →
        steps_taken first.names (set_of w) ts script outcomes ≡ steps_taken first.names (set_of v) ts script outcomes
    steps_alike ts script outcomes h = ap (λ f. steps f script outcomes) (states_alike ts h)

    -- and ran its script in the same turns
    pub runs_alike : (input : Input) (s : ℕ) (script : Script) (outcomes : List Outcome) (ts : List Turn) (old new : List Event) → TurnsStand w first.names ts →
        RunsTurns input first (set_of w) s script outcomes ts old new → RunsTurns input first (set_of v) s script outcomes ts old new
    runs_alike input s script outcomes ts old new h r =
        other_worker_runs_alike input first (set_of w) (set_of v) s script outcomes ts old new
        (subst (λ f. LookAlike (state_taken first.names (set_of w) ts) f 1 script.items.items) (states_alike ts h)
        (look_alike_itself (state_taken first.names (set_of w) ts) 1 script.items.items))
        (put_alike ts h) r
