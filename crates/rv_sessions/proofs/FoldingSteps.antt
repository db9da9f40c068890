-- The steps of the first items, and the step of one item more behind them.
-- 1. Steps and snapshots go by the states of the numbers that they have: states that agree on those make the same.
-- 2. One outcome more makes one step more, on the snapshots that the earlier ones left; and these leave, behind it, what
--    the item keeps.
-- 3. Events, outcomes, values, replies, files and cost of steps with one more are those of the steps and of the one.
use Rattle.std.proofs.Common.{◌≡◌, ◌≤◌, ◌+◌, ℕ, suc, List, [], ◌∷◌, ◌++◌, length, Some, None, refl, sym, ap, ◌∙◌, arith, append_assoc, append-nil, add-zero}
use Rattle.std.specs.Prelude.{zero, slice_get}
use Rattle.std.specs.List.{AllByRecursion, flat_map}
use Rattle.std.proofs.lemmas.Grind.{flat_map-append}
use Rattle.lang_model.specs.declared.syntax.Item.{Item}
use Rattle.lang_model.specs.declared.syntax.Script.{Script}
use Rattle.run_model.specs.declared.outcome.Outcome.{Outcome}
use Rattle.run_model.specs.Inputs.{Input}
use Rattle.run_model.specs.Due.{Workspace}
use Rattle.run_model.specs.Steps.{Snapshots, Step, due_at, ending, snaps_behind, snap_for, steps_from}
use Rattle.run_model.specs.Events.{Deed, Entry, entries, HasDeeds, AreEvents}
use Rattle.run_model.specs.Page.{SavedFile, reply, replies, save_at, saves_of}
use Rattle.run_model.specs.Cost.{cost_of_step, cost_of_steps}
use Rattle.rv_sessions.specs.Running.{snaps_after}

no_item : (item : Item) → None ≡ Some item → ⊥
no_item item e = cc

pub same_item : (x y : Item) → Some x ≡ Some y → x ≡ y
same_item x y e = cc

-- ---- states that agree
module _ (f g : ℕ → Workspace) (n : ℕ) (agree : (k : ℕ) → k ≤ n → f k ≡ g k) where
  pub steps_agree : (items : List Item) (outcomes : List Outcome) (c : ℕ) (snaps : Snapshots) → c + length outcomes ≤ n + 1 →
      steps_from f c snaps items outcomes ≡ steps_from g c snaps items outcomes
  steps_agree [] outcomes c snaps l = refl
  steps_agree (item ∷ items) [] c snaps l = refl
  steps_agree (item ∷ items) (o ∷ os) c snaps l =
      let e = agree c (omega arith) in
      let more = ap (λ (s : Workspace). steps_from f (c + 1) (snaps_behind item o s snaps) items os) e
      ∙ steps_agree items os (c + 1) (snaps_behind item o (g c) snaps) (omega arith) in
      λ i. record { number = c; item = item; state = e i; snap = snap_for item snaps; outcome = o } ∷ more i

  -- and they leave the same snapshots, item by item
  pub snaps_agree : (items : List Item) (outcomes : List Outcome) (c : ℕ) (snaps : Snapshots) → c + length outcomes ≤ n + 1 →
      snaps_after f c snaps items outcomes ≡ snaps_after g c snaps items outcomes
  snaps_agree [] outcomes c snaps l = refl
  snaps_agree (item ∷ items) [] c snaps l = refl
  snaps_agree (item ∷ items) (o ∷ os) c snaps l =
      ap (λ (s : Workspace). snaps_after f (c + 1) (snaps_behind item o s snaps) items os) (agree c (omega arith))
      ∙ snaps_agree items os (c + 1) (snaps_behind item o (g c) snaps) (omega arith)

-- ---- one step more
module _ (f : ℕ → Workspace) where
  abbrev pub step_at : ℕ → Snapshots → Item → Outcome → Step
  step_at c snaps item o = record { number = c; item = item; state = f c; snap = snap_for item snaps; outcome = o }

  pub steps_none : (items : List Item) (c : ℕ) (snaps : Snapshots) → steps_from f c snaps items [] ≡ []
  steps_none [] c snaps = refl
  steps_none (item ∷ items) c snaps = refl

  pub snaps_none : (items : List Item) (c : ℕ) (snaps : Snapshots) → snaps_after f c snaps items [] ≡ snaps
  snaps_none [] c snaps = refl
  snaps_none (item ∷ items) c snaps = refl

  next : (c k : ℕ) → (c + 1) + k ≡ c + suc k
  next c k = omega arith

  -- the steps of one outcome more are the old ones and that of the next item, on the snapshots that they left: by
  -- induction on the outcomes
  pub steps_push : (items : List Item) (outcomes : List Outcome) (c : ℕ) (snaps : Snapshots) (item : Item) (o : Outcome) →
      slice_get items (length outcomes) ≡ Some item →
      steps_from f c snaps items (outcomes ++ o ∷ [])
      ≡ steps_from f c snaps items outcomes ++ step_at (c + length outcomes) (snaps_after f c snaps items outcomes) item o ∷ []
  steps_push [] outcomes c snaps item o h = absurd (no_item item h)
  steps_push (x ∷ xs) [] c snaps item o h =
      let e = same_item x item h in
      let none = steps_none xs (c + 1) (snaps_behind x o (f c) snaps) in
      λ i. step_at (sym (add-zero c) i) snaps (e i) o ∷ none i
  steps_push (x ∷ xs) (p ∷ ps) c snaps item o h =
      let later = snaps_behind x p (f c) snaps in
      ap (λ (l : List Step). step_at c snaps x p ∷ l)
      (steps_push xs ps (c + 1) later item o h
      ∙ ap (λ (m : ℕ). steps_from f (c + 1) later xs ps ++ step_at m (snaps_after f (c + 1) later xs ps) item o ∷ []) (next c (length ps)))

  -- and the snapshots are those that the next item leaves of the old ones, by the same induction
  pub snaps_push : (items : List Item) (outcomes : List Outcome) (c : ℕ) (snaps : Snapshots) (item : Item) (o : Outcome) →
      slice_get items (length outcomes) ≡ Some item →
      snaps_after f c snaps items (outcomes ++ o ∷ [])
      ≡ snaps_behind item o (f (c + length outcomes)) (snaps_after f c snaps items outcomes)
  snaps_push [] outcomes c snaps item o h = absurd (no_item item h)
  snaps_push (x ∷ xs) [] c snaps item o h =
      let e = same_item x item h in
      snaps_none xs (c + 1) (snaps_behind x o (f c) snaps) ∙ (λ i. snaps_behind (e i) o (f (sym (add-zero c) i)) snaps)
  snaps_push (x ∷ xs) (p ∷ ps) c snaps item o h =
      let later = snaps_behind x p (f c) snaps in
      snaps_push xs ps (c + 1) later item o h
      ∙ ap (λ (m : ℕ). snaps_behind item o (f m) (snaps_after f (c + 1) later xs ps)) (next c (length ps))

  -- the numbers of steps
  pub numbered : (n : ℕ) (items : List Item) (outcomes : List Outcome) (c : ℕ) (snaps : Snapshots) → c + length outcomes ≤ n + 1 →
      AllByRecursion (λ step. step.number ≤ n) (steps_from f c snaps items outcomes)
  numbered n [] outcomes c snaps l = tt
  numbered n (item ∷ items) [] c snaps l = tt
  numbered n (item ∷ items) (o ∷ os) c snaps l =
      (omega arith, numbered n items os (c + 1) (snaps_behind item o (f c) snaps) (omega arith))

-- an item that has a place has that place
pub few_more : (items : List Item) (k : ℕ) (item : Item) → slice_get items k ≡ Some item → k + 1 ≤ length items
few_more [] k item h = absurd (no_item item h)
few_more (x ∷ xs) zero item h = omega arith
few_more (x ∷ xs) (suc k) item h = let i = few_more xs k item h in omega arith

-- the item behind those that are done
pub item_next : (done : List Item) (item : Item) (rest : List Item) (items : List Item) (k : ℕ) → items ≡ done ++ item ∷ rest → length done ≡ k →
    slice_get items k ≡ Some item
item_next done item rest items k e l = (λ i. slice_get (e i) (sym l i)) ∙ here done
  where
    here : (done : List Item) → slice_get (done ++ item ∷ rest) (length done) ≡ Some item
    here [] = refl
    here (x ∷ xs) = here xs

-- ---- what is asked of steps
module _ (input : Input) (script : Script) where
  pub events_push : (s : ℕ) (steps : List Step) (step : Step) (log more : List Entry) (deeds : List Deed) →
      AreEvents input script s steps log → more ≡ entries s step.number deeds →
      HasDeeds (ending step.outcome) step.item (due_at input script step) deeds → AreEvents input script s (steps ++ step ∷ []) (log ++ more)
  events_push s [] step log more deeds h e d =
      (deeds, [], ap (λ (l : List Entry). l ++ more) h ∙ (e ∙ sym (append-nil (entries s step.number deeds))), d, refl)
  events_push s (x ∷ xs) step log more deeds h e d = (
    h.0,
    h.1 ++ more,
    ap (λ (l : List Entry). l ++ more) h.2 ∙ append_assoc (entries s x.number h.0) h.1 more,
    h.3,
    events_push s xs step h.1 more deeds h.4 e d,
  )

  -- the cost of steps is a sum, so one step more adds its own
  pub cost_push : (leaf : ℕ) (steps : List Step) (step : Step) →
      cost_of_steps leaf input script (steps ++ step ∷ []) ≡ cost_of_steps leaf input script steps + cost_of_step leaf input script step
  cost_push leaf [] step = ends (cost_of_step leaf input script step)
    where
      ends : (n : ℕ) → n + 0 ≡ 0 + n
      ends n = omega arith
  cost_push leaf (x ∷ xs) step =
      sums (cost_of_step leaf input script x) (cost_of_steps leaf input script (xs ++ step ∷ [])) (cost_of_steps leaf input script xs)
      (cost_of_step leaf input script step) (cost_push leaf xs step)
    where
      sums : (a b c d : ℕ) → b ≡ c + d → a + b ≡ (a + c) + d
      sums a b c d e = omega arith

  pub replies_push : (s : ℕ) (steps : List Step) (step : Step) →
      replies input script s (steps ++ step ∷ [])
      ≡ replies input script s steps ++ reply s step.number step.item (due_at input script step) step.outcome
  unfolding replies
  replies_push s steps step =
      flat_map-append (λ (x : Step). reply s x.number x.item (due_at input script x) x.outcome) steps (step ∷ [])
      ∙ ap (λ (l : List ℕ). flat_map (λ (x : Step). reply s x.number x.item (due_at input script x) x.outcome) steps ++ l)
      (append-nil (reply s step.number step.item (due_at input script step) step.outcome))

  pub saves_push : (steps : List Step) (step : Step) →
      saves_of input script (steps ++ step ∷ [])
      ≡ saves_of input script steps ++ save_at (ending step.outcome) step.item (due_at input script step)
  unfolding saves_of
  saves_push steps step =
      flat_map-append (λ (x : Step). save_at (ending x.outcome) x.item (due_at input script x)) steps (step ∷ [])
      ∙ ap (λ (l : List SavedFile). flat_map (λ (x : Step). save_at (ending x.outcome) x.item (due_at input script x)) steps ++ l)
      (append-nil (save_at (ending step.outcome) step.item (due_at input script step)))
