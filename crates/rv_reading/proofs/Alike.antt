-- Scripts, items and inputs of one tree decide the same; and texts have one reading, up to trees.
-- 1. What is read off a script, an item or an input goes by its tree, so it is one for two of one tree.
-- 2. A text spells one script, up to its tree (`one_script` of `rv_spell`), so it has a flaw in both readings or in none,
--    and the same one; and what is no script has no other reading.
use Rattle.std.proofs.Common.{◌≡◌, ◌≤◌, ◌+◌, ℕ, List, [], ◌∷◌, length, take, Some, None, refl, sym, ap, subst, ◌∙◌}
use Rattle.std.specs.List.{AllByRecursion}
use Rattle.std.proofs.lemmas.List.{length-map}
use Rattle.lang_model.specs.declared.syntax.Script.{Script}
use Rattle.lang_model.specs.Trees.{tree_of}
use Rattle.lang_model.specs.Checking.{flaw, first_fault}
use Rattle.rel_model.specs.Trees.{bottom_height}
use Rattle.rel_model.specs.Equations.{node_words}
use Rattle.rel_model.specs.Words.{stored_count}
use Rattle.run_model.specs.declared.event.Event.{Event}
use Rattle.run_model.specs.declared.outcome.Outcome.{Outcome}
use Rattle.run_model.specs.declared.batch.OldBatch.{OldBatch}
use Rattle.run_model.specs.Inputs.{Input, Reading, NoScript, Flawed, Runs, IsReading, Rise, batch_of}
use Rattle.run_model.specs.States.{start, replay, gifts_due, state_after}
use Rattle.run_model.specs.Legal.{BatchesInOrder, IsLegal}
use Rattle.run_model.specs.Page.{page, saves}
use Rattle.run_model.specs.Cost.{cost_of_run, cost_of_batch}
use Rattle.run_model.specs.Stored.{AreStored, FillsInBatch, events_between, HoldsBatch, LiveIn, uses_of_live, HoldsFrom}
use Rattle.rv_spell.specs.Plain.{script_tree, OneScript}
use Rattle.rv_reading.specs.Inputs.{NoScriptTree, FlawedTree, RunsTree, reading_tree, InputTree, input_tree, AreOneInput, ItemsGoByTrees, ScriptsGoByTrees, InputsGoByTrees, ReadAlike, TextsHaveOneReading, TextsAreOneInput, EveryReadingRuns}
use Rattle.rv_reading.proofs.Definitions.{faults_of_items, flaw-tree}
use Rattle.rv_reading.proofs.Values.{meaning_by, meaning-tree, type_by, type-by, value_by, value-tree, early_by, early-tree, values_by, values-tree}
use Rattle.rv_reading.proofs.Items.{due_tree, due-tree, cost_tree, cost-tree}
use Rattle.rv_reading.proofs.Runs.{gifts_by, gifts-by, state_behind, state-behind, page_by, page-by, saves_of_run, saves-run, run_cost, run-cost, cost_by_batch, cost-batch, LawfulRun, lawful-run, legal-run}

-- ---- scripts and items
one_flaw : (script other : Script) → script_tree script ≡ script_tree other → flaw script ≡ flaw other
one_flaw script other same =
    flaw-tree script ∙ (ap (λ items. first_fault (faults_of_items [] items)) same ∙ sym (flaw-tree other))

-- scripts of one tree have the same flaw, types and values: each of these is a function of the tree, here and there
pub scripts_go_by_trees : ScriptsGoByTrees
scripts_go_by_trees script other same = record {
  flaw = one_flaw script other same;
  type = λ types e f h.
      type-by script types (tree_of e) ∙ ((λ i. type_by (same i) types (h i)) ∙ sym (type-by other types (tree_of f)));
  meaning = λ state e f turns h.
      meaning-tree script state (tree_of e) turns
      ∙ ((λ i. meaning_by (same i) state (h i) turns) ∙ sym (meaning-tree other state (tree_of f) turns));
  value = λ state e f turns h.
      value-tree script state e turns
      ∙ ((λ i. value_by (same i) state (h i) turns) ∙ sym (value-tree other state f turns));
  early = λ state e f h. early-tree script state e ∙ ((λ i. early_by (same i) state (h i)) ∙ sym (early-tree other state f));
  block = λ state lets others turns h.
      values-tree script state lets turns
      ∙ ((λ i. values_by (same i) state (h i) turns) ∙ sym (values-tree other state others turns));
}

pub items_go_by_trees : ItemsGoByTrees
items_go_by_trees a b script other item twin state snap leaf d turns files same one = (
  due-tree a script item state snap
      ∙ ((λ i. due_tree (turns i) (files i) (same i) (one i) state snap) ∙ sym (due-tree b other twin state snap)),
  cost-tree a script leaf item state snap d
      ∙ ((λ i. cost_tree (turns i) (files i) (same i) leaf (one i) state snap d) ∙ sym (cost-tree b other leaf twin state snap d)),
)

-- ---- inputs
module _ (a b : Input) (same : input_tree a ≡ input_tree b) where
  same_gifts : gifts_due a ≡ gifts_due b
  same_gifts = gifts-by a ∙ (ap gifts_by same ∙ sym (gifts-by b))

  same_state : (events : List Event) → state_after a events ≡ state_after b events
  same_state events = state-behind a events ∙ (ap (λ T. state_behind T events) same ∙ sym (state-behind b events))

  same_ends : a.ends ≡ b.ends
  same_ends = ap (λ (T : InputTree). T.ends) same

  -- inputs of one tree have as many readings, since the tree has one for each
  same_count : length a.readings ≡ length b.readings
  same_count =
      sym (length-map a.readings reading_tree)
      ∙ (ap (λ (T : InputTree). length T.readings) same ∙ length-map b.readings reading_tree)

  module _ (history : List Event) (outcomes : List (List Outcome)) where
    same_page : page a history outcomes ≡ page b history outcomes
    same_page = page-by a history outcomes ∙ (ap (λ T. page_by T history outcomes) same ∙ sym (page-by b history outcomes))

    same_saves : saves a history outcomes ≡ saves b history outcomes
    same_saves =
        saves-run a history outcomes ∙ (ap (λ T. saves_of_run T history outcomes) same ∙ sym (saves-run b history outcomes))

    same_cost : (leaf : ℕ) → cost_of_run leaf a history outcomes ≡ cost_of_run leaf b history outcomes
    same_cost leaf =
        run-cost a history outcomes leaf
        ∙ (ap (λ T. run_cost leaf T history outcomes) same ∙ sym (run-cost b history outcomes leaf))

    same_batch_cost : (leaf batch : ℕ) → cost_of_batch leaf a history outcomes batch ≡ cost_of_batch leaf b history outcomes batch
    same_batch_cost leaf batch =
        cost-batch a history outcomes leaf batch
        ∙ (ap (λ T. cost_by_batch leaf T history outcomes batch) same ∙ sym (cost-batch b history outcomes leaf batch))

    same_legal : IsLegal a history outcomes → IsLegal b history outcomes
    same_legal h = record {
      numbers = subst (λ n. AllByRecursion (λ (e : Event). (1 ≤ e.session) × (e.session ≤ n)) history) same_count h.numbers;
      sessions = legal-run b history outcomes
          (subst (λ T. LawfulRun T history outcomes) same (lawful-run a history outcomes h.sessions));
      together = h.together;
      batches = subst (λ ends. BatchesInOrder ends history) same_ends h.batches;
    }

    -- the words of one batch
    same_batch : (bits batch from upto uses : ℕ) (words : List ℕ) → HoldsBatch bits a history outcomes batch from upto uses words
        → HoldsBatch bits b history outcomes batch from upto uses words
    same_batch bits batch from upto uses words h = record {
      forward = h.forward;
      within = h.within;
      events = subst (λ ends. AllByRecursion (λ (e : Event). batch_of ends e.session ≡ batch) (events_between from upto history)) same_ends h.events;
      sound = h.sound;
      stored = subst (λ g. AreStored g (node_words bits words) (replay g start (take from history)) (events_between from upto history)) same_gifts h.stored;
      one_root = h.one_root;
      cost = subst (λ n. stored_count (node_words bits words) ≤ uses + n) (same_batch_cost bottom_height batch) h.cost;
      full = subst (λ ends. FillsInBatch ends batch (node_words bits words) 1 outcomes) same_ends h.full;
    }

    -- those of all batches
    same_holds : (bits batch from uses : ℕ) (olds : List OldBatch) (words : List ℕ)
        → HoldsFrom bits a history outcomes batch from uses olds words → HoldsFrom bits b history outcomes batch from uses olds words
    same_holds bits batch from uses [] words h = (
      same_batch bits batch from (length history) uses words h.0,
      h.1 ∙ ap length same_ends,
    )
    same_holds bits batch from uses (old ∷ olds) words h = (
      same_batch bits batch from old.upto uses old.words.items h.0,
      subst (LiveIn (node_words bits old.words.items) old.live.items) (same_state (take old.upto history)) h.1,
      same_holds bits (batch + 1) old.upto (uses_of_live (node_words bits old.words.items) old.live.items) olds words h.2,
    )

  one_input : AreOneInput a b
  one_input = record {
    legal = same_legal;
    holds = λ bits history outcomes olds words h. same_holds history outcomes bits 0 0 0 olds words h;
    page = same_page;
    saves = same_saves;
    cost = λ leaf history outcomes. same_cost history outcomes leaf;
    cost_of_batches = λ leaf history outcomes batch. same_batch_cost history outcomes leaf batch;
    workspace = same_state;
  }

pub inputs_go_by_trees : InputsGoByTrees
inputs_go_by_trees a b same = one_input a b same

-- ---- readings
one_some : {X : Type 0} {x y : X} → Some x ≡ Some y → x ≡ y
one_some e = cc

some_none : {X : Type 0} {x : X} → Some x ≡ None → ⊥
some_none {X} {x} e = let z : Some x ≡ None = e in cc

module _ (one : OneScript) where
  -- two readings of one text have one tree: either both are no script, with the one fault of its syntax, or both go by
  -- its one script, which has a flaw or none
  one_reading : (bytes : List ℕ) (reading other : Reading) → IsReading bytes reading → IsReading bytes other
      → reading_tree reading ≡ reading_tree other
  one_reading bytes (NoScript fault) (NoScript again) h k = ap NoScriptTree (one_some (sym h.1 ∙ k.1))
  one_reading bytes (NoScript fault) (Flawed again) h k = absurd (h.0 k.0 k.1)
  one_reading bytes (NoScript fault) (Runs other) h k = absurd (h.0 other k.0)
  one_reading bytes (Flawed fault) (NoScript again) h k = absurd (k.0 h.0 h.1)
  one_reading bytes (Flawed fault) (Flawed again) h k =
      ap FlawedTree (one_some (sym h.2 ∙ (one_flaw h.0 k.0 (one bytes h.0 k.0 h.1 k.1) ∙ k.2)))
  one_reading bytes (Flawed fault) (Runs other) h k =
      absurd (some_none (sym h.2 ∙ (one_flaw h.0 other (one bytes h.0 other h.1 k.0) ∙ k.1)))
  one_reading bytes (Runs script) (NoScript again) h k = absurd (k.0 script h.0)
  one_reading bytes (Runs script) (Flawed again) h k =
      absurd (some_none (sym k.2 ∙ (one_flaw k.0 script (one bytes k.0 script k.1 h.0) ∙ h.1)))
  one_reading bytes (Runs script) (Runs other) h k = ap RunsTree (one bytes script other h.0 k.0)

  pub texts_have_one_reading : TextsHaveOneReading
  texts_have_one_reading [] [] [] h k = refl
  texts_have_one_reading (bytes ∷ scripts) (r ∷ rs) (o ∷ os) h k = λ i.
      one_reading bytes r o h.0 k.0 i ∷ texts_have_one_reading scripts rs os h.1 k.1 i
  texts_have_one_reading [] (r ∷ rs) os h k = absurd h
  texts_have_one_reading [] [] (o ∷ os) h k = absurd k
  texts_have_one_reading (bytes ∷ scripts) [] os h k = absurd h
  texts_have_one_reading (bytes ∷ scripts) (r ∷ rs) [] h k = absurd k

  one_tree : (scripts : List (List ℕ)) (a b : Input) → ReadAlike scripts a b → input_tree a ≡ input_tree b
  one_tree scripts a b h = λ i. record {
    readings = texts_have_one_reading scripts a.readings b.readings h.first h.second i;
    files = h.files i;
    turns = h.turns i;
    history = h.history i;
    ends = h.ends i;
  }

  pub texts_are_one_input : TextsAreOneInput
  texts_are_one_input scripts a b h = inputs_go_by_trees a b (one_tree scripts a b h)

  pub every_reading_runs : EveryReadingRuns
  every_reading_runs scripts a b history outcomes shown put h run =
      let one = texts_are_one_input scripts a b h in record {
        read = h.second;
        batches = subst (λ n. Rise 0 n b.ends) (same_count a b (one_tree scripts a b h))
            (subst (Rise 0 (length a.readings)) h.ends run.batches);
        legal = one.legal history outcomes run.legal;
        page_shown = run.page_shown ∙ one.page history outcomes;
        files_put = run.files_put ∙ one.saves history outcomes;
      }
