-- The steps of a session, by the trees of the script's items: what they see, their events, outcomes, replies, saves and
-- costs.
use Rattle.std.proofs.Common.{◌≡◌, ◌⊎◌, ◌+◌, ◌++◌, ℕ, true, List, [], ◌∷◌, map, Option, Some, None, refl, ap, ◌∙◌}
use Rattle.std.specs.Prelude.{IsSome, is_some, option_map, option_and_then}
use Rattle.std.specs.List.{AllByRecursion, flat_map}
use Rattle.lang_model.specs.declared.syntax.Item.{Item}
use Rattle.lang_model.specs.declared.syntax.Let.{Let as BlockLet}
use Rattle.lang_model.specs.declared.syntax.Script.{Script}
use Rattle.run_model.specs.declared.outcome.Outcome.{Outcome}
use Rattle.run_model.specs.declared.outcome.Outcome.TheVariants.{Done, Nodes, NoMemory}
use Rattle.run_model.specs.Names.{no_names, lookup}
use Rattle.run_model.specs.Inputs.{Input, RelationFile}
use Rattle.run_model.specs.Due.{Workspace, Due, Nothing, Value, Values, Bytes, Explained, Refused, outcome_due}
use Rattle.run_model.specs.Versions.{Change}
use Rattle.run_model.specs.Steps.{Ending, Succeeds, Fails, Changes, LacksMemory, ending, Snapshots, keep, kept_at, snaps_behind, snap_for, Step, due_at, steps_from, steps}
use Rattle.run_model.specs.Events.{Deed, Entry, entries, giving, Begins, HasDeeds, AreEvents}
use Rattle.run_model.specs.Outcomes.{IsOutcome, IsChanged, MayBeChanged, AreOutcomes, lets_of}
use Rattle.run_model.specs.Legal.{IsCommit, CommitsItem, CommitsFrom}
use Rattle.run_model.specs.Texts.{prefix, refusal_text}
use Rattle.run_model.specs.Page.{SavedFile, explanation, done_text, reply_at, reply, replies, done_save, save_at, saves_of}
use Rattle.run_model.specs.Cost.{cost_of_step, cost_of_steps}
use Rattle.rv_spell.specs.Plain.{LetTreeOf, let_tree, ItemTree, item_tree, script_tree}
use Rattle.rv_reading.proofs.Values.{reads_of_lets, reads-lets}
use Rattle.rv_reading.proofs.Items.{lets_of_tree, lets-tree, LacksNodes, lacks-nodes, LacksRoom, lacks-room, due_tree, due-tree, cost_tree, cost-tree}
use Rattle.rv_reading.proofs.Sights.{Sight, sight_of, sight-tree}

-- ---- lists
all-map : {X Y : Type 0} (f : X → Y) (P : X → Type 0) (Q : Y → Type 0) → ((x : X) → P x ≡ Q (f x)) → (xs : List X)
    → AllByRecursion P xs ≡ AllByRecursion Q (map f xs)
all-map f P Q h [] = refl
all-map f P Q h (x ∷ xs) = λ i. h x i × all-map f P Q h xs i

flat-map : {X Y Z : Type 0} (f : X → Y) (p : X → List Z) (q : Y → List Z) → ((x : X) → p x ≡ q (f x)) → (xs : List X)
    → flat_map p xs ≡ flat_map q (map f xs)
flat-map f p q h [] = refl
flat-map f p q h (x ∷ xs) = λ i. h x i ++ flat-map f p q h xs i

-- ---- steps
-- a step with its item's tree
pub record Seen : Type 0 where
  pub number : ℕ
  pub item : ItemTree
  pub state : Workspace
  pub snap : Option Workspace
  -- what its item came to
  pub outcome : Outcome

abbrev pub seen : Step → Seen
seen step = record {
  number = step.number;
  item = item_tree step.item;
  state = step.state;
  snap = step.snap;
  outcome = step.outcome;
}

-- the snapshots behind an item that ended so
abbrev pub kept_by : Ending → ItemTree → Workspace → Snapshots → Snapshots
kept_by Succeeds item state snaps = keep (sight_of item).snapped state snaps
kept_by Fails item state snaps = snaps
kept_by Changes item state snaps = snaps
kept_by LacksMemory item state snaps = snaps

kept-by : (end : Ending) (item : Item) (state : Workspace) (snaps : Snapshots) → kept_at end item state snaps ≡ kept_by end (item_tree item) state snaps
kept-by Succeeds item state snaps = ap (λ (s : Sight). keep s.snapped state snaps) (sight-tree item)
kept-by Fails item state snaps = refl
kept-by Changes item state snaps = refl
kept-by LacksMemory item state snaps = refl

-- the snapshot that an item asks
abbrev pub snap_by : ItemTree → Snapshots → Option Workspace
snap_by item snaps = option_and_then (lookup snaps) (sight_of item).asked

snap-by : (item : Item) (snaps : Snapshots) → snap_for item snaps ≡ snap_by (item_tree item) snaps
snap-by item snaps = ap (λ (s : Sight). option_and_then (lookup snaps) s.asked) (sight-tree item)

-- the steps of items
abbrev pub steps_by : (ℕ → Workspace) → ℕ → Snapshots → List ItemTree → List Outcome → List Seen
steps_by state_of c snaps [] outcomes = []
steps_by state_of c snaps (item ∷ items) [] = []
steps_by state_of c snaps (item ∷ items) (outcome ∷ outcomes) =
    record { number = c; item = item; state = state_of c; snap = snap_by item snaps; outcome = outcome }
    ∷ steps_by state_of (c + 1) (kept_by (ending outcome) item (state_of c) snaps) items outcomes

steps-by : (state_of : ℕ → Workspace) (c : ℕ) (snaps : Snapshots) (items : List Item) (outcomes : List Outcome)
    → map seen (steps_from state_of c snaps items outcomes) ≡ steps_by state_of c snaps (map item_tree items) outcomes
steps-by state_of c snaps [] outcomes = refl
steps-by state_of c snaps (item ∷ items) [] = refl
steps-by state_of c snaps (item ∷ items) (outcome ∷ outcomes) = λ i.
    record { number = c; item = item_tree item; state = state_of c; snap = snap-by item snaps i; outcome = outcome }
    ∷ (steps-by state_of (c + 1) (snaps_behind item outcome (state_of c) snaps) items outcomes
    ∙ ap (λ s. steps_by state_of (c + 1) s (map item_tree items) outcomes) (kept-by (ending outcome) item (state_of c) snaps)) i

-- the steps of a script are those of its tree: they begin at command 1, without snapshots
pub script-steps : (state_of : ℕ → Workspace) (script : Script) (outcomes : List Outcome)
    → map seen (steps state_of script outcomes) ≡ steps_by state_of 1 no_names (script_tree script) outcomes
unfolding steps
script-steps state_of script outcomes = steps-by state_of 1 no_names script.items.items outcomes

-- ---- commits
-- the commit of a block with these assignments, and none of another item
abbrev pub CommitsBy : (List (List ℕ) → Option Change) → Option (List LetTreeOf) → Outcome → Type 0
CommitsBy change None outcome = Unit {0}
CommitsBy change (Some lets) outcome = IsCommit outcome (change (reads_of_lets lets))

-- the commits of items from number c on
abbrev pub CommitsAlong : (ℕ → List (List ℕ) → Option Change) → ℕ → List ItemTree → List Outcome → Type 0
CommitsAlong change c [] outcomes = Unit {0}
CommitsAlong change c (item ∷ items) [] = Unit {0}
CommitsAlong change c (item ∷ items) (outcome ∷ outcomes) =
    CommitsBy (change c) (lets_of_tree item) outcome × CommitsAlong change (c + 1) items outcomes

commits-by : (change : List (List ℕ) → Option Change) (o : Option (List BlockLet)) (outcome : Outcome)
    → CommitsItem change o outcome ≡ CommitsBy change (option_map (λ ls. map let_tree ls) o) outcome
commits-by change None outcome = refl
commits-by change (Some lets) outcome = ap (λ names. IsCommit outcome (change names)) (reads-lets lets)

-- the commits of items are those of their trees, item by item: a block's goes by the names that its tree reads
pub commits-along : (change : ℕ → List (List ℕ) → Option Change) (c : ℕ) (items : List Item) (outcomes : List Outcome)
    → CommitsFrom change c items outcomes ≡ CommitsAlong change c (map item_tree items) outcomes
commits-along change c [] outcomes = refl
commits-along change c (item ∷ items) [] = refl
commits-along change c (item ∷ items) (outcome ∷ outcomes) = λ i.
    (commits-by (change c) (lets_of item) outcome ∙ ap (λ o. CommitsBy (change c) o outcome) (lets-tree item)) i
    × commits-along change (c + 1) items outcomes i

-- ---- events
-- the deeds of an item that ended so
abbrev pub DeedsBy : Ending → ItemTree → Due → List Deed → Type 0
DeedsBy Succeeds item d deeds = deeds ≡ (sight_of item).first ++ giving ((sight_of item).gives d)
DeedsBy Fails item d deeds = deeds ≡ (sight_of item).reads
DeedsBy Changes item d deeds = deeds ≡ (sight_of item).all_reads
DeedsBy LacksMemory item d deeds = Begins deeds (sight_of item).all_reads

deeds-by : (end : Ending) (item : Item) (d : Due) (deeds : List Deed) → HasDeeds end item d deeds ≡ DeedsBy end (item_tree item) d deeds
deeds-by Succeeds item d deeds = ap (λ (s : Sight). deeds ≡ s.first ++ giving (s.gives d)) (sight-tree item)
deeds-by Fails item d deeds = ap (λ (s : Sight). deeds ≡ s.reads) (sight-tree item)
deeds-by Changes item d deeds = ap (λ (s : Sight). deeds ≡ s.all_reads) (sight-tree item)
deeds-by LacksMemory item d deeds = ap (λ (s : Sight). Begins deeds s.all_reads) (sight-tree item)

-- ---- outcomes
some-map : {X Y : Type 0} (f : X → Y) (o : Option X) → is_some o ≡ is_some (option_map f o)
some-map f None = refl
some-map f (Some x) = refl

-- a block may be refused at its commit
abbrev pub ChangesBy : ItemTree → Due → Type 0
ChangesBy item d = IsSome (lets_of_tree item) × (outcome_due d ≡ Done)

changes-by : (item : Item) (d : Due) → MayBeChanged item d ≡ ChangesBy (item_tree item) d
changes-by item d = λ i.
    ((some-map (λ ls. map let_tree ls) (lets_of item) ∙ ap is_some (lets-tree item)) i ≡ true) × (outcome_due d ≡ Done)

-- an outcome is lawful of an item of which this is due
abbrev pub OutcomeBy : ItemTree → Due → Outcome → Type 0
OutcomeBy item d outcome =
    (outcome ≡ outcome_due d)
    ⊎ (((outcome ≡ Nodes) × LacksNodes item d) ⊎ (((outcome ≡ NoMemory) × LacksRoom item)
    ⊎ (IsChanged outcome × ChangesBy item d)))

-- an outcome is lawful of an item exactly if it is of its tree: it is due, or nodes or memory were wanting, or a block
-- was refused at its commit, and all of these go by the tree
outcome-by : (item : Item) (d : Due) (outcome : Outcome) → IsOutcome item d outcome ≡ OutcomeBy (item_tree item) d outcome
outcome-by item d outcome = λ i.
    (outcome ≡ outcome_due d)
    ⊎ (((outcome ≡ Nodes) × lacks-nodes item d i) ⊎ (((outcome ≡ NoMemory) × lacks-room item i)
    ⊎ (IsChanged outcome × changes-by item d i)))

-- ---- replies
-- the reply to an item that is done
abbrev pub done_by : List ℕ → ItemTree → Due → List ℕ
done_by numbers item Nothing = []
done_by numbers item (Value r) = (sight_of item).shown numbers r
done_by numbers item (Values gifts) = []
done_by numbers item (Bytes bytes) = []
done_by numbers item (Explained steps) = numbers ++ explanation steps
done_by numbers item (Refused when outcome) = []

-- the reply to an item that is done is that to its tree: only a value is shown by what the item is
done-by : (numbers : List ℕ) (item : Item) (d : Due) → done_text numbers item d ≡ done_by numbers (item_tree item) d
done-by numbers item Nothing = refl
done-by numbers item (Value r) = ap (λ (s : Sight). s.shown numbers r) (sight-tree item)
done-by numbers item (Values gifts) = refl
done-by numbers item (Bytes bytes) = refl
done-by numbers item (Explained steps) = refl
done-by numbers item (Refused when outcome) = refl

-- the reply to an item that ended so
abbrev pub reply_by : Ending → List ℕ → ItemTree → Due → Outcome → List ℕ
reply_by Succeeds numbers item d outcome = done_by numbers item d
reply_by Fails numbers item d outcome = numbers ++ refusal_text outcome
reply_by Changes numbers item d outcome = numbers ++ refusal_text outcome
reply_by LacksMemory numbers item d outcome = numbers ++ refusal_text outcome

-- so is the reply to an item that ended in whatever way: a refusal is told by its outcome alone
reply-by : (end : Ending) (numbers : List ℕ) (item : Item) (d : Due) (outcome : Outcome)
    → reply_at end numbers item d outcome ≡ reply_by end numbers (item_tree item) d outcome
reply-by Succeeds numbers item d outcome = done-by numbers item d
reply-by Fails numbers item d outcome = refl
reply-by Changes numbers item d outcome = refl
reply-by LacksMemory numbers item d outcome = refl

-- ---- saves
-- the file of an item that is done
abbrev pub done_saves : ItemTree → Due → List SavedFile
done_saves item Nothing = []
done_saves item (Value r) = (sight_of item).saved r
done_saves item (Values gifts) = []
done_saves item (Bytes bytes) = (sight_of item).written bytes
done_saves item (Explained steps) = []
done_saves item (Refused when outcome) = []

-- the file that an item saves is that of its tree: a value's and a workspace's bytes go to the file that is named there
done-saves : (item : Item) (d : Due) → done_save item d ≡ done_saves (item_tree item) d
done-saves item Nothing = refl
done-saves item (Value r) = ap (λ (s : Sight). s.saved r) (sight-tree item)
done-saves item (Values gifts) = refl
done-saves item (Bytes bytes) = ap (λ (s : Sight). s.written bytes) (sight-tree item)
done-saves item (Explained steps) = refl
done-saves item (Refused when outcome) = refl

-- the file of an item that ended so
abbrev pub saves_by : Ending → ItemTree → Due → List SavedFile
saves_by Succeeds item d = done_saves item d
saves_by Fails item d = []
saves_by Changes item d = []
saves_by LacksMemory item d = []

-- so is the file of an item that ended in whatever way: one that is not done saves none
saves-by : (end : Ending) (item : Item) (d : Due) → save_at end item d ≡ saves_by end (item_tree item) d
saves-by Succeeds item d = done-saves item d
saves-by Fails item d = refl
saves-by Changes item d = refl
saves-by LacksMemory item d = refl

-- ---- all steps
module _ (turns : ℕ) (files : List RelationFile) (items : List ItemTree) where
  -- what is due of a step
  abbrev pub due_seen : Seen → Due
  due_seen x = due_tree turns files items x.item x.state x.snap

  -- the entries are those of the steps
  abbrev pub EventsBy : ℕ → List Seen → List Entry → Type 0
  EventsBy s [] log = log ≡ []
  EventsBy s (x ∷ xs) log =
      (deeds : List Deed) × (rest : List Entry) × (log ≡ entries s x.number deeds ++ rest)
      × DeedsBy (ending x.outcome) x.item (due_seen x) deeds
      × EventsBy s xs rest

  -- each outcome is lawful
  abbrev pub OutcomesBy : List Seen → Type 0
  OutcomesBy xs = AllByRecursion (λ x. OutcomeBy x.item (due_seen x) x.outcome) xs

  -- the replies
  abbrev pub replies_by : ℕ → List Seen → List ℕ
  replies_by s xs = flat_map (λ x. reply_by (ending x.outcome) (prefix s x.number) x.item (due_seen x) x.outcome) xs

  -- the files
  abbrev pub files_by : List Seen → List SavedFile
  files_by xs = flat_map (λ x. saves_by (ending x.outcome) x.item (due_seen x)) xs

  -- the costs
  abbrev pub costs_by : ℕ → List Seen → ℕ
  costs_by leaf [] = 0
  costs_by leaf (x ∷ xs) = cost_tree turns files items leaf x.item x.state x.snap (due_seen x) + costs_by leaf xs

module _ (input : Input) (script : Script) where
  due-seen : (x : Step) → due_at input script x ≡ due_seen input.turns input.files (script_tree script) (seen x)
  due-seen x = due-tree input script x.item x.state x.snap

  pub events-by : (s : ℕ) (xs : List Step) (log : List Entry)
      → AreEvents input script s xs log ≡ EventsBy input.turns input.files (script_tree script) s (map seen xs) log
  events-by s [] log = refl
  events-by s (x ∷ xs) log = λ i.
      (deeds : List Deed) × (rest : List Entry) × (log ≡ entries s x.number deeds ++ rest)
      × (deeds-by (ending x.outcome) x.item (due_at input script x) deeds
      ∙ ap (λ d. DeedsBy (ending x.outcome) (item_tree x.item) d deeds) (due-seen x)) i
      × events-by s xs rest i

  pub outcomes-by : (xs : List Step) → AreOutcomes input script xs ≡ OutcomesBy input.turns input.files (script_tree script) (map seen xs)
  outcomes-by xs = all-map seen _ _ (λ x.
      outcome-by x.item (due_at input script x) x.outcome
      ∙ ap (λ d. OutcomeBy (item_tree x.item) d x.outcome) (due-seen x)) xs

  pub replies-by : (s : ℕ) (xs : List Step) → replies input script s xs ≡ replies_by input.turns input.files (script_tree script) s (map seen xs)
  unfolding replies reply
  replies-by s xs = flat-map seen _ _ (λ x.
      reply-by (ending x.outcome) (prefix s x.number) x.item (due_at input script x) x.outcome
      ∙ ap (λ d. reply_by (ending x.outcome) (prefix s x.number) (item_tree x.item) d x.outcome) (due-seen x)) xs

  pub files-by : (xs : List Step) → saves_of input script xs ≡ files_by input.turns input.files (script_tree script) (map seen xs)
  unfolding saves_of
  files-by xs = flat-map seen _ _ (λ x.
      saves-by (ending x.outcome) x.item (due_at input script x)
      ∙ ap (saves_by (ending x.outcome) (item_tree x.item)) (due-seen x)) xs

  step-cost : (leaf : ℕ) (x : Step) → cost_of_step leaf input script x
      ≡ cost_tree input.turns input.files (script_tree script) leaf (item_tree x.item) x.state x.snap (due_seen input.turns input.files (script_tree script) (seen x))
  unfolding cost_of_step
  step-cost leaf x =
      cost-tree input script leaf x.item x.state x.snap (due_at input script x)
      ∙ ap (cost_tree input.turns input.files (script_tree script) leaf (item_tree x.item) x.state x.snap) (due-seen x)

  pub costs-by : (leaf : ℕ) (xs : List Step) → cost_of_steps leaf input script xs ≡ costs_by input.turns input.files (script_tree script) leaf (map seen xs)
  costs-by leaf [] = refl
  costs-by leaf (x ∷ xs) = λ i. step-cost leaf x i + costs-by leaf xs i
