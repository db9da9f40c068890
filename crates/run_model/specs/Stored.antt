-- What the words of the tables hold at the end of a run.
use Rattle.std.specs.Prelude.{◌≡◌, ◌≤◌, ◌+◌, ◌-◌, ℕ, List, [], ◌∷◌, length, map, take, drop, Option, Some, slice_get}
use Rattle.std.specs.List.{AllByRecursion}
use Rattle.run_model.specs.declared.event.Event.{Event}
use Rattle.run_model.specs.declared.event.Act.{Act}
use Rattle.run_model.specs.declared.event.Act.TheVariants.{Read, Assign, Remove}
use Rattle.run_model.specs.declared.outcome.Outcome.{Outcome}
use Rattle.run_model.specs.declared.outcome.Outcome.TheVariants.{Nodes}
use Rattle.rel_model.specs.Relation.{Relation}
use Rattle.rel_model.specs.Words.{IsFull, stored_count}
use Rattle.rel_model.specs.Equations.{IsSoundTable, node_words}
use Rattle.rel_model.specs.Trees.{bottom_height}
use Rattle.rel_model.specs.Roots.{relation_in, HasOneRootEach}
use Rattle.run_model.specs.Inputs.{Input, batch_of}
use Rattle.run_model.specs.Due.{Gifts, Workspace}
use Rattle.run_model.specs.States.{Replay, start, replay_act, replay, gifts_due, state_after}
use Rattle.run_model.specs.Cost.{cost_of_batch}
use Rattle.run_model.specs.Batches.{Batch, logs_of, AreAllBatches, SessionsRan}
use Rattle.run_model.specs.declared.batch.OldBatch.{OldBatch}
use Rattle.rel_model.specs.Uses.{uses_count}
use Rattle.run_model.specs.Sessions.{rel_of}
use Rattle.rel_model.specs.declared.Rel.{Rel}

-- what the next assignment of a command assigns
abbrev pub next_gift : (ℕ → ℕ → Workspace → Gifts) → Replay Relation → ℕ → ℕ → Option (List ℕ × Relation)
next_gift gifts p s c = slice_get (gifts s c (p.at_read s c)) (p.given s c)

-- the relation of an assignment stands in the words with the value that is assigned, and so with its type
abbrev pub IsStored : (ℕ → ℕ → Workspace → Gifts) → List ℕ → Replay Relation → ℕ → ℕ → Act → Type 0
IsStored gifts words p s c Read = Unit {0}
IsStored gifts words p s c (Assign name rel) =
    (gift : List ℕ × Relation) × (next_gift gifts p s c ≡ Some gift) × (relation_in words rel ≡ Some gift.1)
IsStored gifts words p s c (Remove name) = Unit {0}

-- so do the relations of all assignments among the events that follow
abbrev pub AreStored : (ℕ → ℕ → Workspace → Gifts) → List ℕ → Replay Relation → List Event → Type 0
AreStored gifts words p [] = Unit {0}
AreStored gifts words p (e ∷ es) =
    IsStored gifts words p e.session e.command e.act
    × AreStored gifts words (replay_act gifts e.session e.command e.act p) es

-- ---- the tables of a run
-- if an outcome says that the table was full, the words are full
abbrev pub FillsWhereFull : List ℕ → List Outcome → Type 0
FillsWhereFull words = AllByRecursion (λ o. o ≡ Nodes → IsFull words)

-- the same for the sessions of batch b, among those from number s on
abbrev pub FillsInBatch : List ℕ → ℕ → List ℕ → ℕ → List (List Outcome) → Type 0
FillsInBatch ends b words s [] = Unit {0}
FillsInBatch ends b words s (outcomes ∷ others) =
    (batch_of ends s ≡ b → FillsWhereFull words outcomes) × FillsInBatch ends b words (s + 1) others

-- the events from one place of a history up to another
abbrev pub events_between : ℕ → ℕ → List Event → List Event
events_between from upto history = take (upto - from) (drop from history)

-- the words of batch b, whose events lie between two places of the history, and which began with this many uses of
-- nodes that lived on
pub record HoldsBatch (bits : ℕ) (input : Input) (history : List Event) (outcomes : List (List Outcome))
    (b from upto uses : ℕ) (words : List ℕ) : Type 0 where
  -- its events are those between the two places
  pub forward : from ≤ upto
  pub within : upto ≤ length history
  pub events : AllByRecursion (λ e. batch_of input.ends e.session ≡ b) (events_between from upto history)
  -- they are sound
  pub sound : IsSoundTable bits words
  -- each relation that the batch assigned stands in them with its value
  pub stored : AreStored (gifts_due input) (node_words bits words)
      (replay (gifts_due input) start (take from history)) (events_between from upto history)
  -- two relations of one type have the same root if and only if their values are equal
  pub one_root : HasOneRootEach (node_words bits words)
  -- at most as many nodes are stored as were used before, plus what the commands of the batch may cost
  pub cost : stored_count (node_words bits words) ≤ uses + cost_of_batch bottom_height input history outcomes b
  -- if the table was full for a command of the batch, the words are full
  pub full : FillsInBatch input.ends b (node_words bits words) 1 outcomes

-- the relations of names stand in the words, with these values
abbrev pub LiveIn : List ℕ → List (List ℕ × Rel) → Workspace → Type 0
LiveIn words [] [] = Unit {0}
LiveIn words (entry ∷ entries) (value ∷ values) =
    (entry.0 ≡ value.0) × (relation_in words entry.1 ≡ Some value.1) × LiveIn words entries values
LiveIn words [] (value ∷ values) = ⊥
LiveIn words (entry ∷ entries) [] = ⊥

-- how many uses of nodes are reached from the relations of names
abbrev pub uses_of_live : List ℕ → List (List ℕ × Rel) → ℕ
uses_of_live words live = uses_count words (map (λ entry. entry.1) live)

-- batches from number b on, whose events begin at this place and which began with this many uses: the finished ones,
-- with what lived on from each, and the last one
abbrev pub HoldsFrom : ℕ → Input → List Event → List (List Outcome) → ℕ → ℕ → ℕ → List OldBatch → List ℕ
    → Type 0
HoldsFrom bits input history outcomes b from uses [] words =
    HoldsBatch bits input history outcomes b from (length history) uses words × (b + 1 ≡ length input.ends)
HoldsFrom bits input history outcomes b from uses (old ∷ olds) words =
    HoldsBatch bits input history outcomes b from old.upto uses old.words.items
    × LiveIn (node_words bits old.words.items) old.live.items (state_after input (take old.upto history))
    × HoldsFrom bits input history outcomes (b + 1) old.upto
    (uses_of_live (node_words bits old.words.items) old.live.items) olds words

-- the words of all batches of a run, each on a table of 2 ^ bits node words: those of the finished batches, and those
-- of the last one
abbrev pub HoldsRun : ℕ → Input → List Event → List (List Outcome) → List OldBatch → List ℕ → Type 0
HoldsRun bits input history outcomes olds words = HoldsFrom bits input history outcomes 0 0 0 olds words

-- a run that did not start has no event, no outcome and no words
pub record HoldsNothing (history : List Event) (outcomes : List (List Outcome)) (olds : List OldBatch)
    (words : List ℕ) : Type 0 where
  pub no_event : history ≡ []
  pub no_outcome : outcomes ≡ []
  pub no_batch : olds ≡ []
  pub no_words : words ≡ []

-- the relations of assignments stand in the words, with these values
abbrev pub AreInWords : List ℕ → (Rel → Relation) → List Event → Type 0
AreInWords words means =
    AllByRecursion (λ e. AllByRecursion (λ rel. relation_in words rel ≡ Some (means rel)) (rel_of e.act))

-- each batch has its words, in which the relations of its assignments stand with their values
abbrev pub AreAllInWords : List Batch → List (List ℕ) → Type 0
AreAllInWords [] [] = Unit {0}
AreAllInWords (b ∷ bs) (words ∷ more) = AreInWords words b.means b.log × AreAllInWords bs more
AreAllInWords [] (words ∷ more) = ⊥
AreAllInWords (b ∷ bs) [] = ⊥

-- the logs of batches follow one another in a history from this place on, and in the words of each batch the relations
-- of its assignments stand with what is due of them
abbrev pub StoredFrom : Input → List Event → ℕ → List Batch → List (List ℕ) → Type 0
StoredFrom input history from [] [] = Unit {0}
StoredFrom input history from (b ∷ bs) (words ∷ more) =
    (events_between from (from + length b.log) history ≡ b.log)
    × AreStored (gifts_due input) words (replay (gifts_due input) start (take from history))
    (events_between from (from + length b.log) history)
    × StoredFrom input history (from + length b.log) bs more
StoredFrom input history from [] (words ∷ more) = ⊥
StoredFrom input history from (b ∷ bs) [] = ⊥

-- if the sessions of all batches ran, and each assigned relation stands in the words of its batch with its value, the
-- words hold everything
abbrev pub DueIsStored : Type 0
DueIsStored =
    (input : Input) (batches : List Batch) (outcomes : List (List Outcome)) (words : List (List ℕ))
    → AreAllBatches input batches → SessionsRan input batches 1 input.readings outcomes
    → AreAllInWords batches words → StoredFrom input (logs_of batches) 0 batches words
