-- What the program promises of atomic blocks: a block reads and assigns as if in one moment, or it is refused.
use Rattle.std.specs.Prelude.{
  ◌≡◌,
  ◌≢◌,
  ◌≤◌,
  ◌⊎◌,
  ◌-◌,
  ℕ,
  false,
  true,
  List,
  [],
  ◌∷◌,
  ◌++◌,
  map,
  Option,
  Some,
  None,
  slice_get,
}
use Rattle.std.specs.List.{list_any, AllByRecursion}
use Rattle.rel_model.specs.declared.Rel.{Rel}
use Rattle.rel_model.specs.Roots.{relation_in}
use Rattle.lang_model.specs.declared.syntax.Item.{Item}
use Rattle.lang_model.specs.declared.syntax.Let.{Let as BlockLet}
use Rattle.lang_model.specs.declared.syntax.Script.{Script}
use Rattle.run_model.specs.declared.event.Event.{Event}
use Rattle.run_model.specs.declared.event.Act.TheVariants.{Read, Assign}
use Rattle.run_model.specs.declared.outcome.Outcome.{Outcome}
use Rattle.run_model.specs.declared.outcome.Outcome.TheVariants.{Done, Nodes, NoMemory, Changed}
use Rattle.run_model.specs.Inputs.{Input, Runs, item_at, batch_of}
use Rattle.run_model.specs.Due.{Gifts, Values, due_of_block}
use Rattle.run_model.specs.Events.{entry_of, entries, giving}
use Rattle.run_model.specs.Versions.{Change, version, first_changed}
use Rattle.run_model.specs.Blocks.{block_reads}
use Rattle.run_model.specs.Outcomes.{lets_of}
use Rattle.run_model.specs.Solo.{set_all}
use Rattle.run_model.specs.States.{is_of, events_before, before_second, state_after, state_for}
use Rattle.rv_io.specs.Outside.{Told}
use Rattle.rv_words.specs.Uses.{Word}
use Rattle.rv_ends.specs.Writing.{Sunk}
use Rattle.relview.specs.declared.report.Report.{Report}
use Rattle.relview.specs.Top.{HasRun, outcomes_of}
use Rattle.relview.specs.Tables.{nodes_of_batch}

-- command c of session s is an atomic block of these assignments, in this script, and this is its outcome
pub record IsBlock (input : Input) (outcomes : List (List Outcome)) (s c : ℕ) (script : Script) (lets : List BlockLet)
    (outcome : Outcome) : Type 0 where
  pub from_session : 1 ≤ s
  pub from_command : 1 ≤ c
  pub is_script : slice_get input.readings (s - 1) ≡ Some (Runs script)
  pub item : Item
  pub is_item : item_at script c ≡ Some item
  pub is_block : lets_of item ≡ Some lets
  pub own : List Outcome
  pub is_own : slice_get outcomes (s - 1) ≡ Some own
  pub came : slice_get own (c - 1) ≡ Some outcome

-- given the events before the second event of a block, which is command c of session s: the first of the names that it
-- reads whose version has changed since just before its read
abbrev pub change_before : List Event → List Event → ℕ → ℕ → List BlockLet → Option Change
change_before history before s c lets =
    first_changed (λ name. version name (events_before s c history)) (λ name. version name before) (block_reads lets)

-- these events make these assignments, in order: each gives its name a relation that stands in the words with the value
abbrev pub AssignInWords : List ℕ → List Event → Gifts → Type 0
AssignInWords words [] [] = Unit {0}
AssignInWords words (e ∷ es) (gift ∷ gifts) =
    ((rel : Rel) × (e.act ≡ Assign gift.0 rel) × (relation_in words rel ≡ Some gift.1)) × AssignInWords words es gifts
AssignInWords words [] (gift ∷ gifts) = ⊥
AssignInWords words (e ∷ es) [] = ⊥

-- The block is done as if in one moment. Between its read and its second event, no name that it reads has changed. From
-- the second event on come its assignments, with no other event between them, and the block has no event after these.
-- They give its names the values that are due of the block on the state there, and their relations stand in the words
-- with these values.
pub record IsDoneAtOnce (input : Input) (history : List Event) (words : List ℕ) (s c : ℕ) (script : Script)
    (lets : List BlockLet) : Type 0 where
  pub before : List Event
  pub is_before : before_second s c history ≡ Some before
  pub unchanged : change_before history before s c lets ≡ None
  pub gifts : Gifts
  pub due : due_of_block input script lets (state_after input before) ≡ Values gifts
  pub assigned : List Event
  pub behind : List Event
  pub together : history ≡ before ++ (assigned ++ behind)
  pub deeds : map entry_of assigned ≡ entries s c (giving gifts)
  pub no_more : list_any (is_of s c) behind ≡ false
  pub values : state_after input (before ++ assigned) ≡ set_all gifts (state_after input before)
  pub in_words : AssignInWords words assigned gifts

-- A name that the block reads was changed between its read and its second event, the commit. This is the first such
-- name, with its versions at both.
pub record IsChangedAt (history : List Event) (s c : ℕ) (lets : List BlockLet) (name : List ℕ)
    (seen found : ℕ) : Type 0 where
  pub before : List Event
  pub is_before : before_second s c history ≡ Some before
  pub change : change_before history before s c lets ≡ Some (record { name = name; seen = seen; found = found })

-- a block that was due to be done is done if no name that it reads was changed before its commit; otherwise it is
-- refused with the first such name and both its versions
pub record CommitsByVersions (history : List Event) (s c : ℕ) (lets : List BlockLet) (outcome : Outcome) : Type 0 where
  pub before : List Event
  pub is_before : before_second s c history ≡ Some before
  pub commits : ((outcome ≡ Done) × (change_before history before s c lets ≡ None))
      ⊎ ((change : Change) × (outcome ≡ Changed change.name change.seen change.found)
      × (change_before history before s c lets ≡ Some change))

-- all events of command c of session s are reads
abbrev pub OnlyReads : List Event → ℕ → ℕ → Type 0
OnlyReads history s c = AllByRecursion (λ e. is_of s c e ≡ true → e.act ≡ Read) history

-- What is promised of a block and its outcome.
pub record IsAtomic (input : Input) (history : List Event) (words : List ℕ) (s c : ℕ) (script : Script)
    (lets : List BlockLet) (outcome : Outcome) : Type 0 where
  -- if it is done, it read and assigned as if in one moment
  pub done : outcome ≡ Done → IsDoneAtOnce input history words s c script lets
  -- if it reports a changed name, that is the first one
  pub changed : (name : List ℕ) (seen found : ℕ) → outcome ≡ Changed name seen found
      → IsChangedAt history s c lets name seen found
  -- if neither nodes nor memory ran out, and it was due to be done on the state that it read, the versions decide
  pub decided : outcome ≢ Nodes → outcome ≢ NoMemory → (gifts : Gifts)
      → due_of_block input script lets (state_for input history s c) ≡ Values gifts
      → CommitsByVersions history s c lets outcome
  -- if it is refused, it assigns nothing
  pub refused : outcome ≢ Done → OnlyReads history s c

-- every atomic block of a script that ran; its relations stand in the words of its batch
abbrev pub BlocksAreAtomic : Type 0
BlocksAreAtomic =
    (words : List Word) (shelf_old shelf_new : Told) (old new : Sunk) (report : Report)
    (ran : HasRun words shelf_old shelf_new old new report) (s c : ℕ) (script : Script) (lets : List BlockLet)
    (outcome : Outcome)
    → IsBlock ran.input (outcomes_of report) s c script lets outcome
    → IsAtomic ran.input report.history.items (nodes_of_batch ran.said.nodes report (batch_of ran.input.ends s)) s c
    script lets outcome
