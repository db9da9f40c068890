-- The tree of an input is all of it except where in memory the vectors and boxes of its scripts are. A run depends on
-- the tree alone, so any reading of the texts will do.
use Rattle.std.specs.Prelude.{◌≡◌, ℕ, Bool, List, map, Option}
use Rattle.lang_model.specs.declared.syntax.Expr.{Expr}
use Rattle.lang_model.specs.declared.syntax.Let.{Let}
use Rattle.lang_model.specs.declared.syntax.Item.{Item}
use Rattle.lang_model.specs.declared.syntax.Script.{Script}
use Rattle.lang_model.specs.declared.faults.ParseFault.{ParseFault}
use Rattle.lang_model.specs.declared.faults.TypeFault.{TypeFault}
use Rattle.lang_model.specs.Checking.{flaw}
use Rattle.lang_model.specs.State.{State}
use Rattle.lang_model.specs.Trees.{tree_of}
use Rattle.lang_model.specs.Shape.{Types, static_type}
use Rattle.lang_model.specs.Mean.{meaning}
use Rattle.lang_model.specs.Eval.{evaluated, early_fault}
use Rattle.lang_model.specs.Blocks.{evaluated_block}
use Rattle.run_model.specs.declared.event.Event.{Event}
use Rattle.run_model.specs.declared.outcome.Outcome.{Outcome}
use Rattle.run_model.specs.declared.batch.OldBatch.{OldBatch}
use Rattle.run_model.specs.Inputs.{Input, RelationFile, Reading, NoScript, Flawed, Runs, AreReadings}
use Rattle.run_model.specs.Due.{Workspace, Due, due}
use Rattle.run_model.specs.States.{state_after}
use Rattle.run_model.specs.Legal.{IsLegal}
use Rattle.run_model.specs.Page.{SavedFile, page, saves}
use Rattle.run_model.specs.Cost.{cost_of_item, cost_of_run, cost_of_batch}
use Rattle.run_model.specs.Stored.{HoldsRun}
use Rattle.run_model.specs.Run.{IsRun}
use Rattle.rv_spell.specs.Plain.{ItemTree, let_tree, item_tree, script_tree}

-- ---- trees
-- the tree of a reading: a fault and no script, a script with a flaw, or the items of a script that runs
pub data ReadingTree : Type 0 where
  NoScriptTree : ParseFault → ReadingTree
  FlawedTree : TypeFault → ReadingTree
  RunsTree : List ItemTree → ReadingTree

-- the tree of a reading
abbrev pub reading_tree : Reading → ReadingTree
reading_tree (NoScript fault) = NoScriptTree fault
reading_tree (Flawed fault) = FlawedTree fault
reading_tree (Runs script) = RunsTree (script_tree script)

-- the tree of an input: the trees of its readings, its relation files and its options
pub record InputTree : Type 0 where
  pub readings : List ReadingTree
  pub files : List RelationFile
  pub turns : ℕ
  pub history : Bool
  pub ends : List ℕ

-- the tree of an input
abbrev pub input_tree : Input → InputTree
input_tree input = record {
  readings = map reading_tree input.readings;
  files = input.files;
  turns = input.turns;
  history = input.history;
  ends = input.ends;
}

-- ---- what depends on trees alone
-- two scripts decide alike: they have the same flaw; in both, expressions with the same tree have the same static type
-- and meaning; and expressions and blocks with the same tree evaluate to the same, wherever their vectors and boxes are
pub record DecideAlike (script other : Script) : Type 0 where
  pub flaw : flaw script ≡ flaw other
  pub type : (types : Types) (e f : Expr) → tree_of e ≡ tree_of f
      → static_type script types e ≡ static_type other types f
  pub meaning : (state : State) (e f : Expr) (turns : ℕ) → tree_of e ≡ tree_of f
      → meaning script state e turns ≡ meaning other state f turns
  pub value : (state : State) (e f : Expr) (turns : ℕ) → tree_of e ≡ tree_of f
      → evaluated script state e turns ≡ evaluated other state f turns
  pub early : (state : State) (e f : Expr) → tree_of e ≡ tree_of f
      → early_fault script state e ≡ early_fault other state f
  pub block : (state : State) (lets others : List Let) (turns : ℕ) → map let_tree lets ≡ map let_tree others
      → evaluated_block script state lets turns ≡ evaluated_block other state others turns

-- a run of one input is a run of the other: it is lawful for both, and the words of its tables hold it for both; and it
-- has the same page, files and costs, and leaves the same workspace
pub record AreOneInput (a b : Input) : Type 0 where
  pub legal : (history : List Event) (outcomes : List (List Outcome)) → IsLegal a history outcomes
      → IsLegal b history outcomes
  pub holds : (bits : ℕ) (history : List Event) (outcomes : List (List Outcome)) (olds : List OldBatch)
      (words : List ℕ) → HoldsRun bits a history outcomes olds words → HoldsRun bits b history outcomes olds words
  pub page : (history : List Event) (outcomes : List (List Outcome)) → page a history outcomes ≡ page b history outcomes
  pub saves : (history : List Event) (outcomes : List (List Outcome))
      → saves a history outcomes ≡ saves b history outcomes
  pub cost : (leaf : ℕ) (history : List Event) (outcomes : List (List Outcome))
      → cost_of_run leaf a history outcomes ≡ cost_of_run leaf b history outcomes
  pub cost_of_batches : (leaf : ℕ) (history : List Event) (outcomes : List (List Outcome)) (batch : ℕ)
      → cost_of_batch leaf a history outcomes batch ≡ cost_of_batch leaf b history outcomes batch
  pub workspace : (events : List Event) → state_after a events ≡ state_after b events

-- if two items have the same tree, in scripts with the same tree, and the numbers of turns and the files are the same,
-- then the same is due for both, at the same cost
abbrev pub ItemsGoByTrees : Type 0
ItemsGoByTrees =
    (a b : Input) (script other : Script) (item twin : Item) (state : Workspace) (snap : Option Workspace) (leaf : ℕ)
    (d : Due) → a.turns ≡ b.turns → a.files ≡ b.files → script_tree script ≡ script_tree other
    → item_tree item ≡ item_tree twin
    → (due a script item state snap ≡ due b other twin state snap)
    × (cost_of_item leaf a script item state snap d ≡ cost_of_item leaf b other twin state snap d)

-- scripts with the same tree decide alike
abbrev pub ScriptsGoByTrees : Type 0
ScriptsGoByTrees = (script other : Script) → script_tree script ≡ script_tree other → DecideAlike script other

-- inputs with the same tree are the same input for a run
abbrev pub InputsGoByTrees : Type 0
InputsGoByTrees = (a b : Input) → input_tree a ≡ input_tree b → AreOneInput a b

-- ---- readings of the same texts
-- both inputs read the same texts, and have the same files and options
pub record ReadAlike (scripts : List (List ℕ)) (a b : Input) : Type 0 where
  pub first : AreReadings scripts a.readings
  pub second : AreReadings scripts b.readings
  pub files : a.files ≡ b.files
  pub turns : a.turns ≡ b.turns
  pub history : a.history ≡ b.history
  pub ends : a.ends ≡ b.ends

-- whatever the same texts are read as, the readings have the same trees
abbrev pub TextsHaveOneReading : Type 0
TextsHaveOneReading =
    (scripts : List (List ℕ)) (readings others : List Reading) → AreReadings scripts readings
    → AreReadings scripts others → map reading_tree readings ≡ map reading_tree others

-- so they are the same input for a run
abbrev pub TextsAreOneInput : Type 0
TextsAreOneInput = (scripts : List (List ℕ)) (a b : Input) → ReadAlike scripts a b → AreOneInput a b

-- and a run of these texts with one reading is a run of them with every other
abbrev pub EveryReadingRuns : Type 0
EveryReadingRuns =
    (scripts : List (List ℕ)) (a b : Input) (history : List Event) (outcomes : List (List Outcome)) (shown : List ℕ)
    (put : List SavedFile) → ReadAlike scripts a b → IsRun scripts a history outcomes shown put
    → IsRun scripts b history outcomes shown put
