-- What an expression of a command, and a block, comes to goes by trees alone: its own and those of the script.
use Rattle.std.proofs.Common.{◌≡◌, ◌⊎◌, ◌++◌, ℕ, not, List, [], ◌∷◌, map, filter, Option, refl, ap}
use Rattle.std.specs.Prelude.{option_map}
use Rattle.lang_model.specs.declared.syntax.Expr.{Expr}
use Rattle.lang_model.specs.declared.syntax.Let.{Let as LetOf}
use Rattle.lang_model.specs.declared.syntax.Script.{Script}
use Rattle.lang_model.specs.declared.faults.TypeFault.{TypeFault}
use Rattle.lang_model.specs.declared.faults.TypeFault.TheVariants.{Unknown}
use Rattle.rel_model.specs.Relation.{Relation}
use Rattle.lang_model.specs.Limits.{rank_limit}
use Rattle.lang_model.specs.Tokens.{same_text}
use Rattle.lang_model.specs.Trees.{Tree, tree_of}
use Rattle.lang_model.specs.State.{State, assigned}
use Rattle.lang_model.specs.Outcomes.{Came}
use Rattle.lang_model.specs.Types.{Typed}
use Rattle.lang_model.specs.Missing.{first_of_both}
use Rattle.lang_model.specs.Rewriting.{calmed}
use Rattle.lang_model.specs.Mean.{around_with, mean_tree, meaning_of_tree}
use Rattle.lang_model.specs.Shape.{Types, shape_tree, around_types, static_type_of_tree}
use Rattle.lang_model.specs.Eval.{Evaluated, types_in, unless_misfit, unless_missing, at_cost_of, evaluated, misfit_of, early_fault}
use Rattle.lang_model.specs.Blocks.{names_read, after_value, evaluated_block}
use Rattle.run_model.specs.Blocks.{block_reads, as_set, AnyCompound}
use Rattle.run_model.specs.Names.{names_of}
use Rattle.rv_spell.specs.Plain.{LetTreeOf, let_tree, ItemTree, script_tree}
use Rattle.rv_reading.proofs.Expressions.{missing_tree, missing-tree, names_of_tree, names-tree, IsCompoundTree, compound-tree}
use Rattle.rv_reading.proofs.Definitions.{calls_of_trees, calls-trees, types_of_trees, types-trees}

-- ---- expressions
module _ (items : List ItemTree) where
  -- the meaning of a tree
  abbrev pub meaning_by : State → Tree → ℕ → Came Relation
  meaning_by state t n = mean_tree (around_with (calls_of_trees items rank_limit) []) state t n

  -- its static type
  abbrev pub type_by : Types → Tree → Typed
  type_by types t = shape_tree (around_types (types_of_trees items rank_limit) []) types t

  -- what it comes to
  abbrev pub value_by : State → Tree → ℕ → Evaluated
  value_by state t turns =
      unless_missing (missing_tree state t)
      (unless_misfit (type_by (types_in state) t)
      (at_cost_of (meaning_by state (calmed t) turns) (meaning_by state t turns)))

  -- the fault ahead of all computing
  abbrev pub early_by : State → Tree → Option TypeFault
  early_by state t =
      first_of_both (option_map (λ name. Unknown name.0 name.1) (missing_tree state t))
      (misfit_of (type_by (types_in state) t))

  -- what the expressions of a block come to
  abbrev pub values_by : State → List LetTreeOf → ℕ → List Evaluated
  values_by state [] turns = []
  values_by state (l ∷ ls) turns =
      after_value (value_by state l.value turns) (λ r. values_by (assigned l.name r state) ls turns)

module _ (script : Script) where
  pub meaning-tree : (state : State) (t : Tree) (n : ℕ) → meaning_of_tree script state t n ≡ meaning_by (script_tree script) state t n
  meaning-tree state t n = λ i. mean_tree (around_with (calls-trees script.items.items rank_limit i) []) state t n

  pub type-by : (types : Types) (t : Tree) → static_type_of_tree script types t ≡ type_by (script_tree script) types t
  type-by types t = λ i. shape_tree (around_types (types-trees script.items.items rank_limit i) []) types t

  pub value-tree : (state : State) (e : Expr) (turns : ℕ) → evaluated script state e turns ≡ value_by (script_tree script) state (tree_of e) turns
  unfolding evaluated
  value-tree state e turns = λ i.
      unless_missing (missing-tree state e i)
      (unless_misfit (type-by (types_in state) (tree_of e) i)
      (at_cost_of (meaning-tree state (calmed (tree_of e)) turns i) (meaning-tree state (tree_of e) turns i)))

  pub early-tree : (state : State) (e : Expr) → early_fault script state e ≡ early_by (script_tree script) state (tree_of e)
  unfolding early_fault
  early-tree state e = λ i.
      first_of_both (option_map (λ name. Unknown name.0 name.1) (missing-tree state e i))
      (misfit_of (type-by (types_in state) (tree_of e) i))

  pub values-tree : (state : State) (ls : List LetOf) (turns : ℕ) → evaluated_block script state ls turns ≡ values_by (script_tree script) state (map let_tree ls) turns
  values-tree state [] turns = refl
  values-tree state (l ∷ ls) turns = λ i.
      after_value (value-tree state l.value turns i) (λ r. values-tree (assigned l.name r state) ls turns i)

-- ---- blocks
-- the names that a block reads
abbrev pub names_of_lets : List LetTreeOf → List (List ℕ)
names_of_lets [] = []
names_of_lets (l ∷ ls) = names_of_tree l.value ++ filter (λ name. not (same_text l.name name)) (names_of_lets ls)

names-lets : (ls : List LetOf) → names_read ls ≡ names_of_lets (map let_tree ls)
names-lets [] = refl
names-lets (l ∷ ls) = λ i. names-tree l.value i ++ filter (λ name. not (same_text l.name name)) (names-lets ls i)

-- the same, each once and in order
abbrev pub reads_of_lets : List LetTreeOf → List (List ℕ)
reads_of_lets ls = names_of (as_set (names_of_lets ls))

pub reads-lets : (ls : List LetOf) → block_reads ls ≡ reads_of_lets (map let_tree ls)
unfolding block_reads
reads-lets ls = ap (λ names. names_of (as_set names)) (names-lets ls)

-- an expression of a block is more than a name
abbrev pub AnyCompoundTree : List LetTreeOf → Type 0
AnyCompoundTree [] = ⊥
AnyCompoundTree (l ∷ ls) = IsCompoundTree l.value ⊎ AnyCompoundTree ls

pub any-compound : (ls : List LetOf) → AnyCompound ls ≡ AnyCompoundTree (map let_tree ls)
any-compound [] = refl
any-compound (l ∷ ls) = λ i. compound-tree l.value i ⊎ any-compound ls i
