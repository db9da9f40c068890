-- What the walk does at a node, on arguments and along links: which tree it reaches, and which steps it notes.
use Rattle.std.specs.Prelude.{◌≡◌, ◌≤◌, ◌++◌, ◌==◌, ◌||◌, ℕ, Bool, true, false, List, [], ◌∷◌, Some, None}
use Rattle.lang_model.specs.Trees.{Tree, NameTree, CallTree, BaseTree, InjectTree, PairTree, MinusTree, TurnedTree}
use Rattle.lang_model.specs.Trees.{ChainTree, Trees, NoTree, MoreTrees, Branches, NoBranch, MoreBranches}
use Rattle.lang_model.specs.Rewriting.{Step as STEP, is_calm, are_calm, are_calm_along, next_step, next_in, next_along}
use Rattle.lang_model.specs.Rewriting.{weight, steps_of, calmed, least_rule, repeated_operands}
use Rattle.rv_rewrite.specs.declared.step.Step.{Step}
use Rattle.rv_rewrite.specs.Steps.{steps_by_trees}

-- the steps in arguments, from the left
abbrev pub steps_in : Trees → List STEP
steps_in NoTree = []
steps_in (MoreTrees t args) = steps_of t ++ steps_in args

-- the arguments after their steps
abbrev pub calmed_in : Trees → Trees
calmed_in NoTree = NoTree
calmed_in (MoreTrees t args) = MoreTrees (calmed t) (calmed_in args)

-- the steps in the operands of links, from the left
abbrev pub steps_along : Branches → List STEP
steps_along NoBranch = []
steps_along (MoreBranches at op right links) = steps_of right ++ steps_along links

-- the links after their steps
abbrev pub calmed_along : Branches → Branches
calmed_along NoBranch = NoBranch
calmed_along (MoreBranches at op right links) = MoreBranches at op (calmed right) (calmed_along links)

-- the parts of a node have no step left
abbrev pub StillInside : Tree → Type 0
StillInside (NameTree at name) = Unit {0}
StillInside (CallTree at name args) = next_in args ≡ None
StillInside (BaseTree at base args) = next_in args ≡ None
StillInside (InjectTree at base domain) = Unit {0}
StillInside (PairTree at left right) = (next_step left ≡ None) × (next_step right ≡ None)
StillInside (MinusTree at of) = next_step of ≡ None
StillInside (TurnedTree at of times) = next_step of ≡ None
StillInside (ChainTree first links) = (next_step first ≡ None) × (next_along links ≡ None)

-- the same, except that the operand of a prefix - or of signs ^ may be new; then its parts have no step left
abbrev pub ReadyInside : Tree → Type 0
ReadyInside (MinusTree at of) = StillInside of
ReadyInside (TurnedTree at of times) = StillInside of
ReadyInside t = StillInside t

-- whether a rule makes a prefix - or signs ^ with a new operand
abbrev pub makes_operand : ℕ → Bool
makes_operand n = (n == 7) || ((n == 8) || (n == 9))

-- what a rule makes of a calm node whose parts have no step left: it is calm, only a new operand may have a step left
-- in it, and no operand is repeated
pub record Follows (rule : ℕ) (t : Tree) : Type 0 where
  pub calm : is_calm t ≡ true
  pub ready : ReadyInside t
  pub still : makes_operand rule ≡ false → StillInside t
  pub distinct : repeated_operands t ≡ None

-- if steps are kept: of the steps that were due, some have been noted, and the rest is left
abbrev pub Noted : Bool → List Step → List Step → List STEP → List STEP → Type 0
Noted kept old new due left = kept ≡ true → steps_by_trees old ++ due ≡ steps_by_trees new ++ left

-- a calm node is rewritten to its calm tree
pub record Settles (kept : Bool) (old new : List Step) (t u : Tree) : Type 0 where
  pub after : u ≡ calmed t
  pub calm : is_calm u ≡ true
  pub noted : Noted kept old new (steps_of t) []

-- a calm node is rewritten to one on the way to its calm tree, whose parts have no step left, and without a repeated
-- operand
pub record ComesNearer (kept : Bool) (old new : List Step) (t u : Tree) : Type 0 where
  pub after : calmed u ≡ calmed t
  pub calm : is_calm u ≡ true
  pub still : StillInside u
  pub distinct : repeated_operands u ≡ None
  pub lighter : weight u ≤ weight t
  pub noted : Noted kept old new (steps_of t) (steps_of u)

-- any node is rewritten to its calm tree, and calm is whether that is calm
pub record Walks (kept : Bool) (old new : List Step) (t u : Tree) (calm : Bool) : Type 0 where
  pub after : u ≡ calmed t
  pub calm_or_not : calm ≡ is_calm u
  pub noted : Noted kept old new (steps_of t) []

-- the same for arguments
pub record WalksIn (kept : Bool) (old new : List Step) (t u : Trees) (calm : Bool) : Type 0 where
  pub after : u ≡ calmed_in t
  pub calm_or_not : calm ≡ are_calm u
  pub noted : Noted kept old new (steps_in t) []

-- the same for links
pub record WalksAlong (kept : Bool) (old new : List Step) (t u : Branches) (calm : Bool) : Type 0 where
  pub after : u ≡ calmed_along t
  pub calm_or_not : calm ≡ are_calm_along u
  pub noted : Noted kept old new (steps_along t) []

-- a step at a node is by the applicable rule with the least number, and is noted if steps are kept
pub record Steps (kept : Bool) (old new : List Step) (rule : ℕ) (t u : Tree) : Type 0 where
  pub least : least_rule t ≡ Some (rule, u)
  pub noted : kept ≡ true → steps_by_trees new
      ≡ steps_by_trees old ++ (record { rule = rule; before = t; after = u }) ∷ []
