-- A step of the code as a step of the model: its rule, and the trees before and after it.
use Rattle.std.specs.Prelude.{List, [], ◌∷◌}
use Rattle.lang_model.specs.Trees.{tree_of}
use Rattle.lang_model.specs.Rewriting.{Step as STEP}
use Rattle.rv_rewrite.specs.declared.step.Step.{Step}

-- a step of the code, by its trees
abbrev pub step_of : Step → STEP
step_of s = record { rule = s.rule; before = tree_of s.before; after = tree_of s.after }

-- steps of the code, by their trees, in order
abbrev pub steps_by_trees : List Step → List STEP
steps_by_trees [] = []
steps_by_trees (s ∷ steps) = step_of s ∷ steps_by_trees steps
