-- Blocks of assignments: which names a block reads, and the results of its expressions, one after another.
use Rattle.std.specs.Prelude.{◌≡◌, ◌+◌, not, ℕ, List, [], ◌∷◌, ◌++◌, filter}
use Rattle.lang_model.specs.declared.syntax.Let.{Let}
use Rattle.lang_model.specs.declared.syntax.Script.{Script}
use Rattle.rel_model.specs.Relation.{Relation}
use Rattle.lang_model.specs.State.{State, assigned}
use Rattle.lang_model.specs.Tokens.{same_text}
use Rattle.lang_model.specs.Outcomes.{Answer, Got, Not}
use Rattle.lang_model.specs.Eval.{Evaluated, Ahead, Comes, evaluated, cost_of_value, names_in, AgreeOn}

-- the names that a block reads, from left to right, with repeats: those in its expressions to which no earlier
-- assignment of the block gives a value
abbrev pub names_read : List Let → List (List ℕ)
names_read [] = []
names_read (l ∷ ls) = names_in l.value ++ filter (λ name. not (same_text l.name name)) (names_read ls)

-- what follows an answer: nothing follows a refusal
abbrev pub after_answer : Answer Relation → (Relation → List Evaluated) → List Evaluated
after_answer (Got r left) more = more r
after_answer (Not why) more = []

-- the result of an expression, and then what follows its value
abbrev pub after_value : Evaluated → (Relation → List Evaluated) → List Evaluated
after_value (Ahead fault) more = Ahead fault ∷ []
after_value (Comes came) more = Comes came ∷ after_answer came.answer more

-- the results of the expressions of a block in order, up to the first that has no value: each on the state left by the
-- assignments before it, and each with all the turns
abbrev pub evaluated_block : Script → State → List Let → ℕ → List Evaluated
evaluated_block script state [] turns = []
evaluated_block script state (l ∷ ls) turns =
    after_value (evaluated script state l.value turns)
    (λ r. evaluated_block script (assigned l.name r state) ls turns)

-- the total cost of the results
abbrev pub cost_of_block : ℕ → List Evaluated → ℕ
cost_of_block leaf [] = 0
cost_of_block leaf (e ∷ es) = cost_of_value leaf e + cost_of_block leaf es

-- the results of a block depend only on the relations of the names that it reads
abbrev pub BlocksByNames : Type 0
BlocksByNames =
    (script : Script) (s t : State) (lets : List Let) (turns : ℕ)
    → AgreeOn s t (names_read lets) → evaluated_block script s lets turns ≡ evaluated_block script t lets turns
