-- Steps of small trees, computed from the definitions: each rule once, where it applies and where it doesn't.
use Rattle.std.proofs.Common.{◌≡◌, ℕ, List, [], ◌∷◌, map, codes, refl}
use Rattle.lang_model.specs.declared.syntax.Place.{Place}
use Rattle.lang_model.specs.declared.syntax.Base.TheVariants.{L}
use Rattle.lang_model.specs.declared.syntax.Op2.TheVariants.{Or, And, Times, Under, Over}
use Rattle.lang_model.specs.Printing.{printed_tree}
use Rattle.lang_model.specs.Trees.{Tree, NameTree, CallTree, BaseTree, MinusTree, TurnedTree, NoTree, MoreTrees}
use Rattle.lang_model.specs.Rewriting.{Step, two, steps_of, calmed}

abbrev at : ℕ → Place
at column = record { line = 1; column = column }

abbrev r : Tree
r = NameTree (at 1) (codes "R")

abbrev s : Tree
s = NameTree (at 2) (codes "S")

-- a step as it is told: its rule, and the texts before and after
abbrev told : Step → ℕ × (List ℕ × List ℕ)
told x = (x.rule, (printed_tree x.before, printed_tree x.after))

abbrev steps : Tree → List (ℕ × (List ℕ × List ℕ))
steps t = map told (steps_of t)

abbrev one : ℕ → List ℕ → List ℕ → List (ℕ × (List ℕ × List ℕ))
one n before after = (n, (before, after)) ∷ []

-- -(R^*-S) | R\S
abbrev both : Tree
both = two (at 9) (MinusTree (at 3) (two (at 6) (TurnedTree (at 5) r 1) Times (MinusTree (at 7) s))) Or
    (two (at 10) r Under s)

first_a_residual_and_then_a_repeat : steps both ≡ (5, (codes "-(R^*-S)", codes "R\\S")) ∷
    (4, (codes "R\\S|R\\S", codes "R\\S")) ∷ []
unfolding steps_of
first_a_residual_and_then_a_repeat = refl

-- the new node has the place of the - that it replaces
and_the_calm_tree : calmed both ≡ two (at 3) r Under s
unfolding calmed
and_the_calm_tree = refl

no_step : steps (two (at 3) r Times s) ≡ []
unfolding steps_of
no_step = refl

rule_1 : steps (MinusTree (at 3) (MinusTree (at 4) r)) ≡ one 1 (codes "--R") (codes "R")
unfolding steps_of
rule_1 = refl

rule_2 : steps (TurnedTree (at 3) r 3) ≡ one 2 (codes "R^^^") (codes "R^")
unfolding steps_of
rule_2 = refl

rules_2_and_3 : steps (TurnedTree (at 4) (TurnedTree (at 3) r 1) 1) ≡ (3, (codes "(R^)^", codes "R^^")) ∷
    (2, (codes "R^^", codes "R")) ∷ []
unfolding steps_of
rules_2_and_3 = refl

rule_6 : steps (MinusTree (at 3) (two (at 4) (MinusTree (at 5) s) Times (TurnedTree (at 6) r 1))) ≡ one 6
    (codes "-(-S*R^)") (codes "S/R")
unfolding steps_of
rule_6 = refl

rule_7 : steps (two (at 3) (TurnedTree (at 4) r 1) Times (TurnedTree (at 5) s 1)) ≡ one 7 (codes "R^*S^")
    (codes "(S*R)^")
unfolding steps_of
rule_7 = refl

rule_8 : steps (two (at 3) (TurnedTree (at 4) r 1) And (TurnedTree (at 5) s 1)) ≡ one 8 (codes "R^&S^") (codes "(R&S)^")
unfolding steps_of
rule_8 = refl

rule_9 : steps (two (at 3) (MinusTree (at 4) r) And (MinusTree (at 5) s)) ≡ one 9 (codes "-R&-S") (codes "-(R|S)")
unfolding steps_of
rule_9 = refl

rule_10 : steps (two (at 3) (two (at 4) r Under s) And
    (two (at 5) (TurnedTree (at 6) r 1) Over (TurnedTree (at 7) s 1))) ≡ one 10 (codes "R\\S&R^/S^") (codes "syq(R,S)")
unfolding steps_of
rule_10 = refl

-- a part of a call is rewritten, and the call itself is not
in_a_call : steps (CallTree (at 3) (codes "F") (MoreTrees (MinusTree (at 4) (MinusTree (at 5) r)) NoTree)) ≡ one 1
    (codes "--R") (codes "R")
unfolding steps_of
in_a_call = refl

not_of_base_calls : steps (two (at 3) (BaseTree (at 4) L (MoreTrees r NoTree)) Or
    (BaseTree (at 5) L (MoreTrees r NoTree))) ≡ []
unfolding steps_of
not_of_base_calls = refl
