-- The laws of equations, as the public functions of `laws.rt` promise them.
use Rattle.std.specs.Prelude.{◌≡◌, ℕ, List}
use Rattle.rel_model.specs.Words.{Extends, IsDistinct}
use Rattle.rel_model.specs.Equations.{Equation, IsTrueIn, home_slot, word_of_equation}
use Rattle.rel_model.specs.Views.{Table, View, IsOf}

-- an equation that is true in some words is true in all words that extend them
abbrev pub EquationsStay : Type 0
EquationsStay = (old new : List ℕ) (e : Equation) → Extends old new → IsDistinct old → IsDistinct new → IsTrueIn old e
    → IsTrueIn new e

-- two equations that are true in the view of a seat of some table and have the same word and the same slot are equal
abbrev pub EquationsAreReadBack : Type 0
EquationsAreReadBack = (v : View) (t : Table) (e g : Equation) → IsOf v t → IsTrueIn v.words e → IsTrueIn v.words g
    → word_of_equation e ≡ word_of_equation g → home_slot e.a e.b ≡ home_slot g.a g.b → e ≡ g
