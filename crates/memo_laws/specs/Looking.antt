-- What an equation of the code says, and what `look` and `note` promise.
use Rattle.std.specs.Prelude.{◌≡◌, ◌<◌, ◌^◌, ℕ, Option, Some, None, IfSome, IfNone}
use Rattle.rel_model.specs.Words.{most_bits}
use Rattle.rel_model.specs.Equations.{Operator, Union, Inter, Diff, Transpose, Compose, Equation, IsTrueIn, home_slot, word_of_equation}
use Rattle.rel_model.specs.Views.{View, Keeps}
use Rattle.pair_table.specs.Memos.{Stores}
use Rattle.memo_laws.specs.declared.equation.Op.{Op}
use Rattle.memo_laws.specs.declared.equation.Op.TheVariants.{Union as UNION, Inter as INTER, Diff as DIFF, Transpose as TRANSPOSE, Compose as COMPOSE}
use Rattle.memo_laws.specs.declared.equation.Equation.{Equation as Stated}

-- the operator that the code means
abbrev pub operator_of : Op → Operator
operator_of UNION = Union
operator_of INTER = Inter
operator_of DIFF = Diff
operator_of TRANSPOSE = Transpose
operator_of COMPOSE = Compose

-- the equation that the code states
abbrev pub equation_of : Stated → Equation
equation_of e = record { op = operator_of e.op; height = e.height; a = e.a; b = e.b; r = e.r }

-- a word is that of the equation with this operator, height, operands and result
abbrev pub IsWordFor : ℕ → Operator → ℕ → ℕ → ℕ → ℕ → Type 0
IsWordFor word op height a b r = word ≡ word_of_equation (record { op = op; height = height; a = a; b = b; r = r })

-- an equation with this operator, height and operands was looked up: the last memo load is from its home slot, and
-- there is an answer if and only if the word is such an equation, which then is true and has this result
pub record Looks (op : Operator) (height a b : ℕ) (old new : View) (answer : Option ℕ) : Type 0 where
  pub word : ℕ
  pub last : new.last ≡ Some (home_slot a b, word)
  pub found : IfSome answer (λ r. IsWordFor word op height a b r)
  pub holds : IfSome answer (λ r. IsTrueIn new.words (record { op = op; height = height; a = a; b = b; r = r }))
  pub none : IfNone answer ((r : ℕ) → r < 2 ^ most_bits → IsWordFor word op height a b r → ⊥)
  pub only_none : ((r : ℕ) → r < 2 ^ most_bits → IsWordFor word op height a b r → ⊥) → answer ≡ None
  pub keeps : Keeps old new
  pub made : new.made ≡ old.made
  pub refused : new.refused ≡ old.refused

-- an equation was noted: its word was stored in its home slot, which is the last memo step
abbrev pub Notes : Equation → View → View → Type 0
Notes e = Stores (home_slot e.a e.b) (word_of_equation e)
