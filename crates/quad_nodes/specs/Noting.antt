-- What is noted about quads, and under which names it is found again.
use Rattle.std.specs.Prelude.{Bool, true, false, ℕ, min, max, if◌then◌else◌}
use Rattle.rel_model.specs.declared.Quad.{Quad}
use Rattle.rel_model.specs.Equations.{Operator, Union, Inter, Diff, Transpose, Compose, Equation}

-- whether the operands of an operator may be exchanged
abbrev pub is_commutative : Operator → Bool
is_commutative Union = true
is_commutative Inter = true
is_commutative Diff = false
is_commutative Transpose = false
is_commutative Compose = false

-- the name that an equation has first: the lesser one if the operator is commutative, and else that of the first
-- operand
abbrev pub first_name : Operator → Quad → Quad → ℕ
first_name op a b = if is_commutative op then min a.name b.name else a.name

-- the name that it has second: the greater one if the operator is commutative, and else that of the second operand
abbrev pub second_name : Operator → Quad → Quad → ℕ
second_name op a b = if is_commutative op then max a.name b.name else b.name

-- the equation between three quads of one height
abbrev pub equation_between : Operator → Quad → Quad → Quad → Equation
equation_between op a b r = record {
  op = op;
  height = a.height;
  a = first_name op a b;
  b = second_name op a b;
  r = r.name;
}
