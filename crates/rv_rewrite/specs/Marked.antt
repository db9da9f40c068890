-- What the rules on chains of two require of each operand: a single sign ^, or a prefix -.
use Rattle.std.specs.Prelude.{ℕ, cond, Option, Some, None}
use Rattle.lang_model.specs.declared.syntax.Place.{Place}
use Rattle.lang_model.specs.declared.syntax.Op2.{Op2}
use Rattle.lang_model.specs.Trees.{Tree, TurnedTree}
use Rattle.lang_model.specs.Rewriting.{where_some, negated, turned_once, Two, two_operands, same_operator, is_lattice}
use Rattle.rv_rewrite.specs.declared.sides.Mark.{Mark}
use Rattle.rv_rewrite.specs.declared.sides.Mark.TheVariants.{Turned, Negated}

-- the operand that carries a mark, without it
abbrev pub marked : Mark → Tree → Option Tree
marked Turned t = turned_once t
marked Negated t = negated t

-- a left operand, and the right one without its mark, with their operator
abbrev pub marked_right : Mark → Two → Tree → Option Two
marked_right b x l = where_some (marked b x.right) (λ r. Some (record { op = x.op; left = l; right = r }))

-- both operands without their marks
abbrev pub marked_sides : Mark → Mark → Two → Option Two
marked_sides a b x = where_some (marked a x.left) (marked_right b x)

-- the same for a chain of exactly two
abbrev pub sides : Mark → Mark → Tree → Option Two
sides a b t = where_some (two_operands t) (marked_sides a b)

-- the same, if the operator is this one
abbrev pub sides_of : Op2 → Mark → Mark → Tree → Option (Tree × Tree)
sides_of op a b t = where_some (sides a b t) (λ y. cond (same_operator y.op op) (Some (y.left, y.right)) None)

-- the same, if the operator is | or & and both marks are the same
abbrev pub lattice_sides : Mark → Tree → Option Two
lattice_sides a t = where_some (sides a a t) (λ y. cond (is_lattice y.op) (Some y) None)

-- signs ^: their place, their operand, and how many there are
pub record Turns : Type 0 where
  pub at : Place
  pub of : Tree
  pub times : ℕ

-- the signs ^ of a node
abbrev pub turn : Tree → Option Turns
turn (TurnedTree at of times) = Some (record { at = at; of = of; times = times })
turn _ = None
