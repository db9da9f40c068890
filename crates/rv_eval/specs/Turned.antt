-- A chain that begins with a transposition and a composition, as `R^ * S` does.
use Rattle.std.specs.Prelude.{◌≡◌, ◌+◌, ℕ, List, ◌∷◌}
use Rattle.rel_model.specs.Operators.{transposed_by}
use Rattle.rel_model.specs.Relation.{Relation}
use Rattle.lang_model.specs.declared.syntax.Expr.{Expr}
use Rattle.lang_model.specs.declared.syntax.Link.{Link}
use Rattle.lang_model.specs.declared.syntax.Op2.TheVariants.{Times}
use Rattle.lang_model.specs.declared.syntax.Place.{Place}
use Rattle.lang_model.specs.Mean.{Around, mean, linked, turned}
use Rattle.lang_model.specs.Outcomes.{Came, Cost, Operation, Makes, Refuses, and_then, with_turns}
use Rattle.lang_model.specs.Rooms.{plain_cost}
use Rattle.lang_model.specs.State.{State}
use Rattle.lang_model.proofs.Weights.{weight}
use Rattle.rv_eval.specs.declared.here.Start.{Start}

-- the same operation at a greater cost
abbrev pub dearer : Cost → Operation → Operation
dearer more (Makes r cost) = Makes r (λ leaf. more leaf + cost leaf)
dearer more (Refuses why) = Refuses why

-- a relation transposed this many times and composed with another, at the cost of both
abbrev pub turned_linked : Place → ℕ → Relation → Relation → Operation
turned_linked at times r s = dearer (plain_cost r.rows r.cols) (linked at Times (transposed_by times r) s)

-- the operation of such a start of a chain
abbrev pub linked_at_start : Start → Relation → Relation → Operation
linked_at_start start r s = turned_linked start.link.now.at start.times r s

-- what such a start means, its operands evaluated before both operators
abbrev pub mean_start : Around → State → Start → ℕ → Came Relation
mean_start around state start n =
    and_then (mean around state start.of.now n)
    (λ r m. and_then (mean around state start.link.now.right m) (λ s k. with_turns (linked_at_start start r s) k))

-- the first operand of a chain is a transposition, and its first operator a composition
pub record StartsTurned (first : Expr) (rest : List Link) (start : Start) : Type 0 where
  -- the first operand means what its own operand does, transposed
  pub means : (around : Around) (state : State) (n : ℕ) → mean around state first n
      ≡ and_then (mean around state start.of.now n) (λ r m. with_turns (turned start.times r) m)
  -- it is one node larger, so that its operand is a smaller expression
  pub weighs : weight first ≡ weight start.of.now + 1
  -- the links are the composition and those that follow it
  pub links : rest ≡ start.link.now ∷ start.more.now
  -- that operator is a composition
  pub composes : start.link.now.op ≡ Times
