-- The leftmost name of an expression that has no relation in a state.
use Rattle.std.specs.Prelude.{ℕ, cond, List, Option, Some, None, is_some}
use Rattle.lang_model.specs.declared.syntax.Place.{Place}
use Rattle.lang_model.specs.declared.syntax.Expr.{Expr, Ref, Call', Base', Inject, Pair', Minus', Turned', Chain', Row_of-Expr, end_of-Expr, more_of-Expr, Row_of-Link, end_of-Link, more_of-Link}
use Rattle.lang_model.specs.State.{State}

-- the first of two that is present
abbrev pub first_of_both : {T : Type 0} → Option T → Option T → Option T
first_of_both None y = y
first_of_both (Some x) y = Some x

-- the leftmost relation name that the state lacks, and its place
abbrev mutual
  -- that of one expression
  pub missing : State → Expr → Option (Place × List ℕ)
  missing state (Ref at name) = cond (is_some (state name)) None (Some (at, name))
  missing state (Call' at name shape args) = missing_in state args
  missing state (Base' at base shape args) = missing_in state args
  missing state (Inject at base domain) = None
  missing state (Pair' at p left q right) = first_of_both (missing state left) (missing state right)
  missing state (Minus' at p of) = missing state of
  missing state (Turned' at p of times) = missing state of
  missing state (Chain' p first shape rest) = first_of_both (missing state first) (missing_along state rest)

  -- that of arguments
  pub missing_in : State → {m : _} → Row_of-Expr m → Option (Place × List ℕ)
  missing_in state end_of-Expr = None
  missing_in state (more_of-Expr e rest) = first_of_both (missing state e) (missing_in state rest)

  -- that of the links of a chain
  pub missing_along : State → {m : _} → Row_of-Link m → Option (Place × List ℕ)
  missing_along state end_of-Link = None
  missing_along state (more_of-Link at op right rest) = first_of_both (missing state right) (missing_along state rest)
