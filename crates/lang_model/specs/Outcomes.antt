-- The results of evaluations, and how many nodes they may make.
use Rattle.std.specs.Prelude.{◌+◌, ℕ}
use Rattle.lang_model.specs.declared.syntax.Place.{Place}
use Rattle.lang_model.specs.declared.faults.TypeFault.{TypeFault}
use Rattle.rel_model.specs.Relation.{Relation}

-- why there is no value
pub data Refusal : Type 0 where
  -- operands that do not fit, or a name that has no meaning where it occurs
  Ill : TypeFault → Refusal
  -- a size of a result that exceeds the limit: where, and what size
  Size : Place → ℕ → Refusal
  -- no turn is left for the WHILE at this place
  Turns : Place → Refusal

-- a value and the turns that are left, or a refusal
pub data Answer (T : Type 0) : Type 0 where
  Got : T → ℕ → Answer T
  Not : Refusal → Answer T

-- how many nodes may be made, as a function of the height of the leaves of the worker
abbrev pub Cost : Type 0
Cost = ℕ → ℕ

-- no node, whatever the leaves
abbrev pub no_cost : Cost
no_cost leaf = 0

-- the result of an evaluation: its answer, and how many nodes it may make on the way
pub record Came (T : Type 0) : Type 0 where
  pub answer : Answer T
  pub cost : Cost

-- a value, at no cost
abbrev pub got : {T : Type 0} → T → ℕ → Came T
got x n = record { answer = Got x n; cost = no_cost }

-- a refusal, at no cost
abbrev pub refused : {T : Type 0} → Refusal → Came T
refused r = record { answer = Not r; cost = no_cost }

-- what follows a value; nothing follows a refusal
abbrev pub following : {T U : Type 0} → Answer T → (T → ℕ → Came U) → Came U
following (Got x n) next = next x n
following (Not r) next = refused r

-- one evaluation and then another, which gets the value and the turns left by the first; costs add up
abbrev pub and_then : {T U : Type 0} → Came T → (T → ℕ → Came U) → Came U
and_then first next = record {
  answer = (following first.answer next).answer;
  cost = λ leaf. first.cost leaf + (following first.answer next).cost leaf;
}

-- ---- single operations, which take no turn
-- a value and how many nodes it may make, or a refusal, for which no node is made
pub data Operation : Type 0 where
  Makes : Relation → Cost → Operation
  Refuses : Refusal → Operation

-- the same, with this number of turns left
abbrev pub with_turns : Operation → ℕ → Came Relation
with_turns (Makes r cost) n = record { answer = Got r n; cost = cost }
with_turns (Refuses f) n = refused f
