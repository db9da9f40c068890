-- A block on maps: the map in which a name is set has the state in which it is assigned, so that a block goes on behind
-- a value on the map in which its name is set.
use Rattle.std.proofs.Common.{◌≡◌, ◌+◌, ℕ, Bool, true, false, cond, List, ◌∷◌, Some, refl, sym, ap, ◌∙◌, inl, inr, arith}
use Rattle.std.specs.Ordering.{eq_by_cmp}
use Rattle.std.specs.Cmp.Lexicographic.{nat_list_eq_equiv, same_text as text_of_test}
use Rattle.std.proofs.lemmas.Bool.{cases_Bool, false≢true}
use Rattle.lang_model.specs.declared.syntax.Let.{Let as BlockLet}
use Rattle.lang_model.specs.declared.syntax.Script.{Script}
use Rattle.rel_model.specs.Relation.{Relation}
use Rattle.lang_model.specs.State.{assigned}
use Rattle.lang_model.specs.Tokens.{same_text}
use Rattle.lang_model.specs.Outcomes.{Answer, Got, Not}
use Rattle.lang_model.specs.Eval.{Evaluated, Ahead, Comes, evaluated, cost_of_value}
use Rattle.lang_model.specs.Blocks.{after_answer, after_value, evaluated_block, cost_of_block}
use Rattle.run_model.specs.declared.outcome.Outcome.{Outcome}
use Rattle.run_model.specs.Names.{compare, lookup, set}
use Rattle.run_model.specs.Inputs.{Input}
use Rattle.run_model.specs.Due.{When, Workspace, Due, Value, Refused, late, with_gift, behind_let, due_of_answer, due_of_value, due_of, due_of_lets, due_of_block}
use Rattle.run_model.specs.Cost.{cost_of}
use Rattle.run_model.proofs.Ordering.{names_laws, same_name, one_name}

-- names that the order does not tell apart are one text
same_test : (n name : List ℕ) → eq_by_cmp compare n name ≡ same_text name n
same_test n name = elim (cases_Bool (eq_by_cmp compare n name)) [
  | inl e ↦ e ∙ (sym (nat_list_eq_equiv.refl name) ∙ ap (same_text name) (sym (one_name n name e)))
  | inr f ↦ f ∙ sym (differs f)
]
  where
    differs : eq_by_cmp compare n name ≡ false → same_text name n ≡ false
    differs f = elim (cases_Bool (same_text name n)) [
      | inl e ↦ absurd (false≢true (sym f ∙ (ap (λ x. eq_by_cmp compare n x) (text_of_test name n (sym e)) ∙ same_name n)))
      | inr g ↦ g
    ]

-- a map with a name set is looked up as the state with that name assigned: names that the order does
-- not tell apart are one text
pub set_is_assigned : (name : List ℕ) (r : Relation) (s : Workspace) → lookup (set name r s) ≡ assigned name r (lookup s)
unfolding assigned
set_is_assigned name r s = λ i n.
    (names_laws.set_name n name r s ∙ ap (λ b. cond b (Some r) (lookup s n)) (same_test n name)) i

-- ---- what is due
abbrev is_value : Due → Bool
is_value (Value r) = true
is_value d = false

abbrev value_in : Relation → Due → Relation
value_in other (Value r) = r
value_in other d = other

module _ (turns : ℕ) (l : BlockLet) (ls : List BlockLet) (more : Relation → List Evaluated) where
  pub goes_on : (v : Evaluated) (r : Relation) → due_of_value Value turns v ≡ Value r →
      due_of_lets turns (l ∷ ls) (after_value v more) ≡ with_gift (l.name, r) (late (due_of_lets turns ls (more r)))
  goes_on (Ahead fault) r e = absurd (false≢true (ap is_value e))
  goes_on (Comes came) r e = at came.answer e
    where
      at : (a : Answer Relation) → due_of_answer Value turns a ≡ Value r →
          behind_let l.name (due_of_lets turns ls (after_answer a more)) (due_of_answer Value turns a)
          ≡ with_gift (l.name, r) (late (due_of_lets turns ls (more r)))
      at (Got q left) e = ap (λ x. with_gift (l.name, x) (late (due_of_lets turns ls (more x)))) (ap (value_in r) e)
      at (Not why) e = absurd (false≢true (ap is_value e))

  pub stops : (v : Evaluated) (when : When) (outcome : Outcome) → due_of_value Value turns v ≡ Refused when outcome →
      due_of_lets turns (l ∷ ls) (after_value v more) ≡ Refused when outcome
  stops (Ahead fault) when outcome e = e
  stops (Comes came) when outcome e = at came.answer e
    where
      at : (a : Answer Relation) → due_of_answer Value turns a ≡ Refused when outcome →
          behind_let l.name (due_of_lets turns ls (after_answer a more)) (due_of_answer Value turns a) ≡ Refused when outcome
      at (Got r left) e = absurd (false≢true (sym (ap is_value e)))
      at (Not why) e = e

  -- ---- costs
  pub costs_on : (leaf : ℕ) (v : Evaluated) (r : Relation) → due_of_value Value turns v ≡ Value r →
      cost_of_block leaf (after_value v more) ≡ cost_of_value leaf v + cost_of_block leaf (more r)
  costs_on leaf (Ahead fault) r e = absurd (false≢true (ap is_value e))
  costs_on leaf (Comes came) r e = ap (λ n. came.cost leaf + n) (at came.answer e)
    where
      at : (a : Answer Relation) → due_of_answer Value turns a ≡ Value r →
          cost_of_block leaf (after_answer a more) ≡ cost_of_block leaf (more r)
      at (Got q left) e = ap (λ x. cost_of_block leaf (more x)) (ap (value_in r) e)
      at (Not why) e = absurd (false≢true (ap is_value e))

  -- where the first assignment is refused, the block costs what its value costs: behind a refusal nothing is evaluated
  pub costs_stop : (leaf : ℕ) (v : Evaluated) (when : When) (outcome : Outcome) → due_of_value Value turns v ≡ Refused when outcome →
      cost_of_block leaf (after_value v more) ≡ cost_of_value leaf v
  costs_stop leaf (Ahead fault) when outcome e = refl
  costs_stop leaf (Comes came) when outcome e =
      let n : cost_of_block leaf (after_answer came.answer more) ≡ 0 = at came.answer e in omega (arith, n)
    where
      at : (a : Answer Relation) → due_of_answer Value turns a ≡ Refused when outcome →
          cost_of_block leaf (after_answer a more) ≡ 0
      at (Got r left) e = absurd (false≢true (sym (ap is_value e)))
      at (Not why) e = refl

-- ---- blocks on maps
module _ (input : Input) (script : Script) (l : BlockLet) (ls : List BlockLet) (s : Workspace) where
  abbrev more : Relation → List Evaluated
  more r = evaluated_block script (assigned l.name r (lookup s)) ls input.turns

  abbrev came_first : Evaluated
  came_first = evaluated script (lookup s) l.value input.turns

  pub block_goes_on : (r : Relation) → due_of input script Value l.value s ≡ Value r →
      due_of_block input script (l ∷ ls) s ≡ with_gift (l.name, r) (late (due_of_block input script ls (set l.name r s)))
  block_goes_on r e =
      goes_on input.turns l ls more came_first r e
      ∙ ap (λ t. with_gift (l.name, r) (late (due_of_lets input.turns ls (evaluated_block script t ls input.turns))))
      (sym (set_is_assigned l.name r s))

  pub block_stops : (when : When) (outcome : Outcome) → due_of input script Value l.value s ≡ Refused when outcome →
      due_of_block input script (l ∷ ls) s ≡ Refused when outcome
  block_stops when outcome e = stops input.turns l ls more came_first when outcome e

  pub block_costs_on : (leaf : ℕ) (r : Relation) → due_of input script Value l.value s ≡ Value r →
      cost_of_block leaf (evaluated_block script (lookup s) (l ∷ ls) input.turns)
      ≡ cost_of leaf input script l.value s
      + cost_of_block leaf (evaluated_block script (lookup (set l.name r s)) ls input.turns)
  block_costs_on leaf r e =
      costs_on input.turns l ls more leaf came_first r e
      ∙ ap (λ t. cost_of leaf input script l.value s + cost_of_block leaf (evaluated_block script t ls input.turns))
      (sym (set_is_assigned l.name r s))

  pub block_cost_stops : (leaf : ℕ) (when : When) (outcome : Outcome) →
      due_of input script Value l.value s ≡ Refused when outcome →
      cost_of_block leaf (evaluated_block script (lookup s) (l ∷ ls) input.turns) ≡ cost_of leaf input script l.value s
  block_cost_stops leaf when outcome e = costs_stop input.turns l ls more leaf came_first when outcome e
