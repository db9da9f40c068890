-- A block sees of a state the relations of the names that it reads.
use Rattle.std.proofs.Common.{◌≡◌, not, ℕ, Bool, true, false, cond, List, [], ◌∷◌, filter, Some, refl}
use Rattle.rel_model.specs.Relation.{Relation}
use Rattle.lang_model.specs.State.{State, assigned}
use Rattle.lang_model.specs.Tokens.{same_text}
use Rattle.lang_model.specs.Eval.{names_in, AgreeOn}
use Rattle.lang_model.specs.Blocks.{names_read, after_value, BlocksByNames}
use Rattle.lang_model.proofs.Using.{left_of, right_of}
use Rattle.lang_model.proofs.Seeing.{value_by_names}

-- where a name gets one relation in both states, they agree on it too
agree_assigned : (s t : State) (name : List ℕ) (r : Relation) (names : List (List ℕ))
    → AgreeOn s t (filter (λ n. not (same_text name n)) names) → AgreeOn (assigned name r s) (assigned name r t) names
unfolding assigned
agree_assigned s t name r [] h = tt
agree_assigned s t name r (n ∷ ns) h = at (same_text name n) h (agree_assigned s t name r ns)
  where
    at : (b : Bool) → AgreeOn s t (cond (not b) (n ∷ filter (λ x. not (same_text name x)) ns)
        (filter (λ x. not (same_text name x)) ns))
        → (AgreeOn s t (filter (λ x. not (same_text name x)) ns) → AgreeOn (assigned name r s) (assigned name r t) ns)
        → (cond b (Some r) (s n) ≡ cond b (Some r) (t n)) × AgreeOn (assigned name r s) (assigned name r t) ns
    at true h more = (refl, more h)
    at false h more = (h.0, more h.1)

pub blocks_by_names : BlocksByNames
blocks_by_names script s t [] turns h = refl
blocks_by_names script s t (l ∷ ls) turns h =
    let left = left_of s t (names_in l.value) (filter (λ n. not (same_text l.name n)) (names_read ls)) h in
    let right = right_of s t (names_in l.value) (filter (λ n. not (same_text l.name n)) (names_read ls)) h in
    λ i.
    after_value (value_by_names script s t l.value turns left i)
    (λ r. blocks_by_names script (assigned l.name r s) (assigned l.name r t) ls turns
    (agree_assigned s t l.name r (names_read ls) right) i)
