-- Calls of definitions: what the found item means, and that its body weighs less than one rank.
use Rattle.std.proofs.Common.{◌≡◌, ◌≢◌, ◌<◌, ◌≤◌, ◌+◌, ◌*◌, ◌-◌, ◌==◌, ◌∙◌, ◌⊎◌, inl, inr, Err, ℕ, zero, suc, true, false, cond, List, [], ◌∷◌, length, map, Option, Some, None, refl, sym, ap, subst, arith}
use Rattle.std.proofs.lemmas.Bool.Decides.{nat_tests}
use Rattle.std.specs.List.{AllByRecursion}
use Rattle.rel_slices.specs.declared.thin.Value.{Value}
use Rattle.lang_model.specs.declared.syntax.Place.{Place}
use Rattle.lang_model.specs.declared.syntax.Item.{Item}
use Rattle.lang_model.specs.declared.syntax.Item.TheVariants.{Function, Program, Command as COMMAND}
use Rattle.lang_model.specs.declared.faults.TypeFault.TheVariants.{Unknown, Arity}
use Rattle.rel_model.specs.declared.Lack.TheVariants.{NoMemory}
use Rattle.rel_model.specs.Relation.{Relation}
use Rattle.rel_model.specs.Worker.{Worker}
use Rattle.rel_slices.specs.Thin.{value_of}
use Rattle.rel_values.specs.Values.{Fits, owed}
use Rattle.lang_model.specs.Defining.{defines}
use Rattle.rv_types.specs.Defining.{IsDefinition}
use Rattle.rv_eval.specs.declared.halt.Halt.{Halt}
use Rattle.rv_eval.specs.declared.halt.Halt.TheVariants.{Ill as ILL, Lack as LACK}
use Rattle.rv_eval.specs.Ends.{Ends}
use Rattle.rv_eval.proofs.Going.{refuses, lacks}
use Rattle.lang_model.specs.Outcomes.{Ill, refused, and_then}
use Rattle.rv_eval.specs.Names.{beside}
use Rattle.rv_eval.specs.Values.{state_by, names_owe, values_owe}
use Rattle.lang_model.specs.Mean.{around_with, mean, run_by, bound, item_named, takes_arguments, body_of, called, calls_within}
use Rattle.rv_eval.proofs.Fitting.{state_bound}
use Rattle.rv_eval.proofs.Owing.{most-beside}
use Rattle.rv_eval.proofs.Unfolding.{item_found, item_missing}
use Rattle.lang_model.proofs.Weights.{weight, weight_by, weight_of_item, scale, below_scale, rank_falls}

pub same_length : {X Y : Type 0} (f : X → Y) (xs : List X) → length (map f xs) ≡ length xs
same_length f [] = refl
same_length f (x ∷ xs) = ap suc (same_length f xs)

pub equal_passes : (m n : ℕ) → m ≡ n → (m == n) ≡ true
equal_passes m n e = grind (arith, nat_tests, e)

-- what is found under a name that is read is what is defined
pub defined : (items : List Item) {read name : List ℕ} (item : Option Item) → read ≡ name → IsDefinition items read item
    → IsDefinition items name item
defined items item e d = subst (λ x. IsDefinition items x item) e d

-- what parameters are bound to owes no more than the arguments
pub beside_owe : (least : ℕ) (names : List (List ℕ × Value)) (ps : List (List ℕ)) (vs : List Value) → names ≡ beside ps vs
    → names_owe least names ≤ values_owe least vs
beside_owe least names ps vs e =
    let same = ap (names_owe least) e in
    let less = most-beside (owed least) ps vs in
    omega (arith, same, less)

definition_found : (items : List Item) (name : List ℕ) (item : Item) → IsDefinition items name (Some item) → item_named items name ≡ Some item
definition_found items name item d = ap (λ xs. item_named xs name) d.2 ∙ item_found name d.0 d.1 item d.4 d.3

-- with a rank left, a call is of the item that is found
ranked : (items : List Item) (rank : ℕ) (at : Place) (name : List ℕ) (values : List Relation) (n : ℕ) → rank ≢ 0 → calls_within items rank at name values n ≡ called (calls_within items (rank - 1)) at name (item_named items name) values n
ranked items zero at name values n h = absurd (h refl)
ranked items (suc r) at name values n h = let e : suc r - 1 ≡ r = omega arith in ap (λ k. called (calls_within items k) at name (item_named items name) values n) (sym e)

pub call_of : (items : List Item) (rank : ℕ) (at : Place) (name : List ℕ) (values : List Relation) (n : ℕ) (item : Item) → rank ≢ 0 → IsDefinition items name (Some item) → takes_arguments item ≡ length values →
    calls_within items rank at name values n ≡ body_of (calls_within items (rank - 1)) values item n
call_of items rank at name values n item h d e =
    ranked items rank at name values n h ∙ ap (λ o. called (calls_within items (rank - 1)) at name o values n) (definition_found items name item d)
    ∙ ap (λ b. cond b (body_of (calls_within items (rank - 1)) values item n) (refused (Ill (Arity at name (takes_arguments item) (length values))))) (equal_passes _ _ e)

pub call_wrong : (items : List Item) (rank : ℕ) (at : Place) (name : List ℕ) (w : Worker) (vs : List Value) (n : ℕ) (item : Item) (takes : ℕ) → rank ≢ 0 → IsDefinition items name (Some item) → takes_arguments item ≡ takes →
    (takes == length vs) ≡ false → calls_within items rank at name (map (value_of w) vs) n ≡ refused (Ill (Arity at name takes (length vs)))
call_wrong items rank at name w vs n item takes h d t e =
    let values = map (value_of w) vs in
    let wrong : (takes_arguments item == length values) ≡ false = ap (λ k. k == length values) t ∙ ap (λ k. takes == k) (same_length (value_of w) vs) ∙ e in
    ranked items rank at name values n h ∙ ap (λ o. called (calls_within items (rank - 1)) at name o values n) (definition_found items name item d)
    ∙ ap (λ b. cond b (body_of (calls_within items (rank - 1)) values item n) (refused (Ill (Arity at name (takes_arguments item) (length values))))) wrong
    ∙ ap (λ k. refused (Ill (Arity at name k (length values)))) t ∙ ap (λ k. refused (Ill (Arity at name takes k))) (same_length (value_of w) vs)

pub call_missing : (items : List Item) (rank : ℕ) (at : Place) (name : List ℕ) (values : List Relation) (n : ℕ) → rank ≢ 0 → IsDefinition items name None → calls_within items rank at name values n ≡ refused (Ill (Unknown at name))
call_missing items rank at name values n h d = ranked items rank at name values n h ∙ ap (λ o. called (calls_within items (rank - 1)) at name o values n) (item_missing name items d)

pub not_command : (items : List Item) (name : List ℕ) (item : Item) (command : _) → IsDefinition items name (Some item) → item ≡ COMMAND command → ⊥
not_command items name item command d e = let f : false ≡ true = sym (ap (defines name) e) ∙ d.3 in cc

module _ (items : List Item) (rank : ℕ) (name : List ℕ) (item : Item) (h : rank ≢ 0) (d : IsDefinition items name (Some item)) where
  below : 4 * weight_of_item item + 4 ≤ scale items
  below = below_scale items d.0 d.1 item d.2

  pub function_falls : (at : _) (own : _) (params : _) (body : _) → item ≡ Function at own params body → (rank - 1) * scale items + 4 * weight body < rank * scale items
  function_falls at own params body e =
      let w : weight_of_item item ≡ weight body = ap weight_of_item e in
      rank_falls rank (scale items) (4 * weight body) h (omega (arith, below, w))

  pub program_falls : (at : _) (own : _) (params : _) (decls : _) (body : _) (result : _) (ss : _) → item ≡ Program at own params decls body result → ss ≡ body.items
      → (rank - 1) * scale items + (4 * (weight_by ss + weight result) + 3) < rank * scale items
  program_falls at own params decls body result ss e read =
      let w : weight_of_item item ≡ weight_by body.items + weight result = ap weight_of_item e in
      let same : weight_by ss ≡ weight_by body.items = ap weight_by read in
      rank_falls rank (scale items) (4 * (weight_by ss + weight result) + 3) h (omega (arith, below, w, same))

  module _ (place : Place) (w : Worker) (ps : List (List ℕ)) (vs : List Value) (names : List (List ℕ × Value)) (n : ℕ) (many : length ps ≡ length vs) (beside_them : names ≡ beside ps vs) (stand : AllByRecursion (Fits w) vs) where
    same_state : state_by w names ≡ bound ps (map (value_of w) vs)
    same_state = ap (state_by w) beside_them ∙ state_bound w ps vs stand

    enough : (takes : ℕ) → takes ≡ length ps → takes ≡ length (map (value_of w) vs)
    enough takes e = e ∙ many ∙ sym (same_length (value_of w) vs)

    pub function_means : (at : _) (own : _) (params : _) (body : _) → item ≡ Function at own params body → ps ≡ params.items →
        calls_within items rank place name (map (value_of w) vs) n ≡ mean (around_with (calls_within items (rank - 1)) []) (state_by w names) body n
    function_means at own params body e p =
        call_of items rank place name (map (value_of w) vs) n item h d (enough (takes_arguments item) (ap takes_arguments e ∙ sym (ap length p)))
        ∙ ap (λ i. body_of (calls_within items (rank - 1)) (map (value_of w) vs) i n) e
        ∙ ap (λ s. mean (around_with (calls_within items (rank - 1)) []) s body n) (ap (λ xs. bound xs (map (value_of w) vs)) (sym p) ∙ sym same_state)

    pub program_means : (at : _) (own : _) (params : _) (decls : _) (body : _) (result : _) → item ≡ Program at own params decls body result → ps ≡ params.items →
        calls_within items rank place name (map (value_of w) vs) n
        ≡ and_then (run_by (around_with (calls_within items (rank - 1)) decls.items) body.items (state_by w names) n) (λ s m. mean (around_with (calls_within items (rank - 1)) decls.items) s result m)
    program_means at own params decls body result e p =
        let a = around_with (calls_within items (rank - 1)) decls.items in
        call_of items rank place name (map (value_of w) vs) n item h d (enough (takes_arguments item) (ap takes_arguments e ∙ sym (ap length p)))
        ∙ ap (λ i. body_of (calls_within items (rank - 1)) (map (value_of w) vs) i n) e
        ∙ ap (λ s. and_then (run_by a body.items s n) (λ t m. mean a t result m)) (ap (λ xs. bound xs (map (value_of w) vs)) (sym p) ∙ sym same_state)

    -- the same with lists for its declarations and its statements
    pub program_reads : (at : _) (own : _) (params : _) (decls : _) (body : _) (result : _) (ds : _) (ss : _) → item ≡ Program at own params decls body result → ps ≡ params.items → ds ≡ decls.items → ss ≡ body.items →
        calls_within items rank place name (map (value_of w) vs) n
        ≡ and_then (run_by (around_with (calls_within items (rank - 1)) ds) ss (state_by w names) n) (λ s m. mean (around_with (calls_within items (rank - 1)) ds) s result m)
    program_reads at own params decls body result ds ss e p d' s' =
        program_means at own params decls body result e p
        ∙ ap (λ xs. and_then (run_by (around_with (calls_within items (rank - 1)) decls.items) xs (state_by w names) n) (λ s m. mean (around_with (calls_within items (rank - 1)) decls.items) s result m)) (sym s')
        ∙ ap (λ xs. and_then (run_by (around_with (calls_within items (rank - 1)) xs) ss (state_by w names) n) (λ s m. mean (around_with (calls_within items (rank - 1)) xs) s result m)) (sym d')

-- arguments that are too many or too few, or want of memory
pub bound_err : {leaf start : ℕ} (items : List Item) (rank : ℕ) (at : Place) (name : List ℕ) (w : Worker) (vs : List Value) (n : ℕ) (item : Item) (ps : List (List ℕ)) (halt : Halt) (is : Value → Relation) (owing : Value → ℕ) → rank ≢ 0 → IsDefinition items name (Some item) → takes_arguments item ≡ length ps →
    (halt ≡ LACK NoMemory) ⊎ (((length ps == length vs) ≡ false) × (halt ≡ ILL (Arity at name (length ps) (length vs)))) → Ends leaf w w n n start (calls_within items rank at name (map (value_of w) vs) n) is owing (Err halt)
bound_err items rank at name w vs n item ps halt is owing h d t (inl m) = lacks w n (calls_within items rank at name (map (value_of w) vs) n) is owing halt m
bound_err items rank at name w vs n item ps halt is owing h d t (inr a) = refuses w n (calls_within items rank at name (map (value_of w) vs) n) (Arity at name (length ps) (length vs)) is owing halt (call_wrong items rank at name w vs n item (length ps) h d t a.0) (inl a.1)
