-- Calls of definitions: the type of the body of the item that is found, and that it weighs less than one rank.
use Rattle.std.proofs.Common.{◌≡◌, ◌≢◌, ◌<◌, ◌≤◌, ◌+◌, ◌*◌, ◌-◌, ◌==◌, ◌++◌, ◌||◌, ◌∙◌, ℕ, zero, suc, Bool, true, false, cond, List, [], ◌∷◌, length, Some, None, refl, sym, ap, arith}
use Rattle.std.specs.List.{list_any}
use Rattle.lang_model.specs.declared.syntax.Place.{Place}
use Rattle.lang_model.specs.declared.syntax.Expr.{Expr}
use Rattle.lang_model.specs.declared.syntax.Stmt.{Stmt}
use Rattle.lang_model.specs.declared.syntax.Decl.{Decl}
use Rattle.lang_model.specs.declared.syntax.Item.{Item}
use Rattle.lang_model.specs.declared.syntax.Item.TheVariants.{Function, Program, Command as COMMAND}
use Rattle.lang_model.specs.declared.faults.StaticShape.{StaticShape}
use Rattle.lang_model.specs.declared.faults.TypeFault.{TypeFault}
use Rattle.lang_model.specs.declared.faults.TypeFault.TheVariants.{Unknown, Arity}
use Rattle.lang_model.specs.Defining.{defines}
use Rattle.lang_model.specs.Mean.{item_named, takes_arguments}
use Rattle.lang_model.specs.Types.{Fits, Misfit}
use Rattle.lang_model.specs.Shape.{passing, AroundTypes, shape, typed_by, around_types, types_bound, type_of_body, type_of_called, types_of_calls}
use Rattle.rv_types.specs.Defining.{NoneDefines, IsDefinition}
use Rattle.rv_types.specs.Shaping.{types_of, beside, with_arguments}
use Rattle.rv_types.proofs.Bound.{types_of-beside}
use Rattle.lang_model.proofs.Weights.{weight, weight_by, weight_of_item, scale, below_scale, rank_falls}

-- ---- the item
item_found : (name : List ℕ) (before behind : List Item) (item : Item) → NoneDefines name before → defines name item ≡ true → item_named (before ++ item ∷ behind) name ≡ Some item
item_found name [] behind item n d = ap (λ b. cond b (Some item) (item_named behind name)) d
item_found name (x ∷ xs) behind item n d = at (defines name x) n (λ m. item_found name xs behind item m d)
  where
    at : (b : Bool) → (b || list_any (defines name) xs) ≡ false → (NoneDefines name xs → item_named (xs ++ item ∷ behind) name ≡ Some item) → cond b (Some x) (item_named (xs ++ item ∷ behind) name) ≡ Some item
    at true h f = absurd (let e : true ≡ false = h in cc)
    at false h f = f h

item_missing : (name : List ℕ) (items : List Item) → NoneDefines name items → item_named items name ≡ None
item_missing name [] n = refl
item_missing name (x ∷ xs) n = at (defines name x) n (item_missing name xs)
  where
    at : (b : Bool) → (b || list_any (defines name) xs) ≡ false → (NoneDefines name xs → item_named xs name ≡ None) → cond b (Some x) (item_named xs name) ≡ None
    at true h f = absurd (let e : true ≡ false = h in cc)
    at false h f = f h

definition_found : (items : List Item) (name : List ℕ) (item : Item) → IsDefinition items name (Some item) → item_named items name ≡ Some item
definition_found items name item d = ap (λ xs. item_named xs name) d.2 ∙ item_found name d.0 d.1 item d.4 d.3

pub not_command : (items : List Item) (name : List ℕ) (item : Item) (command : _) → IsDefinition items name (Some item) → item ≡ COMMAND command → ⊥
not_command items name item command d e = let f : false ≡ true = sym (ap (defines name) e) ∙ d.3 in cc

-- ---- the call
-- with a rank left, a call is of the item that is found
ranked : (items : List Item) (rank : ℕ) (at : Place) (name : List ℕ) (ss : List StaticShape) → rank ≢ 0 →
    types_of_calls items rank at name ss ≡ type_of_called (types_of_calls items (rank - 1)) at name (item_named items name) ss
ranked items zero at name ss h = absurd (h refl)
ranked items (suc r) at name ss h = let e : suc r - 1 ≡ r = omega arith in ap (λ k. type_of_called (types_of_calls items k) at name (item_named items name) ss) (sym e)

pub calls_missing : (items : List Item) (rank : ℕ) (at : Place) (name : List ℕ) (ss : List StaticShape) → rank ≢ 0 → IsDefinition items name None → types_of_calls items rank at name ss ≡ Misfit (Unknown at name)
calls_missing items rank at name ss h d = ranked items rank at name ss h ∙ ap (λ o. type_of_called (types_of_calls items (rank - 1)) at name o ss) (item_missing name items d)

-- the types of arguments are bound where there are as many as parameters
function_bound : (A : AroundTypes) (ps : List (List ℕ)) (ss : List StaticShape) (f : TypeFault) (body : Expr) (b : Bool) →
    cond b (shape A (types_bound ps ss) body) (Misfit f) ≡ passing (cond b (Fits (beside ps ss)) (Misfit f)) (λ ns. shape A (types_of ns) body)
function_bound A ps ss f body true = ap (λ T. shape A T body) (sym (types_of-beside ps ss))
function_bound A ps ss f body false = refl

program_bound : (A : AroundTypes) (ps : List (List ℕ)) (ss : List StaticShape) (f : TypeFault) (body : List Stmt) (value : Expr) (b : Bool) →
    cond b (passing (typed_by A body (types_bound ps ss)) (λ T. shape A T value)) (Misfit f)
    ≡ passing (cond b (Fits (beside ps ss)) (Misfit f)) (λ ns. passing (typed_by A body (types_of ns)) (λ T. shape A T value))
program_bound A ps ss f body value true = ap (λ T. passing (typed_by A body T) (λ U. shape A U value)) (sym (types_of-beside ps ss))
program_bound A ps ss f body value false = refl

module _ (items : List Item) (rank : ℕ) (name : List ℕ) (item : Item) (h : rank ≢ 0) (d : IsDefinition items name (Some item)) where
  given : (at : Place) (ss : List StaticShape) →
      types_of_calls items rank at name ss
      ≡ cond (takes_arguments item == length ss) (type_of_body (types_of_calls items (rank - 1)) ss item) (Misfit (Arity at name (takes_arguments item) (length ss)))
  given at ss = ranked items rank at name ss h ∙ ap (λ o. type_of_called (types_of_calls items (rank - 1)) at name o ss) (definition_found items name item d)

  pub calls_function : (at : Place) (ss : List StaticShape) (place : _) (own : _) (params : _) (body : _) (ps : List (List ℕ)) → item ≡ Function place own params body → ps ≡ params.items →
      types_of_calls items rank at name ss ≡ passing (with_arguments at name ps ss) (λ ns. shape (around_types (types_of_calls items (rank - 1)) []) (types_of ns) body)
  calls_function at ss place own params body ps e p =
      let calls = types_of_calls items (rank - 1) in
      given at ss ∙ ap (λ x. cond (takes_arguments x == length ss) (type_of_body calls ss x) (Misfit (Arity at name (takes_arguments x) (length ss)))) e
      ∙ function_bound (around_types calls []) params.items ss (Arity at name (length params.items) (length ss)) body (length params.items == length ss)
      ∙ ap (λ qs. passing (with_arguments at name qs ss) (λ ns. shape (around_types calls []) (types_of ns) body)) (sym p)

  pub calls_program : (at : Place) (ss : List StaticShape) (place : _) (own : _) (params : _) (decls : _) (body : _) (value : _) (ps : List (List ℕ)) (ds : List Decl) (stmts : List Stmt) →
      item ≡ Program place own params decls body value → ps ≡ params.items → ds ≡ decls.items → stmts ≡ body.items →
      types_of_calls items rank at name ss
      ≡ passing (with_arguments at name ps ss)
      (λ ns. passing (typed_by (around_types (types_of_calls items (rank - 1)) ds) stmts (types_of ns)) (λ T. shape (around_types (types_of_calls items (rank - 1)) ds) T value))
  calls_program at ss place own params decls body value ps ds stmts e p q r =
      let calls = types_of_calls items (rank - 1) in
      given at ss ∙ ap (λ x. cond (takes_arguments x == length ss) (type_of_body calls ss x) (Misfit (Arity at name (takes_arguments x) (length ss)))) e
      ∙ program_bound (around_types calls decls.items) params.items ss (Arity at name (length params.items) (length ss)) body.items value (length params.items == length ss)
      ∙ (λ i. passing (with_arguments at name (sym p i) ss) (λ ns. passing (typed_by (around_types calls (sym q i)) (sym r i) (types_of ns)) (λ T. shape (around_types calls (sym q i)) T value)))

  below : 4 * weight_of_item item + 4 ≤ scale items
  below = below_scale items d.0 d.1 item d.2

  pub function_falls : (place : _) (own : _) (params : _) (body : _) → item ≡ Function place own params body → (rank - 1) * scale items + 4 * weight body < rank * scale items
  function_falls place own params body e =
      let w : weight_of_item item ≡ weight body = ap weight_of_item e in
      rank_falls rank (scale items) (4 * weight body) h (omega (arith, below, w))

  pub program_falls : (place : _) (own : _) (params : _) (decls : _) (body : _) (value : _) (stmts : List Stmt) → item ≡ Program place own params decls body value → stmts ≡ body.items →
      (rank - 1) * scale items + (4 * (weight_by stmts + weight value) + 3) < rank * scale items
  program_falls place own params decls body value stmts e s =
      let w : weight_of_item item ≡ weight_by body.items + weight value = ap weight_of_item e in
      let same : weight_by stmts ≡ weight_by body.items = ap weight_by s in
      rank_falls rank (scale items) (4 * (weight_by stmts + weight value) + 3) h (omega (arith, below, w, same))
