-- In a checked script calls are Ill by sizes alone.
-- 1. A definition that stands earlier is the first of its name among the items (`found`).
-- 2. Its body has no fault behind the items before it, so it is good where the calls inside are.
-- 3. Those have a lower rank: by induction on how deep calls may stand in one another (`calls-good`).
use Rattle.std.proofs.Common.{◌≡◌, ◌≤◌, ◌==◌, ◌++◌, ◌||◌, ◌∙◌, ◌⊎◌, ℕ, zero, suc, max, nat_lt, not, Bool, true, false, cond, List, [], ◌∷◌, length, Option, Some, None, refl, sym, ap, subst, inl, inr, ⊎_elim, arith}
use Rattle.std.specs.Prelude.{IsSome}
use Rattle.std.specs.List.{list_any}
use Rattle.std.specs.Option.{option_map_or}
use Rattle.std.proofs.lemmas.Bool.Decides.{nat_tests}
use Rattle.lang_model.specs.declared.syntax.Place.{Place}
use Rattle.lang_model.specs.declared.syntax.Base.{Base}
use Rattle.lang_model.specs.declared.syntax.Expr.{Expr, Ref, Call', Base', Inject, Pair', Minus', Turned', Chain', Row_of-Expr, end_of-Expr, more_of-Expr, Row_of-Link, end_of-Link, more_of-Link}
use Rattle.lang_model.specs.declared.syntax.Decl.{Decl}
use Rattle.lang_model.specs.declared.syntax.Decl.TheVariants.{Variable, Domain}
use Rattle.lang_model.specs.declared.syntax.Command.{Command}
use Rattle.lang_model.specs.declared.syntax.Item.{Item}
use Rattle.lang_model.specs.declared.syntax.Item.TheVariants.{Function, Program, Command as COMMAND}
use Rattle.lang_model.specs.declared.faults.TypeFault.TheVariants.{Unknown, Arity, Rank}
use Rattle.rel_model.specs.Relation.{Relation}
use Rattle.lang_model.specs.Tokens.{same_text}
use Rattle.lang_model.specs.State.{State, assigned}
use Rattle.lang_model.specs.Defining.{defines}
use Rattle.lang_model.specs.Missing.{missing}
use Rattle.lang_model.specs.Outcomes.{Ill, refused, with_turns}
use Rattle.lang_model.specs.Checking.{among, no_name, Known, definition_of, is_projection, faults, faults_by, called, called_in, called_along, rank_named, domains_of, operand_faults, decl_faults, head_faults, function_scope, program_scope, command_scope, Scope, rank_of, let_faults, command_faults, item_faults, known_with, items_faults, flaw}
use Rattle.lang_model.specs.Limits.{rank_limit}
use Rattle.lang_model.specs.Mean.{Calls, injected_of, injected_by, domain_named, bound, item_named, takes_arguments, body_of, called as called_as, calls_within, around_with, mean}
use Rattle.rv_types.specs.Items.{value_of_command, RanksWithin}
use Rattle.rv_types.proofs.Defining.{no_fault}
use Rattle.rv_types.proofs.Naming.{or_known, definition_of-push}
use Rattle.rv_types.proofs.Scoping.{faults_of_parts, command_faults-parts, command_faults-value}
use Rattle.lang_model.specs.declared.syntax.Let.{Let as LetOf}
use Rattle.rv_eval.specs.Faultless.{IsOfLets, IsExpressionOf, NoCallIsIll}
use Rattle.rv_eval.proofs.BySizes.{Good, Any, left_none, right_none, no_fault_left, domain-good}
use Rattle.rv_eval.proofs.Faultless.{program-good, function-good, command-good}

-- ---- definitions that stand earlier
-- the definitions behind items
abbrev pub known_of : List Known → List Item → List Known
known_of E [] = E
known_of E (item ∷ items) = known_of (known_with E item) items

-- the item of a definition
record Found (E : List Known) (items : List Item) (name : List ℕ) (d : Known) : Type 0 where
  pub pre : List Item
  pub item : Item
  pub post : List Item
  pub split : items ≡ pre ++ item ∷ post
  pub first : list_any (defines name) pre ≡ false
  pub is : defines name item ≡ true
  pub arguments : takes_arguments item ≡ d.takes
  pub height : rank_of (known_of E pre) item ≡ d.rank

found_further : (E : List Known) (item : Item) (items : List Item) (name : List ℕ) (d : Known) → defines name item ≡ false → Found (known_with E item) items name d → Found E (item ∷ items) name d
found_further E item items name d h f = record {
  pre = item ∷ f.pre;
  item = f.item;
  post = f.post;
  split = ap (λ xs. item ∷ xs) f.split;
  first = ap (λ b. b || list_any (defines name) f.pre) h ∙ f.first;
  is = f.is;
  arguments = f.arguments;
  height = f.height;
}

found_here : (E : List Known) (item : Item) (items : List Item) (name : List ℕ) (d : Known) → defines name item ≡ true → takes_arguments item ≡ d.takes → rank_of E item ≡ d.rank → Found E (item ∷ items) name d
found_here E item items name d h t r = record { pre = []; item = item; post = items; split = refl; first = refl; is = h; arguments = t; height = r }

clash : {d : Known} → None ≡ Some d → ⊥
clash e = cc

same_known : {c d : Known} → Some c ≡ Some d → c ≡ d
same_known e = cc

-- a definition behind one more item: it was there before, or is that of the item
behind-push : (E : List Known) (k : Known) (name : List ℕ) (d : Known) → definition_of (E ++ k ∷ []) name ≡ Some d → (definition_of E name ≡ Some d) ⊎ ((definition_of E name ≡ None) × (same_text k.name name ≡ true) × (k ≡ d))
behind-push E k name d h = by (definition_of E name) (same_text k.name name) refl refl (sym (definition_of-push E k name) ∙ h)
  where
    by : (o : Option Known) (b : Bool) → definition_of E name ≡ o → same_text k.name name ≡ b → or_known o (cond b (Some k) None) ≡ Some d → (definition_of E name ≡ Some d) ⊎ ((definition_of E name ≡ None) × (same_text k.name name ≡ true) × (k ≡ d))
    by (Some x) b e f g = inl (e ∙ g)
    by None true e f g = inr (e, f, same_known g)
    by None false e f g = absurd (clash g)

none-push : (E : List Known) (k : Known) (name : List ℕ) → definition_of (E ++ k ∷ []) name ≡ None → (definition_of E name ≡ None) × (same_text k.name name ≡ false)
none-push E k name h = by (definition_of E name) (same_text k.name name) refl refl (sym (definition_of-push E k name) ∙ h)
  where
    by : (o : Option Known) (b : Bool) → definition_of E name ≡ o → same_text k.name name ≡ b → or_known o (cond b (Some k) None) ≡ None → (definition_of E name ≡ None) × (same_text k.name name ≡ false)
    by (Some x) b e f g = absurd (clash (sym g))
    by None true e f g = absurd (clash (sym g))
    by None false e f g = (e, f)

-- what is found behind more items was there before, or is an item's
abbrev Either : List Known → List Item → List ℕ → Known → Type 0
Either E items name d = (definition_of E name ≡ Some d) ⊎ ((definition_of E name ≡ None) × Found E items name d)

found-item : (E : List Known) (item : Item) (items : List Item) (name : List ℕ) (d : Known) → definition_of (known_with E item) name ≡ Some d → Either E (item ∷ items) name d
unfolding known_with rank_of
found-item E (Function at own params body) items name d h = ⊎_elim inl (λ x. inr (x.0, found_here E (Function at own params body) items name d x.1 (ap (λ k. k.takes) x.2) (ap (λ k. k.rank) x.2))) (behind-push E _ name d h)
found-item E (Program at own params decls body result) items name d h = ⊎_elim inl (λ x. inr (x.0, found_here E (Program at own params decls body result) items name d x.1 (ap (λ k. k.takes) x.2) (ap (λ k. k.rank) x.2))) (behind-push E _ name d h)
found-item E (COMMAND command) items name d h = inl h

found-later : (E : List Known) (item : Item) (items : List Item) (name : List ℕ) (d : Known) → definition_of (known_with E item) name ≡ None → Found (known_with E item) items name d → Either E (item ∷ items) name d
unfolding known_with
found-later E (Function at own params body) items name d h f = let g = none-push E _ name h in inr (g.0, found_further E (Function at own params body) items name d g.1 f)
found-later E (Program at own params decls body result) items name d h f = let g = none-push E _ name h in inr (g.0, found_further E (Program at own params decls body result) items name d g.1 f)
found-later E (COMMAND command) items name d h f = inr (h, found_further E (COMMAND command) items name d refl f)

found-either : (E : List Known) (items : List Item) (name : List ℕ) (d : Known) → definition_of (known_of E items) name ≡ Some d → Either E items name d
found-either E [] name d h = inl h
found-either E (item ∷ items) name d h = ⊎_elim (λ e. found-item E item items name d e) (λ x. found-later E item items name d x.0 x.1) (found-either (known_with E item) items name d h)

found : (items : List Item) (name : List ℕ) (d : Known) → definition_of (known_of [] items) name ≡ Some d → Found [] items name d
found items name d h = ⊎_elim (λ e. absurd (clash e)) (λ x. x.1) (found-either [] items name d h)

-- the first item of a name
named-first : (pre : List Item) (item : Item) (rest : List Item) (name : List ℕ) → list_any (defines name) pre ≡ false → defines name item ≡ true → item_named (pre ++ item ∷ rest) name ≡ Some item
named-first [] item rest name h k = ap (λ b. cond b (Some item) (item_named rest name)) k
named-first (x ∷ pre) item rest name h k = by (defines name x) h (named-first pre item rest name)
  where
    by : (b : Bool) → (b || list_any (defines name) pre) ≡ false → (list_any (defines name) pre ≡ false → defines name item ≡ true → item_named (pre ++ item ∷ rest) name ≡ Some item) → cond b (Some x) (item_named (pre ++ item ∷ rest) name) ≡ Some item
    by true h f = absurd (let e : true ≡ false = h in cc)
    by false h f = f h k

-- no item has a fault behind those before it
item-faultless : (E : List Known) (pre : List Item) (item : Item) (post : List Item) → items_faults E (pre ++ item ∷ post) ≡ [] → item_faults (known_of E pre) item ≡ []
item-faultless E [] item post h = left_none _ _ h
item-faultless E (x ∷ pre) item post h = item-faultless (known_with E x) pre item post (right_none (item_faults E x) _ h)

append_append : (xs ys zs : List Item) → (xs ++ ys) ++ zs ≡ xs ++ (ys ++ zs)
append_append [] ys zs = refl
append_append (x ∷ xs) ys zs = ap (λ us. x ∷ us) (append_append xs ys zs)

-- ---- parameters and domains
params-bound : (ps : List (List ℕ)) (vs : List Relation) → length ps ≡ length vs → (name : List ℕ) → among ps name ≡ true → IsSome (bound ps vs name)
unfolding assigned
params-bound [] vs e name h = absurd (let z : false ≡ true = h in cc)
params-bound (p ∷ ps) [] e name h = absurd (let z : suc (length ps) ≡ 0 = e in omega (arith, z))
params-bound (p ∷ ps) (v ∷ vs) e name h = by (same_text p name) h (params-bound ps vs (let z : suc (length ps) ≡ suc (length vs) = e in omega (arith, z)) name)
  where
    by : (b : Bool) → (b || among ps name) ≡ true → (among ps name ≡ true → IsSome (bound ps vs name)) → IsSome (cond b (Some v) (bound ps vs name))
    by true h f = refl
    by false h f = f h

-- a domain that is declared has two parameters
record OfParams (ps : List (List ℕ)) (o : Option (List ℕ × List ℕ)) : Type 0 where
  pub names : List ℕ × List ℕ
  pub is : o ≡ Some names
  pub left : among ps names.0 ≡ true
  pub right : among ps names.1 ≡ true

operands-known : (ps : List (List ℕ)) (at : Place) (own : List ℕ) (sum : Bool) (left right : List ℕ) → operand_faults ps (Domain at own sum left right) ≡ [] → (among ps left ≡ true) × (among ps right ≡ true)
operands-known ps at own sum left right h = by (among ps left) (among ps right) refl refl h
  where
    by : (b c : Bool) → among ps left ≡ b → among ps right ≡ c → cond b (cond c [] (Unknown at right ∷ [])) (Unknown at left ∷ []) ≡ [] → (among ps left ≡ true) × (among ps right ≡ true)
    by true true e f h = (e, f)
    by true false e f h = absurd (no_fault_left h)
    by false c e f h = absurd (no_fault_left h)

domain-declared : (ps before : List (List ℕ)) (sums : Bool) (ds : List Decl) (domain : List ℕ) → decl_faults ps before ds ≡ [] → among (domains_of sums ds) domain ≡ true → OfParams ps (domain_named ds domain)
domain-declared ps before sums [] domain h k = absurd (let z : false ≡ true = k in cc)
domain-declared ps before sums (Variable at own ∷ ds) domain h k = domain-declared ps (own ∷ before) sums ds domain (right_none _ _ h) k
domain-declared ps before sums (Domain at own sum left right ∷ ds) domain h k =
    by (same_text own domain) (cond sums sum (not sum)) refl k (λ j. domain-declared ps (own ∷ before) sums ds domain (right_none _ _ h) j)
  where
    by : (b c : Bool) → same_text own domain ≡ b → among (cond c (own ∷ domains_of sums ds) (domains_of sums ds)) domain ≡ true → (among (domains_of sums ds) domain ≡ true → OfParams ps (domain_named ds domain)) → OfParams ps (cond b (Some (left, right)) (domain_named ds domain))
    by true c e k f = let o = operands-known ps at own sum left right (right_none _ _ (left_none _ _ h)) in record { names = (left, right); is = refl; left = o.0; right = o.1 }
    by false true e k f = f (ap (λ b. b || among (domains_of sums ds) domain) (sym e) ∙ k)
    by false false e k f = f k

injected-good : (T : State) (at : Place) (base : Base) (ps : List (List ℕ)) (o : Option (List ℕ × List ℕ)) (n : ℕ) → ((name : List ℕ) → among ps name ≡ true → IsSome (T name)) → OfParams ps o → Good Any (with_turns (injected_by T at base o) n).answer
injected-good T at base ps o n p f = subst (λ x. Good Any (with_turns (injected_by T at base x) n).answer) (sym f.is) (by (T f.names.0) (T f.names.1) (p f.names.0 f.left) (p f.names.1 f.right))
  where
    by : (a b : Option Relation) → IsSome a → IsSome b → Good Any (with_turns (injected_of at base a b) n).answer
    by (Some a) (Some b) h k = domain-good at base a.rows b.rows n
    by None b h k = absurd (let z : false ≡ true = h in cc)
    by (Some a) None h k = absurd (let z : false ≡ true = k in cc)

-- ---- calls
abbrev CallsGood : List Known → Calls → ℕ → Type 0
CallsGood E C R = (at : Place) (name : List ℕ) (values : List Relation) (n : ℕ) (d : Known) → definition_of E name ≡ Some d → (d.takes == length values) ≡ true → d.rank ≤ R → Good Any (C at name values n).answer

none_declared : (b : Bool) (domain : List ℕ) → among (cond b [] []) domain ≡ true → ⊥
none_declared true domain k = let z : false ≡ true = k in cc
none_declared false domain k = let z : false ≡ true = k in cc

-- the body of an item without faults, where the calls inside are good
body-good : (E : List Known) (C : Calls) (R : ℕ) → CallsGood E C R → (item : Item) (values : List Relation) (n : ℕ) → item_faults E item ≡ [] → (takes_arguments item == length values) ≡ true → rank_of E item ≤ suc R → Good Any (body_of C values item n).answer
unfolding item_faults rank_of
body-good E C R calls (Function at own params body) values n h t r =
    function-good (function_scope E params.items) C [] R calls
    (λ T p at base domain k m. absurd (let z : among (cond (is_projection base) [] []) domain ≡ true = k in none_declared (is_projection base) domain z)) refl body (right_none _ _ h) (omega (arith, r))
    (bound params.items values) (params-bound params.items values (one_length (length params.items) (length values) t)) n
  where
    one_length : (k l : ℕ) → (k == l) ≡ true → k ≡ l
    one_length k l e = grind (arith, nat_tests, e)
body-good E C R calls (Program at own params decls body result) values n h t r =
    let S = program_scope E params.items decls.items in
    let tail = right_none (head_faults E at own params.items (rank_of E (Program at own params decls body result))) _ h in
    let rest = right_none (decl_faults params.items params.items decls.items) _ tail in
    program-good S C decls.items R calls
    (λ T p at base domain k m. injected-good T at base params.items (domain_named decls.items domain) m p (domain-declared params.items params.items (not (is_projection base)) decls.items domain (left_none _ _ tail) (of_kind (is_projection base) domain k)))
    refl body.items result (left_none _ _ rest) (right_none (faults_by S no_name body.items) _ rest) (omega (arith, r)) (omega (arith, r))
    (bound params.items values) (params-bound params.items values (one_length (length params.items) (length values) t)) n
  where
    one_length : (k l : ℕ) → (k == l) ≡ true → k ≡ l
    one_length k l e = grind (arith, nat_tests, e)

    of_kind : (b : Bool) (domain : List ℕ) → among (cond b (domains_of false decls.items) (domains_of true decls.items)) domain ≡ true → among (domains_of (not b) decls.items) domain ≡ true
    of_kind true domain k = k
    of_kind false domain k = k
body-good E C R calls (COMMAND command) values n h t r = tt

-- a definition has a rank
rank-some : (E : List Known) (item : Item) (name : List ℕ) → defines name item ≡ true → 1 ≤ rank_of E item
unfolding rank_of
rank-some E (Function at own params body) name h = omega arith
rank-some E (Program at own params decls body result) name h = omega arith
rank-some E (COMMAND command) name h = absurd (let z : false ≡ true = h in cc)

-- ---- an expression of a command without a fault
let_faultless : (S : Scope) (lets : List LetOf) (e : Expr) → let_faults S lets ≡ [] → IsOfLets e lets → faults S no_name e ≡ []
let_faultless S [] e h own = absurd own
let_faultless S (l ∷ ls) e h (inl same) = subst (λ x. faults S no_name x ≡ []) same (left_none _ _ h)
let_faultless S (l ∷ ls) e h (inr own) = let_faultless S ls e (right_none _ _ h) own

own_faultless : (E : List Known) (command : Command) (e : Expr) → command_faults E command ≡ [] → IsExpressionOf e command → faults (command_scope E) no_name e ≡ []
own_faultless E command e clean (inl v) = sym (command_faults-value E command e v) ∙ clean
own_faultless E command e clean (inr (lets, is, own)) =
    let_faultless (command_scope E) lets e
    (sym (command_faults-parts E command ∙ ap (λ o. faults_of_parts (command_scope E) o (value_of_command command)) is) ∙ clean) own

-- calls of definitions whose ranks are within a bound
max-within : (a b c : ℕ) → a ≤ c → b ≤ c → max a b ≤ c
max-within a b c h k = omega arith

module _ (E : List Known) (b : ℕ) (h : RanksWithin b E) where
  mutual
    called-low : (e : Expr) → called E e ≤ b
    called-low (Ref at n) = omega arith
    called-low (Call' at n shape args) = max-within (rank_named E n) (called_in E args) b (h n) (called_in-low args)
    called-low (Base' at base shape args) = called_in-low args
    called-low (Inject at base n) = omega arith
    called-low (Pair' at p left q right) = max-within (called E left) (called E right) b (called-low left) (called-low right)
    called-low (Minus' at p of) = called-low of
    called-low (Turned' at p of times) = called-low of
    called-low (Chain' p first shape rest) = max-within (called E first) (called_along E rest) b (called-low first) (called_along-low rest)

    called_in-low : {m : _} (k : Row_of-Expr m) → called_in E k ≤ b
    called_in-low end_of-Expr = omega arith
    called_in-low (more_of-Expr e rest) = max-within (called E e) (called_in E rest) b (called-low e) (called_in-low rest)

    called_along-low : {m : _} (k : Row_of-Link m) → called_along E k ≤ b
    called_along-low end_of-Link = omega arith
    called_along-low (more_of-Link at op right rest) = max-within (called E right) (called_along E rest) b (called-low right) (called_along-low rest)

rank-low : (at : Place) (own : List ℕ) (r : ℕ) → cond (nat_lt rank_limit r) (Rank at own ∷ []) [] ≡ [] → r ≤ rank_limit
rank-low at own r h = by (nat_lt rank_limit r) refl h
  where
    by : (b : Bool) → nat_lt rank_limit r ≡ b → cond b (Rank at own ∷ []) [] ≡ [] → r ≤ rank_limit
    by true e h = absurd (no_fault_left h)
    by false e h = grind (arith, nat_tests, e)

module _ (items : List Item) (faultless : items_faults [] items ≡ []) where
  -- a call within a rank has an answer in a script without a fault, by induction on the rank: the definition is
  -- found, takes as many arguments, and what it calls has a lower rank
  calls-good : (R : ℕ) (before behind : List Item) → items ≡ before ++ behind → CallsGood (known_of [] before) (calls_within items R) R
  calls-good zero before behind e at name values n d h t r =
      let f = found before name d h in
      let some = rank-some (known_of [] f.pre) f.item name f.is in
      absurd (omega (arith, f.height, some, r))
  calls-good (suc R) before behind e at name values n d h t r =
      let f = found before name d h in
      let whole : items ≡ f.pre ++ (f.item ∷ (f.post ++ behind)) = e ∙ ap (λ xs. xs ++ behind) f.split ∙ append_append f.pre (f.item ∷ f.post) behind in
      let own : item_named items name ≡ Some f.item = ap (λ xs. item_named xs name) whole ∙ named-first f.pre f.item (f.post ++ behind) name f.first f.is in
      let count : (takes_arguments f.item == length values) ≡ true = ap (λ k. k == length values) f.arguments ∙ t in
      let height : rank_of (known_of [] f.pre) f.item ≤ suc R = omega (arith, f.height, r) in
      let clean = item-faultless [] f.pre f.item (f.post ++ behind) (subst (λ xs. items_faults [] xs ≡ []) whole faultless) in
      subst (λ o. Good Any (called_as (calls_within items R) at name o values n).answer) (sym own)
      (subst (λ b. Good Any (cond b (body_of (calls_within items R) values f.item n) (refused (Ill (Arity at name (takes_arguments f.item) (length values))))).answer) (sym count)
      (body-good (known_of [] f.pre) (calls_within items R) R (calls-good R f.pre (f.item ∷ (f.post ++ behind)) whole) f.item values n clean count height))

  -- no definition has a rank over the limit
  item-rank : (E : List Known) (item : Item) (name : List ℕ) → item_faults E item ≡ [] → defines name item ≡ true → rank_of E item ≤ rank_limit
  unfolding item_faults head_faults
  item-rank E (Function at own params body) name h k = rank-low at own (rank_of E (Function at own params body)) (left_none _ _ (left_none _ _ h))
  item-rank E (Program at own params decls body result) name h k = rank-low at own (rank_of E (Program at own params decls body result)) (left_none _ _ (left_none _ _ h))
  item-rank E (COMMAND command) name h k = absurd (let z : false ≡ true = k in cc)

  ranks-low : (before behind : List Item) → items ≡ before ++ behind → RanksWithin rank_limit (known_of [] before)
  ranks-low before behind e name = by (definition_of (known_of [] before) name) refl
    where
      by : (o : Option Known) → definition_of (known_of [] before) name ≡ o → option_map_or (λ d. d.rank) o 0 ≤ rank_limit
      by None h = omega arith
      by (Some d) h =
          let f = found before name d h in
          let whole : items ≡ f.pre ++ (f.item ∷ (f.post ++ behind)) = e ∙ ap (λ xs. xs ++ behind) f.split ∙ append_append f.pre (f.item ∷ f.post) behind in
          let clean = item-faultless [] f.pre f.item (f.post ++ behind) (subst (λ xs. items_faults [] xs ≡ []) whole faultless) in
          let low = item-rank (known_of [] f.pre) f.item name clean f.is in
          omega (arith, f.height, low)

  pub meaning-good : (before behind : List Item) (command : Command) (e : Expr) → items ≡ before ++ COMMAND command ∷ behind → IsExpressionOf e command → (T : State) → missing T e ≡ None → (n : ℕ) →
      Good Any (mean (around_with (calls_within items rank_limit) []) T e n).answer
  unfolding item_faults
  meaning-good before behind command e split v T m n =
      let E = known_of [] before in
      let clean : command_faults E command ≡ [] = item-faultless [] before (COMMAND command) behind (subst (λ xs. items_faults [] xs ≡ []) split faultless) in
      let fs : faults (command_scope E) no_name e ≡ [] = own_faultless E command e clean v in
      command-good (command_scope E) (calls_within items rank_limit) [] rank_limit (calls-good rank_limit before (COMMAND command ∷ behind) split)
      (λ U p at base domain k j. absurd (none_declared (is_projection base) domain k)) e fs (called-low E rank_limit (ranks-low before (COMMAND command ∷ behind) split) e) T
      (λ name h. absurd (let z : false ≡ true = h in cc)) m n

pub no_call_is_ill : NoCallIsIll
unfolding flaw
no_call_is_ill script e state n why h own m a =
    subst (Good Any) a (meaning-good script.items.items (no_fault _ h) own.0 own.1 own.2 e own.3 own.4 state m n)
