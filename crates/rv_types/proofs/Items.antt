-- The faults of an item as the walk finds them, and what one more item changes.
use Rattle.std.proofs.Common.{◌≡◌, ◌<◌, ◌+◌, ◌++◌, ◌∙◌, ℕ, max, nat_lt, cond, List, [], ◌∷◌, length, drop, get_or, Option, Some, None, is_some, refl, sym, ap}
use Rattle.std.proofs.lemmas.List.{drop_more}
use Rattle.lang_model.specs.declared.syntax.Place.{Place}
use Rattle.lang_model.specs.declared.syntax.Expr.{Expr}
use Rattle.lang_model.specs.declared.syntax.Let.{Let as LetOf}
use Rattle.lang_model.specs.declared.syntax.Item.{Item}
use Rattle.lang_model.specs.declared.syntax.Item.TheVariants.{Function, Program, Command as COMMAND}
use Rattle.lang_model.specs.declared.faults.TypeFault.{TypeFault}
use Rattle.lang_model.specs.declared.faults.TypeFault.TheVariants.{Rank, Twice}
use Rattle.lang_model.specs.Tokens.{same_text}
use Rattle.lang_model.specs.Checking.{among, no_name, Known, names_of, Scope, faults, faults_by, assigned_by, parameter_faults, head_faults, decl_faults, let_faults, function_scope, program_scope, command_scope, rank_of, item_faults, known_with, items_faults}
use Rattle.lang_model.specs.Limits.{rank_limit}
use Rattle.rv_types.specs.Found.{noted}
use Rattle.rv_types.specs.Items.{value_of_command, lets_of_command}
use Rattle.rv_types.proofs.Walks.{noted-append}
use Rattle.rv_types.proofs.Naming.{or_known, definition_of-push}
use Rattle.rv_types.proofs.Agreeing.{SameDefinitions, Agrees, same-faults, same-faults_by, same-called, same-called_by_all}
use Rattle.rv_types.proofs.Heads.{among-names_of}
use Rattle.rv_types.proofs.Scoping.{faults_of_parts, command_faults-parts}

pub noted-function : (t : Option TypeFault) (E : List Known) (at : _) (name : _) (params : _) (body : _) (ps : List (List ℕ)) (rank : ℕ) → rank ≡ rank_of E (Function at name params body) → ps ≡ params.items →
    noted (noted t (head_faults E at name ps rank)) (faults (function_scope E ps) no_name body) ≡ noted t (item_faults E (Function at name params body))
unfolding item_faults
noted-function t E at name params body ps rank r e =
    (λ i. noted (noted t (head_faults E at name (e i) (r i))) (faults (function_scope E (e i)) no_name body))
    ∙ sym (noted-append t (head_faults E at name params.items (rank_of E (Function at name params body))) (faults (function_scope E params.items) no_name body))

-- to note the faults of a program's head, declarations, statements and result one after another is to note all faults
-- of the item
pub noted-program : (t : Option TypeFault) (E : List Known) (at : _) (name : _) (params : _) (decls : _) (body : _) (value : _) (ps : List (List ℕ)) (ds : _) (ss : _) (rank : ℕ) → rank ≡ rank_of E (Program at name params decls body value)
    → ps ≡ params.items → ds ≡ decls.items → ss ≡ body.items →
    noted (noted (noted (noted t (head_faults E at name ps rank)) (decl_faults ps ps ds)) (faults_by (program_scope E ps ds) no_name ss)) (faults (program_scope E ps ds) (assigned_by no_name ss) value)
    ≡ noted t (item_faults E (Program at name params decls body value))
unfolding item_faults
noted-program t E at name params decls body value ps ds ss rank r e d s =
    let scope = program_scope E params.items decls.items in
    let head = head_faults E at name params.items (rank_of E (Program at name params decls body value)) in
    let decl = decl_faults params.items params.items decls.items in
    let walk = faults_by scope no_name body.items in
    let last = faults scope (assigned_by no_name body.items) value in
    (λ i. noted (noted (noted (noted t (head_faults E at name (e i) (r i))) (decl_faults (e i) (e i) (d i))) (faults_by (program_scope E (e i) (d i)) no_name (s i))) (faults (program_scope E (e i) (d i)) (assigned_by no_name (s i)) value))
    ∙ sym (noted-append t head (decl ++ (walk ++ last)) ∙ noted-append (noted t head) decl (walk ++ last) ∙ noted-append (noted (noted t head) decl) walk last)

-- one more item
same-rank_of : (D E : List Known) → SameDefinitions D E → (item : Item) → rank_of D item ≡ rank_of E item
unfolding rank_of
same-rank_of D E h (Function at name params body) = ap (λ r. r + 1) (same-called D E h body)
same-rank_of D E h (Program at name params decls body result) = λ i. max (same-called_by_all D E h body.items i) (same-called D E h result i) + 1
same-rank_of D E h (COMMAND command) = refl

same-push : (D E : List Known) → SameDefinitions D E → (d e : Known) → d ≡ e → SameDefinitions (D ++ d ∷ []) (E ++ e ∷ [])
same-push D E h d e p n =
    definition_of-push D d n ∙ (λ i. or_known (h n i) (cond (same_text (p i).name n) (Some (p i)) None)) ∙ sym (definition_of-push E e n)

same-known_with : (D E : List Known) → SameDefinitions D E → (item : Item) → SameDefinitions (known_with D item) (known_with E item)
unfolding known_with
same-known_with D E h (Function at name params body) =
    same-push D E h _ _ (λ i. record { name = name; takes = length params.items; rank = same-rank_of D E h (Function at name params body) i })
same-known_with D E h (Program at name params decls body result) =
    same-push D E h _ _ (λ i. record { name = name; takes = length params.items; rank = same-rank_of D E h (Program at name params decls body result) i })
same-known_with D E h (COMMAND command) = h

same-head_faults : (D E : List Known) → SameDefinitions D E → (at : Place) (name : List ℕ) (params : List (List ℕ)) (rank : ℕ) → head_faults D at name params rank ≡ head_faults E at name params rank
unfolding head_faults
same-head_faults D E h at name params rank =
    let there : among (names_of D) name ≡ among (names_of E) name = among-names_of D name ∙ ap is_some (h name) ∙ sym (among-names_of E name) in
    λ i. cond (nat_lt rank_limit rank) (Rank at name ∷ []) [] ++ (cond (there i) (Twice at name ∷ []) [] ++ parameter_faults at [] params)

same-let_faults : (S T : Scope) → Agrees S T → (lets : List LetOf) → let_faults S lets ≡ let_faults T lets
same-let_faults S T agree [] = refl
same-let_faults S T agree (l ∷ ls) = λ i. same-faults S T agree no_name l.value i ++ same-let_faults S T agree ls i

-- one more assignment of a block
pub noted-let : (S : Scope) (t : Option TypeFault) (ls : List LetOf) (k : ℕ) (l : LetOf) → k < length ls → l ≡ get_or ls k l →
    noted t (let_faults S (drop k ls)) ≡ noted (noted t (faults S no_name l.value)) (let_faults S (drop (k + 1) ls))
noted-let S t ls k l h is =
    ap (λ xs. noted t (let_faults S xs)) (drop_more ls k l h ∙ ap (λ x. x ∷ drop (k + 1) ls) (sym is)) ∙ noted-append t (faults S no_name l.value) (let_faults S (drop (k + 1) ls))

-- an item has the same faults behind definitions that say the same of each name, since its scope takes the same names
same-item_faults : (D E : List Known) → SameDefinitions D E → (item : Item) → item_faults D item ≡ item_faults E item
unfolding item_faults
same-item_faults D E h (Function at name params body) =
    let S = function_scope D params.items in
    let T = function_scope E params.items in
    let agree : Agrees S T = record { same_kind = refl; same_parameters = λ n. refl; same_variables = λ n. refl; same_products = λ n. refl; same_sums = λ n. refl; same_earlier = h } in
    let rank = rank_of D (Function at name params body) in
    let head = same-head_faults D E h at name params.items rank ∙ ap (head_faults E at name params.items) (same-rank_of D E h (Function at name params body)) in
    λ i. head i ++ same-faults S T agree no_name body i
same-item_faults D E h (Program at name params decls body result) =
    let S = program_scope D params.items decls.items in
    let T = program_scope E params.items decls.items in
    let agree : Agrees S T = record { same_kind = refl; same_parameters = λ n. refl; same_variables = λ n. refl; same_products = λ n. refl; same_sums = λ n. refl; same_earlier = h } in
    let rank = rank_of D (Program at name params decls body result) in
    let head = same-head_faults D E h at name params.items rank ∙ ap (head_faults E at name params.items) (same-rank_of D E h (Program at name params decls body result)) in
    λ i. head i ++ (decl_faults params.items params.items decls.items ++ (same-faults_by S T agree no_name body.items i ++ same-faults S T agree (assigned_by no_name body.items) result i))
same-item_faults D E h (COMMAND command) =
    let S = command_scope D in
    let T = command_scope E in
    let agree : Agrees S T = record { same_kind = refl; same_parameters = λ n. refl; same_variables = λ n. refl; same_products = λ n. refl; same_sums = λ n. refl; same_earlier = h } in
    command_faults-parts D command ∙ by S T agree (lets_of_command command) (value_of_command command) ∙ sym (command_faults-parts E command)
  where
    by : (S T : Scope) → Agrees S T → (lets : Option (List LetOf)) (o : Option Expr) → faults_of_parts S lets o ≡ faults_of_parts T lets o
    by S T agree (Some lets) o = same-let_faults S T agree lets
    by S T agree None None = refl
    by S T agree None (Some e) = same-faults S T agree no_name e

same-items_faults : (D E : List Known) → SameDefinitions D E → (items : List Item) → items_faults D items ≡ items_faults E items
same-items_faults D E h [] = refl
same-items_faults D E h (item ∷ items) = λ i. same-item_faults D E h item i ++ same-items_faults (known_with D item) (known_with E item) (same-known_with D E h item) items i

pub noted-item : (t : Option TypeFault) (D E : List Known) (items : List Item) (k : ℕ) (item : Item) → k < length items → item ≡ get_or items k item → SameDefinitions E (known_with D item) →
    noted t (items_faults D (drop k items)) ≡ noted (noted t (item_faults D item)) (items_faults E (drop (k + 1) items))
noted-item t D E items k item h is same =
    let rest = drop (k + 1) items in
    ap (λ xs. noted t (items_faults D xs)) (drop_more items k item h ∙ ap (λ x. x ∷ rest) (sym is)) ∙ noted-append t (item_faults D item) (items_faults (known_with D item) rest)
    ∙ ap (noted (noted t (item_faults D item))) (same-items_faults (known_with D item) E (λ n. sym (same n)) rest)
