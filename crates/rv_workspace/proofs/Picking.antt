-- The names that a read takes, one wanted name after another.
use Rattle.std.proofs.Common.{◌≡◌, ◌∙◌, ◌||◌, ◌<◌, ◌+◌, ℕ, Bool, true, false, cond, List, [], ◌∷◌, ◌++◌, length, take, get_or, Option, Some, None, refl, sym, ap}
use Rattle.std.specs.Ordering.{eq_by_cmp}
use Rattle.std.specs.FinMap.{slice_cmp-IsAntisymmetric, nat_cmp-IsAntisymmetric}
use Rattle.std.specs.FinMap.Entries.{find-where_key, is_sorted-where_key}
use Rattle.std.proofs.lemmas.List.{take_more}
use Rattle.std.proofs.lemmas.List.Folds.{list_any-append}
use Rattle.rel_model.specs.declared.Rel.{Rel}
use Rattle.run_model.specs.Names.{compare, lookup, set, IsIncreasing}
use Rattle.run_model.specs.Carried.{Carried}
use Rattle.run_model.proofs.Ordering.{names_laws, one_name}
use Rattle.rv_workspace.specs.Picking.{is_among, among, with_name}

pub lookup-among : (wanted : List (List ℕ)) (names : Carried) (n : List ℕ) → lookup (among wanted names) n ≡ cond (is_among wanted n) (lookup names n) None
lookup-among wanted names n = find-where_key compare (is_among wanted) n (λ x t. ap (is_among wanted) (sym (slice_cmp-IsAntisymmetric nat_cmp-IsAntisymmetric n x t))) names

among_in_order : (wanted : List (List ℕ)) (names : Carried) → IsIncreasing names → IsIncreasing (among wanted names)
among_in_order wanted names h = is_sorted-where_key compare (is_among wanted) names h

none_more : (a b : Bool) (x : Option Rel) → (b ≡ true → x ≡ None) → cond (a || (b || false)) x None ≡ cond a x None
none_more true b x h = refl
none_more false true x h = h refl
none_more false false x h = refl

some_more : (a b : Bool) (x : Option Rel) (r : Rel) → (b ≡ true → x ≡ Some r) → cond (a || (b || false)) x None ≡ cond b (Some r) (cond a x None)
some_more true true x r h = h refl
some_more true false x r h = refl
some_more false true x r h = h refl
some_more false false x r h = refl

-- one wanted name more
one_more : (wanted : List (List ℕ)) (w : List ℕ) (names : Carried) (o : Option Rel) → IsIncreasing names → lookup names w ≡ o → among (wanted ++ w ∷ []) names ≡ with_name w o (among wanted names)
one_more wanted w names None order e =
    names_laws.one_map (among (wanted ++ w ∷ []) names) (among wanted names) (among_in_order _ names order) (among_in_order wanted names order)
    (λ q. lookup-among (wanted ++ w ∷ []) names q
    ∙ ap (λ b. cond b (lookup names q) None) (list_any-append (eq_by_cmp compare q) wanted (w ∷ []))
    ∙ none_more (is_among wanted q) (eq_by_cmp compare q w) (lookup names q) (λ t. ap (lookup names) (one_name q w t) ∙ e)
    ∙ sym (lookup-among wanted names q))
one_more wanted w names (Some r) order e =
    names_laws.one_map (among (wanted ++ w ∷ []) names) (set w r (among wanted names)) (among_in_order _ names order) (names_laws.set_in_order w r _ (among_in_order wanted names order))
    (λ q. lookup-among (wanted ++ w ∷ []) names q
    ∙ ap (λ b. cond b (lookup names q) None) (list_any-append (eq_by_cmp compare q) wanted (w ∷ []))
    ∙ some_more (is_among wanted q) (eq_by_cmp compare q w) (lookup names q) r (λ t. ap (lookup names) (one_name q w t) ∙ e)
    ∙ ap (cond (eq_by_cmp compare q w) (Some r)) (sym (lookup-among wanted names q))
    ∙ sym (names_laws.set_name q w r (among wanted names)))

pub among-take : (wanted : List (List ℕ)) (i : ℕ) (w : List ℕ) (names : Carried) → i < length wanted → w ≡ get_or wanted i w → IsIncreasing names
    → among (take (i + 1) wanted) names ≡ with_name w (lookup names w) (among (take i wanted) names)
among-take wanted i w names h e order =
    ap (λ ws. among ws names) (take_more wanted i w h ∙ ap (λ x. take i wanted ++ x ∷ []) (sym e))
    ∙ one_more (take i wanted) w names (lookup names w) order refl

-- none are wanted
among-nil : (names : Carried) → among [] names ≡ []
among-nil [] = refl
among-nil (e ∷ es) = among-nil es

pub among-none : (wanted : List (List ℕ)) (names : Carried) → among (take 0 wanted) names ≡ []
among-none wanted names = among-nil names
