-- What names mean while a worker goes on, and where names are bound and assigned.
use Rattle.std.proofs.Common.{◌≡◌, ◌∙◌, ℕ, Bool, true, false, cond, List, [], ◌∷◌, ◌++◌, map, Option, Some, None, refl, sym, ap, subst}
use Rattle.std.specs.Prelude.{option_and_then, unwrap_or, IsSome}
use Rattle.std.specs.List.{AllByRecursion}
use Rattle.rel_model.specs.declared.Rel.{Rel}
use Rattle.rel_model.specs.Worker.{Worker, Stands, set_of, Keeps}
use Rattle.rel_model.proofs.Workers.{stands_some}
use Rattle.lang_model.specs.Tokens.{same_text}
use Rattle.lang_model.specs.State.{nothing, assigned}
use Rattle.rv_eval.specs.Names.{rel_of, state_of, AllStand, beside}
use Rattle.lang_model.specs.Mean.{bound}

some_inj : {p q : Rel} → Some p ≡ Some q → p ≡ q
some_inj e = cc

none_some : {q : Rel} → None ≡ Some q → ⊥
none_some e = cc

-- ---- a worker that goes on
pub stands_kept : (w v : Worker) (r : Rel) → Keeps w v → Stands w r → Stands v r
stands_kept w v r k s = subst IsSome (sym (k.same r s)) s

pub set_kept : (w v : Worker) (r : Rel) → Keeps w v → Stands w r → set_of v r ≡ set_of w r
set_kept w v r k s = ap (λ o. unwrap_or o (record { rows = 0; cols = 0; pairs = [] })) (k.same r s)

pub state_kept : (w v : Worker) (names : List (List ℕ × Rel)) → Keeps w v → AllStand w names → state_of v names ≡ state_of w names
state_kept w v names k s = λ i n. at (rel_of names n) (s n) i
  where
    at : (o : Option Rel) → ((r : Rel) → o ≡ Some r → Stands w r) → option_and_then v.relation o ≡ option_and_then w.relation o
    at None s = refl
    at (Some r) s = k.same r (s r refl)

pub all_stand_kept : (w v : Worker) (names : List (List ℕ × Rel)) → Keeps w v → AllStand w names → AllStand v names
all_stand_kept w v names k s = λ n r h. stands_kept w v r k (s n r h)

pub values_kept : (w v : Worker) (rs : List Rel) → Keeps w v → AllByRecursion (Stands w) rs → map (set_of v) rs ≡ map (set_of w) rs
values_kept w v [] k s = refl
values_kept w v (r ∷ rs) k s = ap (λ x. x ∷ map (set_of v) rs) (set_kept w v r k s.0) ∙ ap (λ xs. set_of w r ∷ xs) (values_kept w v rs k s.1)

pub all_values_kept : (w v : Worker) (rs : List Rel) → Keeps w v → AllByRecursion (Stands w) rs → AllByRecursion (Stands v) rs
all_values_kept w v [] k s = tt
all_values_kept w v (r ∷ rs) k s = (stands_kept w v r k s.0, all_values_kept w v rs k s.1)

-- one value more
pub values_more : (w v : Worker) (rs : List Rel) (r : Rel) → Keeps w v → AllByRecursion (Stands w) rs → map (set_of w) rs ++ set_of v r ∷ [] ≡ map (set_of v) (rs ++ r ∷ [])
values_more w v [] r k s = refl
values_more w v (x ∷ xs) r k s = ap (λ y. y ∷ (map (set_of w) xs ++ set_of v r ∷ [])) (sym (set_kept w v x k s.0)) ∙ ap (λ ys. set_of v x ∷ ys) (values_more w v xs r k s.1)

pub all_values_more : (w v : Worker) (rs : List Rel) (r : Rel) → Keeps w v → AllByRecursion (Stands w) rs → Stands v r → AllByRecursion (Stands v) (rs ++ r ∷ [])
all_values_more w v [] r k s h = (h, tt)
all_values_more w v (x ∷ xs) r k s h = (stands_kept w v x k s.0, all_values_more w v xs r k s.1 h)

-- ---- a name
pub state_some : (w : Worker) (names : List (List ℕ × Rel)) (name : List ℕ) (r : Rel) → AllStand w names → rel_of names name ≡ Some r → state_of w names name ≡ Some (set_of w r)
state_some w names name r s e = ap (option_and_then w.relation) e ∙ stands_some w r (s name r e)

pub state_none : (w : Worker) (names : List (List ℕ × Rel)) (name : List ℕ) → rel_of names name ≡ None → state_of w names name ≡ None
state_none w names name e = ap (option_and_then w.relation) e

-- ---- an assignment
pub state_assigned : (w : Worker) (old new : List (List ℕ × Rel)) (name : List ℕ) (r : Rel) → Stands w r → ((n : List ℕ) → rel_of new n ≡ cond (same_text name n) (Some r) (rel_of old n)) →
    state_of w new ≡ assigned name (set_of w r) (state_of w old)
unfolding assigned
state_assigned w old new name r s e = λ i n. (ap (option_and_then w.relation) (e n) ∙ at (same_text name n) (rel_of old n)) i
  where
    at : (b : Bool) (o : Option Rel) → option_and_then w.relation (cond b (Some r) o) ≡ cond b (Some (set_of w r)) (option_and_then w.relation o)
    at true o = stands_some w r s
    at false o = refl

pub all_stand_assigned : (w : Worker) (old new : List (List ℕ × Rel)) (name : List ℕ) (r : Rel) → Stands w r → AllStand w old → ((n : List ℕ) → rel_of new n ≡ cond (same_text name n) (Some r) (rel_of old n)) → AllStand w new
all_stand_assigned w old new name r s all e = λ n x h. at n x (same_text name n) (sym (e n) ∙ h)
  where
    at : (n : List ℕ) (x : Rel) (b : Bool) → cond b (Some r) (rel_of old n) ≡ Some x → Stands w x
    at n x true h = subst (λ y. Stands w y) (some_inj h) s
    at n x false h = all n x h

-- ---- parameters
pub state_bound : (w : Worker) (ps : List (List ℕ)) (vs : List Rel) → AllByRecursion (Stands w) vs → state_of w (beside ps vs) ≡ bound ps (map (set_of w) vs)
unfolding nothing assigned
state_bound w [] vs s = refl
state_bound w (p ∷ ps) [] s = refl
state_bound w (p ∷ ps) (v ∷ vs) s = λ i n. at (state_bound w ps vs s.1) n (same_text p n) i
  where
    at : state_of w (beside ps vs) ≡ bound ps (map (set_of w) vs) → (n : List ℕ) (b : Bool) → option_and_then w.relation (cond b (Some v) (rel_of (beside ps vs) n)) ≡ cond b (Some (set_of w v)) (bound ps (map (set_of w) vs) n)
    at e n true = stands_some w v s.0
    at e n false = ap (λ f. f n) e

pub all_stand_bound : (w : Worker) (ps : List (List ℕ)) (vs : List Rel) → AllByRecursion (Stands w) vs → AllStand w (beside ps vs)
all_stand_bound w [] vs s = λ n r h. absurd (none_some h)
all_stand_bound w (p ∷ ps) [] s = λ n r h. absurd (none_some h)
all_stand_bound w (p ∷ ps) (v ∷ vs) s = λ n r h. at (all_stand_bound w ps vs s.1) n r (same_text p n) h
  where
    at : AllStand w (beside ps vs) → (n : List ℕ) (r : Rel) (b : Bool) → cond b (Some v) (rel_of (beside ps vs) n) ≡ Some r → Stands w r
    at all n r true h = subst (λ y. Stands w y) (some_inj h) s.0
    at all n r false h = all n r h
