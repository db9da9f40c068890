-- Relations of names that stand.
use Rattle.std.proofs.Common.{◌≡◌, ℕ, Bool, true, false, cond, List, [], ◌∷◌, ◌++◌, Some, None, sym, subst}
use Rattle.std.specs.List.{AllByRecursion}
use Rattle.rel_model.specs.declared.Rel.{Rel}
use Rattle.rel_model.specs.Worker.{Worker, Stands, Keeps}
use Rattle.rel_model.proofs.Workers.{keeps_stands}
use Rattle.lang_model.specs.Tokens.{same_text}
use Rattle.rv_eval.specs.Names.{rel_of, AllStand}

none_some : {q : Rel} → None ≡ Some q → ⊥
none_some e = cc

some_inj : {p q : Rel} → Some p ≡ Some q → p ≡ q
some_inj e = cc

-- no names
pub no_names : (w : Worker) → AllStand w []
no_names w = λ name r h. absurd (none_some h)

-- a worker that goes on
pub names_kept : (a b : Worker) (names : List (List ℕ × Rel)) → Keeps a b → AllStand a names → AllStand b names
names_kept a b names k s = λ name r h. keeps_stands a b r k (s name r h)

-- what is found behind one more name stands, where all before do
found_more : (w : Worker) (ns : List (List ℕ × Rel)) (own : List ℕ) (r : Rel) → Stands w r → (name : List ℕ) (q : Rel) → ((p : Rel) → rel_of ns name ≡ Some p → Stands w p) → rel_of (ns ++ (own, r) ∷ []) name ≡ Some q → Stands w q
found_more w [] own r t name q s h = one (same_text own name) h
  where
    one : (b : Bool) → cond b (Some r) None ≡ Some q → Stands w q
    one true h = subst (λ y. Stands w y) (some_inj h) t
    one false h = absurd (none_some h)
found_more w (n ∷ ns) own r t name q s h = more (same_text n.0 name) s h (λ f e. found_more w ns own r t name q f e)
  where
    more : (b : Bool) → ((p : Rel) → cond b (Some n.1) (rel_of ns name) ≡ Some p → Stands w p) → cond b (Some n.1) (rel_of (ns ++ (own, r) ∷ []) name) ≡ Some q → (((p : Rel) → rel_of ns name ≡ Some p → Stands w p) → rel_of (ns ++ (own, r) ∷ []) name ≡ Some q → Stands w q) → Stands w q
    more true s h f = s q h
    more false s h f = f s h

-- one name more
pub names_more : (w : Worker) (names : List (List ℕ × Rel)) (own : List ℕ) (r : Rel) → AllStand w names → Stands w r → AllStand w (names ++ (own, r) ∷ [])
names_more w names own r s t name q h = found_more w names own r t name q (s name) h

pub names_pushed : (w : Worker) (old new : List (List ℕ × Rel)) (own : List ℕ) (r : Rel) → new ≡ old ++ (own, r) ∷ [] → AllStand w old → Stands w r → AllStand w new
names_pushed w old new own r e s t = subst (AllStand w) (sym e) (names_more w old own r s t)

pub one_name : (w : Worker) (names : List (List ℕ × Rel)) (own : List ℕ) (r : Rel) → names ≡ (own, r) ∷ [] → Stands w r → AllStand w names
one_name w names own r e t = names_pushed w [] names own r e (no_names w) t

-- all relations of a list of one that stands
pub one_stands : (w : Worker) (list : List (List ℕ × Rel)) (name : List ℕ) (r : Rel) → list ≡ (name, r) ∷ [] → Stands w r → AllByRecursion (λ e. Stands w e.1) list
one_stands w list name r e t = subst (AllByRecursion (λ e. Stands w e.1)) (sym e) (t, tt)
