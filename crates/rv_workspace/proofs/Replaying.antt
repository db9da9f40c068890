-- The names after a history that grew, and where the relations of a history stand.
use Rattle.std.proofs.Common.{◌≡◌, ◌∙◌, ℕ, Bool, true, false, cond, List, [], ◌∷◌, ◌++◌, append_assoc, Option, Some, None, refl, sym, ap, subst}
use Rattle.std.specs.Prelude.{All}
use Rattle.std.specs.List.{AllByRecursion}
use Rattle.std.specs.Ordering.{eq_by_cmp}
use Rattle.std.proofs.lemmas.List.Elements.{All-nil, All-cons, All-head, All-tail, All-weaker}
use Rattle.rel_model.specs.declared.Rel.{Rel}
use Rattle.rel_model.specs.Worker.{Worker, Stands}
use Rattle.run_model.specs.declared.event.Event.{Event}
use Rattle.run_model.specs.declared.event.Act.{Act}
use Rattle.run_model.specs.declared.event.Act.TheVariants.{Read, Assign, Remove}
use Rattle.run_model.specs.Names.{compare, lookup, set, remove}
use Rattle.run_model.specs.States.{Replay, begun}
use Rattle.run_model.specs.Carried.{Carried, carry_act, carry, carried_from}
use Rattle.run_model.specs.Sessions.{rel_of}
use Rattle.run_model.proofs.Ordering.{names_laws}
use Rattle.rv_workspace.specs.Books.{EventStands, HistoryStands, NamesStand, AllNamesStand}
use Rattle.rv_workspace.specs.Entering.{read_of, removal, assign_of, assigns}
use Rattle.name_map.specs.Giving.{set_all}

-- ---- names
carry-append : (p : Replay Rel) (xs ys : List Event) → carry p (xs ++ ys) ≡ carry (carry p xs) ys
carry-append p [] ys = refl
carry-append p (x ∷ xs) ys = carry-append (carry_act x.session x.command x.act p) xs ys

pub carried-nil : (first : Carried) → carried_from first [] ≡ first
unfolding carried_from
carried-nil first = refl

pub carried-read : (first : Carried) (s c : ℕ) (es : List Event) → carried_from first (es ++ read_of s c ∷ []) ≡ carried_from first es
unfolding carried_from
carried-read first s c es = ap (λ p. p.now) (carry-append (begun first) es (read_of s c ∷ []))

pub carried-removal : (first : Carried) (s c : ℕ) (name : List ℕ) (es : List Event) → carried_from first (es ++ removal s c name ∷ []) ≡ remove name (carried_from first es)
unfolding carried_from
carried-removal first s c name es = ap (λ p. p.now) (carry-append (begun first) es (removal s c name ∷ []))

now-assigns : (s c : ℕ) (gifts : List (List ℕ × Rel)) (p : Replay Rel) → (carry p (assigns s c gifts)).now ≡ set_all gifts p.now
now-assigns s c [] p = refl
now-assigns s c (g ∷ gs) p = now-assigns s c gs (carry_act s c (Assign g.0 g.1) p)

pub carried-assigns : (first : Carried) (s c : ℕ) (gifts : List (List ℕ × Rel)) (es : List Event) → carried_from first (es ++ assigns s c gifts) ≡ set_all gifts (carried_from first es)
unfolding carried_from
carried-assigns first s c gifts es = ap (λ p. p.now) (carry-append (begun first) es (assigns s c gifts)) ∙ now-assigns s c gifts (carry (begun first) es)

assigns-push : (s c : ℕ) (gifts : List (List ℕ × Rel)) (gift : List ℕ × Rel) → assigns s c (gifts ++ gift ∷ []) ≡ assigns s c gifts ++ assign_of s c gift ∷ []
assigns-push s c [] gift = refl
assigns-push s c (g ∷ gs) gift = ap (λ es. assign_of s c g ∷ es) (assigns-push s c gs gift)

pub assigns_more : (s c : ℕ) (old : List Event) (gifts : List (List ℕ × Rel)) (gift : List ℕ × Rel) → (old ++ assigns s c gifts) ++ assign_of s c gift ∷ [] ≡ old ++ assigns s c (gifts ++ gift ∷ [])
assigns_more s c old gifts gift =
    append_assoc old (assigns s c gifts) (assign_of s c gift ∷ []) ∙ ap (λ es. old ++ es) (sym (assigns-push s c gifts gift))

-- ---- relations
grown : (a b : Worker) → ((r : Rel) → Stands a r → Stands b r) → (act : Act) → AllByRecursion (Stands a) (rel_of act) → AllByRecursion (Stands b) (rel_of act)
grown a b more Read h = tt
grown a b more (Assign name rel) h = (more rel h.0, tt)
grown a b more (Remove name) h = tt

-- where all that stood stands, so do the relations of a history
pub history_stands : (a b : Worker) → ((r : Rel) → Stands a r → Stands b r) → (es : List Event) → HistoryStands a es → HistoryStands b es
history_stands a b more es h = All-weaker (EventStands a) (EventStands b) (λ e k. grown a b more e.act k) es h

pub assigns_stand : (w : Worker) (s c : ℕ) (gifts : List (List ℕ × Rel)) → All (λ g. Stands w g.1) gifts → HistoryStands w (assigns s c gifts)
assigns_stand w s c [] h = All-nil (EventStands w)
assigns_stand w s c (g ∷ gs) h =
    All-cons (EventStands w) (assign_of s c g) (assigns s c gs) (All-head (λ x. Stands w x.1) g gs h, tt) (assigns_stand w s c gs (All-tail (λ x. Stands w x.1) g gs h))

same_rel : (x y : Rel) → Some x ≡ Some y → x ≡ y
same_rel x y e = cc

no_rel : (x : Rel) → None ≡ Some x → ⊥
no_rel x e = cc

set_stands : (w : Worker) (name : List ℕ) (rel : Rel) (m : Carried) → Stands w rel → NamesStand w m → NamesStand w (set name rel m)
set_stands w name rel m s all n r e = at (eq_by_cmp compare n name) (sym (names_laws.set_name n name rel m) ∙ e)
  where
    at : (b : Bool) → cond b (Some rel) (lookup m n) ≡ Some r → Stands w r
    at true k = subst (Stands w) (same_rel rel r k) s
    at false k = all n r k

remove_stands : (w : Worker) (name : List ℕ) (m : Carried) → NamesStand w m → NamesStand w (remove name m)
remove_stands w name m all n r e = at (eq_by_cmp compare n name) (sym (names_laws.removed_name n name m) ∙ e)
  where
    at : (b : Bool) → cond b None (lookup m n) ≡ Some r → Stands w r
    at true k = absurd (no_rel r k)
    at false k = all n r k

act_stands : (w : Worker) (s c : ℕ) (act : Act) (p : Replay Rel) → AllByRecursion (Stands w) (rel_of act) → NamesStand w p.now → NamesStand w (carry_act s c act p).now
act_stands w s c Read p h all = all
act_stands w s c (Assign name rel) p h all = set_stands w name rel p.now h.0 all
act_stands w s c (Remove name) p h all = remove_stands w name p.now all

carry_stands : (w : Worker) (es : List Event) (p : Replay Rel) → HistoryStands w es → NamesStand w p.now → NamesStand w (carry p es).now
carry_stands w [] p h all = all
carry_stands w (e ∷ es) p h all =
    carry_stands w es (carry_act e.session e.command e.act p) (All-tail (EventStands w) e es h) (act_stands w e.session e.command e.act p (All-head (EventStands w) e es h) all)

pub found_first : (w : Worker) (b : Bool) (x : Rel) (o : Option Rel) (r : Rel) → Stands w x → (o ≡ Some r → Stands w r) →
    cond b (Some x) o ≡ Some r → Stands w r
found_first w true x o r s h k = subst (Stands w) (same_rel x r k) s
found_first w false x o r s h k = h k

-- what stands entry by entry stands name by name
pub names_stand_all : (w : Worker) (names : Carried) → AllNamesStand w names → NamesStand w names
names_stand_all w [] h n r e = absurd (no_rel r e)
names_stand_all w (x ∷ xs) h n r e = found_first w (eq_by_cmp compare n x.0) x.1 (lookup xs n) r h.0 (names_stand_all w xs h.1 n r) e

-- where all that stood stands, so do the relations of names
pub all_names_stand : (a b : Worker) → ((r : Rel) → Stands a r → Stands b r) → (names : Carried) → AllNamesStand a names → AllNamesStand b names
all_names_stand a b more [] h = tt
all_names_stand a b more (x ∷ xs) h = (more x.1 h.0, all_names_stand a b more xs h.1)

-- where the relations of the first names and of a history stand, so do those of the names that it leaves
pub names_stand : (w : Worker) (first : Carried) (es : List Event) → AllNamesStand w first → HistoryStands w es → NamesStand w (carried_from first es)
unfolding carried_from
names_stand w first es f h = carry_stands w es (begun first) h (names_stand_all w first f)
