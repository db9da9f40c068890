-- The names that a command took, as a state: where all relations of a log stand, they mean what the log leaves.
--
-- 1. Names are told apart in two ways, by their bytes and by their order, which agree.
-- 2. A look-up in the wanted names is one in all names, for a name that is wanted.
-- 3. What stands has its set; so the names agree with the meant workspace on what is wanted.
use Rattle.std.proofs.Common.{◌≡◌, ◌∙◌, ◌||◌, ℕ, Bool, true, false, cond, List, [], ◌∷◌, Option, Some, None, refl, sym, ap, subst}
use Rattle.std.specs.Prelude.{option_and_then}
use Rattle.std.specs.List.{AllByRecursion, list_any}
use Rattle.std.specs.Option.{option_map}
use Rattle.std.specs.Ordering.{eq_by_cmp}
use Rattle.std.specs.Cmp.Lexicographic.{texts_ties, nat_list_eq_equiv}
use Rattle.rel_model.specs.declared.Rel.{Rel}
use Rattle.rel_model.specs.Relation.{Relation}
use Rattle.rel_model.specs.Worker.{Worker, Stands, set_of}
use Rattle.rel_model.proofs.Workers.{stands_some}
use Rattle.lang_model.specs.Tokens.{same_text}
use Rattle.lang_model.specs.Eval.{AgreeOn}
use Rattle.run_model.specs.declared.event.Event.{Event}
use Rattle.run_model.specs.Names.{compare, lookup}
use Rattle.run_model.specs.Carried.{Carried, carried_from, valued}
use Rattle.rv_eval.specs.Names.{rel_of, state_of, AllStand}
use Rattle.rv_workspace.specs.Books.{HistoryStands, NamesStand, AllNamesStand}
use Rattle.rv_workspace.specs.Picking.{is_among, among, picked}
use Rattle.rv_workspace.proofs.Picking.{lookup-among}
use Rattle.rv_workspace.proofs.Replaying.{names_stand, names_stand_all}
use Rattle.rv_sessions.specs.Standing.{meant}

-- ---- 1
other_way : (xs ys : List ℕ) → same_text xs ys ≡ eq_by_cmp compare ys xs
other_way xs ys = nat_list_eq_equiv.symm xs ys ∙ texts_ties ys xs

pub rel_of-lookup : (names : Carried) (n : List ℕ) → rel_of names n ≡ lookup names n
rel_of-lookup [] n = refl
rel_of-lookup (e ∷ es) n =
    ap (λ b. cond b (Some e.1) (rel_of es n)) (other_way e.0 n)
    ∙ ap (λ o. cond (eq_by_cmp compare n e.0) (Some e.1) o) (rel_of-lookup es n)

-- ---- 2
self : (n : List ℕ) → eq_by_cmp compare n n ≡ true
self n = sym (texts_ties n n) ∙ nat_list_eq_equiv.refl n

or_right : (a b : Bool) → b ≡ true → (a || b) ≡ true
or_right true b e = refl
or_right false b e = e

or_left : (a b : Bool) → a ≡ true → (a || b) ≡ true
or_left a b e = ap (λ x. x || b) e

-- what is so of all that is wanted
each : (P : List ℕ → Type 0) (ws : List (List ℕ)) → ((n : List ℕ) → is_among ws n ≡ true → P n) → AllByRecursion P ws
each P [] h = tt
each P (w ∷ ws) h = (
  h w (or_left (eq_by_cmp compare w w) (list_any (eq_by_cmp compare w) ws) (self w)),
  each P ws (λ n k. h n (or_right (eq_by_cmp compare n w) (list_any (eq_by_cmp compare n) ws) k)),
)

wanted_found : (ws : List (List ℕ)) (c : Carried) (n : List ℕ) → is_among ws n ≡ true → rel_of (among ws c) n ≡ lookup c n
wanted_found ws c n h = rel_of-lookup (among ws c) n ∙ lookup-among ws c n ∙ ap (λ b. cond b (lookup c n) None) h

no_rel : (x : Rel) → None ≡ Some x → ⊥
no_rel x e = cc

found_before : (b : Bool) (o : Option Rel) (r : Rel) → cond b o None ≡ Some r → o ≡ Some r
found_before true o r e = e
found_before false o r e = absurd (no_rel r e)

-- ---- 3
pub valued-lookup : (means : Rel → Relation) (c : Carried) (n : List ℕ) → lookup (valued means c) n ≡ option_map means (lookup c n)
valued-lookup means [] n = refl
valued-lookup means (e ∷ es) n = at (eq_by_cmp compare n e.0) (valued-lookup means es n)
  where
    at : (b : Bool) → lookup (valued means es) n ≡ option_map means (lookup es n) →
        cond b (Some (means e.1)) (lookup (valued means es) n) ≡ option_map means (cond b (Some e.1) (lookup es n))
    at true h = refl
    at false h = h

same_value : (w : Worker) (o p : Option Rel) → p ≡ o → ((r : Rel) → o ≡ Some r → Stands w r) → option_and_then w.relation p ≡ option_map (set_of w) o
same_value w None p e h = ap (option_and_then w.relation) e
same_value w (Some r) p e h = ap (option_and_then w.relation) e ∙ stands_some w r (h r refl)

agree_at : (w : Worker) (names c : Carried) (n : List ℕ) → rel_of names n ≡ lookup c n → NamesStand w c → state_of w names n ≡ lookup (meant w c) n
agree_at w names c n e h = same_value w (lookup c n) (rel_of names n) e (h n) ∙ sym (valued-lookup (set_of w) c n)

-- the wanted names of a log agree with what it leaves
pub wanted_agree : (w : Worker) (ws : List (List ℕ)) (first : Carried) (log : List Event) (names : Carried) → AllNamesStand w first → HistoryStands w log →
    names ≡ picked (Some ws) (carried_from first log) → AgreeOn (state_of w names) (lookup (meant w (carried_from first log))) ws
wanted_agree w ws first log names f h e =
    subst (λ ns. AgreeOn (state_of w ns) (lookup (meant w (carried_from first log))) ws) (sym e)
    (each (λ n. state_of w (among ws (carried_from first log)) n ≡ lookup (meant w (carried_from first log)) n) ws
    (λ n k. agree_at w (among ws (carried_from first log)) (carried_from first log) n (wanted_found ws (carried_from first log) n k) (names_stand w first log f h)))

pub wanted_stand : (w : Worker) (ws : List (List ℕ)) (first : Carried) (log : List Event) (names : Carried) → AllNamesStand w first → HistoryStands w log →
    names ≡ picked (Some ws) (carried_from first log) → AllStand w names
wanted_stand w ws first log names f h e =
    subst (AllStand w) (sym e)
    (λ n r k. names_stand w first log f h n r (found_before (is_among ws n) (lookup (carried_from first log) n) r
    (sym (lookup-among ws (carried_from first log) n) ∙ sym (rel_of-lookup (among ws (carried_from first log)) n) ∙ k)))

-- the names of a snapshot agree with what it means
all_agree : (w : Worker) (c : Carried) (ws : List (List ℕ)) → NamesStand w c → AgreeOn (state_of w c) (lookup (meant w c)) ws
all_agree w c [] h = tt
all_agree w c (n ∷ ns) h = (agree_at w c c n (rel_of-lookup c n) h, all_agree w c ns h)

pub snap_agrees : (w : Worker) (c : Carried) (ws : List (List ℕ)) → AllNamesStand w c → AgreeOn (state_of w c) (lookup (meant w c)) ws
snap_agrees w c ws h = all_agree w c ws (names_stand_all w c h)

pub snap_stands : (w : Worker) (c : Carried) → AllNamesStand w c → AllStand w c
snap_stands w c h n r e = names_stand_all w c h n r (sym (rel_of-lookup c n) ∙ e)
