-- A block that is done reads and assigns as if in one moment.
-- 1. The log before its second event goes on from the one before its first.
-- 2. A name that has one version in both was not assigned or taken away between them, and so has one relation in both.
-- 3. What a block is due depends on the relations of the names that it reads.
use Rattle.std.proofs.Common.{◌≡◌, ◌+◌, ◌||◌, ℕ, Bool, true, false, cond, nat_eq, List, [], ◌∷◌, ◌++◌, Option, Some, None, option_map, Ordering, Less, Equal, Greater, refl, sym, ap, subst, ◌∙◌, inl, inr, arith}
use Rattle.std.specs.Prelude.{slice_get}
use Rattle.std.specs.List.{list_any, AllByRecursion}
use Rattle.std.specs.Ordering.{eq_by_cmp}
use Rattle.std.specs.FinMap.Entries.{by_order}
use Rattle.std.proofs.lemmas.Bool.{cases_Bool, eqb-true}
use Rattle.std.proofs.lemmas.Map.Lookups.{exact_bytes}
use Rattle.lang_model.specs.Eval.{AgreeOn}
use Rattle.rel_model.specs.Relation.{Relation}
use Rattle.run_model.specs.declared.event.Event.{Event}
use Rattle.run_model.specs.declared.event.Act.{Act}
use Rattle.run_model.specs.declared.event.Act.TheVariants.{Read, Assign, Remove}
use Rattle.run_model.specs.Names.{compare, Names, no_names, lookup, set, names_of}
use Rattle.run_model.specs.Due.{Workspace, Gifts, due_of_block}
use Rattle.run_model.specs.Versions.{Change, changes, version, first_changed}
use Rattle.lang_model.specs.Blocks.{names_read}
use Rattle.run_model.specs.Blocks.{as_set, block_reads}
use Rattle.run_model.specs.States.{Replay, is_of, events_before, before_first, before_second, start, set_by, replay_act, replay, gifts_due, state_after, state_for}
use Rattle.run_model.specs.Legal.{change_at, change_for}
use Rattle.run_model.specs.Laws.{BlocksAreAtOnce}
use Rattle.run_model.proofs.Ordering.{names_laws}
use Rattle.run_model.proofs.Places.{version-append}
use Rattle.run_model.proofs.Taking.{replay_append}
use Rattle.run_model.proofs.Depending.{block_due}

abbrev log_count : Option (List Event) → ℕ
log_count None = 0
log_count (Some l) = 1

abbrev log_of : Option (List Event) → List Event
log_of None = []
log_of (Some l) = l

-- ---- the log before the second event goes on from the one before the first
module _ (s c : ℕ) where
  pub goes_from : (xs l : List Event) → before_second s c xs ≡ Some l →
      (more : List Event) × (l ≡ events_before s c xs ++ more) × (list_any (is_of s c) xs ≡ true)
  goes_from [] l h = let e : 0 ≡ 1 = ap log_count h in absurd (omega (arith, e))
  goes_from (x ∷ xs) l h = picked (is_of s c x) (before_first s c xs) (before_second s c xs) (goes_from xs) h
    where
      picked : (b : Bool) (o p : Option (List Event)) →
          ((k : List Event) → p ≡ Some k → (more : List Event) × (k ≡ events_before s c xs ++ more) × (list_any (is_of s c) xs ≡ true)) →
          option_map (λ z. x ∷ z) (cond b o p) ≡ Some l →
          (more : List Event) × (l ≡ cond b [] (x ∷ events_before s c xs) ++ more) × ((b || list_any (is_of s c) xs) ≡ true)
      picked true None p f e = let k : 0 ≡ 1 = ap log_count e in absurd (omega (arith, k))
      picked true (Some k) p f e = (x ∷ k, sym (ap log_of e), refl)
      picked false o None f e = let k : 0 ≡ 1 = ap log_count e in absurd (omega (arith, k))
      picked false o (Some k) f e = let r = f k refl in (r.0, sym (ap log_of e) ∙ ap (λ z. x ∷ z) r.1, r.2)

-- ---- names that did not change
abbrev raise : Bool → ℕ
raise b = cond b 1 0

-- an event that does not change a name leaves its relation
module _ (gifts : ℕ → ℕ → Workspace → Gifts) (name : List ℕ) where
  set_other : (other : List ℕ) (o : Option (List ℕ × Relation)) (state : Workspace) → eq_by_cmp compare name other ≡ false → lookup (set_by other o state) name ≡ lookup state name
  set_other other None state e = refl
  set_other other (Some gift) state e =
      names_laws.set_name name other gift.1 state ∙ ap (λ b. cond b (Some gift.1) (lookup state name)) e

  act_leaves : (s c : ℕ) (a : Act) (p : Replay Relation) → changes name a ≡ false → lookup (replay_act gifts s c a p).now name ≡ lookup p.now name
  act_leaves s c Read p e = refl
  act_leaves s c (Assign other rel) p e = set_other other (slice_get (gifts s c (p.at_read s c)) (p.given s c)) p.now e
  act_leaves s c (Remove other) p e =
      names_laws.removed_name name other p.now ∙ ap (λ b. cond b None (lookup p.now name)) e

  log_leaves : (xs : List Event) (p : Replay Relation) → version name xs ≡ 0 → lookup (replay gifts p xs).now name ≡ lookup p.now name
  log_leaves [] p e = refl
  log_leaves (x ∷ xs) p e = elim (cases_Bool (changes name x.act)) [
    | inl t ↦ let k : raise (changes name x.act) ≡ 1 = ap raise t in absurd (omega (arith, e, k))
    | inr f ↦
        let k : raise (changes name x.act) ≡ 0 = ap raise f in
        log_leaves xs (replay_act gifts x.session x.command x.act p) (omega (arith, e, k)) ∙ act_leaves x.session x.command x.act p f
  ]

-- ---- names of a set
set_has : (P : List ℕ → Type 0) (name : List ℕ) (m : Names (Unit {0})) → AllByRecursion P (names_of (set name tt m)) → P name × AllByRecursion P (names_of m)
set_has P name [] h = h
set_has P name (e ∷ m) h = picked (compare name e.0) refl (set_has P name m) h
  where
    picked : (o : Ordering) → compare name e.0 ≡ o → (AllByRecursion P (names_of (set name tt m)) → P name × AllByRecursion P (names_of m)) →
        AllByRecursion P (names_of (by_order o ((name, tt) ∷ e ∷ m) ((e.0, tt) ∷ m) (e ∷ set name tt m))) →
        P name × AllByRecursion P (names_of (e ∷ m))
    picked Less is f h = h
    picked Equal is f h = (subst P (sym (exact_bytes name e.0 is)) h.0, h)
    picked Greater is f h = let r = f h.1 in (r.0, (h.0, r.1))

pub from_set : (P : List ℕ → Type 0) (names : List (List ℕ)) → AllByRecursion P (names_of (as_set names)) → AllByRecursion P names
from_set P [] h = tt
from_set P (n ∷ ns) h = let r = set_has P n (as_set ns) h in (r.0, from_set P ns r.1)

-- ---- versions
abbrev change_count : Option Change → ℕ
change_count None = 0
change_count (Some c) = 1

none_changed : (f g : List ℕ → ℕ) (names : List (List ℕ)) → first_changed f g names ≡ None → AllByRecursion (λ name. f name ≡ g name) names
none_changed f g [] h = tt
none_changed f g (n ∷ ns) h = elim (cases_Bool (nat_eq (f n) (g n))) [
  | inl t ↦
      (eqb-true (f n) (g n) t, none_changed f g ns (sym (ap (λ b. cond b (first_changed f g ns) (Some (record { name = n; seen = f n; found = g n }))) t) ∙ h))
  | inr e ↦ let k : 1 ≡ 0 = ap change_count (sym (ap (λ b. cond b (first_changed f g ns) (Some (record { name = n; seen = f n; found = g n }))) e) ∙ h) in absurd (omega (arith, k))
]

all_weaker : (P Q : List ℕ → Type 0) → ((name : List ℕ) → P name → Q name) → (names : List (List ℕ)) → AllByRecursion P names → AllByRecursion Q names
all_weaker P Q f [] h = tt
all_weaker P Q f (n ∷ ns) h = (f n h.0, all_weaker P Q f ns h.1)

-- a block is due the same by the log before its commit as by the one before its read: a name that it reads has one
-- version in both, so that no event between them touched its relation
pub blocks_are_at_once : BlocksAreAtOnce
unfolding change_for block_reads state_for state_after
blocks_are_at_once input script history s c lets log second none =
    let g = goes_from s c history log second in
    let first = events_before s c history in
    let same : AllByRecursion (λ name. version name first ≡ version name log) (names_of (as_set (names_read lets))) =
    none_changed (λ name. version name first) (λ name. version name log) (names_of (as_set (names_read lets)))
    (sym (ap (λ o. change_at (λ name. version name first) (λ l name. version name l) o (names_of (as_set (names_read lets)))) second) ∙ none) in
    let seen : (replay (gifts_due input) start log).now ≡ (replay (gifts_due input) (replay (gifts_due input) start first) g.0).now =
    ap (λ l. (replay (gifts_due input) start l).now) g.1 ∙ ap (λ p. p.now) (replay_append (gifts_due input) start first g.0) in
    let agree : AgreeOn (lookup (replay (gifts_due input) start first).now) (lookup (replay (gifts_due input) start log).now) (names_read lets) =
    all_weaker (λ name. version name first ≡ version name log)
    (λ name. lookup (replay (gifts_due input) start first).now name ≡ lookup (replay (gifts_due input) start log).now name)
    (λ name e.
    let zero_more : version name g.0 ≡ 0 =
    (let a : version name log ≡ version name first + version name g.0 = ap (version name) g.1 ∙ version-append name first g.0 in omega (arith, a, e)) in
    sym (log_leaves (gifts_due input) name g.0 (replay (gifts_due input) start first) zero_more) ∙ ap (λ z. lookup z name) (sym seen))
    (names_read lets) (from_set (λ name. version name first ≡ version name log) (names_read lets) same) in
    ap (λ b. due_of_block input script lets (cond b (replay (gifts_due input) start first).now no_names)) g.2
    ∙ block_due input script lets (replay (gifts_due input) start first).now (replay (gifts_due input) start log).now agree
