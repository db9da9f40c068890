-- What names with values mean while a worker goes on, and where they are bound and assigned.
use Rattle.std.proofs.Common.{◌≡◌, ◌≤◌, ◌<◌, ◌+◌, ◌∙◌, ◌⊎◌, length, take, get_or, inl, inr, ℕ, Bool, true, false, cond, List, [], ◌∷◌, ◌++◌, map, Option, Some, None, Result, Ok, Err, OnOk, arith, refl, sym, ap, subst}
use Rattle.std.specs.Prelude.{option_and_then, option_map, MatchResult}
use Rattle.std.proofs.lemmas.List.{take_more, map-append}
use Rattle.rel_model.specs.declared.Lack.{Lack}
use Rattle.std.specs.List.{AllByRecursion}
use Rattle.rel_model.specs.declared.Rel.{Rel}
use Rattle.rel_model.specs.declared.Lack.TheVariants.{Full, NoMemory as NO_MEMORY}
use Rattle.rel_model.specs.Relation.{Relation}
use Rattle.rel_model.specs.Worker.{Worker, Stands, set_of, Gives, Keeps, HasCause}
use Rattle.rel_model.proofs.Workers.{stands_some, gives_set, keeps_itself, keeps_trans}
use Rattle.rel_slices.specs.declared.thin.Value.{Value}
use Rattle.rel_slices.specs.declared.thin.Value.TheVariants.{Whole, Lines}
use Rattle.rel_slices.specs.Thin.{value_of, value_rows, value_cols}
use Rattle.rel_slices.proofs.Valuing.{value_stays, value_same}
use Rattle.rel_values.specs.Values.{Fits, owed}
use Rattle.lang_model.specs.declared.syntax.Place.{Place}
use Rattle.lang_model.specs.declared.faults.TypeFault.TheVariants.{Unknown}
use Rattle.lang_model.specs.Tokens.{same_text}
use Rattle.lang_model.specs.State.{nothing, assigned}
use Rattle.lang_model.specs.Outcomes.{Got, Came, with_turns}
use Rattle.lang_model.specs.Mean.{bound, named}
use Rattle.rv_eval.specs.declared.halt.Halt.{Halt}
use Rattle.rv_eval.specs.declared.halt.Halt.TheVariants.{Ill as ILL, Lack as LACK}
use Rattle.rv_eval.specs.Ends.{Ends, HasHalted}
use Rattle.rv_eval.proofs.Going.{rose_before}
use Rattle.rv_eval.specs.Names.{first_of, state_of, AllStand, beside}
use Rattle.rv_eval.specs.Values.{meant, state_by, AllFit, whole_pair_of, most_named, names_owe}

some_inj : {p q : Value} → Some p ≡ Some q → p ≡ q
some_inj e = cc

none_some : {q : Value} → None ≡ Some q → ⊥
none_some e = cc

-- ---- a worker that goes on
pub fits_kept : (w v : Worker) (x : Value) → Keeps w v → Fits w x → Fits v x
fits_kept w v x k f = record { stands = value_stays w v x k f.stands; long = f.long }

pub value_kept : (w v : Worker) (x : Value) → Keeps w v → Fits w x → value_of v x ≡ value_of w x
value_kept w v x k f = value_same w v x k f.stands

meant_some : (w : Worker) (x : Value) → Fits w x → meant w x ≡ Some (value_of w x)
meant_some w (Whole r) f = stands_some w r f.stands
meant_some w (Lines s) f = refl

meant_kept : (w v : Worker) (x : Value) → Keeps w v → Fits w x → meant v x ≡ meant w x
meant_kept w v (Whole r) k f = k.same r f.stands
meant_kept w v (Lines s) k f = ap Some (value_same w v (Lines s) k f.stands)

pub state_kept : (w v : Worker) (names : List (List ℕ × Value)) → Keeps w v → AllFit w names → state_by v names ≡ state_by w names
state_kept w v names k s = λ i n. at (first_of names n) (s n) i
  where
    at : (o : Option Value) → ((x : Value) → o ≡ Some x → Fits w x) → option_and_then (meant v) o ≡ option_and_then (meant w) o
    at None s = refl
    at (Some x) s = meant_kept w v x k (s x refl)

pub all_fit_kept : (w v : Worker) (names : List (List ℕ × Value)) → Keeps w v → AllFit w names → AllFit v names
all_fit_kept w v names k s = λ n x h. fits_kept w v x k (s n x h)

pub values_kept : (w v : Worker) (xs : List Value) → Keeps w v → AllByRecursion (Fits w) xs → map (value_of v) xs ≡ map (value_of w) xs
values_kept w v [] k s = refl
values_kept w v (x ∷ xs) k s = ap (λ y. y ∷ map (value_of v) xs) (value_kept w v x k s.0) ∙ ap (λ ys. value_of w x ∷ ys) (values_kept w v xs k s.1)

-- one value more
pub values_more : (w v : Worker) (xs : List Value) (y : Value) → Keeps w v → AllByRecursion (Fits w) xs → map (value_of w) xs ++ value_of v y ∷ [] ≡ map (value_of v) (xs ++ y ∷ [])
values_more w v [] y k s = refl
values_more w v (x ∷ xs) y k s = ap (λ z. z ∷ (map (value_of w) xs ++ value_of v y ∷ [])) (sym (value_kept w v x k s.0)) ∙ ap (λ ys. value_of v x ∷ ys) (values_more w v xs y k s.1)

pub all_values_more : (w v : Worker) (xs : List Value) (y : Value) → Keeps w v → AllByRecursion (Fits w) xs → Fits v y → AllByRecursion (Fits v) (xs ++ y ∷ [])
all_values_more w v [] y k s h = (h, tt)
all_values_more w v (x ∷ xs) y k s h = (fits_kept w v x k s.0, all_values_more w v xs y k s.1 h)

-- ---- a name
pub state_some : (w : Worker) (names : List (List ℕ × Value)) (name : List ℕ) (x : Value) → AllFit w names → first_of names name ≡ Some x → state_by w names name ≡ Some (value_of w x)
state_some w names name x s e = ap (option_and_then (meant w)) e ∙ meant_some w x (s name x e)

pub state_none : (w : Worker) (names : List (List ℕ × Value)) (name : List ℕ) → first_of names name ≡ None → state_by w names name ≡ None
state_none w names name e = ap (option_and_then (meant w)) e

-- ---- an assignment
pub state_assigned : (w : Worker) (old new : List (List ℕ × Value)) (name : List ℕ) (x : Value) → Fits w x → ((n : List ℕ) → first_of new n ≡ cond (same_text name n) (Some x) (first_of old n)) →
    state_by w new ≡ assigned name (value_of w x) (state_by w old)
unfolding assigned
state_assigned w old new name x s e = λ i n. (ap (option_and_then (meant w)) (e n) ∙ at (same_text name n) (first_of old n)) i
  where
    at : (b : Bool) (o : Option Value) → option_and_then (meant w) (cond b (Some x) o) ≡ cond b (Some (value_of w x)) (option_and_then (meant w) o)
    at true o = meant_some w x s
    at false o = refl

pub all_fit_assigned : (w : Worker) (old new : List (List ℕ × Value)) (name : List ℕ) (x : Value) → Fits w x → AllFit w old → ((n : List ℕ) → first_of new n ≡ cond (same_text name n) (Some x) (first_of old n)) → AllFit w new
all_fit_assigned w old new name x s all e = λ n y h. at n y (same_text name n) (sym (e n) ∙ h)
  where
    at : (n : List ℕ) (y : Value) (b : Bool) → cond b (Some x) (first_of old n) ≡ Some y → Fits w y
    at n y true h = subst (λ z. Fits w z) (some_inj h) s
    at n y false h = all n y h

-- ---- parameters
pub state_bound : (w : Worker) (ps : List (List ℕ)) (vs : List Value) → AllByRecursion (Fits w) vs → state_by w (beside ps vs) ≡ bound ps (map (value_of w) vs)
unfolding nothing assigned
state_bound w [] vs s = refl
state_bound w (p ∷ ps) [] s = refl
state_bound w (p ∷ ps) (v ∷ vs) s = λ i n. at (state_bound w ps vs s.1) n (same_text p n) i
  where
    at : state_by w (beside ps vs) ≡ bound ps (map (value_of w) vs) → (n : List ℕ) (b : Bool) → option_and_then (meant w) (cond b (Some v) (first_of (beside ps vs) n)) ≡ cond b (Some (value_of w v)) (bound ps (map (value_of w) vs) n)
    at e n true = meant_some w v s.0
    at e n false = ap (λ f. f n) e

pub all_fit_bound : (w : Worker) (ps : List (List ℕ)) (vs : List Value) → AllByRecursion (Fits w) vs → AllFit w (beside ps vs)
all_fit_bound w [] vs s = λ n x h. absurd (none_some h)
all_fit_bound w (p ∷ ps) [] s = λ n x h. absurd (none_some h)
all_fit_bound w (p ∷ ps) (v ∷ vs) s = λ n x h. at (all_fit_bound w ps vs s.1) n x (same_text p n) h
  where
    at : AllFit w (beside ps vs) → (n : List ℕ) (x : Value) (b : Bool) → cond b (Some v) (first_of (beside ps vs) n) ≡ Some x → Fits w x
    at all n x true h = subst (λ y. Fits w y) (some_inj h) s.0
    at all n x false h = all n x h

-- ---- a name as an expression
-- what a name owes is within what all owe
owed_named : (h : Value → ℕ) (names : List (List ℕ × Value)) (name : List ℕ) (x : Value) → first_of names name ≡ Some x → h x ≤ most_named h names
owed_named h [] name x e = absurd (none_some e)
owed_named h (n ∷ ns) name x e = at (same_text n.0 name) e (λ d. owed_named h ns name x d)
  where
    at : (b : Bool) → cond b (Some n.1) (first_of ns name) ≡ Some x → (first_of ns name ≡ Some x → h x ≤ most_named h ns) → h x ≤ most_named h (n ∷ ns)
    at true e f = let same : h n.1 ≡ h x = ap h (some_inj e) in omega (arith, same)
    at false e f = let less = f e in omega (arith, less)

-- a look-up of a name ends as the name means: found, it gives the value that owes what the names owe at most;
-- not found, the name is unknown
pub ref_ends : (leaf : ℕ) (w : Worker) (names : List (List ℕ × Value)) (at : Place) (name : List ℕ) (n : ℕ) (r : Result Value Halt) → AllFit w names
    → MatchResult r (λ x. first_of names name ≡ Some x) (λ e. (e ≡ LACK NO_MEMORY) ⊎ ((first_of names name ≡ None) × (e ≡ ILL (Unknown at name))))
    → Ends leaf w w n n (names_owe leaf names) (with_turns (named at name (state_by w names name)) n) (value_of w) (owed leaf) r
ref_ends leaf w names at name n (Ok x) s m = record {
  value = ap (λ (o : Option Relation). (with_turns (named at name o) n).answer) (state_some w names name x s m);
  halted = tt;
  keeps = keeps_itself w;
  room = omega arith;
  owes = (let less = owed_named (owed leaf) names name x m in omega (arith, less));
  turns = omega arith;
}
ref_ends leaf w names at name n (Err e) s m = record {
  value = tt;
  halted = elim m [
    | inl h ↦ subst (HasHalted w w (with_turns (named at name (state_by w names name)) n).answer) (sym h) tt
    | inr h ↦ subst (HasHalted w w (with_turns (named at name (state_by w names name)) n).answer) (sym h.1) (ap (λ (o : Option Relation). (with_turns (named at name o) n).answer) (state_none w names name h.0))
  ];
  keeps = keeps_itself w;
  room = omega arith;
  owes = tt;
  turns = omega arith;
}

pub fits_named : (w : Worker) (names : List (List ℕ × Value)) (name : List ℕ) (x : Value) → AllFit w names → first_of names name ≡ Some x → Fits w x
fits_named w names name x s e = s name x e

pub on_ok : {X E : Type 0} {P Q : Type 0} (r : Result X E) → (P → Q) → OnOk r P → OnOk r Q
on_ok (Ok x) f h = f h
on_ok (Err e) f h = h

-- ---- names that stand whole
first_of-whole : (ns : List (List ℕ × Rel)) (name : List ℕ) → first_of (map whole_pair_of ns) name ≡ option_map Whole (first_of ns name)
first_of-whole [] name = refl
first_of-whole (n ∷ ns) name = at (same_text n.0 name) (first_of-whole ns name)
  where
    at : (b : Bool) → first_of (map whole_pair_of ns) name ≡ option_map Whole (first_of ns name) → cond b (Some (Whole n.1)) (first_of (map whole_pair_of ns) name) ≡ option_map Whole (cond b (Some n.1) (first_of ns name))
    at true e = refl
    at false e = e

pub whole-step : (ns : List (List ℕ × Rel)) (i : ℕ) (n : List ℕ × Rel) → i < length ns → n ≡ get_or ns i n → map whole_pair_of (take (i + 1) ns) ≡ map whole_pair_of (take i ns) ++ whole_pair_of n ∷ []
whole-step ns i n h e = ap (map whole_pair_of) (take_more ns i n h) ∙ map-append whole_pair_of (take i ns) (get_or ns i n ∷ []) ∙ ap (λ x. map whole_pair_of (take i ns) ++ whole_pair_of x ∷ []) (sym e)

pub state_whole : (w : Worker) (ns : List (List ℕ × Rel)) → state_by w (map whole_pair_of ns) ≡ state_of w ns
state_whole w ns = λ i name. (ap (option_and_then (meant w)) (first_of-whole ns name) ∙ at (first_of ns name)) i
  where
    at : (o : Option Rel) → option_and_then (meant w) (option_map Whole o) ≡ option_and_then w.relation o
    at None = refl
    at (Some r) = refl

pub all_fit_whole : (w : Worker) (ns : List (List ℕ × Rel)) → AllStand w ns → AllFit w (map whole_pair_of ns)
all_fit_whole w ns s = λ name x h. at (first_of ns name) (s name) x (sym (first_of-whole ns name) ∙ h)
  where
    at : (o : Option Rel) → ((r : Rel) → o ≡ Some r → Stands w r) → (x : Value) → option_map Whole o ≡ Some x → Fits w x
    at None s x h = absurd (none_some h)
    at (Some r) s x h = subst (λ y. Fits w y) (some_inj h) (record { stands = s r refl; long = tt })

pub whole_owes : (least : ℕ) (ns : List (List ℕ × Rel)) → names_owe least (map whole_pair_of ns) ≡ 0
whole_owes least [] = refl
whole_owes least (n ∷ ns) = let more = whole_owes least ns in omega (arith, more)

-- a value at the end is made whole
pub whole_got : {leaf start : ℕ} (old mid new : Worker) (n m : ℕ) (came : Came Relation) (x : Value) (r : Rel) → start ≡ 0 → Ends leaf old mid n m start came (value_of mid) (owed leaf) (Ok x) → Gives new (value_rows x) (value_cols x) (value_of mid x) r
    → Keeps mid new → new.made ≤ mid.made + owed leaf x → Ends leaf old new n m 0 came (set_of new) (λ r. 0) (Ok r)
whole_got {leaf = leaf} {start = start} old mid new n m came x r z e v k d =
    let owes : mid.made + owed leaf x ≤ old.made + (start + came.cost leaf) = e.owes in
    record {
      value = e.value ∙ ap (λ (y : Relation). Got y m) (sym (gives_set new (value_rows x) (value_cols x) (value_of mid x) r v));
      halted = tt;
      keeps = keeps_trans old mid new e.keeps k;
      room = omega (arith, z, owes, d);
      owes = omega (arith, z, owes, d);
      turns = e.turns;
    }

-- making a value whole that is refused ends the evaluation: what the value owed is within its cost
pub whole_lacks : {leaf start : ℕ} (old mid new : Worker) (n m : ℕ) (came : Came Relation) (x : Value) (lean : Bool) (lack : Lack) → start ≡ 0 → Ends leaf old mid n m start came (value_of mid) (owed leaf) (Ok x) → HasCause {T = Rel} lean mid new (Err lack)
    → Keeps mid new → new.made ≤ mid.made + owed leaf x → Ends leaf {X = Rel} old new n m 0 came (set_of new) (λ r. 0) (Err (LACK lack))
whole_lacks {leaf = leaf} {start = start} old mid new n m came x lean lack z e c k d =
    let owes : mid.made + owed leaf x ≤ old.made + (start + came.cost leaf) = e.owes in
    record {
      value = tt;
      halted = at lack c;
      keeps = keeps_trans old mid new e.keeps k;
      room = omega (arith, z, owes, d);
      owes = tt;
      turns = e.turns;
    }
  where
    at : (lack : Lack) → HasCause {T = Rel} lean mid new (Err lack) → HasHalted old new came.answer (LACK lack)
    at Full c = rose_before old.misses mid.misses new.misses e.keeps.misses (c.full refl)
    at NO_MEMORY c = tt

-- without a value
pub whole_halts : {leaf start : ℕ} (old new : Worker) (n m : ℕ) (came : Came Relation) (h : Halt) → Ends leaf {X = Value} old new n m start came (value_of new) (owed leaf) (Err h) → Ends leaf {X = Rel} old new n m 0 came (set_of new) (λ r. 0) (Err h)
whole_halts old new n m came h e = record { value = tt; halted = e.halted; keeps = e.keeps; room = e.room; owes = tt; turns = e.turns }
