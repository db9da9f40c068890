-- The item that defines a name.
-- 1. The loop over the items finds the first that defines a name (`position-item`).
-- 2. In a script without faults no name that was defined before is defined again, since that would be a fault of the kind Twice (`defined_once`).
-- 3. So the first item that defines a name is the only one (`IsDefinition-position`).
use Rattle.std.proofs.Common.{◌≡◌, ◌≤◌, ◌<◌, ◌+◌, ◌++◌, ◌∙◌, ◌||◌, ℕ, Bool, true, false, cond, List, [], ◌∷◌, length, length-append, map, drop, get_or, nat_eq, Option, Some, None, is_some, Bor, refl, sym, ap, subst}
use Rattle.std.proofs.lemmas.List.{drop_more}
use Rattle.std.proofs.lemmas.Option.{slice_get_past, slice_get_read}
use Rattle.std.specs.List.{list_any, position_from, slice_get, HoldsAt}
use Rattle.std.specs.Option.{option_or, option_and_then, option_copied, IfSome, MatchOption}
use Rattle.std.specs.Map.{lookup}
use Rattle.std.specs.Cmp.Lexicographic.{pointwise, nat_list_eq_equiv, same_text as text_of_test}
use Rattle.lang_model.specs.declared.syntax.Item.{Item}
use Rattle.lang_model.specs.declared.syntax.Item.TheVariants.{Function, Program, Command as COMMAND}
use Rattle.lang_model.specs.declared.syntax.Script.{Script}
use Rattle.lang_model.specs.declared.faults.TypeFault.{TypeFault}
use Rattle.lang_model.specs.declared.faults.TypeFault.TheVariants.{Twice}
use Rattle.lang_model.specs.Tokens.{same_text}
use Rattle.lang_model.specs.Checking.{among, Known, definition_of, names_of, head_faults, item_faults, known_with, items_faults, first_fault, flaw}
use Rattle.lang_model.specs.Defining.{defines}
use Rattle.rv_types.specs.Defining.{NoneDefines, IsDefinition, number_beside}
use Rattle.rv_types.proofs.Naming.{or_known, definition_of-push}
use Rattle.rv_types.proofs.Heads.{among-names_of}

-- ---- the loop over the items
option_or-cond : (a : Option ℕ) (b : Bool) (k : ℕ) (c : Option ℕ) → option_or (option_or a (cond b (Some k) None)) c ≡ option_or a (cond b (Some k) c)
option_or-cond None true k c = refl
option_or-cond None false k c = refl
option_or-cond (Some x) b k c = refl

pub option_or-none : (a : Option ℕ) → option_or a None ≡ a
option_or-none None = refl
option_or-none (Some x) = refl

-- one turn of the loop: what is found from an item on is the item's number where it defines the name, and else what is
-- found behind it
pub position-item : (a b : Option ℕ) (n : List ℕ) (items : List Item) (k : ℕ) (item : Item) → k < length items → item ≡ get_or items k item → b ≡ option_or a (cond (defines n item) (Some k) None) →
    option_or a (position_from (defines n) k (drop k items)) ≡ option_or b (position_from (defines n) (k + 1) (drop (k + 1) items))
position-item a b n items k item h is e =
    let rest = drop (k + 1) items in
    ap (λ xs. option_or a (position_from (defines n) k xs)) (drop_more items k item h ∙ ap (λ x. x ∷ rest) (sym is))
    ∙ sym (option_or-cond a (defines n item) k (position_from (defines n) (k + 1) rest)) ∙ ap (λ o. option_or o (position_from (defines n) (k + 1) rest)) (sym e)

-- ---- one more entry of the map
module _ {K : Type 0} (text : K → List ℕ) where
  -- the names of entries with their numbers
  abbrev pub numbered : List (K × ℕ) → List (List ℕ × ℕ)
  numbered = map (λ e. (text e.0, e.1))

  -- a look-up finds the number beside a name
  pub lookup-numbered : (es : List (K × ℕ)) (n : List ℕ) → lookup (λ k. pointwise nat_eq n (text k)) es ≡ number_beside (numbered es) n
  lookup-numbered [] n = refl
  lookup-numbered (e ∷ es) n =
      ap (λ b. cond b (Some e.1) (lookup (λ k. pointwise nat_eq n (text k)) es)) (nat_list_eq_equiv.symm n (text e.0)) ∙ ap (cond (same_text (text e.0) n) (Some e.1)) (lookup-numbered es n)

pub number_beside-push : (es : List (List ℕ × ℕ)) (name : List ℕ) (v : ℕ) (n : List ℕ) → number_beside (es ++ (name, v) ∷ []) n ≡ option_or (number_beside es n) (cond (same_text name n) (Some v) None)
number_beside-push [] name v n = refl
number_beside-push (e ∷ es) name v n = ap (cond (same_text e.0 n) (Some e.1)) (number_beside-push es name v n) ∙ by (same_text e.0 n)
  where
    by : (b : Bool) → cond b (Some e.1) (option_or (number_beside es n) (cond (same_text name n) (Some v) None)) ≡ option_or (cond b (Some e.1) (number_beside es n)) (cond (same_text name n) (Some v) None)
    by true = refl
    by false = refl

-- a name that was found is found as before
pub number_beside-present : (es : List (List ℕ × ℕ)) (name : List ℕ) (k number : ℕ) → Some k ≡ number_beside es name → (n : List ℕ) → number_beside es n ≡ option_or (number_beside es n) (cond (same_text name n) (Some number) None)
number_beside-present es name k number there n = by (same_text name n) refl
  where
    kept : (o : Option ℕ) → Some k ≡ o → o ≡ option_or o (Some number)
    kept None h = cc
    kept (Some x) h = refl

    same : (o : Option ℕ) → o ≡ option_or o None
    same None = refl
    same (Some x) = refl

    by : (b : Bool) → b ≡ same_text name n → number_beside es n ≡ option_or (number_beside es n) (cond b (Some number) None)
    by true e = kept (number_beside es n) (there ∙ ap (number_beside es) (text_of_test name n e))
    by false e = same (number_beside es n)

-- ---- no name is defined twice
pub no_fault : (fs : List TypeFault) → first_fault fs ≡ None → fs ≡ []
no_fault [] h = refl
no_fault (f ∷ fs) h = cc

nothing_left : (xs ys : List TypeFault) → xs ++ ys ≡ [] → xs ≡ []
nothing_left [] ys h = refl
nothing_left (x ∷ xs) ys h = cc

nothing_right : (xs ys : List TypeFault) → xs ++ ys ≡ [] → ys ≡ []
nothing_right [] ys h = h
nothing_right (x ∷ xs) ys h = cc

none_told : (b : Bool) (f : TypeFault) → cond b (f ∷ []) [] ≡ [] → b ≡ false
none_told true f h = cc
none_told false f h = refl

-- the name of a definition without a fault is new
new_name : (E : List Known) (at : _) (name : List ℕ) (params : List (List ℕ)) (rank : ℕ) → head_faults E at name params rank ≡ [] → among (names_of E) name ≡ false
unfolding head_faults
new_name E at name params rank h = none_told (among (names_of E) name) (Twice at name) (nothing_left _ _ (nothing_right _ _ h))

-- so it is not one that has a definition
other_name : (E : List Known) (name n : List ℕ) → among (names_of E) name ≡ false → among (names_of E) n ≡ true → same_text name n ≡ false
other_name E name n new known = by (same_text name n) refl
  where
    by : (b : Bool) → b ≡ same_text name n → same_text name n ≡ false
    by true e = let bad : true ≡ false = sym known ∙ ap (among (names_of E)) (sym (text_of_test name n e)) ∙ new in cc
    by false e = sym e

defines_another : (E : List Known) (item : Item) (n : List ℕ) → item_faults E item ≡ [] → among (names_of E) n ≡ true → defines n item ≡ false
unfolding item_faults
defines_another E (Function at name params body) n h known = other_name E name n (new_name E at name params.items _ (nothing_left _ _ h)) known
defines_another E (Program at name params decls body result) n h known = other_name E name n (new_name E at name params.items _ (nothing_left _ _ h)) known
defines_another E (COMMAND command) n h known = refl

-- a name is known behind an item where it was known before, or the item defines it
known_behind : (E : List Known) (d : Known) (n : List ℕ) → among (names_of (E ++ d ∷ [])) n ≡ (among (names_of E) n || same_text d.name n)
known_behind E d n = among-names_of (E ++ d ∷ []) n ∙ ap is_some (definition_of-push E d n) ∙ by (definition_of E n) (same_text d.name n) ∙ ap (λ b. b || same_text d.name n) (sym (among-names_of E n))
  where
    by : (o : Option Known) (b : Bool) → is_some (or_known o (cond b (Some d) None)) ≡ (is_some o || b)
    by None true = refl
    by None false = refl
    by (Some x) b = refl

or-false : (b : Bool) → b ≡ (b || false)
or-false true = refl
or-false false = refl

known_behind-item : (E : List Known) (item : Item) (n : List ℕ) → among (names_of (known_with E item)) n ≡ (among (names_of E) n || defines n item)
unfolding known_with
known_behind-item E (Function at name params body) n = known_behind E _ n
known_behind-item E (Program at name params decls body result) n = known_behind E _ n
known_behind-item E (COMMAND command) n = or-false (among (names_of E) n)

or-true : (a b : Bool) → a ≡ true → (a || b) ≡ true
or-true true b h = refl
or-true false b h = cc

true-or : (a b : Bool) → b ≡ true → (a || b) ≡ true
true-or true b h = refl
true-or false b h = h

neither : (a b : Bool) → a ≡ false → b ≡ false → (a || b) ≡ false
neither true b h k = cc
neither false b h k = k

-- a name that has a definition is not defined again
defined_once : (E : List Known) (items : List Item) (n : List ℕ) → items_faults E items ≡ [] → among (names_of E) n ≡ true → NoneDefines n items
defined_once E [] n h known = refl
defined_once E (item ∷ items) n h known =
    neither (defines n item) (list_any (defines n) items) (defines_another E item n (nothing_left _ _ h) known)
    (defined_once (known_with E item) items n (nothing_right (item_faults E item) _ h) (known_behind-item E item n ∙ or-true (among (names_of E) n) (defines n item) known))

-- ---- the first item that defines a name is the only one
none-push : (items : List Item) (item : Item) (n : List ℕ) → NoneDefines n items → defines n item ≡ false → NoneDefines n (items ++ item ∷ [])
none-push [] item n h k = neither (defines n item) false k refl
none-push (x ∷ items) item n h k = by (defines n x) h (λ rest. none-push items item n rest k)
  where
    by : (b : Bool) → (b || list_any (defines n) items) ≡ false → (NoneDefines n items → NoneDefines n (items ++ item ∷ [])) → (b || list_any (defines n) (items ++ item ∷ [])) ≡ false
    by true h more = cc
    by false h more = more h

slice_get-behind : (before behind : List Item) (item : Item) → slice_get (before ++ item ∷ behind) (length before) ≡ Some item
slice_get-behind [] behind item = refl
slice_get-behind (x ∷ before) behind item = slice_get-behind before behind item

append_one : (xs ys : List Item) (y : Item) → (xs ++ y ∷ []) ++ ys ≡ xs ++ y ∷ ys
append_one [] ys y = refl
append_one (x ∷ xs) ys y = ap (λ zs. x ∷ zs) (append_one xs ys y)

length_one : (xs : List Item) (y : Item) → length (xs ++ y ∷ []) ≡ length xs + 1
length_one xs y = length-append xs (y ∷ [])

append_none : (xs : List Item) → xs ++ [] ≡ xs
append_none [] = refl
append_none (x ∷ xs) = ap (λ ys. x ∷ ys) (append_none xs)

abbrev pub at_position : List Item → Option ℕ → Option Item
at_position items o = option_and_then (slice_get items) o

-- what is found behind one more item
abbrev FromRest : List Item → Item → List Item → List ℕ → Type 0
FromRest before item items n = IsDefinition ((before ++ item ∷ []) ++ items) n (at_position ((before ++ item ∷ []) ++ items) (position_from (defines n) (length (before ++ item ∷ [])) items))

-- behind items that don't define the name, the first that does is its only definition: by induction on the items, since
-- a second one would be a fault
IsDefinition-behind : (E : List Known) (before items : List Item) (n : List ℕ) → items_faults E items ≡ [] → NoneDefines n before →
    IsDefinition (before ++ items) n (at_position (before ++ items) (position_from (defines n) (length before) items))
IsDefinition-behind E before [] n h none = let e : NoneDefines n (before ++ []) = ap (list_any (defines n)) (append_none before) ∙ none in e
IsDefinition-behind E before (item ∷ items) n h none =
    by (defines n item) refl (λ k. IsDefinition-behind (known_with E item) (before ++ item ∷ []) items n (nothing_right (item_faults E item) _ h) (none-push before item n none k))
  where
    by : (b : Bool) → b ≡ defines n item → (defines n item ≡ false → FromRest before item items n)
        → IsDefinition (before ++ item ∷ items) n (at_position (before ++ item ∷ items) (cond b (Some (length before)) (position_from (defines n) (length before + 1) items)))
    by true e rest =
        let once = defined_once (known_with E item) items n (nothing_right (item_faults E item) _ h) (known_behind-item E item n ∙ true-or (among (names_of E) n) (defines n item) (sym e)) in
        subst (IsDefinition (before ++ item ∷ items) n) (sym (slice_get-behind before items item)) (before, items, refl, sym e, none, once)
    by false e rest =
        subst (λ xs. IsDefinition xs n (at_position xs (position_from (defines n) (length before + 1) items))) (append_one before items item)
        (subst (λ k. IsDefinition ((before ++ item ∷ []) ++ items) n (at_position ((before ++ item ∷ []) ++ items) (position_from (defines n) k items))) (length_one before item) (rest (sym e)))

-- in a script without faults
pub IsDefinition-position : (script : Script) (n : List ℕ) → flaw script ≡ None → IsDefinition script.items.items n (at_position script.items.items (position_from (defines n) 0 script.items.items))
unfolding flaw
IsDefinition-position script n h = IsDefinition-behind [] [] script.items.items n (no_fault _ h) refl

-- what a look-up by number gives
pub copied_found : (xs : List Item) (k : ℕ) (r : Option (Bor Item)) → MatchOption r (length xs ≤ k) (λ x. (k < length xs) × HoldsAt (λ y. x.now ≡ y) xs k) → IfSome r (λ x. x.now ≡ get_or xs k x.now) → option_copied r ≡ slice_get xs k
copied_found xs k None past h = sym (slice_get_past xs k past)
copied_found xs k (Some x) within h = sym (slice_get_read xs (length xs) k x.now refl within.0 h)
