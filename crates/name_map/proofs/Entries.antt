-- What the entries of an ordered map are after a call, in the words of finite maps from names.
--
-- 1. A key is put into its place by the same recursion on both sides, which differ in how they write a choice by order.
-- 2. Where keys increase, the first that ties with a name is the only one: all behind it are greater.
use Rattle.std.proofs.Common.{◌≡◌, ◌∙◌, ◌&&◌, ℕ, Bool, true, false, cond, not, T, List, [], ◌∷◌, is_some, Some, None, Ordering, Less, Equal, Greater, refl, sym, ap, subst}
use Rattle.std.specs.Prelude.{IsSome}
use Rattle.std.specs.Ordering.{match_ordering, is_lt, is_eq, eq_by_cmp}
use Rattle.std.specs.FinMap.Entries.{by_order, below_all, is_sorted}
use Rattle.std.specs.Cmp.Lexicographic.{nat_list_cmp_total}
use Rattle.std.specs.BTreeMap.{insert_entry, is_at}
use Rattle.std.specs.Map as entries
use Rattle.run_model.specs.Names.{compare, Names, lookup, set, remove, IsIncreasing}

first : (a b : Bool) → T (a && b) → T a
first true b p = tt
first false b p = p

second : (a b : Bool) → T (a && b) → T b
second true b p = p
second false b p = absurd p

less : (o : Ordering) → T (is_lt o) → o ≡ Less
less Less p = refl
less Equal p = absurd p
less Greater p = absurd p

module _ {V : Type 0} where
  one_order : (o : Ordering) (x y z : Names V) → match_ordering o x y z ≡ by_order o x y z
  one_order Less x y z = refl
  one_order Equal x y z = refl
  one_order Greater x y z = refl

  pub insert_entry-set : (m : Names V) (name : List ℕ) (v : V) → insert_entry compare m name v ≡ set name v m
  insert_entry-set [] name v = refl
  insert_entry-set (e ∷ es) name v =
      one_order (compare name e.0) ((name, v) ∷ e ∷ es) ((e.0, v) ∷ es) (e ∷ insert_entry compare es name v)
      ∙ ap (λ z. by_order (compare name e.0) ((name, v) ∷ e ∷ es) ((e.0, v) ∷ es) (e ∷ z)) (insert_entry-set es name v)

  pub lookup-lookup : (m : Names V) (name : List ℕ) → entries.lookup (is_at (compare name)) m ≡ lookup m name
  lookup-lookup [] name = refl
  lookup-lookup (e ∷ es) name = ap (cond (eq_by_cmp compare name e.0) (Some e.1)) (lookup-lookup es name)

  -- a name below the first of increasing names is below all
  below : (n k : List ℕ) (m : Names V) → compare n k ≡ Less → T (below_all compare k m) → T (below_all compare n m)
  below n k [] p h = tt
  below n k (e ∷ es) p h =
      let here = nat_list_cmp_total.trans n k e.0 p (less _ (first _ _ h)) in
      subst (λ r. T (is_lt r && below_all compare n es)) (sym here) (below n k es p (second _ _ h))

  -- a name that ties with the first is below all others
  tied : (n k : List ℕ) (m : Names V) → compare n k ≡ Equal → T (below_all compare k m) → T (below_all compare n m)
  tied n k [] p h = tt
  tied n k (e ∷ es) p h =
      let here = nat_list_cmp_total.congr n k e.0 p ∙ less _ (first _ _ h) in
      subst (λ r. T (is_lt r && below_all compare n es)) (sym here) (tied n k es p (second _ _ h))

  -- a name below all has nothing
  absent : (n : List ℕ) (m : Names V) → T (below_all compare n m) → lookup m n ≡ None
  absent n [] h = refl
  absent n (e ∷ es) h = ap (λ r. cond (is_eq r) (Some e.1) (lookup es n)) (less _ (first _ _ h)) ∙ absent n es (second _ _ h)

  -- and there is nothing to remove
  kept : (n : List ℕ) (m : Names V) → T (below_all compare n m) → remove n m ≡ m
  kept n [] h = refl
  kept n (e ∷ es) h =
      ap (λ r. cond (not (is_eq r)) (e ∷ remove n es) (remove n es)) (less _ (first _ _ h)) ∙ ap (λ z. e ∷ z) (kept n es (second _ _ h))

  -- to remove the first entry of a name is to remove all of them, by induction: keys increase, so behind the first that
  -- ties there is no other
  pub remove_entry-remove : (m : Names V) (name : List ℕ) → IsIncreasing m → entries.remove_entry (is_at (compare name)) m ≡ remove name m
  remove_entry-remove [] name h = refl
  remove_entry-remove (e ∷ es) name h = at (compare name e.0) refl (remove_entry-remove es name (second _ _ h))
    where
      at : (r : Ordering) → compare name e.0 ≡ r → entries.remove_entry (is_at (compare name)) es ≡ remove name es → entries.remove_entry (is_at (compare name)) (e ∷ es) ≡ remove name (e ∷ es)
      at Less p rest =
          ap (λ r. cond (is_eq r) es (e ∷ entries.remove_entry (is_at (compare name)) es)) p
          ∙ ap (λ z. e ∷ z) rest
          ∙ sym (ap (λ r. cond (not (is_eq r)) (e ∷ remove name es) (remove name es)) p)
      at Equal p rest =
          ap (λ r. cond (is_eq r) es (e ∷ entries.remove_entry (is_at (compare name)) es)) p
          ∙ sym (kept name es (tied name e.0 es p (first _ _ h)))
          ∙ sym (ap (λ r. cond (not (is_eq r)) (e ∷ remove name es) (remove name es)) p)
      at Greater p rest =
          ap (λ r. cond (is_eq r) es (e ∷ entries.remove_entry (is_at (compare name)) es)) p
          ∙ ap (λ z. e ∷ z) rest
          ∙ sym (ap (λ r. cond (not (is_eq r)) (e ∷ remove name es) (remove name es)) p)

  -- to change the value of a name that is there is to put it in, by induction: the name is not below the first key, or
  -- it would be below all and have no value
  pub set_value-set : (m : Names V) (name : List ℕ) (v : V) → IsIncreasing m → IsSome (lookup m name) → entries.set_value (is_at (compare name)) m v ≡ set name v m
  set_value-set [] name v h some = absurd (subst T (sym some) tt)
  set_value-set (e ∷ es) name v h some = at (compare name e.0) refl (λ there. set_value-set es name v (second _ _ h) there)
    where
      at : (r : Ordering) → compare name e.0 ≡ r → (IsSome (lookup es name) → entries.set_value (is_at (compare name)) es v ≡ set name v es) → entries.set_value (is_at (compare name)) (e ∷ es) v ≡ set name v (e ∷ es)
      at Less p rest =
          let none : lookup (e ∷ es) name ≡ None = ap (λ r. cond (is_eq r) (Some e.1) (lookup es name)) p ∙ absent name es (below name e.0 es p (first _ _ h)) in
          absurd (subst T (sym (sym (ap is_some none) ∙ some)) tt)
      at Equal p rest =
          ap (λ r. cond (is_eq r) ((e.0, v) ∷ es) (e ∷ entries.set_value (is_at (compare name)) es v)) p
          ∙ sym (ap (λ r. by_order r ((name, v) ∷ e ∷ es) ((e.0, v) ∷ es) (e ∷ set name v es)) p)
      at Greater p rest =
          let there : IsSome (lookup es name) = subst IsSome (ap (λ r. cond (is_eq r) (Some e.1) (lookup es name)) p) some in
          ap (λ r. cond (is_eq r) ((e.0, v) ∷ es) (e ∷ entries.set_value (is_at (compare name)) es v)) p
          ∙ ap (λ z. e ∷ z) (rest there)
          ∙ sym (ap (λ r. by_order r ((name, v) ∷ e ∷ es) ((e.0, v) ∷ es) (e ∷ set name v es)) p)

  -- a new value changes no key, and so no order
  same_below : (b : Bool) (k : List ℕ) (e : List ℕ × V) (v : V) (es rest : Names V) → below_all compare k rest ≡ below_all compare k es
      → below_all compare k (cond b ((e.0, v) ∷ es) (e ∷ rest)) ≡ below_all compare k (e ∷ es)
  same_below true k e v es rest h = refl
  same_below false k e v es rest h = ap (λ b. is_lt (compare k e.0) && b) h

  below-set_value : (test : List ℕ → Bool) (k : List ℕ) (es : Names V) (v : V) → below_all compare k (entries.set_value test es v) ≡ below_all compare k es
  below-set_value test k [] v = refl
  below-set_value test k (e ∷ es) v = same_below (test e.0) k e v es (entries.set_value test es v) (below-set_value test k es v)

  same_order : (b : Bool) (e : List ℕ × V) (v : V) (es rest : Names V) → below_all compare e.0 rest ≡ below_all compare e.0 es → is_sorted compare rest ≡ is_sorted compare es
      → is_sorted compare (cond b ((e.0, v) ∷ es) (e ∷ rest)) ≡ is_sorted compare (e ∷ es)
  same_order true e v es rest h k = refl
  same_order false e v es rest h k = ap (λ b. b && is_sorted compare rest) h ∙ ap (λ b. below_all compare e.0 es && b) k

  order-set_value : (test : List ℕ → Bool) (es : Names V) (v : V) → is_sorted compare (entries.set_value test es v) ≡ is_sorted compare es
  order-set_value test [] v = refl
  order-set_value test (e ∷ es) v = same_order (test e.0) e v es (entries.set_value test es v) (below-set_value test e.0 es v) (order-set_value test es v)

  pub set_value_in_order : (test : List ℕ → Bool) (es : Names V) (v : V) → IsIncreasing es → IsIncreasing (entries.set_value test es v)
  set_value_in_order test es v h = subst T (sym (order-set_value test es v)) h
