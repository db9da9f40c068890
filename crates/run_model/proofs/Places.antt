-- Where the first and the second event of a command stand in a history, and versions there.
use Rattle.std.proofs.Common.{◌≡◌, ◌+◌, ◌||◌, ℕ, Bool, true, false, cond, List, [], ◌∷◌, ◌++◌, Option, Some, None, option_map, refl, sym, ap, ◌∙◌, arith}
use Rattle.std.specs.List.{list_any}
use Rattle.std.proofs.lemmas.Bool.{or_parts, eq-eqb}
use Rattle.run_model.specs.declared.event.Event.{Event}
use Rattle.run_model.specs.Versions.{changes, version, first_changed}
use Rattle.run_model.specs.States.{is_of, events_before, before_first, before_second}

-- ---- logs behind one another
abbrev pub behind_log : List Event → Option (List Event) → Option (List Event)
behind_log xs o = option_map (λ l. xs ++ l) o

pub behind_one : (x : Event) (xs : List Event) (o : Option (List Event)) →
    option_map (λ l. x ∷ l) (behind_log xs o) ≡ behind_log (x ∷ xs) o
behind_one x xs None = refl
behind_one x xs (Some l) = refl

pub behind_none : (o : Option (List Event)) → behind_log [] o ≡ o
behind_none None = refl
behind_none (Some l) = refl

append_twice : (xs ys zs : List Event) → xs ++ (ys ++ zs) ≡ (xs ++ ys) ++ zs
append_twice [] ys zs = refl
append_twice (x ∷ xs) ys zs = ap (λ l. x ∷ l) (append_twice xs ys zs)

pub behind_both : (xs ys : List Event) (o : Option (List Event)) → behind_log xs (behind_log ys o) ≡ behind_log (xs ++ ys) o
behind_both xs ys None = refl
behind_both xs ys (Some l) = ap (λ z. Some z) (append_twice xs ys l)

-- ---- events of one command
module _ (s c : ℕ) where
  pub first_none : (xs : List Event) → list_any (is_of s c) xs ≡ false → before_first s c xs ≡ None
  first_none [] h = refl
  first_none (x ∷ xs) h =
      let a : (is_of s c x ≡ false) × (list_any (is_of s c) xs ≡ false) = or_parts (is_of s c x) (list_any (is_of s c) xs) h in
      rw a.0 (ap (option_map (λ l. x ∷ l)) (first_none xs a.1))

  pub first_here : (e : Event) (es : List Event) → is_of s c e ≡ true → before_first s c (e ∷ es) ≡ Some []
  first_here e es h = ap (λ b. cond b (Some []) (option_map (λ l. e ∷ l) (before_first s c es))) h

  pub first_passes : (xs ys : List Event) → list_any (is_of s c) xs ≡ false → before_first s c (xs ++ ys) ≡ behind_log xs (before_first s c ys)
  first_passes [] ys h = sym (behind_none (before_first s c ys))
  first_passes (x ∷ xs) ys h =
      let a : (is_of s c x ≡ false) × (list_any (is_of s c) xs ≡ false) = or_parts (is_of s c x) (list_any (is_of s c) xs) h in
      rw a.0 (ap (option_map (λ l. x ∷ l)) (first_passes xs ys a.1) ∙ behind_one x xs (before_first s c ys))

  pub second_none : (xs : List Event) → list_any (is_of s c) xs ≡ false → before_second s c xs ≡ None
  second_none [] h = refl
  second_none (x ∷ xs) h =
      let a : (is_of s c x ≡ false) × (list_any (is_of s c) xs ≡ false) = or_parts (is_of s c x) (list_any (is_of s c) xs) h in
      rw a.0 (ap (option_map (λ l. x ∷ l)) (second_none xs a.1))

  pub second_here : (e : Event) (es : List Event) → is_of s c e ≡ true → before_second s c (e ∷ es) ≡ behind_log (e ∷ []) (before_first s c es)
  second_here e es h = ap (λ b. option_map (λ l. e ∷ l) (cond b (before_first s c es) (before_second s c es))) h

  pub second_passes : (xs ys : List Event) → list_any (is_of s c) xs ≡ false → before_second s c (xs ++ ys) ≡ behind_log xs (before_second s c ys)
  second_passes [] ys h = sym (behind_none (before_second s c ys))
  second_passes (x ∷ xs) ys h =
      let a : (is_of s c x ≡ false) × (list_any (is_of s c) xs ≡ false) = or_parts (is_of s c x) (list_any (is_of s c) xs) h in
      rw a.0 (ap (option_map (λ l. x ∷ l)) (second_passes xs ys a.1) ∙ behind_one x xs (before_second s c ys))

  -- what stands before the first event, where there is one
  pub before_is : (xs : List Event) (l : List Event) → before_first s c xs ≡ Some l →
      (events_before s c xs ≡ l) × (list_any (is_of s c) xs ≡ true)
  before_is [] l h = absurd (not_some l h)
    where
      not_some : (l : List Event) → None ≡ Some l → ⊥
      not_some l e = let k : 0 ≡ 1 = ap count e in omega (arith, k)
        where
          count : Option (List Event) → ℕ
          count None = 0
          count (Some l) = 1
  before_is (x ∷ xs) l h = picked (is_of s c x) (before_first s c xs) (before_is xs) h
    where
      of_some : {A : Type 0} → A → Option A → A
      of_some d None = d
      of_some d (Some a) = a

      count : Option (List Event) → ℕ
      count None = 0
      count (Some l) = 1

      picked : (b : Bool) (o : Option (List Event)) → ((k : List Event) → o ≡ Some k → (events_before s c xs ≡ k) × (list_any (is_of s c) xs ≡ true)) →
          cond b (Some []) (option_map (λ l. x ∷ l) o) ≡ Some l → (cond b [] (x ∷ events_before s c xs) ≡ l) × ((b || list_any (is_of s c) xs) ≡ true)
      picked true o f e = (ap (of_some []) e, refl)
      picked false None f e = let k : 0 ≡ 1 = ap count e in absurd (omega (arith, k))
      picked false (Some k) f e = let r = f k refl in (ap (λ z. x ∷ z) r.0 ∙ ap (of_some []) e, r.1)

  -- a command without a first event has no event: by induction on the log, each test fails
  pub none_is : (xs : List Event) → before_first s c xs ≡ None → list_any (is_of s c) xs ≡ false
  none_is [] h = refl
  none_is (x ∷ xs) h = picked (is_of s c x) (before_first s c xs) (none_is xs) h
    where
      count : Option (List Event) → ℕ
      count None = 0
      count (Some l) = 1

      picked : (b : Bool) (o : Option (List Event)) → (o ≡ None → list_any (is_of s c) xs ≡ false) →
          cond b (Some []) (option_map (λ l. x ∷ l) o) ≡ None → (b || list_any (is_of s c) xs) ≡ false
      picked true o f e = let k : 1 ≡ 0 = ap count e in absurd (omega (arith, k))
      picked false None f e = f refl
      picked false (Some k) f e = let k : 1 ≡ 0 = ap count e in absurd (omega (arith, k))

-- ---- versions
pub version-append : (name : List ℕ) (xs ys : List Event) → version name (xs ++ ys) ≡ version name xs + version name ys
version-append name [] ys = from_zero (version name ys)
  where
    from_zero : (n : ℕ) → n ≡ 0 + n
    from_zero n = omega arith
version-append name (x ∷ xs) ys =
    ap (λ n. cond (changes name x.act) 1 0 + n) (version-append name xs ys)
    ∙ add_twice (cond (changes name x.act) 1 0) (version name xs) (version name ys)
  where
    add_twice : (a b d : ℕ) → a + (b + d) ≡ (a + b) + d
    add_twice a b d = omega arith

-- equal versions, no change
pub nothing_changed : (f g : List ℕ → ℕ) → ((name : List ℕ) → f name ≡ g name) → (names : List (List ℕ)) → first_changed f g names ≡ None
nothing_changed f g h [] = refl
nothing_changed f g h (n ∷ ns) = rw (eq-eqb (f n) (g n) (h n)) (nothing_changed f g h ns)
