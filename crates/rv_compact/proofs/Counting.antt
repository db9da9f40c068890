-- The list of the walk has as many uses as are reached, each counted once.
-- 1. A use that is listed brings all that are reached from it, since each stands behind those of its names (`closed_all`).
-- 2. So the list and the uses that are reached have the same members (`has_all`, and `only` of the walk).
-- 3. A list without repeats is as long as one of the same members is when each is counted once: by taking out one use after another (`counts_most`, `counts_least`).
use Rattle.std.proofs.Common.{◌≡◌, ◌≤◌, ◌+◌, ◌||◌, zero, suc, ℕ, true, false, cond, List, [], ◌∷◌, length, take, get_or, refl, sym, ap, subst, ◌∙◌, inl, inr, arith}
use Rattle.std.specs.List.{list_any, flat_map, AllByRecursion, IsDistinct}
use Rattle.std.proofs.lemmas.Bool.{false≢true, cases_Bool, eq-eqb, and_from, or_cases, or_parts, or_from, or_left, or_right, false_from_ne_true}
use Rattle.std.proofs.Math.Seq.{take-length}
use Rattle.std.proofs.lemmas.Map.Keys.{IsDistinct-head, IsDistinct-tail}
use Rattle.rel_model.specs.declared.Rel.{Rel}
use Rattle.rel_model.specs.Uses.{Use, uses_from, uses_of, uses_count, count_once, same_use}
use Rattle.rv_compact.specs.Walks.{same_key, has_key, has_use, IsListed, HasKids, IsClosed, WalkedSome, root_depth}
use Rattle.rv_compact.proofs.Walking.{same_self, same_both, from-block, from-pair}
use Rattle.rv_compact.proofs.Naming.{first_pass, any-take}
use Rattle.rv_compact.proofs.Reaching.{flat_map-any}

-- ---- what is listed
-- a name that is listed among the first is listed
listed-take : (keys : List (ℕ × ℕ)) (j k n : ℕ) → IsListed (take j keys) k n → IsListed keys k n
listed-take keys j k n l = elim l [ inl e ↦ inl e | inr e ↦ inr (any-take (same_key (k, n)) keys j e) ]

-- both names of the word of a use that is listed are listed
kids_listed : (words : List ℕ) (keys : List (ℕ × ℕ)) (k n : ℕ) → IsClosed words keys → has_key keys (suc k) n ≡ true → HasKids words keys (suc k) n
kids_listed words keys k n c e =
    let r = first_pass (same_key (suc k, n)) keys (length keys) (ap (list_any (same_key (suc k, n))) (take-length keys) ∙ e) in
    let d : ℕ × ℕ = (0, 0) in
    let q = same_both (suc k) n _ _ (r.passes d) in
    let h : HasKids words (take r.place keys) (suc k) n =
    subst (λ (x : ℕ). HasKids words (take r.place keys) (suc k) x) (sym q.1) (subst (λ (x : ℕ). HasKids words (take r.place keys) x (get_or keys r.place d).1) (sym q.0) (c r.place d r.in_list).1) in
    (listed-take keys r.place k _ h.0, listed-take keys r.place k _ h.1)

-- a use is listed that is one with another
own : (keys : List (ℕ × ℕ)) (k n i m : ℕ) → has_key keys k n ≡ true → same_key (i, m) (k, n) ≡ true → has_key keys i m ≡ true
own keys k n i m y e =
    let p = same_both i m k n e in
    subst (λ (x : ℕ). has_key keys x m ≡ true) (sym p.0) (subst (λ (x : ℕ). has_key keys k x ≡ true) (sym p.1) y)

-- all that is reached from a listed use is listed, by induction on its depth: it is that use, or is reached from a name
-- of its word, and both names are listed
pub closed_all : (words : List ℕ) (keys : List (ℕ × ℕ)) → IsClosed words keys → (k n : ℕ) → IsListed keys k n → (i m : ℕ) → has_use (uses_from words k n) i m ≡ true → has_key keys i m ≡ true
closed_all words keys c zero n l i m e =
    let f = from-block words n i m e in
    elim l [ inl y ↦ absurd (f.0 y) | inr y ↦ own keys 0 n i m y f.1 ]
closed_all words keys c (suc k) n l i m e =
    let f = from-pair words k n i m e in
    elim l [
      | inl y ↦ absurd (f.0 y)
      | inr y ↦
          let h = kids_listed words keys k n c y in
          elim f.1 [
            | inl a ↦ own keys (suc k) n i m y a
            | inr a ↦ elim a [ inl b ↦ closed_all words keys c k _ h.0 i m b | inr b ↦ closed_all words keys c k _ h.1 i m b ]
          ]
    ]

-- all uses that relations reach are listed
pub has_all : (words : List ℕ) (rels : List Rel) (keys : List (ℕ × ℕ)) → WalkedSome words rels (length rels) keys → (i m : ℕ) → has_use (flat_map (uses_of words) rels) i m ≡ true → has_key keys i m ≡ true
unfolding uses_of
has_all words rels keys w i m e =
    let r = flat_map-any (same_use (record { depth = i; name = m })) (uses_of words) rels e in
    let d : Rel = record { rows = 0; cols = 0; root = 0 } in
    closed_all words keys w.closed (root_depth (get_or rels r.place d)) (get_or rels r.place d).root (w.roots r.place d r.within) i m (r.passes d)

-- ---- lists without repeats
-- no use is in the list behind it
abbrev pub Differ : List (ℕ × ℕ) → Type 0
Differ [] = Unit {0}
Differ (e ∷ es) = (has_key es e.0 e.1 ≡ false) × Differ es

differ_all : (e : ℕ × ℕ) (es : List (ℕ × ℕ)) → AllByRecursion (λ y. same_key e y ≡ false) es → has_key es e.0 e.1 ≡ false
differ_all e [] a = refl
differ_all e (f ∷ es) a = or_from _ _ a.0 (differ_all e es a.1)

pub differ_from : (es : List (ℕ × ℕ)) → IsDistinct same_key es → Differ es
differ_from [] d = tt
differ_from (e ∷ es) d = (differ_all e es (IsDistinct-head same_key e es d), differ_from es (IsDistinct-tail same_key e es d))

-- ---- a list without one use
abbrev pub without : ℕ → ℕ → List (ℕ × ℕ) → List (ℕ × ℕ)
without k n [] = []
without k n (e ∷ es) = cond (same_key (k, n) e) (without k n es) (e ∷ without k n es)

-- what it has the list had, and is another use
without_has : (k n i m : ℕ) (es : List (ℕ × ℕ)) → has_key (without k n es) i m ≡ true → (has_key es i m ≡ true) × (same_key (k, n) (i, m) ≡ false)
without_has k n i m [] h = absurd (false≢true h)
without_has k n i m (e ∷ es) h = elim (cases_Bool (same_key (k, n) e)) [
  | inl t ↦
      let g : has_key (without k n es) i m ≡ true = rw t at h in
      let r = without_has k n i m es g in
      (or_right (same_key (i, m) e) _ r.0, r.1)
  | inr t ↦
      let g : (same_key (i, m) e || has_key (without k n es) i m) ≡ true = rw t at h in
      elim (or_cases (same_key (i, m) e) _ g) [
        | inl a ↦ let p = same_both i m e.0 e.1 a in
            (or_left (same_key (i, m) e) _ a, subst (λ (x : ℕ). same_key (k, n) (x, m) ≡ false) (sym p.0) (subst (λ (x : ℕ). same_key (k, n) (e.0, x) ≡ false) (sym p.1) t))
        | inr a ↦ let r = without_has k n i m es a in (or_right (same_key (i, m) e) _ r.0, r.1)
      ]
]

-- it has every other use that the list had
has_without : (k n i m : ℕ) (es : List (ℕ × ℕ)) → has_key es i m ≡ true → same_key (k, n) (i, m) ≡ false → has_key (without k n es) i m ≡ true
has_without k n i m [] h f = absurd (false≢true h)
has_without k n i m (e ∷ es) h f = elim (cases_Bool (same_key (k, n) e)) [
  | inl t ↦ rw t (elim (or_cases (same_key (i, m) e) _ h) [
    | inl a ↦ let p = same_both i m e.0 e.1 a in
        absurd (false≢true (sym f ∙ subst (λ (x : ℕ). same_key (k, n) (x, m) ≡ true) (sym p.0) (subst (λ (x : ℕ). same_key (k, n) (e.0, x) ≡ true) (sym p.1) t)))
    | inr a ↦ has_without k n i m es a f
  ])
  | inr t ↦ rw t (elim (or_cases (same_key (i, m) e) _ h) [
    | inl a ↦ or_left (same_key (i, m) e) _ a
    | inr a ↦ or_right (same_key (i, m) e) _ (has_without k n i m es a f)
  ])
]

-- it has no repeats
without_differ : (k n : ℕ) (es : List (ℕ × ℕ)) → Differ es → Differ (without k n es)
without_differ k n [] d = tt
without_differ k n (e ∷ es) d = elim (cases_Bool (same_key (k, n) e)) [
  | inl t ↦ rw t (without_differ k n es d.1)
  | inr t ↦ rw t (false_from_ne_true _ (λ h. false≢true (sym d.0 ∙ (without_has k n e.0 e.1 es h).0)), without_differ k n es d.1)
]

-- it is as long as the list, or shorter
without_short : (k n : ℕ) (es : List (ℕ × ℕ)) → length (without k n es) ≤ length es
without_short k n [] = omega arith
without_short k n (e ∷ es) =
    let i = without_short k n es in
    elim (cases_Bool (same_key (k, n) e)) [ inl t ↦ rw t (omega arith) | inr t ↦ rw t (omega arith) ]

-- it is shorter where the list had the use
without_shorter : (k n : ℕ) (es : List (ℕ × ℕ)) → has_key es k n ≡ true → length (without k n es) + 1 ≤ length es
without_shorter k n [] h = absurd (false≢true h)
without_shorter k n (e ∷ es) h = elim (cases_Bool (same_key (k, n) e)) [
  | inl t ↦ let i = without_short k n es in rw t (omega arith)
  | inr t ↦
      let g : has_key es k n ≡ true = elim (or_cases (same_key (k, n) e) _ h) [ inl a ↦ absurd (false≢true (sym t ∙ a)) | inr a ↦ a ] in
      let i = without_shorter k n es g in
      rw t (omega arith)
]

-- it is as long where the list lacked the use
without_same : (k n : ℕ) (es : List (ℕ × ℕ)) → has_key es k n ≡ false → length es ≤ length (without k n es)
without_same k n [] h = omega arith
without_same k n (e ∷ es) h =
    let p = or_parts (same_key (k, n) e) (has_key es k n) h in
    let i = without_same k n es p.1 in
    rw p.0 (omega arith)

-- it is shorter by one at most, where the list has no repeats
without_one : (k n : ℕ) (es : List (ℕ × ℕ)) → Differ es → length es ≤ length (without k n es) + 1
without_one k n [] d = omega arith
without_one k n (e ∷ es) d = elim (cases_Bool (same_key (k, n) e)) [
  | inl t ↦
      let p = same_both k n e.0 e.1 t in
      let g : has_key es k n ≡ false = subst (λ (x : ℕ). has_key es x n ≡ false) (sym p.0) (subst (λ (x : ℕ). has_key es e.0 x ≡ false) (sym p.1) d.0) in
      let i = without_same k n es g in
      rw t (omega arith)
  | inr t ↦ let i = without_one k n es d.1 in rw t (omega arith)
]

-- ---- how many uses there are
-- a use that is one with another is where the other is
one_use : (us : List Use) (k n i m : ℕ) → same_key (i, m) (k, n) ≡ true → has_use us k n ≡ true → has_use us i m ≡ true
one_use us k n i m e h =
    let p = same_both i m k n e in
    subst (λ (x : ℕ). has_use us x m ≡ true) (sym p.0) (subst (λ (x : ℕ). has_use us k x ≡ true) (sym p.1) h)

-- two uses are one in both ways
flip : (i m k n : ℕ) → same_key (i, m) (k, n) ≡ true → same_key (k, n) (i, m) ≡ true
flip i m k n e = let p = same_both i m k n e in and_from _ _ (eq-eqb k i (sym p.0)) (eq-eqb n m (sym p.1))

-- a list without repeats has no more than there are among uses that have all of it
pub counts_most : (us : List Use) (es : List (ℕ × ℕ)) → Differ es → ((i m : ℕ) → has_key es i m ≡ true → has_use us i m ≡ true) → length es ≤ count_once us
counts_most [] [] d h = omega arith
counts_most [] (e ∷ es) d h = absurd (false≢true (h e.0 e.1 (or_left _ _ (same_self e.0 e.1))))
counts_most (u ∷ us) es d h = elim (cases_Bool (has_use us u.depth u.name)) [
  | inl t ↦
      let i = counts_most us es d (λ i m g. elim (or_cases (same_key (i, m) (u.depth, u.name)) _ (h i m g)) [ inl a ↦ one_use us u.depth u.name i m a t | inr a ↦ a ]) in
      rw t (omega arith)
  | inr t ↦
      let k : ℕ = u.depth in
      let n : ℕ = u.name in
      let i = counts_most us (without k n es) (without_differ k n es d) (λ i m g.
      let r = without_has k n i m es g in
      elim (or_cases (same_key (i, m) (k, n)) _ (h i m r.0)) [ inl a ↦ absurd (false≢true (sym r.1 ∙ flip i m k n a)) | inr a ↦ a ]) in
      let o = without_one k n es d in
      rw t (omega arith)
]

-- a list that has all of some uses has no fewer than there are
pub counts_least : (us : List Use) (es : List (ℕ × ℕ)) → ((i m : ℕ) → has_use us i m ≡ true → has_key es i m ≡ true) → count_once us ≤ length es
counts_least [] es h = omega arith
counts_least (u ∷ us) es h = elim (cases_Bool (has_use us u.depth u.name)) [
  | inl t ↦
      let i = counts_least us es (λ i m g. h i m (or_right _ _ g)) in
      rw t (omega arith)
  | inr t ↦
      let k : ℕ = u.depth in
      let n : ℕ = u.name in
      let i = counts_least us (without k n es) (λ i m g. has_without k n i m es (h i m (or_right _ _ g))
      (false_from_ne_true _ (λ a. false≢true (sym t ∙ one_use us i m k n a g)))) in
      let o = without_shorter k n es (h k n (or_left _ _ (same_self k n))) in
      rw t (omega arith)
]

-- the list of the walk has as many uses as are reached
pub walked_count : (words : List ℕ) (rels : List Rel) (keys : List (ℕ × ℕ)) → WalkedSome words rels (length rels) keys → IsDistinct same_key keys → uses_count words rels ≡ length keys
unfolding uses_count
walked_count words rels keys w d =
    let a = counts_most (flat_map (uses_of words) rels) keys (differ_from keys d) w.only in
    let b = counts_least (flat_map (uses_of words) rels) keys (has_all words rels keys w) in
    omega arith
