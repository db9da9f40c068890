-- Where rows begin in a sorted list of pairs.
-- 1. In a sorted list, rows do not fall from place to place (`rows_rise`).
-- 2. Entries up to the row of the next pair count the pairs before it (`index_filled`, `index_next`).
-- 3. The pairs between two entries that follow one another are those of one row (`row_among`).
use Rattle.std.proofs.Common.{◌≡◌, ◌<◌, ◌≤◌, ◌+◌, ◌-◌, ◌∙◌, ◌&&◌, eqb, ltb, zero, suc, ℕ, Bool, true, List, [], ◌∷◌, sym, ap, subst, inl, inr, arith, take, drop, get_or, length}
use Rattle.std.specs.List.{list_any, AllByRecursion}
use Rattle.std.proofs.lemmas.Bool.{false≢true, cases_lt, lt-ltb, le-ltb, ltb-true, ltb-false, and_parts, and_from, or_cases, eqb-true, eq-eqb}
use Rattle.std.proofs.lemmas.List.{length-take-le, length-drop, get_or-take, get_or-drop}
use Rattle.std.proofs.lemmas.List.Folds.{list_any_at}
use Rattle.rel_model.specs.Relation.{before, IsIncreasing}
use Rattle.rel_model.proofs.Pairs.{member, before-true}
use Rattle.rel_model.proofs.Somes.{same_truth}
use Rattle.rel_joins.specs.Starts.{row_at, Fills, Indexes, IsIndex}

-- ---- places of a list
pub all_at : (P : ℕ × ℕ → Type 0) (ps : List (ℕ × ℕ)) (k : ℕ) (d : ℕ × ℕ) → AllByRecursion P ps → k < length ps → P (get_or ps k d)
all_at P [] k d h l = absurd (omega (arith, l))
all_at P (p ∷ ps) zero d h l = h.0
all_at P (p ∷ ps) (suc k) d h l = all_at P ps k d h.1 (omega (arith, l))

-- what holds of each holds in each part
pub all_take : (P : ℕ × ℕ → Type 0) (n : ℕ) (ps : List (ℕ × ℕ)) → AllByRecursion P ps → AllByRecursion P (take n ps)
all_take P zero ps h = tt
all_take P (suc n) [] h = tt
all_take P (suc n) (p ∷ ps) h = (h.0, all_take P n ps h.1)

pub all_drop : (P : ℕ × ℕ → Type 0) (n : ℕ) (ps : List (ℕ × ℕ)) → AllByRecursion P ps → AllByRecursion P (drop n ps)
all_drop P zero ps h = h
all_drop P (suc n) [] h = tt
all_drop P (suc n) (p ∷ ps) h = all_drop P n ps h.1

-- a place where a test passes
pub record At (t : ℕ × ℕ → Bool) (ps : List (ℕ × ℕ)) : Type 0 where
  pub place : ℕ
  pub below : place < length ps
  pub passes : t (get_or ps place (0, 0)) ≡ true

pub found : (t : ℕ × ℕ → Bool) (ps : List (ℕ × ℕ)) → list_any t ps ≡ true → At t ps
found t [] h = absurd (false≢true h)
found t (p ∷ ps) h =
    elim (or_cases (t p) (list_any t ps) h) [
      | inl a ↦ record { place = 0; below = omega arith; passes = a }
      | inr a ↦ let f = found t ps a in record { place = suc f.place; below = omega (arith, f.below); passes = f.passes }
    ]

-- ---- rows
pub rows_rise : (ps : List (ℕ × ℕ)) (k l : ℕ) → IsIncreasing ps → k ≤ l → l < length ps → row_at ps k ≤ row_at ps l
rows_rise [] k l s h b = absurd (omega (arith, b))
rows_rise (p ∷ ps) zero zero s h b = omega arith
rows_rise (p ∷ ps) zero (suc l) s h b =
    let q = get_or ps l (0, 0) in
    elim (before-true p q (all_at (λ q. before p q ≡ true) ps l (0, 0) s.0 (omega (arith, b)))) [
      | inl a ↦ omega (arith, a)
      | inr a ↦ omega (arith, a.0)
    ]
rows_rise (p ∷ ps) (suc k) zero s h b = absurd (omega (arith, h))
rows_rise (p ∷ ps) (suc k) (suc l) s h b = rows_rise ps k l s.1 (omega (arith, h)) (omega (arith, b))

-- ---- entries
pub index_none : (ps : List (ℕ × ℕ)) (starts : List ℕ) → starts ≡ [] → Indexes 0 ps starts
index_none ps starts e =
    subst (λ (xs : List ℕ). Indexes 0 ps xs) (sym e) record { at = λ p k h l. absurd (omega (arith, h)); short = λ p h. absurd (omega (arith, h)); had = λ k h. absurd (omega (arith, h)) }

-- an old entry counts as before; a new one counts the pairs so far, since those that follow have rows from its place on
pub index_filled : {place k : ℕ} {ps : List (ℕ × ℕ)} {old new : List ℕ} → Indexes k ps old → Fills place k old new → k ≤ length ps → ((i : ℕ) → k ≤ i → i < length ps → place ≤ row_at ps i) → Indexes k ps new
index_filled {place} {k} {ps} {old} {new} s f b rest = record {
  at = λ p i l m. elim (cases_lt p (length old)) [
    | inl a ↦ ap (λ n. ltb i n) (f.kept p a) ∙ s.at p i a m
    | inr a ↦ (let e = f.fresh p a l in
        ap (λ n. ltb i n) e.0 ∙ elim (cases_lt i k) [
          | inl c ↦ let h = s.had i c in lt-ltb i k c ∙ sym (lt-ltb (row_at ps i) p (omega (arith, a, h)))
          | inr c ↦ let h = rest i c m in le-ltb i k c ∙ sym (le-ltb (row_at ps i) p (omega (arith, e.1, h)))
        ])
  ];
  short = λ p l. elim (cases_lt p (length old)) [
    | inl a ↦ let h = s.short p a in let e = f.kept p a in omega (arith, h, e)
    | inr a ↦ let e = f.fresh p a l in omega (arith, e.0, b)
  ];
  had = λ i c. let h = s.had i c in let m = f.longer in omega (arith, h, m);
}

pub index_next : {k : ℕ} {ps : List (ℕ × ℕ)} {starts : List ℕ} → Indexes k ps starts → row_at ps k < length starts → Indexes (k + 1) ps starts
index_next {k} {ps} {starts} s l = record {
  at = s.at;
  short = s.short;
  had = λ i c. elim (cases_lt i k) [
    | inl a ↦ s.had i a
    | inr a ↦ let e : k ≡ i = omega (arith, a, c) in subst (λ n. row_at ps n < length starts) e l
  ];
}

-- one more row
pub index_more : {k row : ℕ} {ps : List (ℕ × ℕ)} {old new : List ℕ} → IsIncreasing ps → Indexes k ps old → Fills row k old new → row < length new → row ≡ row_at ps k → k < length ps → Indexes (k + 1) ps new
index_more {k} {row} {ps} {old} {new} up s f over e l =
    index_next (index_filled s f (omega (arith, l)) (λ i a b. let h = rows_rise ps k i up a b in omega (arith, h, e))) (omega (arith, over, e))

-- the rows after the last pair
pub index_all : {k rows : ℕ} {ps : List (ℕ × ℕ)} {old new : List ℕ} → Indexes k ps old → length ps ≤ k → Fills rows (length ps) old new → rows < length new → IsIndex rows ps new
index_all {k} {rows} {ps} {old} {new} s l f over =
    let all : Indexes (length ps) ps old = record { at = s.at; short = s.short; had = λ i c. s.had i (omega (arith, c, l)) } in
    record { indexes = index_filled all f (omega arith) (λ i a b. absurd (omega (arith, a, b))); whole = over }

-- ---- the pairs of one row
-- entries do not fall
pub starts_rise : {ps : List (ℕ × ℕ)} {starts : List ℕ} (j : ℕ) → Indexes (length ps) ps starts → j + 1 < length starts → get_or starts j 0 ≤ get_or starts (j + 1) 0
starts_rise {ps} {starts} j s l =
    let n = get_or starts (j + 1) 0 in
    elim (cases_lt n (get_or starts j 0)) [
      | inl a ↦ (let b = s.short j (omega (arith, l)) in
          let below : n < length ps = omega (arith, a, b) in
          let high = ltb-false (row_at ps n) (j + 1) (sym (s.at (j + 1) n (omega (arith, l)) below) ∙ le-ltb n n (omega arith)) in
          let low = ltb-true (row_at ps n) j (sym (s.at j n (omega (arith, l)) below) ∙ lt-ltb n (get_or starts j 0) a) in
          absurd (omega (arith, high, low)))
      | inr a ↦ a
    ]

pub slice_length : (a b : ℕ) (ps : List (ℕ × ℕ)) → b ≤ length ps → length (take (b - a) (drop a ps)) ≡ b - a
slice_length a b ps l = let d = length-drop a ps in length-take-le (b - a) (drop a ps) (omega (arith, d, l))

slice_at : (a b n : ℕ) (ps : List (ℕ × ℕ)) → n < b - a → get_or (take (b - a) (drop a ps)) n (0, 0) ≡ get_or ps (a + n) (0, 0)
slice_at a b n ps l = get_or-take (b - a) (drop a ps) n (0, 0) l ∙ get_or-drop a ps n (0, 0)

-- A pair between the entries of row j and of the next row has row j, since the entries count the pairs with lower rows;
-- a pair of row j lies between them for the same reason.
pub row_among : {ps : List (ℕ × ℕ)} {starts : List ℕ} (j a b : ℕ) → Indexes (length ps) ps starts → j + 1 < length starts → a ≡ get_or starts j 0 → b ≡ get_or starts (j + 1) 0 → (k : ℕ)
    → list_any (λ q. eqb q.1 k) (take (b - a) (drop a ps)) ≡ member (j, k) ps
row_among {ps} {starts} j a b s l e f k =
    let first : j < length starts = omega (arith, l) in
    let next = l in
    let short : b ≤ length ps = let h = s.short (j + 1) next in omega (arith, h, f) in
    same_truth _ _
    (λ h. let x = found (λ q. eqb q.1 k) (take (b - a) (drop a ps)) h in
    let size = slice_length a b ps short in
    let n : x.place < b - a = let c = x.below in omega (arith, size, c) in
    let at : a + x.place < length ps = omega (arith, n, short) in
    let high = ltb-true (row_at ps (a + x.place)) (j + 1) (sym (s.at (j + 1) (a + x.place) next at) ∙ lt-ltb (a + x.place) (get_or starts (j + 1) 0) (omega (arith, n, f))) in
    let low = ltb-false (row_at ps (a + x.place)) j (sym (s.at j (a + x.place) first at) ∙ le-ltb (a + x.place) (get_or starts j 0) (omega (arith, e))) in
    list_any_at (λ p. eqb p.0 j && eqb p.1 k) ps (a + x.place) (0, 0) at
    (and_from _ _ (eq-eqb (row_at ps (a + x.place)) j (omega (arith, high, low))) (ap (λ (q : ℕ × ℕ). eqb q.1 k) (sym (slice_at a b x.place ps n)) ∙ x.passes)))
    (λ h. let x = found (λ p. eqb p.0 j && eqb p.1 k) ps h in
    let both = and_parts _ _ x.passes in
    let row : row_at ps x.place ≡ j = eqb-true (row_at ps x.place) j both.0 in
    let low = ltb-false x.place (get_or starts j 0) (s.at j x.place first x.below ∙ le-ltb (row_at ps x.place) j (omega (arith, row))) in
    let high = ltb-true x.place (get_or starts (j + 1) 0) (s.at (j + 1) x.place next x.below ∙ lt-ltb (row_at ps x.place) (j + 1) (omega (arith, row))) in
    let n : x.place - a < b - a = omega (arith, low, high, e, f) in
    let size = slice_length a b ps short in
    let back : a + (x.place - a) ≡ x.place = omega (arith, low, e) in
    list_any_at (λ q. eqb q.1 k) (take (b - a) (drop a ps)) (x.place - a) (0, 0) (omega (arith, n, size))
    (ap (λ (q : ℕ × ℕ). eqb q.1 k) (slice_at a b (x.place - a) ps n ∙ ap (λ z. get_or ps z (0, 0)) back) ∙ both.1))
