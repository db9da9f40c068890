-- Squares side by side.
-- 1. Two stretches of squares, one to the right of the other, are one (`spaced-append`), and their cells add up (`laid-append`).
-- 2. A strip stays while calls keep its quads (`strip_later`, `laid_later`).
-- 3. The cells of a square are those of its quarters, each put where it lies (`placed-quartered`).
use Rattle.std.proofs.Common.{◌≡◌, ◌≢◌, ◌∙◌, ◌≤◌, ◌<◌, ◌+◌, ◌-◌, ◌*◌, ◌^◌, ◌++◌, ◌||◌, eqb, leb, suc, ℕ, Bool, true, false, List, [], ◌∷◌, refl, sym, ap, subst, inl, inr, arith, drop, get_or, length, Result, Ok, Err}
use Rattle.std.specs.Prelude.{OnOk}
use Rattle.std.proofs.Math.Nat.{pow-suc}
use Rattle.std.proofs.Math.Pow.{pow_mono}
use Rattle.std.proofs.Math.Seq.{drop-cons}
use Rattle.std.specs.List.{AllByRecursion}
use Rattle.std.proofs.lemmas.Bool.{false≢true, cases_Bool, cases_lt, and_parts, and_from, and_right, or_cases, or_right, lt-ltb, le-ltb, eqb-true}
use Rattle.std.proofs.lemmas.Bool.Decides.{nat_tests}
use Rattle.rel_model.specs.declared.Quad.{Quad}
use Rattle.rel_model.specs.Cells.{Cells, no_cells}
use Rattle.rel_model.specs.Relation.{size_height, size_limit}
use Rattle.rel_model.specs.Trees.{quartered, top_height}
use Rattle.rel_model.specs.Quarters.{LiesWithin}
use Rattle.rel_model.specs.Worker.{Worker, HasQuad, quad_set, Keeps}
use Rattle.rel_steps.proofs.Given.{kept_quad, kept_set}
use Rattle.rel_listing.specs.Strips.{Spaced, IsStripFrom, IsStrip, placed, laid, kept}
use Rattle.rel_listing.proofs.Truth.{same_truth, or_here, or_none, or_or}

-- ---- what is left of a list
pub drop_next : {A : Type 0} (xs : List A) (k : ℕ) (d : A) → k < length xs → drop k xs ≡ get_or xs k d ∷ drop (k + 1) xs
drop_next xs k d l = let e : suc k ≡ k + 1 = omega arith in drop-cons xs k d l ∙ ap (λ n. get_or xs k d ∷ drop n xs) e

pub ok_then : {T E : Type 0} {P Q : Type 0} (r : Result T E) → (P → Q) → OnOk r P → OnOk r Q
ok_then (Ok x) f h = f h
ok_then (Err x) f h = tt

-- ---- what holds of each
pub all_then : {A : Type 0} (P Q : A → Type 0) → ((x : A) → P x → Q x) → (xs : List A) → AllByRecursion P xs → AllByRecursion Q xs
all_then P Q f [] h = tt
all_then P Q f (x ∷ xs) h = (f x h.0, all_then P Q f xs h.1)

pub all_both : {A : Type 0} (P : A → Type 0) (xs ys : List A) → AllByRecursion P xs → AllByRecursion P ys → AllByRecursion P (xs ++ ys)
all_both P [] ys h k = k
all_both P (x ∷ xs) ys h k = (h.0, all_both P xs ys h.1 k)

-- ---- columns
pub spaced-le : {A : Type 0} (n a b : ℕ) (es : List (A × ℕ)) → Spaced n a b es → a ≤ b
spaced-le n a b [] h = h
spaced-le n a b (e ∷ es) h = let t = spaced-le n (e.1 + n) b es h.1 in omega (arith, h.0, t)

pub spaced-from : {A : Type 0} (n a b c : ℕ) (es : List (A × ℕ)) → a ≤ b → Spaced n b c es → Spaced n a c es
spaced-from n a b c [] l h = omega (arith, l, h)
spaced-from n a b c (e ∷ es) l h = (omega (arith, l, h.0), h.1)

pub spaced-upto : {A : Type 0} (n a b c : ℕ) (es : List (A × ℕ)) → b ≤ c → Spaced n a b es → Spaced n a c es
spaced-upto n a b c [] l h = omega (arith, l, h)
spaced-upto n a b c (e ∷ es) l h = (h.0, spaced-upto n (e.1 + n) b c es l h.1)

pub spaced-append : {A : Type 0} (n a b c : ℕ) (xs ys : List (A × ℕ)) → Spaced n a b xs → Spaced n b c ys → Spaced n a c (xs ++ ys)
spaced-append n a b c [] ys h k = spaced-from n a b c ys h k
spaced-append n a b c (e ∷ es) ys h k = (h.0, spaced-append n (e.1 + n) b c es ys h.1 k)

-- ---- strips
pub strip-append : {w : Worker} {h a b c : ℕ} {xs ys : List (Quad × ℕ)} → IsStripFrom w h a b xs → IsStripFrom w h b c ys → IsStripFrom w h a c (xs ++ ys)
strip-append {w} {h} {a} {b} {c} {xs} {ys} s t = record { quads = all_both _ xs ys s.quads t.quads; spaced = spaced-append (2 ^ h) a b c xs ys s.spaced t.spaced }

pub strip_later : {v w : Worker} {h a b : ℕ} {xs : List (Quad × ℕ)} → Keeps v w → IsStripFrom v h a b xs → IsStripFrom w h a b xs
strip_later {v} {w} {xs = xs} k s = record { quads = all_then _ _ (λ e q. (kept_quad v w e.0 k q.0, q.1)) xs s.quads; spaced = s.spaced }

pub laid_later : (v w : Worker) (h row : ℕ) (xs : List (Quad × ℕ)) (i j : ℕ) → Keeps v w → AllByRecursion (λ e. HasQuad v e.0 × (e.0.height ≡ h)) xs → laid (quad_set w) row xs i j ≡ laid (quad_set v) row xs i j
laid_later v w h row [] i j k s = refl
laid_later v w h row (e ∷ es) i j k s =
    ap (λ (f : Cells). placed row e.1 f i j || laid (quad_set w) row es i j) (kept_set v w e.0 k s.0.0)
    ∙ ap (λ b. placed row e.1 (quad_set v e.0) i j || b) (laid_later v w h row es i j k s.1)

pub laid-append : {A : Type 0} (set : A → Cells) (row : ℕ) (xs ys : List (A × ℕ)) (i j : ℕ) → laid set row (xs ++ ys) i j ≡ (laid set row xs i j || laid set row ys i j)
laid-append set row [] ys i j = refl
laid-append set row (e ∷ es) ys i j = ap (λ b. placed row e.1 (set e.0) i j || b) (laid-append set row es ys i j) ∙ or_or (placed row e.1 (set e.0) i j) (laid set row es i j) (laid set row ys i j)

-- ---- one quad
pub kept_strip : (w : Worker) (h : ℕ) (q : Quad) (c d : ℕ) → HasQuad w q → q.height ≡ h → d ≡ c + 2 ^ h → IsStripFrom w h c d (kept q c)
kept_strip w h q c d s e l = elim (cases_Bool (eqb q.name 0)) [
  | inl z ↦ rw z record { quads = tt; spaced = omega (arith, l) }
  | inr z ↦ rw z record { quads = ((s, e), tt); spaced = (omega arith, omega (arith, l)) }
]

pub placed-none : (row c : ℕ) (f : Cells) (i j : ℕ) → f ≡ no_cells → placed row c f i j ≡ false
placed-none row c f i j e = ap (λ (g : Cells). placed row c g i j) e ∙ and_right (leb row i) _ (and_right (leb c j) false refl)

pub kept_laid : (w : Worker) (q : Quad) (row c i j : ℕ) → (q.name ≡ 0 → quad_set w q ≡ no_cells) → laid (quad_set w) row (kept q c) i j ≡ placed row c (quad_set w q) i j
kept_laid w q row c i j n = elim (cases_Bool (eqb q.name 0)) [
  | inl z ↦ rw z (sym (placed-none row c (quad_set w q) i j (n (eqb-true q.name 0 z))))
  | inr z ↦ rw z (or_none (placed row c (quad_set w q) i j))
]

-- ---- where cells are put
pub record IsPlaced (row c : ℕ) (f : Cells) (i j : ℕ) : Type 0 where
  pub below : row ≤ i
  pub right : c ≤ j
  pub there : f (i - row) (j - c) ≡ true

pub placed_is : (row c : ℕ) (f : Cells) (i j : ℕ) → placed row c f i j ≡ true → IsPlaced row c f i j
placed_is row c f i j h =
    let a = and_parts (leb row i) _ h in
    let b = and_parts (leb c j) (f (i - row) (j - c)) a.1 in
    record { below = grind (arith, nat_tests, a.0); right = grind (arith, nat_tests, b.0); there = b.1 }

pub is_placed : (row c : ℕ) (f : Cells) (i j : ℕ) → row ≤ i → c ≤ j → f (i - row) (j - c) ≡ true → placed row c f i j ≡ true
is_placed row c f i j a b h = and_from (leb row i) _ (grind (arith, nat_tests, a)) (and_from (leb c j) (f (i - row) (j - c)) (grind (arith, nat_tests, b)) h)

-- ---- quarters
abbrev pub four_placed : ℕ → ℕ → ℕ → Cells → Cells → Cells → Cells → ℕ → ℕ → Bool
four_placed n row c f0 f1 f2 f3 i j = (placed row c f0 i j || placed row (c + n) f1 i j) || (placed (row + n) c f2 i j || placed (row + n) (c + n) f3 i j)

module _ (n row c : ℕ) (f0 f1 f2 f3 : Cells) (l0 : LiesWithin n n f0) (l1 : LiesWithin n n f1) (l2 : LiesWithin n n f2) (l3 : LiesWithin n n f3) (i j : ℕ) where
  goes_in : placed row c (quartered n f0 f1 f2 f3) i j ≡ true → four_placed n row c f0 f1 f2 f3 i j ≡ true
  goes_in h =
      let p = placed_is row c (quartered n f0 f1 f2 f3) i j h in
      let d : j - c - n ≡ j - (c + n) = omega arith in
      let e : i - row - n ≡ i - (row + n) = omega arith in
      elim (cases_lt (i - row) n) [
        | inl a ↦ or_here (placed row c f0 i j || placed row (c + n) f1 i j) (placed (row + n) c f2 i j || placed (row + n) (c + n) f3 i j) (elim (cases_lt (j - c) n) [
          | inl b ↦ or_here (placed row c f0 i j) (placed row (c + n) f1 i j) (is_placed row c f0 i j p.below p.right (sym (rw (lt-ltb (i - row) n a, lt-ltb (j - c) n b) refl) ∙ p.there))
          | inr b ↦ or_right (placed row c f0 i j) (placed row (c + n) f1 i j) (is_placed row (c + n) f1 i j p.below (omega (arith, b, p.right)) (ap (f1 (i - row)) (sym d) ∙ sym (rw (lt-ltb (i - row) n a, le-ltb (j - c) n b) refl) ∙ p.there))
        ])
        | inr a ↦ or_right (placed row c f0 i j || placed row (c + n) f1 i j) (placed (row + n) c f2 i j || placed (row + n) (c + n) f3 i j) (elim (cases_lt (j - c) n) [
          | inl b ↦ or_here (placed (row + n) c f2 i j) (placed (row + n) (c + n) f3 i j) (is_placed (row + n) c f2 i j (omega (arith, a, p.below)) p.right (ap (λ x. f2 x (j - c)) (sym e) ∙ sym (rw (le-ltb (i - row) n a, lt-ltb (j - c) n b) refl) ∙ p.there))
          | inr b ↦ or_right (placed (row + n) c f2 i j) (placed (row + n) (c + n) f3 i j) (is_placed (row + n) (c + n) f3 i j (omega (arith, a, p.below)) (omega (arith, b, p.right)) (ap (λ x. f3 x (j - (c + n))) (sym e) ∙ ap (f3 (i - row - n)) (sym d) ∙ sym (rw (le-ltb (i - row) n a, le-ltb (j - c) n b) refl) ∙ p.there))
        ])
      ]

  goes_out : four_placed n row c f0 f1 f2 f3 i j ≡ true → placed row c (quartered n f0 f1 f2 f3) i j ≡ true
  goes_out h =
      let d : j - c - n ≡ j - (c + n) = omega arith in
      let e : i - row - n ≡ i - (row + n) = omega arith in
      elim (or_cases (placed row c f0 i j || placed row (c + n) f1 i j) (placed (row + n) c f2 i j || placed (row + n) (c + n) f3 i j) h) [
        | inl x ↦ elim (or_cases (placed row c f0 i j) (placed row (c + n) f1 i j) x) [
          | inl y ↦ (let p = placed_is row c f0 i j y in
              let a = l0.row (i - row) (j - c) p.there in
              let b = l0.col (i - row) (j - c) p.there in
              is_placed row c (quartered n f0 f1 f2 f3) i j p.below p.right (rw (lt-ltb (i - row) n a, lt-ltb (j - c) n b) p.there))
          | inr y ↦ (let p = placed_is row (c + n) f1 i j y in
              let a = l1.row (i - row) (j - (c + n)) p.there in
              let b : n ≤ j - c = let r = p.right in omega (arith, r) in
              is_placed row c (quartered n f0 f1 f2 f3) i j p.below (let r = p.right in omega (arith, r)) (rw (lt-ltb (i - row) n a, le-ltb (j - c) n b) (ap (f1 (i - row)) d ∙ p.there)))
        ]
        | inr x ↦ elim (or_cases (placed (row + n) c f2 i j) (placed (row + n) (c + n) f3 i j) x) [
          | inl y ↦ (let p = placed_is (row + n) c f2 i j y in
              let a : n ≤ i - row = let r = p.below in omega (arith, r) in
              let b = l2.col (i - (row + n)) (j - c) p.there in
              is_placed row c (quartered n f0 f1 f2 f3) i j (let r = p.below in omega (arith, r)) p.right (rw (le-ltb (i - row) n a, lt-ltb (j - c) n b) (ap (λ x. f2 x (j - c)) e ∙ p.there)))
          | inr y ↦ (let p = placed_is (row + n) (c + n) f3 i j y in
              let a : n ≤ i - row = let r = p.below in omega (arith, r) in
              let b : n ≤ j - c = let r = p.right in omega (arith, r) in
              is_placed row c (quartered n f0 f1 f2 f3) i j (let r = p.below in omega (arith, r)) (let r = p.right in omega (arith, r)) (rw (le-ltb (i - row) n a, le-ltb (j - c) n b) (ap (λ x. f3 x (j - c - n)) e ∙ ap (f3 (i - (row + n))) d ∙ p.there)))
        ]
      ]

  pub placed-quartered : placed row c (quartered n f0 f1 f2 f3) i j ≡ four_placed n row c f0 f1 f2 f3 i j
  placed-quartered = same_truth (placed row c (quartered n f0 f1 f2 f3) i j) (four_placed n row c f0 f1 f2 f3 i j) goes_in goes_out

pub double : (n : ℕ) → 2 ^ (n + 1) ≡ 2 ^ n + 2 ^ n
double n = let s : n + 1 ≡ suc n = omega arith in let p : 2 ^ (n + 1) ≡ 2 ^ n * 2 = ap (λ x. 2 ^ x) s ∙ pow-suc 2 n in omega (arith, p)

-- where a set is put at the first row and column it stays
placed-first : (f : Cells) (i j : ℕ) → placed 0 0 f i j ≡ f i j
placed-first f i j =
    let a : i - 0 ≡ i = omega arith in
    let b : j - 0 ≡ j = omega arith in
    same_truth (placed 0 0 f i j) (f i j)
    (λ h. sym (ap (λ x. f x (j - 0)) a ∙ ap (f i) b) ∙ (placed_is 0 0 f i j h).there)
    (λ h. is_placed 0 0 f i j (omega arith) (omega arith) (ap (λ x. f x (j - 0)) a ∙ ap (f i) b ∙ h))

-- a strip of one quad that begins in the first column
pub one_strip : {w : Worker} {q : Quad} {xs : List (Quad × ℕ)} → HasQuad w q → 2 ^ q.height ≤ size_limit → xs ≡ (q, 0) ∷ [] → IsStrip w q.height size_limit xs
one_strip {w} {q} {xs} s l e = subst (λ (zs : List (Quad × ℕ)). IsStrip w q.height size_limit zs) (sym e) (record { quads = ((s, refl), tt); spaced = (omega arith, omega (arith, l)) })

pub one_laid : (w : Worker) (q : Quad) {xs : List (Quad × ℕ)} {f : Cells} → quad_set w q ≡ f → xs ≡ (q, 0) ∷ [] → (i j : ℕ) → laid (quad_set w) 0 xs i j ≡ f i j
one_laid w q {xs} {f} s e i j =
    ap (λ (zs : List (Quad × ℕ)). laid (quad_set w) 0 zs i j) e ∙ or_none (placed 0 0 (quad_set w q) i j) ∙ placed-first (quad_set w q) i j ∙ ap (λ (g : Cells). g i j) s

pub high_side : (h : ℕ) → h ≤ top_height → 2 ^ h ≤ size_limit
unfolding top_height
high_side h l = pow_mono {i = h} {j = 24} l

-- the cells of a strip lie in its rows
pub laid_low : {A : Type 0} (set : A → Cells) (row : ℕ) (xs : List (A × ℕ)) (i j : ℕ) → laid set row xs i j ≡ true → row ≤ i
laid_low set row [] i j h = absurd (false≢true h)
laid_low set row (e ∷ es) i j h = elim (or_cases (placed row e.1 (set e.0) i j) (laid set row es i j) h) [
  | inl g ↦ (placed_is row e.1 (set e.0) i j g).below
  | inr g ↦ laid_low set row es i j g
]

pub laid_high : (w : Worker) (h row : ℕ) (xs : List (Quad × ℕ)) (i j : ℕ) → ((q : Quad) → HasQuad w q → LiesWithin (2 ^ q.height) (2 ^ q.height) (quad_set w q)) → AllByRecursion (λ e. HasQuad w e.0 × (e.0.height ≡ h)) xs
    → laid (quad_set w) row xs i j ≡ true → i < row + 2 ^ h
laid_high w h row [] i j q s t = absurd (false≢true t)
laid_high w h row (e ∷ es) i j q s t = elim (or_cases (placed row e.1 (quad_set w e.0) i j) (laid (quad_set w) row es i j) t) [
  | inl g ↦ (let p = placed_is row e.1 (quad_set w e.0) i j g in
      let l = subst (λ x. LiesWithin (2 ^ x) (2 ^ x) (quad_set w e.0)) s.0.1 (q e.0 s.0.0) in
      let a = l.row (i - row) (j - e.1) p.there in
      let b = p.below in
      omega (arith, a, b))
  | inr g ↦ laid_high w h row es i j q s.1 g
]

-- ---- heights
pub low_enough : (h row : ℕ) → row + 2 ^ h ≤ size_limit → h ≤ size_height
low_enough h row l = elim (cases_lt 24 h) [
  | inl k ↦ (let p = pow_mono {i = 25} {j = h} (omega (arith, k)) in absurd (omega (arith, p, l)))
  | inr k ↦ k
]

pub half_rows : (h row : ℕ) → 0 < h → row + 2 ^ h ≤ size_limit → row + 2 ^ (h - 1) + 2 ^ (h - 1) ≤ size_limit
half_rows h row p l =
    let e : h ≡ h - 1 + 1 = omega (arith, p) in
    let d : 2 ^ h ≡ 2 ^ (h - 1) + 2 ^ (h - 1) = ap (λ x. 2 ^ x) e ∙ double (h - 1) in
    omega (arith, d, l)

pub over_leaf : (h b least : ℕ) → h ≢ b → b ≡ least → least ≤ h → least < h
over_leaf h b least n e l = omega (arith, n, e, l)

pub leaf_side : (h b least s : ℕ) → h ≡ b → b ≡ least → least ≤ 3 → s ≡ 2 ^ h → s ≤ 8
leaf_side h b least s e f l k = let p = pow_mono {i = h} {j = 3} (omega (arith, e, f, l)) in omega (arith, p, k)
