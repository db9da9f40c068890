-- Cells by their places go by quarters.
-- 1. Places in order are cut into four: those of each quarter lie in its span.
-- 2. Whether a place is listed is asked of the one part in whose span it lies.
-- 3. So the cells of the whole are those of its quarters, and a worker that gives the quarters and their corner gives the whole.
use Rattle.std.proofs.Common.{◌≡◌, ◌≢◌, ◌<◌, ◌≤◌, ◌+◌, ◌-◌, ◌*◌, ◌^◌, ◌∙◌, ◌||◌, ◌&&◌, eqb, ltb, ℕ, Bool, true, false, List, [], ◌∷◌, ◌++◌, refl, sym, ap, subst, arith, suc, inl, inr, Some}
use Rattle.std.specs.List.{AllByRecursion}
use Rattle.std.proofs.lemmas.Bool.{cases_lt, lt-ltb, le-ltb}
use Rattle.std.proofs.lemmas.Bool.Decides.{nat_tests}
use Rattle.std.proofs.lemmas.List.Folds.{list_any-append}
use Rattle.rel_model.specs.declared.Quad.{Quad}
use Rattle.rel_model.specs.Cells.{Cells, bits_cells}
use Rattle.rel_model.specs.Trees.{quartered}
use Rattle.rel_model.specs.Worker.{Worker, GivesQuad}
use Rattle.rel_model.proofs.TreeLaws.{same_cells}
use Rattle.rel_steps.proofs.Given.{AreParts}
use Rattle.rel_domains.specs.Curve.{holds, AreFrom, IsCut, cells_at, place}
use Rattle.rel_domains.proofs.Places.{nw, ne, sw, se, place_lt, double, cells_step}

-- ---- spans
all_split : (P : ℕ → Type 0) (xs ys : List ℕ) → AllByRecursion P (xs ++ ys) → AllByRecursion P xs × AllByRecursion P ys
all_split P [] ys h = (tt, h)
all_split P (x ∷ xs) ys h = let r = all_split P xs ys h.1 in ((h.0, r.0), r.1)

both_bounds : (low high bound : ℕ) (xs : List ℕ) → AreFrom low high xs → AllByRecursion (λ x. x < bound) xs → AreFrom low bound xs
both_bounds low high bound [] a b = tt
both_bounds low high bound (x ∷ xs) a b = ((a.0.0, b.0), both_bounds low high bound xs a.1 b.1)

from_bound : (low high bound : ℕ) (xs : List ℕ) → AreFrom low high xs → AllByRecursion (λ x. bound ≤ x) xs → AreFrom bound high xs
from_bound low high bound [] a b = tt
from_bound low high bound (x ∷ xs) a b = ((b.0, a.0.1), from_bound low high bound xs a.1 b.1)

pub cut_spans : (low high bound : ℕ) (xs front back : List ℕ) → IsCut bound xs front back → AreFrom low high xs → AreFrom low bound front × AreFrom bound high back
cut_spans low high bound xs front back c h =
    let r = all_split (λ x. (low ≤ x) × (x < high)) front back (subst (AreFrom low high) c.parts h) in
    (both_bounds low high bound front r.0 c.below, from_bound low high bound back r.1 c.above)

-- four parts, one after another, each in its span
pub record AreFour (base n : ℕ) (all in_nw in_ne in_sw in_se : List ℕ) : Type 0 where
  pub whole : all ≡ (in_nw ++ in_ne) ++ (in_sw ++ in_se)
  pub nw_from : AreFrom base (base + n) in_nw
  pub ne_from : AreFrom (base + n) (base + 2 * n) in_ne
  pub sw_from : AreFrom (base + 2 * n) (base + 3 * n) in_sw
  pub se_from : AreFrom (base + 3 * n) (base + 4 * n) in_se

pub four_parts : (base n : ℕ) (all north south in_nw in_ne in_sw in_se : List ℕ) → AreFrom base (base + 4 * n) all
    → IsCut (base + 2 * n) all north south → IsCut (base + n) north in_nw in_ne → IsCut (base + 3 * n) south in_sw in_se → AreFour base n all in_nw in_ne in_sw in_se
four_parts base n all north south in_nw in_ne in_sw in_se h c d e =
    let p = cut_spans base (base + 4 * n) (base + 2 * n) all north south c h in
    let q = cut_spans base (base + 2 * n) (base + n) north in_nw in_ne d p.0 in
    let r = cut_spans (base + 2 * n) (base + 4 * n) (base + 3 * n) south in_sw in_se e p.1 in
    record { whole = c.parts ∙ ap (λ xs. xs ++ south) d.parts ∙ ap (λ xs. (in_nw ++ in_ne) ++ xs) e.parts; nw_from = q.0; ne_from = q.1; sw_from = r.0; se_from = r.1 }

-- the same from the span of the whole, and the spans as the recursion asks for them
pub record AreSpans (base n k : ℕ) (in_nw in_ne in_sw in_se : List ℕ) : Type 0 where
  pub nw_span : AreFrom base (base + k) in_nw
  pub ne_span : AreFrom (base + n) (base + n + k) in_ne
  pub sw_span : AreFrom (base + 2 * n) (base + 2 * n + k) in_sw
  pub se_span : AreFrom (base + 3 * n) (base + 3 * n + k) in_se

-- the spans of four parts one after another are those of four squares of half the side
pub spans : (base n k : ℕ) (all in_nw in_ne in_sw in_se : List ℕ) → n ≡ k → AreFour base n all in_nw in_ne in_sw in_se → AreSpans base n k in_nw in_ne in_sw in_se
spans base n k all in_nw in_ne in_sw in_se e f =
    let p : base + n ≡ base + k = omega (arith, e) in
    let q : base + 2 * n ≡ base + n + k = omega (arith, e) in
    let r : base + 3 * n ≡ base + 2 * n + k = omega (arith, e) in
    let s : base + 4 * n ≡ base + 3 * n + k = omega (arith, e) in
    record {
      nw_span = subst (λ h. AreFrom base h in_nw) p f.nw_from;
      ne_span = subst (λ h. AreFrom (base + n) h in_ne) q f.ne_from;
      sw_span = subst (λ h. AreFrom (base + 2 * n) h in_sw) r f.sw_from;
      se_span = subst (λ h. AreFrom (base + 3 * n) h in_se) s f.se_from;
    }

pub four_of : (least depth base n : ℕ) (all north south in_nw in_ne in_sw in_se : List ℕ) → depth ≢ 0 → n ≡ 4 ^ (least + (depth - 1)) → AreFrom base (base + 4 ^ (least + depth)) all
    → IsCut (base + 2 * n) all north south → IsCut (base + n) north in_nw in_ne → IsCut (base + 3 * n) south in_sw in_se → AreFour base n all in_nw in_ne in_sw in_se
four_of least depth base n all north south in_nw in_ne in_sw in_se over e h =
    let s : base + 4 ^ (least + depth) ≡ base + 4 * n = omega (arith, e, cells_step least depth over) in
    four_parts base n all north south in_nw in_ne in_sw in_se (subst (λ k. AreFrom base k all) s h)

-- ---- which part is asked
absent_below : (low high n : ℕ) (xs : List ℕ) → AreFrom low high xs → n < low → holds xs n ≡ false
absent_below low high n [] h l = refl
absent_below low high n (x ∷ xs) h l = let e : eqb x n ≡ false = let p = h.0.0 in grind (arith, nat_tests) in ap (λ b. b || holds xs n) e ∙ absent_below low high n xs h.1 l

absent_above : (low high n : ℕ) (xs : List ℕ) → AreFrom low high xs → high ≤ n → holds xs n ≡ false
absent_above low high n [] h l = refl
absent_above low high n (x ∷ xs) h l = let e : eqb x n ≡ false = let p = h.0.1 in grind (arith, nat_tests) in ap (λ b. b || holds xs n) e ∙ absent_above low high n xs h.1 l

asked : (all a b c d : List ℕ) (n : ℕ) → all ≡ (a ++ b) ++ (c ++ d) → holds all n ≡ ((holds a n || holds b n) || (holds c n || holds d n))
asked all a b c d n e =
    ap (λ xs. holds xs n) e ∙ list_any-append (λ x. eqb x n) (a ++ b) (c ++ d)
    ∙ ap (λ t. t || holds (c ++ d) n) (list_any-append (λ x. eqb x n) a b) ∙ ap (λ t. (holds a n || holds b n) || t) (list_any-append (λ x. eqb x n) c d)

first_of : (a b c d : Bool) → b ≡ false → c ≡ false → d ≡ false → ((a || b) || (c || d)) ≡ a
first_of true b c d p q r = refl
first_of false b c d p q r = rw (p, q, r) refl

second_of : (a b c d : Bool) → a ≡ false → c ≡ false → d ≡ false → ((a || b) || (c || d)) ≡ b
second_of a true c d p q r = rw p refl
second_of a false c d p q r = rw (p, q, r) refl

third_of : (a b c d : Bool) → a ≡ false → b ≡ false → d ≡ false → ((a || b) || (c || d)) ≡ c
third_of a b true d p q r = rw (p, q) refl
third_of a b false d p q r = rw (p, q, r) refl

fourth_of : (a b c d : Bool) → a ≡ false → b ≡ false → c ≡ false → ((a || b) || (c || d)) ≡ d
fourth_of a b c d p q r = rw (p, q, r) refl

module _ (base n : ℕ) (all in_nw in_ne in_sw in_se : List ℕ) (f : AreFour base n all in_nw in_ne in_sw in_se) (p : ℕ) (l : p < n) where
  asks_nw : holds all (base + p) ≡ holds in_nw (base + p)
  asks_nw = asked all in_nw in_ne in_sw in_se (base + p) f.whole
      ∙ first_of _ _ _ _ (absent_below _ _ (base + p) in_ne f.ne_from (omega arith)) (absent_below _ _ (base + p) in_sw f.sw_from (omega arith)) (absent_below _ _ (base + p) in_se f.se_from (omega arith))

  asks_ne : holds all (base + (n + p)) ≡ holds in_ne (base + n + p)
  asks_ne = let e : base + (n + p) ≡ base + n + p = omega arith in asked all in_nw in_ne in_sw in_se (base + (n + p)) f.whole
      ∙ second_of _ _ _ _ (absent_above _ _ (base + (n + p)) in_nw f.nw_from (omega arith)) (absent_below _ _ (base + (n + p)) in_sw f.sw_from (omega arith)) (absent_below _ _ (base + (n + p)) in_se f.se_from (omega arith))
      ∙ ap (holds in_ne) e

  asks_sw : holds all (base + (2 * n + p)) ≡ holds in_sw (base + 2 * n + p)
  asks_sw = let e : base + (2 * n + p) ≡ base + 2 * n + p = omega arith in asked all in_nw in_ne in_sw in_se (base + (2 * n + p)) f.whole
      ∙ third_of _ _ _ _ (absent_above _ _ (base + (2 * n + p)) in_nw f.nw_from (omega arith)) (absent_above _ _ (base + (2 * n + p)) in_ne f.ne_from (omega arith)) (absent_below _ _ (base + (2 * n + p)) in_se f.se_from (omega arith))
      ∙ ap (holds in_sw) e

  asks_se : holds all (base + (3 * n + p)) ≡ holds in_se (base + 3 * n + p)
  asks_se = let e : base + (3 * n + p) ≡ base + 3 * n + p = omega arith in asked all in_nw in_ne in_sw in_se (base + (3 * n + p)) f.whole
      ∙ fourth_of _ _ _ _ (absent_above _ _ (base + (3 * n + p)) in_nw f.nw_from (omega arith)) (absent_above _ _ (base + (3 * n + p)) in_ne f.ne_from (omega arith)) (absent_above _ _ (base + (3 * n + p)) in_sw f.sw_from (omega arith))
      ∙ ap (holds in_se) e

-- ---- the cells of the quarters
low_test : (m i : ℕ) → i < m → ltb i (m + m) ≡ true
low_test m i l = lt-ltb i (m + m) (omega arith)

high_test : (m i : ℕ) → m ≤ i → ltb i (m + m) ≡ ltb (i - m) m
high_test m i l = elim (cases_lt i (m + m)) [
  | inl a ↦ lt-ltb i (m + m) a ∙ sym (lt-ltb (i - m) m (omega arith))
  | inr a ↦ le-ltb i (m + m) a ∙ sym (le-ltb (i - m) m (omega arith))
]

module _ (m : ℕ) (a b c e : Cells) (i j : ℕ) where
  quartered-nw : i < m → j < m → quartered m a b c e i j ≡ a i j
  quartered-nw p q = rw (lt-ltb i m p, lt-ltb j m q) refl

  quartered-ne : i < m → m ≤ j → quartered m a b c e i j ≡ b i (j - m)
  quartered-ne p q = rw (lt-ltb i m p, le-ltb j m q) refl

  quartered-sw : m ≤ i → j < m → quartered m a b c e i j ≡ c (i - m) j
  quartered-sw p q = rw (le-ltb i m p, lt-ltb j m q) refl

  quartered-se : m ≤ i → m ≤ j → quartered m a b c e i j ≡ e (i - m) (j - m)
  quartered-se p q = rw (le-ltb i m p, le-ltb j m q) refl

-- two tests before a third: the third may use them
guarded : (a b x y : Bool) → (a ≡ true → b ≡ true → x ≡ y) → (a && (b && x)) ≡ (a && (b && y))
guarded true true x y h = h refl refl
guarded true false x y h = refl
guarded false b x y h = refl

module _ (least d base : ℕ) (all in_nw in_ne in_sw in_se : List ℕ) (f : AreFour base (4 ^ (least + d)) all in_nw in_ne in_sw in_se) where
  abbrev m : ℕ
  m = 2 ^ (least + d)

  abbrev n : ℕ
  n = 4 ^ (least + d)

  is_lt : (i : ℕ) → ltb i m ≡ true → i < m
  is_lt i t = grind (arith, nat_tests)

  -- the cells of the whole over halves of m
  wide : (i j : ℕ) → cells_at least (suc d) base all i j ≡ (ltb i (m + m) && (ltb j (m + m) && holds all (base + place least (suc d) i j)))
  wide i j = ap (λ k. ltb i k && (ltb j k && holds all (base + place least (suc d) i j))) (double least d)

  in_nw_is : (i j : ℕ) → i < m → j < m → cells_at least (suc d) base all i j ≡ cells_at least d base in_nw i j
  in_nw_is i j a b =
      let p = place_lt least d i j a b in
      wide i j ∙ ap (λ t. t && (ltb j (m + m) && holds all (base + place least (suc d) i j))) (low_test m i a ∙ sym (lt-ltb i m a)) ∙ ap (λ t. ltb i m && (t && holds all (base + place least (suc d) i j))) (low_test m j b ∙ sym (lt-ltb j m b))
      ∙ ap (λ t. ltb i m && (ltb j m && t)) (ap (λ k. holds all (base + k)) (nw least d i j a b) ∙ asks_nw base n all in_nw in_ne in_sw in_se f (place least d i j) p)

  in_ne_is : (i j : ℕ) → i < m → m ≤ j → cells_at least (suc d) base all i j ≡ cells_at least d (base + n) in_ne i (j - m)
  in_ne_is i j a b =
      wide i j ∙ ap (λ t. t && (ltb j (m + m) && holds all (base + place least (suc d) i j))) (low_test m i a ∙ sym (lt-ltb i m a)) ∙ ap (λ t. ltb i m && (t && holds all (base + place least (suc d) i j))) (high_test m j b)
      ∙ guarded (ltb i m) (ltb (j - m) m) _ _ (λ s t. ap (λ k. holds all (base + k)) (ne least d i j a b) ∙ asks_ne base n all in_nw in_ne in_sw in_se f (place least d i (j - m)) (place_lt least d i (j - m) a (is_lt (j - m) t)))

  in_sw_is : (i j : ℕ) → m ≤ i → j < m → cells_at least (suc d) base all i j ≡ cells_at least d (base + 2 * n) in_sw (i - m) j
  in_sw_is i j a b =
      wide i j ∙ ap (λ t. t && (ltb j (m + m) && holds all (base + place least (suc d) i j))) (high_test m i a) ∙ ap (λ t. ltb (i - m) m && (t && holds all (base + place least (suc d) i j))) (low_test m j b ∙ sym (lt-ltb j m b))
      ∙ guarded (ltb (i - m) m) (ltb j m) _ _ (λ s t. ap (λ k. holds all (base + k)) (sw least d i j a b) ∙ asks_sw base n all in_nw in_ne in_sw in_se f (place least d (i - m) j) (place_lt least d (i - m) j (is_lt (i - m) s) b))

  in_se_is : (i j : ℕ) → m ≤ i → m ≤ j → cells_at least (suc d) base all i j ≡ cells_at least d (base + 3 * n) in_se (i - m) (j - m)
  in_se_is i j a b =
      wide i j ∙ ap (λ t. t && (ltb j (m + m) && holds all (base + place least (suc d) i j))) (high_test m i a) ∙ ap (λ t. ltb (i - m) m && (t && holds all (base + place least (suc d) i j))) (high_test m j b)
      ∙ guarded (ltb (i - m) m) (ltb (j - m) m) _ _ (λ s t. ap (λ k. holds all (base + k)) (se least d i j a b) ∙ asks_se base n all in_nw in_ne in_sw in_se f (place least d (i - m) (j - m)) (place_lt least d (i - m) (j - m) (is_lt (i - m) s) (is_lt (j - m) t)))

  -- the cells at listed places are those of the four parts in the four quarters: a place in a quarter is in the span of
  -- its part alone
  pub cells_quartered : quartered m (cells_at least d base in_nw) (cells_at least d (base + n) in_ne) (cells_at least d (base + 2 * n) in_sw) (cells_at least d (base + 3 * n) in_se) ≡ cells_at least (suc d) base all
  cells_quartered = same_cells _ _ (λ i j.
      let a = cells_at least d base in_nw in
      let b = cells_at least d (base + n) in_ne in
      let c = cells_at least d (base + 2 * n) in_sw in
      let e = cells_at least d (base + 3 * n) in_se in
      elim (cases_lt i m) [
        | inl p ↦ elim (cases_lt j m) [
          | inl q ↦ quartered-nw m a b c e i j p q ∙ sym (in_nw_is i j p q)
          | inr q ↦ quartered-ne m a b c e i j p q ∙ sym (in_ne_is i j p q)
        ]
        | inr p ↦ elim (cases_lt j m) [
          | inl q ↦ quartered-sw m a b c e i j p q ∙ sym (in_sw_is i j p q)
          | inr q ↦ quartered-se m a b c e i j p q ∙ sym (in_se_is i j p q)
        ]
      ])

-- the cells by places in four parts are the quarters of those by all
pub places_parts : (least depth base n : ℕ) (all in_nw in_ne in_sw in_se : List ℕ) → depth ≢ 0 → n ≡ 4 ^ (least + (depth - 1)) → AreFour base n all in_nw in_ne in_sw in_se
    → AreParts (least + depth) (cells_at least depth base all) (least + (depth - 1)) (cells_at least (depth - 1) base in_nw) (cells_at least (depth - 1) (base + n) in_ne) (cells_at least (depth - 1) (base + 2 * n) in_sw) (cells_at least (depth - 1) (base + 3 * n) in_se)
places_parts least depth base n all in_nw in_ne in_sw in_se over e four =
    let d = depth - 1 in
    let up : suc d ≡ depth = omega arith in
    let f = subst (λ k. AreFour base k all in_nw in_ne in_sw in_se) e four in
    record {
      next = omega arith;
      means = ap (λ k. quartered (2 ^ (least + d)) (cells_at least d base in_nw) (cells_at least d (base + k) in_ne) (cells_at least d (base + 2 * k) in_sw) (cells_at least d (base + 3 * k) in_se)) e
          ∙ cells_quartered least d base all in_nw in_ne in_sw in_se f ∙ ap (λ k. cells_at least k base all) up;
    }

-- a leaf that a worker gives
pub leaf_given : (w : Worker) (least height depth base bits : ℕ) (places : List ℕ) (q : Quad) → depth ≡ 0 → height ≡ least → bits_cells (2 ^ height) bits ≡ cells_at height 0 base places
    → GivesQuad w least (bits_cells (2 ^ least) bits) q → GivesQuad w (least + depth) (cells_at least depth base places) q
leaf_given w least height depth base bits places q z e c g = record {
  means = g.means ∙ ap Some (ap (λ k. bits_cells (2 ^ k) bits) (sym e) ∙ c ∙ ap (λ k. cells_at k 0 base places) e ∙ ap (λ k. cells_at least k base places) (sym z));
  same_height = omega (arith, g.same_height, z);
}
