-- The image of a line by listed pairs.
-- 1. Element j of a heap's line is a bit of a leaf: its entry is the quotient of j by the side, its bit the remainder
--    (`line_under-element`). So a bit that is added there adds that element and no other (`element_added`).
-- 2. The heap has the image by the pairs so far (`Listed`).
-- 3. That some k of the line stands in a pair with j is that some pair has its first part in the line (`listed_is`).
use Rattle.std.proofs.Common.{◌≡◌, ◌<◌, ◌≤◌, ◌+◌, ◌-◌, ◌*◌, ◌/◌, ◌%◌, ◌^◌, ◌∙◌, ◌&&◌, ◌||◌, eqb, ltb, cond, zero, suc, ℕ, Bool, true, false, List, [], ◌∷◌, length, take, replicate, Option, None, Some, refl, sym, ap, subst, arith, inl, inr, get_or}
use Rattle.std.specs.Prelude.{IfSome}
use Rattle.std.specs.List.{list_any, AllByRecursion}
use Rattle.std.proofs.Math.Nat.{pow-suc, zero-mul}
use Rattle.std.proofs.Math.Pow.{pow_mono}
use Rattle.std.proofs.Math.Bool.{and_comm}
use Rattle.std.proofs.lemmas.Bool.{cases_eq, cases_lt, lt-ltb, le-ltb, eq-eqb, ne_eqb, and_left, and_right}
use Rattle.std.proofs.lemmas.Nat.{pow_pos, pow-add, mul-le, shr_split, mod_below}
use Rattle.std.proofs.lemmas.List.Folds.{list_any_more}
use Rattle.rel_model.specs.Relation.{Relation, IsRelation, size_limit}
use Rattle.rel_model.specs.Cells.{Cells, some_below}
use Rattle.rel_model.specs.Listed.{AreWithin, is_among}
use Rattle.rel_model.specs.Roots.{height_over}
use Rattle.rel_model.proofs.Grid.{all-weaker}
use Rattle.rel_model.proofs.Heights.{height_over-rows, height_over-cols}
use Rattle.rel_model.proofs.Somes.{some_none, some_agree, some_either, some_point}
use Rattle.rel_images.specs.Lines.{Line, Bits, has_bit, bits_of, line_under, image_line, turned_cells, IsHeap, Marks, Adds}
use Rattle.rel_images.specs.Listing.{AddsElement, listed_image}
use Rattle.rel_images.proofs.Words.{or-none, one-shifted, pow-bit}
use Rattle.rel_images.proofs.Heaps.{and-or, marked, marks_keep, zeros_line, length-zeros}

-- ---- elements
side-over : (least d : ℕ) → 2 ^ (least + d) ≡ 2 ^ d * 2 ^ least
side-over least d = let e : least + d ≡ d + least = omega arith in ap (λ (n : ℕ). 2 ^ n) e ∙ pow-add 2 d least

-- bit b of the leaf that is p leaves after the first one under a node
pub line_under-at : (least d k : ℕ) (a : Bits) (p b : ℕ) → p < 2 ^ d → b < 2 ^ least → line_under least a d k (p * 2 ^ least + b) ≡ a (k * 2 ^ d + p) b
line_under-at least zero k a p b l s =
    let z : p ≡ 0 = omega (arith, l) in
    let x : p * 2 ^ least ≡ 0 * 2 ^ least = ap (λ (n : ℕ). n * 2 ^ least) z in
    let y : 0 * 2 ^ least ≡ 0 = zero-mul (2 ^ least) in
    let e : p * 2 ^ least + b ≡ b = omega (arith, x, y) in
    let f : k ≡ k * 2 ^ 0 + p = omega (arith, z) in
    ap (λ (n : ℕ). ltb n (2 ^ least) && a k n) e ∙ ap (λ t. t && a k b) (lt-ltb b (2 ^ least) s) ∙ ap (λ (n : ℕ). a n b) f
line_under-at least (suc d) k a p b l s =
    let w : 2 ^ (least + d) ≡ 2 ^ d * 2 ^ least = side-over least d in
    let q : 2 ^ suc d ≡ 2 ^ d * 2 = pow-suc 2 d in
    elim (cases_lt p (2 ^ d)) [
      | inl i ↦ (let m = mul-le (suc p) (2 ^ least) (2 ^ d) (2 ^ least) i (omega arith) in
          let n : suc p * 2 ^ least ≡ p * 2 ^ least + 2 ^ least = omega arith in
          let e : 2 * k * 2 ^ d + p ≡ k * (2 ^ d * 2) + p = omega arith in
          ap (λ t. cond t (line_under least a d (2 * k) (p * 2 ^ least + b)) (line_under least a d (2 * k + 1) (p * 2 ^ least + b - 2 ^ (least + d)))) (lt-ltb (p * 2 ^ least + b) (2 ^ (least + d)) (omega (arith, w, m, n, s)))
          ∙ line_under-at least d (2 * k) a p b i s ∙ ap (λ (x : ℕ). a x b) (e ∙ ap (λ (x : ℕ). k * x + p) (sym q)))
      | inr i ↦ (let r : ℕ = p - 2 ^ d in
          let pr : p ≡ r + 2 ^ d = omega (arith, i) in
          let n : p * 2 ^ least ≡ (r + 2 ^ d) * 2 ^ least = ap (λ (x : ℕ). x * 2 ^ least) pr in
          let o : (r + 2 ^ d) * 2 ^ least ≡ r * 2 ^ least + 2 ^ d * 2 ^ least = omega arith in
          let e : (2 * k + 1) * 2 ^ d + r ≡ k * (2 ^ d * 2) + (r + 2 ^ d) = omega arith in
          let rest : p * 2 ^ least + b - 2 ^ (least + d) ≡ r * 2 ^ least + b = omega (arith, w, n, o) in
          ap (λ t. cond t (line_under least a d (2 * k) (p * 2 ^ least + b)) (line_under least a d (2 * k + 1) (p * 2 ^ least + b - 2 ^ (least + d)))) (le-ltb (p * 2 ^ least + b) (2 ^ (least + d)) (omega (arith, w, n, o)))
          ∙ ap (line_under least a d (2 * k + 1)) rest ∙ line_under-at least d (2 * k + 1) a r b (omega (arith, l, q, pr)) s
          ∙ ap (λ (x : ℕ). a x b) (e ∙ ap (λ (x : ℕ). k * (2 ^ d * 2) + x) (sym pr) ∙ ap (λ (x : ℕ). k * x + p) (sym q)))
    ]

-- the entry of an element is within the heap's leaves
pub entry_below : (least d j : ℕ) → j < 2 ^ (least + d) → j / 2 ^ least < 2 ^ d
entry_below least d j l = elim (cases_lt (j / 2 ^ least) (2 ^ d)) [
  | inl i ↦ i
  | inr i ↦ (let m = mul-le (2 ^ d) (2 ^ least) (j / 2 ^ least) (2 ^ least) i (omega arith) in
      let w = side-over least d in
      let s = shr_split j least in
      absurd (omega (arith, l, m, w, s)))
]

pub line_under-element : (least d : ℕ) (a : Bits) (j : ℕ) → j < 2 ^ (least + d) → line_under least a d 1 j ≡ a (2 ^ d + j / 2 ^ least) (j % 2 ^ least)
line_under-element least d a j l =
    let s = shr_split j least in
    let e : 1 * 2 ^ d + j / 2 ^ least ≡ 2 ^ d + j / 2 ^ least = omega arith in
    ap (line_under least a d 1) (sym s) ∙ line_under-at least d 1 a (j / 2 ^ least) (j % 2 ^ least) (entry_below least d j l) (mod_below j (2 ^ least) (pow_pos least))
    ∙ ap (λ (n : ℕ). a n (j % 2 ^ least)) e

pub height-over : (least h j : ℕ) → least ≤ h → j < 2 ^ h → j < 2 ^ (least + (h - least))
height-over least h j l i = let w : least + (h - least) ≡ h = omega (arith, l) in subst (λ (x : ℕ). j < 2 ^ x) (sym w) i

pub entry_within : (least h j k n : ℕ) → least ≤ h → j < 2 ^ h → k ≡ 2 ^ (h - least) + j / 2 ^ least → n ≡ 2 * 2 ^ (h - least) → k < n
entry_within least h j k n l i e s =
    let b = entry_below least (h - least) j (height-over least h j l i) in
    omega (arith, b, e, s)

-- a bit of a leaf's entry
pub bit_below : (least j b : ℕ) → least ≤ 3 → b ≡ j % 2 ^ least → b < 8
bit_below least j b l e =
    let p = pow_mono {i = least} {j = 3} l in
    let m = mod_below j (2 ^ least) (pow_pos least) in
    omega (arith, p, m, e)

pub bit_shifted : (least j b : ℕ) → least ≤ 3 → b ≡ j % 2 ^ least → 1 * 2 ^ b % 18446744073709551616 ≡ 2 ^ (j % 2 ^ least)
bit_shifted least j b l e = let m = bit_below least j b l e in one-shifted b (omega (arith, m)) ∙ ap (λ (x : ℕ). 2 ^ x) e

pub bit_less : (least m j b : ℕ) → least ≤ 3 → m ≡ 2 ^ least → b ≡ j % 2 ^ least → 1 * 2 ^ b % 18446744073709551616 < 2 ^ m
bit_less least m j b l s e =
    let r = mod_below j (2 ^ least) (pow_pos least) in
    let p = pow_mono {i = suc (j % 2 ^ least)} {j = m} (omega (arith, r, s)) in
    let q : 2 ^ suc (j % 2 ^ least) ≡ 2 ^ (j % 2 ^ least) * 2 = pow-suc 2 (j % 2 ^ least) in
    let o = pow_pos (j % 2 ^ least) in
    let t = bit_shifted least j b l e in
    omega (arith, p, q, o, t)

-- ---- an element that is added
-- numbers with one quotient and one remainder are one
one_number : (least i j : ℕ) → i / 2 ^ least ≡ j / 2 ^ least → i % 2 ^ least ≡ j % 2 ^ least → i ≡ j
one_number least i j p q = sym (shr_split i least) ∙ ap (λ (x : ℕ). x * 2 ^ least + i % 2 ^ least) p ∙ ap (λ (x : ℕ). j / 2 ^ least * 2 ^ least + x) q ∙ shr_split j least

-- the bits of one element
element-bits : (least n i j line : ℕ) → line ≡ 2 ^ (j % 2 ^ least) → (eqb (n + i / 2 ^ least) (n + j / 2 ^ least) && (ltb (i % 2 ^ least) (2 ^ least) && has_bit line (i % 2 ^ least))) ≡ eqb i j
element-bits least n i j line e =
    let low = lt-ltb (i % 2 ^ least) (2 ^ least) (mod_below i (2 ^ least) (pow_pos least)) in
    ap (λ t. eqb (n + i / 2 ^ least) (n + j / 2 ^ least) && (t && has_bit line (i % 2 ^ least))) low
    ∙ ap (λ t. eqb (n + i / 2 ^ least) (n + j / 2 ^ least) && t) (ap (λ (x : ℕ). has_bit x (i % 2 ^ least)) e ∙ pow-bit (j % 2 ^ least) (i % 2 ^ least))
    ∙ elim (cases_eq i j) [
      | inl y ↦ (let p : i / 2 ^ least ≡ j / 2 ^ least = ap (λ (x : ℕ). x / 2 ^ least) y in
          ap (λ t. t && eqb (i % 2 ^ least) (j % 2 ^ least)) (eq-eqb (n + i / 2 ^ least) (n + j / 2 ^ least) (ap (λ (x : ℕ). n + x) p))
          ∙ eq-eqb (i % 2 ^ least) (j % 2 ^ least) (ap (λ (x : ℕ). x % 2 ^ least) y) ∙ sym (eq-eqb i j y))
      | inr y ↦ elim (cases_eq (i / 2 ^ least) (j / 2 ^ least)) [
        | inl p ↦ and_right (eqb (n + i / 2 ^ least) (n + j / 2 ^ least)) _ (ne_eqb (i % 2 ^ least) (j % 2 ^ least) (λ q. y (one_number least i j p q))) ∙ sym (ne_eqb i j y)
        | inr p ↦ and_left (eqb (n + i / 2 ^ least) (n + j / 2 ^ least)) _ (ne_eqb (n + i / 2 ^ least) (n + j / 2 ^ least) (λ q. p (omega (arith, q)))) ∙ sym (ne_eqb i j y)
      ]
    ]

pub element_added : (least d j k m line : ℕ) (old new : List ℕ) → k ≡ 2 ^ d + j / 2 ^ least → m ≡ 2 ^ least → line ≡ 2 ^ (j % 2 ^ least) → Adds (λ n b. eqb n k && (ltb b m && has_bit line b)) old new → AddsElement least d true j old new
element_added least d j k m line old new ke me le a = record {
  len = a.len;
  line = λ i l. line_under-element least d (bits_of new) i l ∙ a.bits (2 ^ d + i / 2 ^ least) (i % 2 ^ least)
      ∙ ap (λ t. t || (eqb (2 ^ d + i / 2 ^ least) k && (ltb (i % 2 ^ least) m && has_bit line (i % 2 ^ least)))) (sym (line_under-element least d (bits_of old) i l))
      ∙ ap (λ t. line_under least (bits_of old) d 1 i || t)
      (ap (λ (x : ℕ). eqb (2 ^ d + i / 2 ^ least) x && (ltb (i % 2 ^ least) m && has_bit line (i % 2 ^ least))) ke
      ∙ ap (λ (x : ℕ). eqb (2 ^ d + i / 2 ^ least) (2 ^ d + j / 2 ^ least) && (ltb (i % 2 ^ least) x && has_bit line (i % 2 ^ least))) me
      ∙ element-bits least (2 ^ d) i j line le);
}

pub element_left : (least d j : ℕ) (test : Bool) (xs : List ℕ) → test ≡ false → AddsElement least d test j xs xs
element_left least d j test xs e = record { len = refl; line = λ i l. or-none (line_under least (bits_of xs) d 1 i) (test && eqb i j) (and_left test (eqb i j) e) }

-- ---- the pairs so far
pub record Listed (least d : ℕ) (turned : Bool) (x : Line) (pairs : List (ℕ × ℕ)) (ys : List ℕ) : Type 0 where
  pub len : length ys ≡ 2 * 2 ^ d
  pub line : (j : ℕ) → j < 2 ^ (least + d) → line_under least (bits_of ys) d 1 j ≡ listed_image turned x pairs j

pub listed_none : (least d : ℕ) (turned : Bool) (x : Line) (ys : List ℕ) → ys ≡ replicate (2 * 2 ^ d) 0 → Listed least d turned x [] ys
listed_none least d turned x ys e = record {
  len = length-zeros (2 ^ d) ys e;
  line = λ j l. ap (λ (y : List ℕ). line_under least (bits_of y) d 1 j) e ∙ zeros_line least d 1 (2 * 2 ^ d) j;
}

pub listed_more : (least d : ℕ) (turned : Bool) (x : Line) (pairs : List (ℕ × ℕ)) (n : ℕ) (p : ℕ × ℕ) (ys zs : List ℕ) → n < length pairs → Listed least d turned x (take n pairs) ys
    → AddsElement least d (x (cond turned (get_or pairs n p).1 (get_or pairs n p).0)) (cond turned (get_or pairs n p).0 (get_or pairs n p).1) ys zs → Listed least d turned x (take (n + 1) pairs) zs
listed_more least d turned x pairs n p ys zs l h a = record {
  len = a.len ∙ h.len;
  line = λ j i. a.line j i ∙ ap (λ t. t || (x (cond turned (get_or pairs n p).1 (get_or pairs n p).0) && eqb j (cond turned (get_or pairs n p).0 (get_or pairs n p).1))) (h.line j i)
      ∙ ap (λ t. listed_image turned x (take n pairs) j || (x (cond turned (get_or pairs n p).1 (get_or pairs n p).0) && t)) (eqb_turned j (cond turned (get_or pairs n p).0 (get_or pairs n p).1))
      ∙ sym (list_any_more (λ q. x (cond turned q.1 q.0) && eqb (cond turned q.0 q.1) j) pairs n p l);
}
  where
    eqb_turned : (i j : ℕ) → eqb i j ≡ eqb j i
    eqb_turned i j = elim (cases_eq i j) [
      | inl e ↦ eq-eqb i j e ∙ sym (eq-eqb j i (sym e))
      | inr e ↦ ne_eqb i j e ∙ sym (ne_eqb j i (λ y. e (sym y)))
    ]

-- each of the pairs lies within
pub pair_within : (m n : ℕ) (pairs : List (ℕ × ℕ)) (i : ℕ) (p : ℕ × ℕ) → AreWithin m n pairs → i < length pairs → ((get_or pairs i p).0 < m) × ((get_or pairs i p).1 < n)
pair_within m n [] i p a l = absurd (omega (arith, l))
pair_within m n (q ∷ qs) zero p a l = a.0
pair_within m n (q ∷ qs) (suc i) p a l = pair_within m n qs i p a.1 (omega (arith, l))

-- all of them, and then marks
pub listed_heap : (least h leaves : ℕ) (turned : Bool) (x : Line) (pairs : List (ℕ × ℕ)) (ys ms : List ℕ) → least ≤ h → leaves ≡ 2 ^ (h - least) → Listed least (h - least) turned x pairs ys → Marks leaves ys ms → IsHeap least h (listed_image turned x pairs) ms
listed_heap least h leaves turned x pairs ys ms l e s m =
    let d : ℕ = h - least in
    record {
      len = m.len ∙ s.len;
      marked = marked least leaves ys ms m d 1 (omega arith) (omega (arith, e));
      line = λ j i. marks_keep least leaves ys ms m d 1 j (omega (arith, e)) ∙ s.line j (height-over least h j l i);
    }

-- ---- the image by pairs
-- some k of a line is what a pair that passes a test has at one side
chosen : (m : ℕ) (x : Line) (c : ℕ × ℕ → Bool) (s : ℕ × ℕ → ℕ) (t : ℕ → ℕ × ℕ → Bool) (pairs : List (ℕ × ℕ)) → ((k : ℕ) (p : ℕ × ℕ) → t k p ≡ (c p && eqb (s p) k)) → AllByRecursion (λ p. s p < m) pairs
    → some_below m (λ k. x k && list_any (t k) pairs) ≡ list_any (λ p. x (s p) && c p) pairs
chosen m x c s t [] e a = some_none m (λ k. x k && false) (λ k l. and_right (x k) false refl)
chosen m x c s t (p ∷ ps) e a =
    some_agree m (λ k. x k && (t k p || list_any (t k) ps)) (λ k. ((c p && eqb (s p) k) && x k) || (x k && list_any (t k) ps))
    (λ k l. and-or (x k) (t k p) (list_any (t k) ps) ∙ ap (λ b. b || (x k && list_any (t k) ps)) (and_comm (x k) (t k p) ∙ ap (λ b. b && x k) (e k p)))
    ∙ some_either m (λ k. (c p && eqb (s p) k) && x k) (λ k. x k && list_any (t k) ps)
    ∙ ap (λ b. b || some_below m (λ k. x k && list_any (t k) ps)) (some_point m (c p) (s p) x a.0 ∙ and_comm (c p) (x (s p)))
    ∙ ap (λ b. (x (s p) && c p) || b) (chosen m x c s t ps e a.1)

firsts : (m n : ℕ) (pairs : List (ℕ × ℕ)) → AreWithin m n pairs → AllByRecursion (λ p. p.0 < m) pairs
firsts m n [] a = tt
firsts m n (p ∷ ps) a = (a.0.0, firsts m n ps a.1)

seconds : (m n : ℕ) (pairs : List (ℕ × ℕ)) → AreWithin m n pairs → AllByRecursion (λ p. p.1 < n) pairs
seconds m n [] a = tt
seconds m n (p ∷ ps) a = (a.0.1, seconds m n ps a.1)

listed_is : (turned : Bool) (m : ℕ) (x : Line) (pairs : List (ℕ × ℕ)) (j : ℕ) → AreWithin m m pairs → image_line m x (turned_cells turned (is_among pairs)) j ≡ listed_image turned x pairs j
listed_is true m x pairs j a = chosen m x (λ p. eqb p.0 j) (λ p. p.1) (λ k p. eqb p.0 j && eqb p.1 k) pairs (λ k p. refl) (seconds m m pairs a)
listed_is false m x pairs j a = chosen m x (λ p. eqb p.1 j) (λ p. p.0) (λ k p. eqb p.0 k && eqb p.1 j) pairs (λ k p. and_comm (eqb p.0 k) (eqb p.1 j)) (firsts m m pairs a)

-- the heap of the image by pairs is that by the cells that they are
pub listed_heap_is : (least h : ℕ) (turned : Bool) (x : Line) (f : Cells) (pairs : List (ℕ × ℕ)) (ys : List ℕ) → f ≡ is_among pairs → AreWithin (2 ^ h) (2 ^ h) pairs
    → IsHeap least h (listed_image turned x pairs) ys → IsHeap least h (image_line (2 ^ h) x (turned_cells turned f)) ys
listed_heap_is least h turned x f pairs ys e a t = record {
  len = t.len;
  marked = t.marked;
  line = λ j l. t.line j l ∙ sym (listed_is turned (2 ^ h) x pairs j a) ∙ ap (λ (y : Cells). image_line (2 ^ h) x (turned_cells turned y) j) (sym e);
}

-- the same where there may be none, with the least height as the code reads it
pub some_listed_heap : {V : Type 0} (items : V → List ℕ) (o : Option V) (least bottom h : ℕ) (turned : Bool) (f : Cells) (pairs : List (ℕ × ℕ)) (xs : List ℕ) → bottom ≡ least → f ≡ is_among pairs → AreWithin (2 ^ h) (2 ^ h) pairs
    → IfSome o (λ v. IsHeap bottom h (listed_image turned (line_under bottom (bits_of xs) (h - bottom) 1) pairs) (items v))
    → IfSome o (λ v. IsHeap least h (image_line (2 ^ h) (line_under least (bits_of xs) (h - least) 1) (turned_cells turned f)) (items v))
some_listed_heap items None least bottom h turned f pairs xs b e a t = t
some_listed_heap items (Some v) least bottom h turned f pairs xs b e a t =
    listed_heap_is least h turned (line_under least (bits_of xs) (h - least) 1) f pairs (items v) e a
    (subst (λ (n : ℕ). IsHeap n h (listed_image turned (line_under n (bits_of xs) (h - n) 1) pairs) (items v)) b t)

-- the pairs of a relation lie within the square of its tree
pub pairs_fit : (least m n h : ℕ) (r : Relation) (pairs : List (ℕ × ℕ)) → IsRelation r → r.rows ≡ m → r.cols ≡ n → m ≤ size_limit → n ≤ size_limit → h ≡ height_over least m n → pairs ≡ r.pairs → AreWithin (2 ^ h) (2 ^ h) pairs
pairs_fit least m n h r pairs v rm rn ml nl e p =
    let rows : r.rows ≤ 2 ^ h = let a = height_over-rows least m n ml in subst (λ (x : ℕ). r.rows ≤ 2 ^ x) (sym e) (omega (arith, a, rm)) in
    let cols : r.cols ≤ 2 ^ h = let a = height_over-cols least m n nl in subst (λ (x : ℕ). r.cols ≤ 2 ^ x) (sym e) (omega (arith, a, rn)) in
    subst (AreWithin (2 ^ h) (2 ^ h)) (sym p) (all-weaker (λ q. (q.0 < r.rows) × (q.1 < r.cols)) (λ q. (q.0 < 2 ^ h) × (q.1 < 2 ^ h)) (λ q a. (omega (arith, a.0, rows), omega (arith, a.1, cols))) r.pairs v.within)
