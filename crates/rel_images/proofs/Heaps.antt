-- Lines in heaps.
-- 1. The line under a node is that of its leaves' bits, and a union of bits has the union of the lines (`line_under-or`).
-- 2. The bits of a line under one node give that line under it (`line_under-bits`), and none under another node of the same
--    level (`line_under-apart`). So bits that are added under a node add their line there.
-- 3. Where each entry that is 0 has children that are 0, an entry that is 0 has nothing under it (`marked`).
use Rattle.std.proofs.Common.{◌≡◌, ◌≢◌, ◌<◌, ◌≤◌, ◌+◌, ◌-◌, ◌*◌, ◌^◌, ◌∙◌, ◌&&◌, ◌||◌, eqb, ltb, zero, suc, ℕ, Bool, true, false, List, length, replicate, refl, sym, ap, subst, arith, inl, inr, get_or, set, bit_or}
use Rattle.std.specs.Prelude.{slice_index}
use Rattle.std.proofs.Math.Nat.{pow-suc}
use Rattle.std.proofs.lemmas.Bool.{cases_Bool, cases_eq, cases_lt, lt-ltb, le-ltb, eq-eqb, ne_eqb, and_left, and_right}
use Rattle.std.proofs.lemmas.Nat.{pow_pos, le_or_l, le_or_r}
use Rattle.std.proofs.lemmas.List.{get_or-replicate, get_or_past, length-replicate, length-set, get_or-set_same, get_or-set_other}
use Rattle.rel_model.proofs.TreeLaws.{same_cells}
use Rattle.rel_images.specs.Lines.{Line, Bits, has_bit, bits_of, line_under, bits_under, IsMarked, Marks, IsHeap, Adds}
use Rattle.rel_images.proofs.Words.{or-none, or-bits, zero-bits, past-bits}

-- ---- sides
pub double : (n : ℕ) → 2 ^ suc n ≡ 2 ^ n + 2 ^ n
double n = let p : 2 ^ suc n ≡ 2 ^ n * 2 = pow-suc 2 n in omega (arith, p)

pub double-over : (least d : ℕ) → 2 ^ (least + suc d) ≡ 2 ^ (least + d) + 2 ^ (least + d)
double-over least d = let e : least + suc d ≡ suc (least + d) = omega arith in ap (λ (n : ℕ). 2 ^ n) e ∙ double (least + d)

-- ---- truth values
pub and-or : (c a b : Bool) → (c && (a || b)) ≡ ((c && a) || (c && b))
and-or true a b = refl
and-or false a b = refl

pub or-both : (a b c d : Bool) → ((a || b) || (c || d)) ≡ ((a || c) || (b || d))
or-both true b true d = refl
or-both true b false d = refl
or-both false true true d = refl
or-both false true false d = refl
or-both false false c d = refl

pub or-or : (a b c : Bool) → ((a || b) || c) ≡ (a || (b || c))
or-or true b c = refl
or-or false b c = refl

-- ---- the line under a node
pub line_under-or : (least d k : ℕ) (a b : Bits) (j : ℕ) → line_under least (λ n x. a n x || b n x) d k j ≡ (line_under least a d k j || line_under least b d k j)
line_under-or least zero k a b j = and-or (ltb j (2 ^ least)) (a k j) (b k j)
line_under-or least (suc d) k a b j = elim (cases_Bool (ltb j (2 ^ (least + d)))) [
  | inl e ↦ rw e (line_under-or least d (2 * k) a b j)
  | inr e ↦ rw e (line_under-or least d (2 * k + 1) a b (j - 2 ^ (least + d)))
]

pub line_under-none : (least d k j : ℕ) → line_under least (λ n x. false) d k j ≡ false
line_under-none least zero k j = and_right (ltb j (2 ^ least)) false refl
line_under-none least (suc d) k j = elim (cases_Bool (ltb j (2 ^ (least + d)))) [
  | inl e ↦ rw e (line_under-none least d (2 * k) j)
  | inr e ↦ rw e (line_under-none least d (2 * k + 1) (j - 2 ^ (least + d)))
]

-- no element past its end
pub line_under-past : (least d k : ℕ) (a : Bits) (j : ℕ) → 2 ^ (least + d) ≤ j → line_under least a d k j ≡ false
line_under-past least zero k a j l = and_left (ltb j (2 ^ least)) _ (le-ltb j (2 ^ least) (let e : least + 0 ≡ least = omega arith in subst (λ (n : ℕ). 2 ^ n ≤ j) e l))
line_under-past least (suc d) k a j l =
    let p = double-over least d in
    let q = pow_pos (least + d) in
    rw (le-ltb j (2 ^ (least + d)) (omega (arith, p, q, l))) (line_under-past least d (2 * k + 1) a (j - 2 ^ (least + d)) (omega (arith, p, l)))

-- bits of another node of the level
pub line_under-apart : (least d k i : ℕ) (x : Line) (j : ℕ) → k ≢ i → line_under least (bits_under least d i x) d k j ≡ false
line_under-apart least zero k i x j n = and_right (ltb j (2 ^ least)) _ (and_left (eqb k i) _ (ne_eqb k i n))
line_under-apart least (suc d) k i x j n =
    let m : ℕ = 2 ^ (least + d) in
    let y : Line = λ t. x (m + t) in
    elim (cases_Bool (ltb j m)) [
      | inl e ↦ rw e (line_under-or least d (2 * k) (bits_under least d (2 * i) x) (bits_under least d (2 * i + 1) y) j
          ∙ ap (λ b. b || line_under least (bits_under least d (2 * i + 1) y) d (2 * k) j) (line_under-apart least d (2 * k) (2 * i) x j (λ h. n (omega (arith, h))))
          ∙ line_under-apart least d (2 * k) (2 * i + 1) y j (λ h. absurd (omega (arith, h))))
      | inr e ↦ rw e (line_under-or least d (2 * k + 1) (bits_under least d (2 * i) x) (bits_under least d (2 * i + 1) y) (j - m)
          ∙ ap (λ b. b || line_under least (bits_under least d (2 * i + 1) y) d (2 * k + 1) (j - m)) (line_under-apart least d (2 * k + 1) (2 * i) x (j - m) (λ h. absurd (omega (arith, h))))
          ∙ line_under-apart least d (2 * k + 1) (2 * i + 1) y (j - m) (λ h. n (omega (arith, h))))
    ]

-- bits of the node itself
pub line_under-bits : (least d k : ℕ) (x : Line) (j : ℕ) → j < 2 ^ (least + d) → line_under least (bits_under least d k x) d k j ≡ x j
line_under-bits least zero k x j l =
    let e : least + 0 ≡ least = omega arith in
    let i : ltb j (2 ^ least) ≡ true = lt-ltb j (2 ^ least) (subst (λ (n : ℕ). j < 2 ^ n) e l) in
    rw (i, eq-eqb k k refl) refl
line_under-bits least (suc d) k x j l =
    let m : ℕ = 2 ^ (least + d) in
    let y : Line = λ t. x (m + t) in
    let p = double-over least d in
    elim (cases_lt j m) [
      | inl i ↦ rw (lt-ltb j m i) (line_under-or least d (2 * k) (bits_under least d (2 * k) x) (bits_under least d (2 * k + 1) y) j
          ∙ sym (or-none (line_under least (bits_under least d (2 * k) x) d (2 * k) j) _ (line_under-apart least d (2 * k) (2 * k + 1) y j (λ h. absurd (omega (arith, h)))))
          ∙ line_under-bits least d (2 * k) x j i)
      | inr i ↦ (let e : m + (j - m) ≡ j = omega (arith, i) in
          rw (le-ltb j m i) (line_under-or least d (2 * k + 1) (bits_under least d (2 * k) x) (bits_under least d (2 * k + 1) y) (j - m)
          ∙ ap (λ b. b || line_under least (bits_under least d (2 * k + 1) y) d (2 * k + 1) (j - m)) (line_under-apart least d (2 * k + 1) (2 * k) x (j - m) (λ h. absurd (omega (arith, h))))
          ∙ line_under-bits least d (2 * k + 1) y (j - m) (omega (arith, p, l, i)) ∙ ap x e))
    ]

-- ---- the bits of a line
pub bits_under-agree : (least d k : ℕ) (x y : Line) (n b : ℕ) → ((j : ℕ) → j < 2 ^ (least + d) → x j ≡ y j) → bits_under least d k x n b ≡ bits_under least d k y n b
bits_under-agree least zero k x y n b h = ap (λ t. eqb n k && t) (elim (cases_lt b (2 ^ least)) [
  | inl l ↦ (let e : least + 0 ≡ least = omega arith in ap (λ t. ltb b (2 ^ least) && t) (h b (subst (λ (m : ℕ). b < 2 ^ m) (sym e) l)))
  | inr l ↦ and_left (ltb b (2 ^ least)) _ (le-ltb b (2 ^ least) l) ∙ sym (and_left (ltb b (2 ^ least)) _ (le-ltb b (2 ^ least) l))
])
bits_under-agree least (suc d) k x y n b h =
    let m : ℕ = 2 ^ (least + d) in
    let p = double-over least d in
    ap (λ t. t || bits_under least d (2 * k + 1) (λ j. x (m + j)) n b) (bits_under-agree least d (2 * k) x y n b (λ j l. h j (omega (arith, p, l))))
    ∙ ap (λ t. bits_under least d (2 * k) y n b || t) (bits_under-agree least d (2 * k + 1) (λ j. x (m + j)) (λ j. y (m + j)) n b (λ j l. h (m + j) (omega (arith, p, l))))

pub bits_under-none : (least d k n b : ℕ) → bits_under least d k (λ j. false) n b ≡ false
bits_under-none least zero k n b = and_right (eqb n k) _ (and_right (ltb b (2 ^ least)) false refl)
bits_under-none least (suc d) k n b = ap (λ t. t || bits_under least d (2 * k + 1) (λ j. false) n b) (bits_under-none least d (2 * k) n b) ∙ bits_under-none least d (2 * k + 1) n b

pub bits_under-or : (least d k : ℕ) (x y : Line) (n b : ℕ) → bits_under least d k (λ j. x j || y j) n b ≡ (bits_under least d k x n b || bits_under least d k y n b)
bits_under-or least zero k x y n b =
    ap (λ t. eqb n k && t) (and-or (ltb b (2 ^ least)) (x b) (y b)) ∙ and-or (eqb n k) (ltb b (2 ^ least) && x b) (ltb b (2 ^ least) && y b)
bits_under-or least (suc d) k x y n b =
    let m : ℕ = 2 ^ (least + d) in
    ap (λ t. t || bits_under least d (2 * k + 1) (λ j. x (m + j) || y (m + j)) n b) (bits_under-or least d (2 * k) x y n b)
    ∙ ap (λ t. (bits_under least d (2 * k) x n b || bits_under least d (2 * k) y n b) || t) (bits_under-or least d (2 * k + 1) (λ j. x (m + j)) (λ j. y (m + j)) n b)
    ∙ or-both (bits_under least d (2 * k) x n b) (bits_under least d (2 * k) y n b) (bits_under least d (2 * k + 1) (λ j. x (m + j)) n b) (bits_under least d (2 * k + 1) (λ j. y (m + j)) n b)

-- ---- bits that are added
pub adds_none : (a : Bits) (xs : List ℕ) → ((n b : ℕ) → a n b ≡ false) → Adds a xs xs
adds_none a xs h = record { len = refl; bits = λ n b. or-none (bits_of xs n b) (a n b) (h n b) }

pub adds_then : (a b : Bits) (xs ys zs : List ℕ) → Adds a xs ys → Adds b ys zs → Adds (λ n x. a n x || b n x) xs zs
adds_then a b xs ys zs s t = record {
  len = t.len ∙ s.len;
  bits = λ n x. t.bits n x ∙ ap (λ y. y || b n x) (s.bits n x) ∙ or-or (bits_of xs n x) (a n x) (b n x);
}

pub adds_same : (a b : Bits) (xs ys : List ℕ) → ((n x : ℕ) → a n x ≡ b n x) → Adds a xs ys → Adds b xs ys
adds_same a b xs ys h s = record { len = s.len; bits = λ n x. s.bits n x ∙ ap (λ y. bits_of xs n x || y) (h n x) }

-- a line is added to one entry
pub added-here : (xs : List ℕ) (k m line : ℕ) → k < length xs → line < 2 ^ m → Adds (λ n b. eqb n k && (ltb b m && has_bit line b)) xs (set xs k (bit_or (get_or xs k 0) line))
added-here xs k m line l s = record {
  len = length-set xs k (bit_or (get_or xs k 0) line);
  bits = λ n b. elim (cases_eq n k) [
    | inl e ↦ rw (eq-eqb n k e) (ap (λ (i : ℕ). has_bit (get_or (set xs k (bit_or (get_or xs k 0) line)) i 0) b) e
        ∙ ap (λ (v : ℕ). has_bit v b) (get_or-set_same xs k (bit_or (get_or xs k 0) line) 0 l)
        ∙ or-bits (get_or xs k 0) line b ∙ ap (λ (i : ℕ). has_bit (get_or xs i 0) b || has_bit line b) (sym e)
        ∙ ap (λ t. has_bit (get_or xs n 0) b || t) (framed b))
    | inr e ↦ rw (ne_eqb n k e) (ap (λ (v : ℕ). has_bit v b) (get_or-set_other xs k n (bit_or (get_or xs k 0) line) 0 e) ∙ or-none (has_bit (get_or xs n 0) b) false refl)
  ];
}
  where
    framed : (b : ℕ) → has_bit line b ≡ (ltb b m && has_bit line b)
    framed b = elim (cases_lt b m) [
      | inl i ↦ sym (ap (λ t. t && has_bit line b) (lt-ltb b m i))
      | inr i ↦ past-bits line m b s i ∙ sym (and_left (ltb b m) (has_bit line b) (le-ltb b m i))
    ]

-- ---- marks
-- so many of the last entries over the leaves are written
pub record AreMarked (leaves t : ℕ) (old new : List ℕ) : Type 0 where
  pub len : length new ≡ length old
  pub same : (n : ℕ) → leaves ≤ n → slice_index new n ≡ slice_index old n
  pub none : (k : ℕ) → 0 < k → leaves < k + t → k < leaves → slice_index new k ≡ 0 → (slice_index new (2 * k) ≡ 0) × (slice_index new (2 * k + 1) ≡ 0)

pub marks_none : (leaves : ℕ) (xs : List ℕ) → AreMarked leaves 1 xs xs
marks_none leaves xs = record { len = refl; same = λ n l. refl; none = λ k p l s e. absurd (omega (arith, l, s)) }

-- one entry more is marked, from the leaves up: it is the or of its children, so where it is 0 both of them are
pub marks_more : (leaves t k : ℕ) (old xs : List ℕ) → k ≡ leaves - t → 0 < t → t < leaves → length old ≡ 2 * leaves → AreMarked leaves t old xs → AreMarked leaves (t + 1) old (set xs k (bit_or (get_or xs (2 * k) 0) (get_or xs (2 * k + 1) 0)))
marks_more leaves t k old xs w p q l a = record {
  len = length-set xs k v ∙ a.len;
  same = λ n s. get_or-set_other xs k n v 0 (λ e. absurd (omega (arith, w, p, q, s, e))) ∙ a.same n s;
  none = λ i r s u e. elim (cases_eq i k) [
    | inl x ↦ (let z : v ≡ 0 = sym (get_or-set_same xs k v 0 (let n = a.len in omega (arith, w, p, q, l, n))) ∙ ap (λ (y : ℕ). get_or (set xs k v) y 0) (sym x) ∙ e in
        let lo = le_or_l (get_or xs (2 * k) 0) (get_or xs (2 * k + 1) 0) in
        let hi = le_or_r (get_or xs (2 * k) 0) (get_or xs (2 * k + 1) 0) in (
          get_or-set_other xs k (2 * i) v 0 (λ y. absurd (omega (arith, r, x, y))) ∙ ap (λ (y : ℕ). get_or xs (2 * y) 0) x ∙ (omega (arith, z, lo)),
          get_or-set_other xs k (2 * i + 1) v 0 (λ y. absurd (omega (arith, r, x, y))) ∙ ap (λ (y : ℕ). get_or xs (2 * y + 1) 0) x ∙ (omega (arith, z, hi)),
        ))
    | inr x ↦ (let z = a.none i r (omega (arith, w, p, q, s, x)) u (sym (get_or-set_other xs k i v 0 x) ∙ e) in (
      get_or-set_other xs k (2 * i) v 0 (λ y. absurd (omega (arith, w, s, r, x, y))) ∙ z.0,
      get_or-set_other xs k (2 * i + 1) v 0 (λ y. absurd (omega (arith, w, s, r, x, y))) ∙ z.1,
    ))
  ];
}
  where
    v : ℕ
    v = bit_or (get_or xs (2 * k) 0) (get_or xs (2 * k + 1) 0)

pub marks_all : (leaves t : ℕ) (old new : List ℕ) → leaves ≤ t → AreMarked leaves t old new → Marks leaves old new
marks_all leaves t old new l a = record { len = a.len; same = a.same; none = λ k p s e. a.none k p (omega (arith, l, p)) s e }

-- nothing stands under an entry that is 0
pub none_under : (least : ℕ) (xs : List ℕ) (d k : ℕ) → IsMarked least xs d k → slice_index xs k ≡ 0 → (j : ℕ) → line_under least (bits_of xs) d k j ≡ false
none_under least xs zero k m e j = and_right (ltb j (2 ^ least)) _ (ap (λ (v : ℕ). has_bit v j) e ∙ zero-bits j)
none_under least xs (suc d) k m e j = m.0 e j

-- the places under a node are within a heap that has its place
pub within_left : (k d n : ℕ) → (k + 1) * 2 ^ suc d ≤ n → (2 * k + 1) * 2 ^ d ≤ n
within_left k d n l =
    let p : (k + 1) * 2 ^ suc d ≡ (k + 1) * (2 ^ d * 2) = ap (λ (x : ℕ). (k + 1) * x) (pow-suc 2 d) in
    let q : (k + 1) * (2 ^ d * 2) ≡ (2 * k + 1) * 2 ^ d + 2 ^ d = omega arith in
    omega (arith, l, p, q)

pub within_right : (k d n : ℕ) → (k + 1) * 2 ^ suc d ≤ n → (2 * k + 1 + 1) * 2 ^ d ≤ n
within_right k d n l =
    let p : (k + 1) * 2 ^ suc d ≡ (k + 1) * (2 ^ d * 2) = ap (λ (x : ℕ). (k + 1) * x) (pow-suc 2 d) in
    let q : (k + 1) * (2 ^ d * 2) ≡ (2 * k + 1 + 1) * 2 ^ d = omega arith in
    omega (arith, l, p, q)

pub within_here : (k d n : ℕ) → (k + 1) * 2 ^ d ≤ n → k < n
within_here k zero n l = omega (arith, l)
within_here k (suc d) n l = let i = within_here (2 * k) d n (within_left k d n l) in omega (arith, i)

none_over : (least leaves : ℕ) (old new : List ℕ) (d k : ℕ) → Marks leaves old new → 0 < k → k < leaves → IsMarked least new d (2 * k) → IsMarked least new d (2 * k + 1) → slice_index new k ≡ 0 → (j : ℕ) → line_under least (bits_of new) (suc d) k j ≡ false
none_over least leaves old new d k s p l west east e j =
    let z = s.none k p l e in
    elim (cases_Bool (ltb j (2 ^ (least + d)))) [
      | inl x ↦ rw x (none_under least new d (2 * k) west z.0 j)
      | inr x ↦ rw x (none_under least new d (2 * k + 1) east z.1 (j - 2 ^ (least + d)))
    ]

pub marked : (least leaves : ℕ) (old new : List ℕ) → Marks leaves old new → (d k : ℕ) → 0 < k → (k + 1) * 2 ^ d ≤ 2 * leaves → IsMarked least new d k
marked least leaves old new s zero k p l = tt
marked least leaves old new s (suc d) k p l =
    let west = marked least leaves old new s d (2 * k) (omega (arith, p)) (within_left k d (2 * leaves) l) in
    let east = marked least leaves old new s d (2 * k + 1) (omega arith) (within_right k d (2 * leaves) l) in
    let r = within_here (2 * k + 1) d (2 * leaves) (within_right k d (2 * leaves) l) in
    (none_over least leaves old new d k s p (omega (arith, r)) west east, west, east)

-- the leaves keep their line
pub marks_keep : (least leaves : ℕ) (old new : List ℕ) → Marks leaves old new → (d k j : ℕ) → leaves ≤ k * 2 ^ d → line_under least (bits_of new) d k j ≡ line_under least (bits_of old) d k j
marks_keep least leaves old new s zero k j l = ap (λ (v : ℕ). ltb j (2 ^ least) && has_bit v j) (s.same k (omega (arith, l)))
marks_keep least leaves old new s (suc d) k j l =
    let p : k * 2 ^ suc d ≡ k * (2 ^ d * 2) = ap (λ (x : ℕ). k * x) (pow-suc 2 d) in
    let q : k * (2 ^ d * 2) ≡ 2 * k * 2 ^ d = omega arith in
    let r : (2 * k + 1) * 2 ^ d ≡ 2 * k * 2 ^ d + 2 ^ d = omega arith in
    elim (cases_Bool (ltb j (2 ^ (least + d)))) [
      | inl x ↦ rw x (marks_keep least leaves old new s d (2 * k) j (omega (arith, l, p, q)))
      | inr x ↦ rw x (marks_keep least leaves old new s d (2 * k + 1) (j - 2 ^ (least + d)) (omega (arith, l, p, q, r)))
    ]

-- ---- what is added under a node
-- the line under a node to which bits were added
pub added_under : (least d k : ℕ) (x : Line) (old new : List ℕ) → Adds (bits_under least d k x) old new → (j : ℕ) → j < 2 ^ (least + d)
    → line_under least (bits_of new) d k j ≡ (line_under least (bits_of old) d k j || x j)
added_under least d k x old new s j l =
    ap (λ (b : Bits). line_under least b d k j) (same_cells (bits_of new) (λ n y. bits_of old n y || bits_under least d k x n y) s.bits)
    ∙ line_under-or least d k (bits_of old) (bits_under least d k x) j ∙ ap (λ b. line_under least (bits_of old) d k j || b) (line_under-bits least d k x j l)

-- ---- heaps that are made
zero-at : (n k : ℕ) → slice_index (replicate n 0) k ≡ 0
zero-at n k = elim (cases_lt k n) [
  | inl l ↦ get_or-replicate n k 0 0 l
  | inr l ↦ get_or_past (replicate n 0) k 0 (let e = length-replicate {A = ℕ} n 0 in omega (arith, l, e))
]

pub zeros_line : (least d k n j : ℕ) → line_under least (bits_of (replicate n 0)) d k j ≡ false
zeros_line least d k n j =
    ap (λ (b : Bits). line_under least b d k j) (same_cells (bits_of (replicate n 0)) (λ m b. false) (λ m b. ap (λ (v : ℕ). has_bit v b) (zero-at n m) ∙ zero-bits b))
    ∙ line_under-none least d k j

-- zeros to which the bits of a line were added, and then marks
pub heap_made : (least h leaves : ℕ) (x : Line) (z ys ms : List ℕ) → least ≤ h → leaves ≡ 2 ^ (h - least) → z ≡ replicate (2 * leaves) 0 → Adds (bits_under least (h - least) 1 x) z ys → Marks leaves ys ms → IsHeap least h x ms
heap_made least h leaves x z ys ms l e a s m =
    let d : ℕ = h - least in
    let w : least + d ≡ h = omega (arith, l) in
    record {
      len = m.len ∙ s.len ∙ ap (λ (y : List ℕ). length y) a ∙ length-replicate {A = ℕ} (2 * leaves) 0 ∙ ap (λ (n : ℕ). 2 * n) e;
      marked = marked least leaves ys ms m d 1 (omega arith) (omega (arith, e));
      line = λ j i. marks_keep least leaves ys ms m d 1 j (omega (arith, e))
          ∙ added_under least d 1 x z ys s j (subst (λ (n : ℕ). j < 2 ^ n) (sym w) i)
          ∙ ap (λ b. b || x j) (ap (λ (y : List ℕ). line_under least (bits_of y) d 1 j) a ∙ zeros_line least d 1 (2 * leaves) j);
    }

-- how many zeros a heap begins with
pub length-zeros : (leaves : ℕ) (xs : List ℕ) → xs ≡ replicate (2 * leaves) 0 → length xs ≡ 2 * leaves
length-zeros leaves xs a = ap (λ (y : List ℕ). length y) a ∙ length-replicate {A = ℕ} (2 * leaves) 0

-- the places under the root
pub root_place : (leaves p n : ℕ) → leaves ≡ p → n ≡ 2 * leaves → (1 + 1) * p ≤ n
root_place leaves p n e l = omega (arith, e, l)
