-- Bits packed into bytes and unpacked again.
-- 1. A number with one bit more has that bit lowest, and its own above it.
-- 2. So the bits of a number of k bits, the highest first, grow by one behind; and those of a byte whose rest is 0 are these and no set bit.
-- 3. By induction: unpacked, the packed bits are the bits and fewer than eight more that are not set.
-- 4. Bytes with the same bits are the same. So bytes whose last bits are not set are those of their first bits.
use Rattle.std.proofs.Common.{◌≡◌, ◌==◌, ◌+◌, ◌-◌, ◌*◌, ◌/◌, ◌%◌, ◌^◌, ◌<◌, ◌≤◌, ℕ, zero, suc, Bool, true, false, cond, List, [], ◌∷◌, ◌++◌, length, map, take, drop, get_or, replicate, refl, sym, ap, ◌∙◌, subst, inl, inr, arith, append_assoc, zero-add, add-one}
use Rattle.std.specs.List.{range_with_len, AllByRecursion}
use Rattle.std.specs.Int.{bit_at}
use Rattle.std.proofs.lemmas.Bool.{cases_eq, cases_lt, eqb-true, eqb-false, eq-eqb, ne_eqb}
use Rattle.std.proofs.lemmas.Nat.{pow_pos, pow-add}
use Rattle.std.proofs.Math.Nat.{mul-le-mul_right}
use Rattle.std.proofs.lemmas.Nat.Bits.{bit_at_lowest, bit_at-suc, bit_at-lt, bit_at_cat_low, bit_at_cat_high, same_from_bits_below, bit_at-zero}
use Rattle.std.proofs.lemmas.List.{append-nil, length-append, length-replicate, length-take-le, length-drop, ext_get_or, take_at, drop_at, get_or_append_left, get_or-append_right, get_or-replicate, take-append-drop}
use Rattle.std.proofs.lemmas.List.FromFn.{get_or-map-range_with_len, length-map-range_with_len}
use Rattle.run_model.specs.Files.{number_of_bit, packed, unpacked, bytes_for, ones}
use Rattle.k2_file.proofs.ReadApart.{two-halves}
use Rattle.k2_file.proofs.ReadBits.{length-unpacked}

-- the k bits of a number, the highest first
abbrev pub top : ℕ → ℕ → List Bool
top k v = map (λ i. bit_at v (k - 1 - i) == 1) (range_with_len 0 k)

-- ---- one bit more
low-bit : (v : ℕ) (b : Bool) → (bit_at (2 * v + number_of_bit b) 0 == 1) ≡ b
low-bit v true = let e : (2 * v + 1) % 2 ≡ 1 = omega arith in ap (λ n. n == 1) (bit_at_lowest (2 * v + 1) ∙ e)
low-bit v false = let e : (2 * v + 0) % 2 ≡ 0 = omega arith in ap (λ n. n == 1) (bit_at_lowest (2 * v + 0) ∙ e)

high-bit : (v i : ℕ) (b : Bool) → bit_at (2 * v + number_of_bit b) (suc i) ≡ bit_at v i
high-bit v i true = let e : (2 * v + 1) / 2 ≡ v = omega arith in bit_at-suc (2 * v + 1) i ∙ ap (λ n. bit_at n i) e
high-bit v i false = let e : (2 * v + 0) / 2 ≡ v = omega arith in bit_at-suc (2 * v + 0) i ∙ ap (λ n. bit_at n i) e

length-top : (k v : ℕ) → length (top k v) ≡ k
length-top k v = length-map-range_with_len (λ i. bit_at v (k - 1 - i) == 1) 0 k

get-top : (k v i : ℕ) (d : Bool) → i < k → get_or (top k v) i d ≡ (bit_at v (k - 1 - i) == 1)
get-top k v i d l = get_or-map-range_with_len (λ i. bit_at v (k - 1 - i) == 1) 0 k i i d l (omega arith)

-- with one bit more at the low end that bit is the last one, and the others are those of the number above it
top-more : (k v : ℕ) (b : Bool) → top (k + 1) (2 * v + number_of_bit b) ≡ top k v ++ b ∷ []
top-more k v b =
    ext_get_or false (top (k + 1) w) (top k v ++ b ∷ []) (length-top (k + 1) w ∙ sym (length-append (top k v) (b ∷ []) ∙ ap (λ (n : ℕ). n + 1) (length-top k v)))
    (λ i l. each i (omega (arith, l, length-top (k + 1) w)))
  where
    w : ℕ
    w = 2 * v + number_of_bit b

    each : (i : ℕ) → i < k + 1 → get_or (top (k + 1) (2 * v + number_of_bit b)) i false ≡ get_or (top k v ++ b ∷ []) i false
    each i l = elim (cases_eq i k) [
      | inl e ↦ (let z : k + 1 - 1 - i ≡ 0 = omega (arith, e) in let y : i - k ≡ 0 = omega (arith, e) in
          get-top (k + 1) (2 * v + number_of_bit b) i false l ∙ ap (λ (n : ℕ). bit_at (2 * v + number_of_bit b) n == 1) z ∙ low-bit v b
          ∙ sym (get_or-append_right (top k v) (b ∷ []) k i false (length-top k v) (omega (arith, e)) ∙ ap (λ (n : ℕ). get_or (b ∷ []) n false) y))
      | inr n ↦ (let less : i < k = omega (arith, n, l) in let z : k + 1 - 1 - i ≡ suc (k - 1 - i) = omega (arith, less) in
          get-top (k + 1) (2 * v + number_of_bit b) i false l ∙ ap (λ (n : ℕ). bit_at (2 * v + number_of_bit b) n == 1) z
          ∙ ap (λ n. n == 1) (high-bit v (k - 1 - i) b) ∙ sym (get-top k v i false less)
          ∙ sym (get_or_append_left (top k v) (b ∷ []) false i (omega (arith, less, length-top k v))))
    ]

-- a number whose lowest j bits are 0
bit-shifted : (v j i : ℕ) → j ≤ i → bit_at (v * 2 ^ j) i ≡ bit_at v (i - j)
bit-shifted v j i l = let e : v * 2 ^ j ≡ v * 2 ^ j + 0 = omega arith in let p : 0 < 2 ^ j = pow_pos j in ap (λ n. bit_at n i) e ∙ bit_at_cat_high v j 0 i p l

bit-below : (v j i : ℕ) → i < j → bit_at (v * 2 ^ j) i ≡ 0
bit-below v j i l = let e : v * 2 ^ j ≡ v * 2 ^ j + 0 = omega arith in ap (λ n. bit_at n i) e ∙ bit_at_cat_low v j 0 i l ∙ bit_at-zero i

-- a number at the upper end of a byte has its own bits first, and behind them bits that are not set
top-shifted : (k v : ℕ) → k ≤ 8 → top 8 (v * 2 ^ (8 - k)) ≡ top k v ++ replicate (8 - k) false
top-shifted k v l =
    ext_get_or false (top 8 u) (top k v ++ replicate (8 - k) false)
    (length-top 8 u ∙ sym (length-append (top k v) (replicate (8 - k) false) ∙ omega (arith, length-top k v, length-replicate (8 - k) false, l)))
    (λ i m. each i (omega (arith, m, length-top 8 u)))
  where
    u : ℕ
    u = v * 2 ^ (8 - k)

    each : (i : ℕ) → i < 8 → get_or (top 8 (v * 2 ^ (8 - k))) i false ≡ get_or (top k v ++ replicate (8 - k) false) i false
    each i m = elim (cases_lt i k) [
      | inl a ↦ (let z : 8 - 1 - i - (8 - k) ≡ k - 1 - i = omega (arith, a, l) in
          get-top 8 (v * 2 ^ (8 - k)) i false m ∙ ap (λ n. n == 1) (bit-shifted v (8 - k) (8 - 1 - i) (omega (arith, a, l)) ∙ ap (bit_at v) z)
          ∙ sym (get-top k v i false a) ∙ sym (get_or_append_left (top k v) (replicate (8 - k) false) false i (omega (arith, a, length-top k v))))
      | inr a ↦ (get-top 8 (v * 2 ^ (8 - k)) i false m ∙ ap (λ n. n == 1) (bit-below v (8 - k) (8 - 1 - i) (omega (arith, a, m)))
          ∙ sym (get_or-append_right (top k v) (replicate (8 - k) false) k i false (length-top k v) a ∙ get_or-replicate (8 - k) (i - k) false false (omega (arith, a, m))))
    ]

-- ---- packed and unpacked
-- how many bits are behind so many
abbrev pub pad : ℕ → ℕ
pad n = (8 - n % 8) % 8

some-bits : (k : ℕ) → (suc k == 0) ≡ false
some-bits k = ne_eqb (suc k) 0 (λ e. absurd (omega (arith, e)))

unpack-none : (k v : ℕ) → k < 8 → unpacked (packed v k []) ≡ top k v ++ replicate (pad k) false
unpack-none zero v l = refl
unpack-none (suc k) v l =
    let e : 8 - suc k ≡ pad (suc k) = omega (arith, l) in
    ap (λ c. unpacked (cond c [] (v * 2 ^ (8 - suc k) ∷ []))) (some-bits k) ∙ append-nil (top 8 (v * 2 ^ (8 - suc k))) ∙ top-shifted (suc k) v (omega (arith, l))
    ∙ ap (λ (n : ℕ). top (suc k) v ++ replicate n false) e

-- packed and unpacked, bits stand behind those that wait for a byte to be full, and bits that are not set fill the last
-- byte, by induction: each bit joins those that wait, or completes the byte
unpack-packed : (bits : List Bool) (k v : ℕ) → k < 8 → unpacked (packed v k bits) ≡ top k v ++ (bits ++ replicate (pad (k + length bits)) false)
unpack-packed [] k v l = let e : k + 0 ≡ k = omega arith in unpack-none k v l ∙ ap (λ (n : ℕ). top k v ++ replicate (pad n) false) (sym e)
unpack-packed (b ∷ bits) k v l = elim (cases_eq k 7) [
  | inl e ↦ (let t = eq-eqb k 7 e in
      let p : pad (0 + length bits) ≡ pad (k + suc (length bits)) = omega (arith, e) in
      ap (λ c. unpacked (cond c (w ∷ packed 0 0 bits) (packed w (k + 1) bits))) t
      ∙ ap (λ zs. top 8 w ++ zs) (unpack-packed bits 0 0 (omega arith))
      ∙ ap (λ (n : ℕ). top n w ++ (bits ++ replicate (pad (0 + length bits)) false)) (more e)
      ∙ ap (λ zs. zs ++ (bits ++ replicate (pad (0 + length bits)) false)) (top-more k v b)
      ∙ append_assoc (top k v) (b ∷ []) (bits ++ replicate (pad (0 + length bits)) false)
      ∙ ap (λ (n : ℕ). top k v ++ (b ∷ (bits ++ replicate n false))) p)
  | inr n ↦ (let t = ne_eqb k 7 n in
      let p : k + 1 + length bits ≡ k + suc (length bits) = omega arith in
      ap (λ c. unpacked (cond c (w ∷ packed 0 0 bits) (packed w (k + 1) bits))) t
      ∙ unpack-packed bits (k + 1) w (omega (arith, n, l))
      ∙ ap (λ zs. zs ++ (bits ++ replicate (pad (k + 1 + length bits)) false)) (top-more k v b)
      ∙ append_assoc (top k v) (b ∷ []) (bits ++ replicate (pad (k + 1 + length bits)) false)
      ∙ ap (λ (m : ℕ). top k v ++ (b ∷ (bits ++ replicate (pad m) false))) p)
]
  where
    w : ℕ
    w = 2 * v + number_of_bit b

    more : k ≡ 7 → 8 ≡ k + 1
    more e = omega (arith, e)

-- unpacked, packed bits are the bits and some that are not set
pub unpacked-packed : (bits : List Bool) → unpacked (packed 0 0 bits) ≡ bits ++ replicate (pad (length bits)) false
unpacked-packed bits = unpack-packed bits 0 0 (omega arith) ∙ ap (λ (n : ℕ). bits ++ replicate (pad n) false) (zero-add (length bits))

pub length-packed : (bits : List Bool) → length (packed 0 0 bits) ≡ bytes_for (length bits)
length-packed bits =
    let n = length-unpacked (packed 0 0 bits) in
    let a = ap length (unpacked-packed bits) in
    let b = length-append bits (replicate (pad (length bits)) false) in
    let c = length-replicate (pad (length bits)) false in
    omega (arith, n, a, b, c)

-- no padding bit is set
ones-none : (n : ℕ) → ones (replicate n false) ≡ 0
ones-none zero = refl
ones-none (suc n) = let h = ones-none n in omega (arith, h)

pub ones-packed : (bits : List Bool) → ones (drop (length bits) (unpacked (packed 0 0 bits))) ≡ 0
ones-packed bits =
    ap (λ xs. ones (drop (length bits) xs)) (unpacked-packed bits)
    ∙ ap ones (drop_at bits (replicate (pad (length bits)) false) (length bits) refl) ∙ ones-none (pad (length bits))

pub take-packed : (bits : List Bool) → take (length bits) (unpacked (packed 0 0 bits)) ≡ bits
take-packed bits = ap (take (length bits)) (unpacked-packed bits) ∙ take_at bits (replicate (pad (length bits)) false) (length bits) refl

-- ---- bytes by their bits
same-bit : (a b : ℕ) → a < 2 → b < 2 → (a == 1) ≡ (b == 1) → a ≡ b
same-bit a b l m e = elim (cases_eq b 1) [
  | inl t ↦ eqb-true a 1 (e ∙ eq-eqb b 1 t) ∙ sym t
  | inr n ↦ (let k : a ≡ 1 → ⊥ = eqb-false a 1 (e ∙ ne_eqb b 1 n) in omega (arith, l, m, n, k))
]

same-byte : (a b : ℕ) → a < 256 → b < 256 → top 8 a ≡ top 8 b → a ≡ b
same-byte a b l m e = same_from_bits_below 8 a b l m (λ i k. each i k)
  where
    each : (i : ℕ) → i < 8 → bit_at a i ≡ bit_at b i
    each i k =
        let z : 8 - 1 - (7 - i) ≡ i = omega (arith, k) in
        same-bit (bit_at a i) (bit_at b i) (bit_at-lt a i) (bit_at-lt b i)
        (ap (λ (n : ℕ). bit_at a n == 1) (sym z) ∙ sym (get-top 8 a (7 - i) false (omega (arith, k))) ∙ ap (λ xs. get_or xs (7 - i) false) e
        ∙ get-top 8 b (7 - i) false (omega (arith, k)) ∙ ap (λ (n : ℕ). bit_at b n == 1) z)

pub same-bytes : (xs ys : List ℕ) → AllByRecursion (λ b. b < 256) xs → AllByRecursion (λ b. b < 256) ys → unpacked xs ≡ unpacked ys → xs ≡ ys
same-bytes [] [] h k e = refl
same-bytes [] (y ∷ ys) h k e = absurd (omega (arith, ap length e, length-unpacked (y ∷ ys)))
same-bytes (x ∷ xs) [] h k e = absurd (omega (arith, ap length e, length-unpacked (x ∷ xs)))
same-bytes (x ∷ xs) (y ∷ ys) h k e =
    let front : top 8 x ≡ top 8 y = sym (take_at (top 8 x) (unpacked xs) 8 (length-top 8 x)) ∙ ap (take 8) e ∙ take_at (top 8 y) (unpacked ys) 8 (length-top 8 y) in
    let back : unpacked xs ≡ unpacked ys = sym (drop_at (top 8 x) (unpacked xs) 8 (length-top 8 x)) ∙ ap (drop 8) e ∙ drop_at (top 8 y) (unpacked ys) 8 (length-top 8 y) in
    ap (λ b. b ∷ xs) (same-byte x y h.0 k.0 front) ∙ ap (λ bs. y ∷ bs) (same-bytes xs ys h.1 k.1 back)

-- ---- packed bits are bytes
shifted-small : (k v : ℕ) → k ≤ 8 → v < 2 ^ k → v * 2 ^ (8 - k) < 256
shifted-small k v l h =
    let p : 0 < 2 ^ (8 - k) = pow_pos (8 - k) in
    let e : 2 ^ k * 2 ^ (8 - k) ≡ 2 ^ (k + (8 - k)) = sym (pow-add 2 k (8 - k)) in
    let s : k + (8 - k) ≡ 8 = omega (arith, l) in
    let f : 2 ^ k * 2 ^ (8 - k) ≡ 256 = e ∙ ap (λ (n : ℕ). 2 ^ n) s in
    let m : suc v * 2 ^ (8 - k) ≤ 2 ^ k * 2 ^ (8 - k) = mul-le-mul_right (2 ^ (8 - k)) h in
    let x : suc v * 2 ^ (8 - k) ≡ v * 2 ^ (8 - k) + 2 ^ (8 - k) = grind arith in
    omega (arith, p, f, m, x)

bit-small : (b : Bool) → number_of_bit b ≤ 1
bit-small true = omega arith
bit-small false = omega arith

-- each packed byte is below 256, by induction: the bits that wait are fewer than eight, and eight of them are a byte
all-packed : (bits : List Bool) (k v : ℕ) → k < 8 → v < 2 ^ k → AllByRecursion (λ b. b < 256) (packed v k bits)
all-packed [] zero v l h = tt
all-packed [] (suc k) v l h =
    subst (λ c. AllByRecursion (λ x. x < 256) (cond c [] (v * 2 ^ (8 - suc k) ∷ []))) (sym (some-bits k)) (shifted-small (suc k) v (omega (arith, l)) h, tt)
all-packed (b ∷ bits) k v l h = elim (cases_eq k 7) [
  | inl e ↦ (let t = eq-eqb k 7 e in
      let p : 2 ^ k ≡ 128 = ap (λ (n : ℕ). 2 ^ n) e in
      subst (λ c. AllByRecursion (λ x. x < 256) (cond c (w ∷ packed 0 0 bits) (packed w (k + 1) bits))) (sym t)
      (omega (arith, h, p, bit-small b), all-packed bits 0 0 (omega arith) (omega arith)))
  | inr n ↦ (let t = ne_eqb k 7 n in
      let p : 2 ^ (k + 1) ≡ 2 ^ k + 2 ^ k = ap (λ (m : ℕ). 2 ^ m) (add-one k) ∙ two-halves k in
      subst (λ c. AllByRecursion (λ x. x < 256) (cond c (w ∷ packed 0 0 bits) (packed w (k + 1) bits))) (sym t)
      (all-packed bits (k + 1) w (omega (arith, n, l)) (omega (arith, h, p, bit-small b))))
]
  where
    w : ℕ
    w = 2 * v + number_of_bit b

none-set : (xs : List Bool) → ones xs ≡ 0 → xs ≡ replicate (length xs) false
none-set [] h = refl
none-set (true ∷ xs) h = absurd (omega (arith, h))
none-set (false ∷ xs) h = ap (λ ys. false ∷ ys) (none-set xs (omega (arith, h)))

-- bytes whose bits behind so many are not set are those bits packed
pub packed-take : (bytes : List ℕ) (count : ℕ) → AllByRecursion (λ b. b < 256) bytes → length bytes ≡ bytes_for count → ones (drop count (unpacked bytes)) ≡ 0
    → packed 0 0 (take count (unpacked bytes)) ≡ bytes
packed-take bytes count small long none =
    let u = unpacked bytes in
    let n = length-unpacked bytes in
    let m : length (take count u) ≡ count = length-take-le count u (omega (arith, n, long)) in
    let z : length (drop count u) ≡ pad count = length-drop count u ∙ omega (arith, n, long) in
    same-bytes (packed 0 0 (take count u)) bytes (all-packed (take count u) 0 0 (omega arith) (omega arith)) small
    (unpacked-packed (take count u) ∙ ap (λ (k : ℕ). take count u ++ replicate (pad k) false) m
    ∙ ap (λ (k : ℕ). take count u ++ replicate k false) (sym z) ∙ ap (λ xs. take count u ++ xs) (sym (none-set (drop count u) none))
    ∙ take-append-drop count u)
