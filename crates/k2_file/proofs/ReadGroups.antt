-- Groups of four bits: the first without a set bit, group by group.
use Rattle.std.proofs.Common.{◌≡◌, ◌==◌, ◌+◌, ◌-◌, ◌*◌, ◌/◌, ◌%◌, ◌<◌, ◌≤◌, ℕ, zero, suc, Bool, true, false, cond, List, [], ◌∷◌, length, take, drop, get_or, Some, None, refl, sym, ap, ◌∙◌, arith}
use Rattle.std.proofs.lemmas.List.{drop_more, drop-drop, length-drop}
use Rattle.run_model.specs.Files.{zero_group, ones, number_of_bit}
use Rattle.std.specs.Int.{bit_at}
use Rattle.k2_file.specs.Told.{bits_told, group_is_set}
use Rattle.k2_file.proofs.ReadBits.{length-told, get-told}

-- where at least four bits are left, the rest begins with them, one by one
pub drop-four : (xs : List Bool) (at : ℕ) → at + 4 ≤ length xs
    → drop at xs ≡ get_or xs at false ∷ get_or xs (at + 1) false ∷ get_or xs (at + 2) false ∷ get_or xs (at + 3) false ∷ drop (at + 4) xs
drop-four xs at l =
    let a : at + 1 + 1 ≡ at + 2 = omega arith in
    let b : at + 2 + 1 ≡ at + 3 = omega arith in
    let c : at + 3 + 1 ≡ at + 4 = omega arith in
    let x = get_or xs at false in
    let y = get_or xs (at + 1) false in
    let z = get_or xs (at + 2) false in
    let w = get_or xs (at + 3) false in
    drop_more xs at false (omega arith)
    ∙ ap (λ ys. x ∷ ys) (drop_more xs (at + 1) false (omega arith) ∙ ap (λ (k : ℕ). y ∷ drop k xs) a)
    ∙ ap (λ ys. x ∷ y ∷ ys) (drop_more xs (at + 2) false (omega arith) ∙ ap (λ (k : ℕ). z ∷ drop k xs) b)
    ∙ ap (λ ys. x ∷ y ∷ z ∷ ys) (drop_more xs (at + 3) false (omega arith) ∙ ap (λ (k : ℕ). w ∷ drop k xs) c)

group-step : (xs : List Bool) (at : ℕ) → at + 4 ≤ length xs
    → zero_group at (drop at xs) ≡ cond (group_is_set xs at) (zero_group (at + 4) (drop (at + 4) xs)) (Some at)
group-step xs at l = ap (zero_group at) (drop-four xs at l)

-- a group with a set bit is passed over
pub group-more : (xs : List Bool) (at : ℕ) → at + 4 ≤ length xs → group_is_set xs at ≡ true → zero_group at (drop at xs) ≡ zero_group (at + 4) (drop (at + 4) xs)
group-more xs at l h = group-step xs at l ∙ ap (λ b. cond b (zero_group (at + 4) (drop (at + 4) xs)) (Some at)) h

-- a group without one is found
pub group-here : (xs : List Bool) (at : ℕ) → at + 4 ≤ length xs → group_is_set xs at ≡ false → zero_group at (drop at xs) ≡ Some at
group-here xs at l h = group-step xs at l ∙ ap (λ b. cond b (zero_group (at + 4) (drop (at + 4) xs)) (Some at)) h

short-none : (at : ℕ) (xs : List Bool) → length xs < 4 → zero_group at xs ≡ None
short-none at [] l = refl
short-none at (a ∷ []) l = refl
short-none at (a ∷ b ∷ []) l = refl
short-none at (a ∷ b ∷ c ∷ []) l = refl
short-none at (a ∷ b ∷ c ∷ d ∷ xs) l = absurd (omega arith)

-- less than four bits are no group
pub group-end : (xs : List Bool) (at : ℕ) → length xs < at + 4 → zero_group at (drop at xs) ≡ None
group-end xs at l = short-none at (drop at xs) (omega (arith, length-drop at xs))

-- ---- a group by its byte
four-same : {a a' b b' c c' d d' : Bool} {xs xs' : List Bool} → a ≡ a' → b ≡ b' → c ≡ c' → d ≡ d' → xs ≡ xs'
    → a ∷ b ∷ c ∷ d ∷ xs ≡ a' ∷ b' ∷ c' ∷ d' ∷ xs'
four-same {a} {a'} {b} {b'} {c} {c'} {d} {d'} {xs} {xs'} p q r s t =
    ap (λ x. x ∷ b ∷ c ∷ d ∷ xs) p ∙ ap (λ x. a' ∷ x ∷ c ∷ d ∷ xs) q ∙ ap (λ x. a' ∷ b' ∷ x ∷ d ∷ xs) r ∙ ap (λ x. a' ∷ b' ∷ c' ∷ x ∷ xs) s
    ∙ ap (λ ys. a' ∷ b' ∷ c' ∷ d' ∷ ys) t

-- the bits of the half of a byte, from its lowest place on
pub group-told : (count : ℕ) (bytes : List ℕ) (number low : ℕ) (a b c d : Bool) → count ≤ 8 * length bytes → 4 * number + 4 ≤ count → low ≡ 4 * (1 - number % 2)
    → a ≡ (bit_at (get_or bytes (number / 2) 0) (low + 3) == 1) → b ≡ (bit_at (get_or bytes (number / 2) 0) (low + 2) == 1)
    → c ≡ (bit_at (get_or bytes (number / 2) 0) (low + 1) == 1) → d ≡ (bit_at (get_or bytes (number / 2) 0) low == 1)
    → drop (4 * number) (bits_told count bytes) ≡ a ∷ b ∷ c ∷ d ∷ drop (4 * (number + 1)) (bits_told count bytes)
group-told count bytes number low a b c d h l e p q r s =
    let xs = bits_told count bytes in
    let n = length-told count bytes h in
    let at : ℕ = 4 * number in
    let next : at + 4 ≡ 4 * (number + 1) = omega arith in
    let one : (k : ℕ) → k < 4 → get_or xs (at + k) false ≡ (bit_at (get_or bytes (number / 2) 0) (low + 3 - k) == 1) = λ k m.
    let byte : (at + k) / 8 ≡ number / 2 = omega (arith, m) in
    let place : 7 - (at + k) % 8 ≡ low + 3 - k = omega (arith, m, e) in
    get-told count bytes (at + k) false h (omega (arith, l, m)) ∙ ap (λ (x : ℕ). bit_at (get_or bytes x 0) (7 - (at + k) % 8) == 1) byte
    ∙ ap (λ (x : ℕ). bit_at (get_or bytes (number / 2) 0) x == 1) place in
    let z : at ≡ at + 0 = omega arith in
    let z2 : low + 3 - 0 ≡ low + 3 = omega arith in
    let y2 : low + 3 - 1 ≡ low + 2 = omega arith in
    let x2 : low + 3 - 2 ≡ low + 1 = omega arith in
    let w2 : low + 3 - 3 ≡ low = omega arith in
    let has : ℕ → Bool = λ x. bit_at (get_or bytes (number / 2) 0) x == 1 in
    drop-four xs at (omega (arith, n, l))
    ∙ four-same (ap (λ (x : ℕ). get_or xs x false) z ∙ one 0 (omega arith) ∙ ap has z2 ∙ sym p) (one 1 (omega arith) ∙ ap has y2 ∙ sym q)
    (one 2 (omega arith) ∙ ap has x2 ∙ sym r) (one 3 (omega arith) ∙ ap has w2 ∙ sym s) (ap (λ (x : ℕ). drop x xs) next)

-- ---- the set bits of groups
ones-none : (k : ℕ) → ones (take k []) ≡ 0
ones-none zero = refl
ones-none (suc k) = refl

-- those of the front and of the rest
pub ones-both : (n m : ℕ) (bits : List Bool) → ones (take (n + m) bits) ≡ ones (take n bits) + ones (take m (drop n bits))
ones-both zero m bits = let e : 0 + m ≡ m = omega arith in ap (λ (k : ℕ). ones (take k bits)) e ∙ none-before (ones (take m bits))
  where
    none-before : (n : ℕ) → n ≡ 0 + n
    none-before n = omega arith
ones-both (suc n) m [] = let a = ones-none (suc n + m) in let b = ones-none m in omega (arith, a, b)
ones-both (suc n) m (b ∷ bits) =
    let h = ones-both n m bits in
    let e : suc n + m ≡ suc (n + m) = omega arith in
    ap (λ (k : ℕ). ones (take k (b ∷ bits))) e ∙ omega (arith, h)

-- one group more
pub group-ones : (xs : List Bool) (from i : ℕ) (a b c d : Bool) (ys : List Bool) → drop (4 * (from + i)) xs ≡ a ∷ b ∷ c ∷ d ∷ ys
    → ones (take (4 * (i + 1)) (drop (4 * from) xs)) ≡ ones (take (4 * i) (drop (4 * from) xs)) + (number_of_bit a + (number_of_bit b + (number_of_bit c + number_of_bit d)))
group-ones xs from i a b c d ys h =
    let zs = drop (4 * from) xs in
    let e : 4 * (i + 1) ≡ 4 * i + 4 = omega arith in
    let f : 4 * from + 4 * i ≡ 4 * (from + i) = omega arith in
    let here : drop (4 * i) zs ≡ a ∷ b ∷ c ∷ d ∷ ys = drop-drop (4 * i) (4 * from) xs ∙ ap (λ (k : ℕ). drop k xs) f ∙ h in
    let four : ones (take 4 (drop (4 * i) zs)) ≡ number_of_bit a + (number_of_bit b + (number_of_bit c + (number_of_bit d + 0))) = ap (λ vs. ones (take 4 vs)) here in
    ap (λ (k : ℕ). ones (take k zs)) e ∙ ones-both (4 * i) 4 zs ∙ omega (arith, four)
