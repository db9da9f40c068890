-- Bytes of a file and the numbers that they tell: four bytes are those of their number, and the parts of a file are its
-- bytes again.
use Rattle.std.proofs.Common.{◌≡◌, ◌<◌, ◌≤◌, ◌+◌, ◌*◌, zero, suc, ℕ, List, [], ◌∷◌, ◌++◌, length, take, drop, get_or, refl, sym, ap, ◌∙◌, arith, append_assoc}
use Rattle.std.specs.List.{flat_map, AllByRecursion}
use Rattle.std.specs.Int.{w32, to_be_bytes}
use Rattle.std.proofs.lemmas.Nat.{be_bytes_4}
use Rattle.std.proofs.lemmas.List.{take-append-drop, drop-drop, length-take-le, length-drop}
use Rattle.run_model.specs.Files.{part}
use Rattle.run_model.specs.SharedFiles.{number_at, Quadrant, quadrant_length, quadrants_in}

abbrev pub AreBytes : List ℕ → Type 0
AreBytes = AllByRecursion (λ b. b < 256)

pub bytes_drop : (n : ℕ) (xs : List ℕ) → AreBytes xs → AreBytes (drop n xs)
bytes_drop zero xs h = h
bytes_drop (suc n) [] h = tt
bytes_drop (suc n) (x ∷ xs) h = bytes_drop n xs h.1

bytes_take : (n : ℕ) (xs : List ℕ) → AreBytes xs → AreBytes (take n xs)
bytes_take zero xs h = tt
bytes_take (suc n) [] h = tt
bytes_take (suc n) (x ∷ xs) h = (h.0, bytes_take n xs h.1)

each_byte : (xs : List ℕ) → AreBytes xs → (i : ℕ) → get_or xs i 0 < 256
each_byte [] h i = omega arith
each_byte (x ∷ xs) h zero = h.0
each_byte (x ∷ xs) h (suc i) = each_byte xs h.1 i

-- four bytes at a place are those of their number
pub number_bytes : (xs : List ℕ) (at : ℕ) → AreBytes xs → at + 4 ≤ length xs → to_be_bytes w32 (number_at xs at) ≡ part xs at 4
number_bytes xs at h l =
    let k = length-drop at xs in
    be_bytes_4 (part xs at 4) (number_at xs at) (length-take-le 4 (drop at xs) (omega (arith, k, l)))
    (each_byte (part xs at 4) (bytes_take 4 (drop at xs) (bytes_drop at xs h))) refl

-- a part and what is behind it
pub part_drop : (xs : List ℕ) (at count : ℕ) → part xs at count ++ drop (at + count) xs ≡ drop at xs
part_drop xs at count =
    ap (λ ys. part xs at count ++ ys) (ap (λ n. drop n xs) (turned at count) ∙ sym (drop-drop count at xs)) ∙ take-append-drop count (drop at xs)
  where
    turned : (a b : ℕ) → a + b ≡ a + b
    turned a b = refl

-- ---- listed squares
abbrev pub quadrant_bytes : Quadrant → List ℕ
quadrant_bytes q = to_be_bytes w32 q.nw ++ to_be_bytes w32 q.ne ++ to_be_bytes w32 q.sw ++ to_be_bytes w32 q.se

-- sixteen bytes
pub sixteen : (xs : List ℕ) → AreBytes xs → 16 ≤ length xs →
    quadrant_bytes (record { nw = number_at xs 0; ne = number_at xs 4; sw = number_at xs 8; se = number_at xs 12 }) ++ drop 16 xs ≡ xs
sixteen xs h l =
    (λ i. (((number_bytes xs 0 h (omega (arith, l)) i ++ number_bytes xs 4 h (omega (arith, l)) i) ++ number_bytes xs 8 h (omega (arith, l)) i) ++ number_bytes xs 12 h (omega (arith, l)) i) ++ drop 16 xs)
    ∙ (append_assoc ((part xs 0 4 ++ part xs 4 4) ++ part xs 8 4) (part xs 12 4) (drop 16 xs)
    ∙ (ap (λ ys. ((part xs 0 4 ++ part xs 4 4) ++ part xs 8 4) ++ ys) (part_drop xs 12 4)
    ∙ (append_assoc (part xs 0 4 ++ part xs 4 4) (part xs 8 4) (drop 12 xs)
    ∙ (ap (λ ys. (part xs 0 4 ++ part xs 4 4) ++ ys) (part_drop xs 8 4)
    ∙ (append_assoc (part xs 0 4) (part xs 4 4) (drop 8 xs)
    ∙ (ap (λ ys. part xs 0 4 ++ ys) (part_drop xs 4 4) ∙ part_drop xs 0 4))))))

-- quadrants are their bytes again, sixteen at a time, by induction on their number
pub quadrants_bytes : (k : ℕ) (xs : List ℕ) → AreBytes xs → 16 * k ≤ length xs → flat_map quadrant_bytes (quadrants_in k xs) ++ drop (16 * k) xs ≡ xs
quadrants_bytes zero xs h l = ap (λ n. drop n xs) (none_at_all 16)
  where
    none_at_all : (n : ℕ) → n * 0 ≡ 0
    none_at_all n = omega arith
quadrants_bytes (suc k) xs h l =
    let more = length-drop 16 xs in
    let i = quadrants_bytes k (drop 16 xs) (bytes_drop 16 xs h) (omega (arith, l, more)) in
    append_assoc (quadrant_bytes (record { nw = number_at xs 0; ne = number_at xs 4; sw = number_at xs 8; se = number_at xs 12 })) (flat_map quadrant_bytes (quadrants_in k (drop 16 xs))) (drop (16 * suc k) xs)
    ∙ (ap (λ ys. quadrant_bytes (record { nw = number_at xs 0; ne = number_at xs 4; sw = number_at xs 8; se = number_at xs 12 }) ++ (flat_map quadrant_bytes (quadrants_in k (drop 16 xs)) ++ ys)) (ap (λ n. drop n xs) (one_more k) ∙ sym (drop-drop (16 * k) 16 xs))
    ∙ (ap (λ ys. quadrant_bytes (record { nw = number_at xs 0; ne = number_at xs 4; sw = number_at xs 8; se = number_at xs 12 }) ++ ys) i ∙ sixteen xs h (omega (arith, l))))
  where
    one_more : (k : ℕ) → 16 * suc k ≡ 16 + 16 * k
    one_more k = omega arith

pub quadrants_count : (k : ℕ) (xs : List ℕ) → length (quadrants_in k xs) ≡ k
quadrants_count zero xs = refl
quadrants_count (suc k) xs = ap suc (quadrants_count k (drop quadrant_length xs))
