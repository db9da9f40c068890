-- The bits of bytes: bit k is in byte k / 8, at place 7 - k % 8 there.
use Rattle.std.proofs.Common.{◌≡◌, ◌==◌, ◌+◌, ◌-◌, ◌*◌, ◌/◌, ◌%◌, ◌<◌, ◌≤◌, ℕ, zero, suc, Bool, false, List, [], ◌∷◌, length, map, take, drop, get_or, refl, ap, ◌∙◌, arith}
use Rattle.std.specs.List.{range_with_len}
use Rattle.std.specs.Int.{bit_at}
use Rattle.std.proofs.lemmas.List.{length-drop, length-take-le, get_or-take, get_or-drop, take_all}
use Rattle.std.proofs.lemmas.List.Concat.{get_or-flat_map}
use Rattle.std.proofs.lemmas.List.FromFn.{get_or-map-range_with_len}
use Rattle.run_model.specs.Files.{unpacked, number_of_bit, ones}
use Rattle.k2_file.specs.Told.{bits_told}

-- the bits of a byte, the highest first
abbrev bits_of : ℕ → List Bool
bits_of byte = map (λ i. bit_at byte (7 - i) == 1) (range_with_len 0 8)

pub length-unpacked : (bytes : List ℕ) → length (unpacked bytes) ≡ 8 * length bytes
length-unpacked [] = refl
length-unpacked (b ∷ bytes) = let h = length-unpacked bytes in omega (arith, h)

-- the bit at a place
pub get-unpacked : (bytes : List ℕ) (k : ℕ) (d : Bool) → k < 8 * length bytes
    → get_or (unpacked bytes) k d ≡ (bit_at (get_or bytes (k / 8) 0) (7 - k % 8) == 1)
get-unpacked bytes k d h =
    let byte = k / 8 in
    let place = k % 8 in
    let l : byte < length bytes = omega arith in
    let small : place < 8 = omega arith in
    let full : length (take byte bytes) ≡ byte = length-take-le byte bytes (omega arith) in
    let front = length-unpacked (take byte bytes) in
    let split : k ≡ length (unpacked (take byte bytes)) + place = omega (arith, front, full) in
    ap (λ (n : ℕ). get_or (unpacked bytes) n d) split
    ∙ get_or-flat_map bits_of bytes byte place 0 d l small
    ∙ get_or-map-range_with_len (λ i. bit_at (get_or bytes byte 0) (7 - i) == 1) 0 8 place place d small (omega arith)

pub length-told : (count : ℕ) (bytes : List ℕ) → count ≤ 8 * length bytes → length (bits_told count bytes) ≡ count
unfolding bits_told
length-told count bytes h = length-take-le count (unpacked bytes) (omega (arith, length-unpacked bytes))

pub get-told : (count : ℕ) (bytes : List ℕ) (k : ℕ) (d : Bool) → count ≤ 8 * length bytes → k < count
    → get_or (bits_told count bytes) k d ≡ (bit_at (get_or bytes (k / 8) 0) (7 - k % 8) == 1)
unfolding bits_told
get-told count bytes k d h l = get_or-take count (unpacked bytes) k d l ∙ get-unpacked bytes k d (omega arith)

-- one more bit is counted
pub ones-more : (xs : List Bool) (from i : ℕ) → from + i < length xs
    → ones (take (i + 1) (drop from xs)) ≡ ones (take i (drop from xs)) + number_of_bit (get_or xs (from + i) false)
ones-more xs from i l =
    ones_take-more (drop from xs) i (omega (arith, length-drop from xs))
    ∙ ap (λ b. ones (take i (drop from xs)) + number_of_bit b) (get_or-drop from xs i false)
  where
    ones_take-more : (ys : List Bool) (n : ℕ) → n < length ys → ones (take (n + 1) ys) ≡ ones (take n ys) + number_of_bit (get_or ys n false)
    ones_take-more [] n l = absurd (omega arith)
    ones_take-more (y ∷ ys) zero l = omega arith
    ones_take-more (y ∷ ys) (suc n) l =
        let more : suc n + 1 ≡ suc (n + 1) = omega arith in
        let h = ones_take-more ys n (omega arith) in
        ap (λ (k : ℕ). ones (take k (y ∷ ys))) more ∙ omega (arith, h)

-- what is behind the end, as what is told of all bytes from there
pub ones-padding : (count : ℕ) (bytes : List ℕ) → count ≤ 8 * length bytes
    → ones (take (8 * length bytes - count) (drop count (bits_told (8 * length bytes) bytes))) ≡ ones (drop count (unpacked bytes))
unfolding bits_told
ones-padding count bytes h =
    let u = unpacked bytes in
    let n = length-unpacked bytes in
    ap (λ ys. ones (take (8 * length bytes - count) (drop count ys))) (take_all (8 * length bytes) u (omega (arith, n)))
    ∙ ap ones (take_all (8 * length bytes - count) (drop count u) (omega (arith, n, length-drop count u)))
