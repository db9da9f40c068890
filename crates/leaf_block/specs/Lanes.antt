-- What each step on lanes computes.
use Rattle.std.specs.Prelude.{◌≡◌, ◌*◌, ◌/◌, ◌%◌, ◌^◌, ◌<◌, ◌==◌, ℕ, List, length, cond, slice_index, bit_and, bit_xor}

-- Sixteen bytes: in each lane the byte of `row` if that of `rows` has all the bits, and 0 otherwise.
pub record IsPicked (rows bits row picked : List ℕ) : Type 0 where
  pub len : length picked ≡ 16
  pub lanes : (i : ℕ) → i < 16 → slice_index picked i ≡ cond
      (bit_and (slice_index rows i) (slice_index bits i) == slice_index bits i) (slice_index row i) 0
  pub fits : (i : ℕ) → i < 16 → slice_index picked i < 2 ^ 8

-- a word in which the bits under the mask are exchanged with those s places after them
abbrev pub swapped : ℕ → ℕ → ℕ → ℕ
swapped s mask x =
    let turned = bit_and (bit_xor x (x / 2 ^ s)) mask in
    bit_xor (bit_xor x turned) (turned * 2 ^ s % 2 ^ 64)
