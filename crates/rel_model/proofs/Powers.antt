-- The height of a size, counted power by power.
use Rattle.std.proofs.Common.{◌≡◌, ◌<◌, ◌+◌, ◌^◌, ◌∙◌, ltb, ℕ, true, false, take, refl, ap, arith, zero-add}
use Rattle.std.specs.List.{range_with_len, count_by}
use Rattle.std.proofs.lemmas.List.FromFn.{get_or-range_with_len, length-range_with_len}
use Rattle.std.proofs.lemmas.List.Sums.{count_by_more_no, count_by_more_yes}
use Rattle.rel_model.specs.Worker.{height_of}

-- how many of the first k powers are below a size
abbrev pub powers_below : ℕ → ℕ → ℕ
powers_below size k = count_by (λ e. ltb (2 ^ e) size) (take k (range_with_len 0 24))

pub powers-yes : (size k : ℕ) → k < 24 → ltb (2 ^ k) size ≡ true → powers_below size (k + 1) ≡ powers_below size k + 1
powers-yes size k l t = count_by_more_yes (λ e. ltb (2 ^ e) size) (range_with_len 0 24) k 0 (omega (arith, length-range_with_len 0 24)) (ap (λ e. ltb (2 ^ e) size) (get_or-range_with_len 0 24 k 0 l ∙ zero-add k) ∙ t)

pub powers-no : (size k : ℕ) → k < 24 → ltb (2 ^ k) size ≡ false → powers_below size (k + 1) ≡ powers_below size k
powers-no size k l t = count_by_more_no (λ e. ltb (2 ^ e) size) (range_with_len 0 24) k 0 (omega (arith, length-range_with_len 0 24)) (ap (λ e. ltb (2 ^ e) size) (get_or-range_with_len 0 24 k 0 l ∙ zero-add k) ∙ t)

pub powers-all : (size : ℕ) → powers_below size 24 ≡ height_of size
unfolding height_of
powers-all size = refl
