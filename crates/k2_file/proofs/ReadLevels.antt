-- The levels of a tree's bits, and how many bits they are at most.
-- 1. So many levels are passed: those that are left fit exactly where all do. One level more is one step of the definition.
-- 2. A group has four groups below at most, so bits that fit are at most a sum of powers of 4 for each group of the first level.
-- 3. A file has at most 24 levels and one group at first, so it has fewer than 2 ^ 50 bits.
use Rattle.std.proofs.Common.{◌≡◌, ◌==◌, ◌&&◌, ◌+◌, ◌-◌, ◌*◌, ◌/◌, ◌^◌, ◌<◌, ◌≤◌, ℕ, zero, suc, Bool, true, false, cond, leb, Option, None, Some, List, [], ◌∷◌, ◌++◌, length, take, drop, refl, sym, ap, ◌∙◌, arith}
use Rattle.std.proofs.lemmas.List.{length-drop, length-take, drop-drop, drop_all, drop_more}
use Rattle.std.proofs.lemmas.Bool.{and_parts, leb-true, le-leb, lt-leb, eqb-true, false≢true}
use Rattle.std.proofs.Math.Nat.{mul-le-mul_right, pow-le-pow_right}
use Rattle.run_model.specs.Files.{ones, no_bits, levels_fit, zero_group, unless, found_at, first_of_all}
use Rattle.run_model.specs.declared.outcome.BadFile.{BadFile}
use Rattle.run_model.specs.declared.outcome.BadFile.TheVariants.{Lengths, ZeroGroup}
use Rattle.k2_file.specs.Told.{groups_of, fault_of_levels}

-- so many levels are passed: those that are left fit exactly where all do
pub record IsLevel (levels first : ℕ) (xs : List Bool) (cell_count done groups from : ℕ) : Type 0 where
  pub same : levels_fit levels first xs cell_count ≡ levels_fit (levels - done) groups (drop from xs) cell_count
  pub within : from ≤ length xs

pub level-none : (levels first : ℕ) (xs : List Bool) (cell_count : ℕ) → IsLevel levels first xs cell_count 0 first 0
level-none levels first xs cell_count =
    let all : levels - 0 ≡ levels = omega arith in
    record { same = ap (λ (k : ℕ). levels_fit k first xs cell_count) (sym all); within = omega arith }

-- the next level
level-step : (levels first : ℕ) (xs : List Bool) (cell_count done groups from : ℕ) → IsLevel levels first xs cell_count done groups from → done < levels
    → levels_fit levels first xs cell_count
    ≡ (leb (4 * groups) (length xs - from) && levels_fit (levels - (done + 1)) (ones (take (4 * groups) (drop from xs))) (drop (from + 4 * groups) xs) cell_count)
level-step levels first xs cell_count done groups from w l =
    let one : levels - done ≡ suc (levels - (done + 1)) = omega arith in
    w.same ∙ ap (λ (k : ℕ). levels_fit k groups (drop from xs) cell_count) one
    ∙ ap (λ (n : ℕ). leb (4 * groups) n && levels_fit (levels - (done + 1)) (ones (take (4 * groups) (drop from xs))) (drop (4 * groups) (drop from xs)) cell_count) (length-drop from xs)
    ∙ ap (λ ys. leb (4 * groups) (length xs - from) && levels_fit (levels - (done + 1)) (ones (take (4 * groups) (drop from xs))) ys cell_count) (drop-drop (4 * groups) from xs)

pub level-more : (levels first : ℕ) (xs : List Bool) (cell_count done groups from : ℕ) → IsLevel levels first xs cell_count done groups from → done < levels
    → groups ≤ (length xs - from) / 4 → IsLevel levels first xs cell_count (done + 1) (ones (take (4 * groups) (drop from xs))) (from + 4 * groups)
level-more levels first xs cell_count done groups from w l fit =
    let few : 4 * groups ≤ length xs - from = omega arith in
    record {
      same = level-step levels first xs cell_count done groups from w l
          ∙ ap (λ b. b && levels_fit (levels - (done + 1)) (ones (take (4 * groups) (drop from xs))) (drop (from + 4 * groups) xs) cell_count) (le-leb (4 * groups) (length xs - from) few);
      within = omega (arith, few, w.within);
    }

pub level-short : (levels first : ℕ) (xs : List Bool) (cell_count done groups from : ℕ) → IsLevel levels first xs cell_count done groups from → done < levels
    → (length xs - from) / 4 < groups → levels_fit levels first xs cell_count ≡ false
level-short levels first xs cell_count done groups from w l over =
    let many : length xs - from < 4 * groups = omega arith in
    level-step levels first xs cell_count done groups from w l
    ∙ ap (λ b. b && levels_fit (levels - (done + 1)) (ones (take (4 * groups) (drop from xs))) (drop (from + 4 * groups) xs) cell_count) (lt-leb (4 * groups) (length xs - from) many)

level-last : (levels first : ℕ) (xs : List Bool) (cell_count done groups from : ℕ) → IsLevel levels first xs cell_count done groups from → levels ≤ done
    → levels_fit levels first xs cell_count ≡ (no_bits (drop from xs) && (cell_count == 4 * groups))
level-last levels first xs cell_count done groups from w l =
    let none : levels - done ≡ 0 = omega arith in
    w.same ∙ ap (λ (k : ℕ). levels_fit k groups (drop from xs) cell_count) none

-- below the last level no bit may be left
pub level-all : (levels first : ℕ) (xs : List Bool) (cell_count done groups from : ℕ) → IsLevel levels first xs cell_count done groups from → levels ≤ done
    → from ≡ length xs → levels_fit levels first xs cell_count ≡ (cell_count == 4 * groups)
level-all levels first xs cell_count done groups from w l e =
    level-last levels first xs cell_count done groups from w l
    ∙ ap (λ ys. no_bits ys && (cell_count == 4 * groups)) (drop_all from xs (omega arith))

pub level-left : (levels first : ℕ) (xs : List Bool) (cell_count done groups from : ℕ) → IsLevel levels first xs cell_count done groups from → levels ≤ done
    → (from ≡ length xs → ⊥) → levels_fit levels first xs cell_count ≡ false
level-left levels first xs cell_count done groups from w l n =
    level-last levels first xs cell_count done groups from w l
    ∙ ap (λ ys. no_bits ys && (cell_count == 4 * groups)) (drop_more xs from false (omega (arith, w.within)))

-- ---- how many bits there are
pub ones-le : (bits : List Bool) → ones bits ≤ length bits
ones-le [] = omega arith
ones-le (true ∷ bits) = let h = ones-le bits in omega (arith, h)
ones-le (false ∷ bits) = let h = ones-le bits in omega (arith, h)

-- how many bits levels have at most below one group, with the cells
abbrev pub most : ℕ → ℕ
most zero = 4
most (suc k) = 4 + 4 * most k

-- bits that fit are at most so many for each group
pub fit-most : (k g : ℕ) (bits : List Bool) (cell_count : ℕ) → levels_fit k g bits cell_count ≡ true → length bits + cell_count ≤ g * most k
fit-most zero g [] cell_count h = let e = eqb-true cell_count (4 * g) h in omega (arith, e)
fit-most zero g (b ∷ bits) cell_count h = absurd (false≢true h)
fit-most (suc k) g bits cell_count h =
    let n = 4 * g in
    let t = and_parts (leb n (length bits)) (levels_fit k (ones (take n bits)) (drop n bits) cell_count) h in
    let room = leb-true n (length bits) t.0 in
    let next = ones (take n bits) in
    let few : next ≤ n = omega (arith, ones-le (take n bits), length-take n bits) in
    let rest = fit-most k next (drop n bits) cell_count t.1 in
    let more : next * most k ≤ n * most k = mul-le-mul_right (most k) few in
    let left = length-drop n bits in
    let same : n * most k ≡ g * (4 * most k) = grind arith in
    let total : g * (4 + 4 * most k) ≡ n + g * (4 * most k) = grind arith in
    omega (arith, room, rest, more, left, same, total)

most-lt : (k : ℕ) → most k + 2 ≤ 2 ^ (2 * k + 3)
most-lt zero = omega arith
most-lt (suc k) =
    let h = most-lt k in
    let e : 2 * suc k + 3 ≡ suc (suc (2 * k + 3)) = omega arith in
    let p : 2 ^ (2 * suc k + 3) ≡ 4 * 2 ^ (2 * k + 3) = ap (λ (n : ℕ). 2 ^ n) e ∙ grind arith in
    omega (arith, h, p)

-- so a tree of a file's height has few bits
pub fit-few : (k g : ℕ) (bits : List Bool) (cell_count : ℕ) → levels_fit k g bits cell_count ≡ true → k < 24 → g ≤ 1 → length bits + cell_count < 2 ^ 50
fit-few k g bits cell_count h l one =
    let a = fit-most k g bits cell_count h in
    let b : g * most k ≤ 1 * most k = mul-le-mul_right (most k) one in
    let c = most-lt k in
    let d : 2 ^ (2 * k + 3) ≤ 2 ^ 49 = pow-le-pow_right {n = 2} (omega arith) {i = 2 * k + 3} {j = 49} (omega arith) in
    omega (arith, a, b, c, d)

-- one group at most
pub groups-few : (tree_count cell_count : ℕ) → groups_of tree_count cell_count ≤ 1
groups-few tree_count cell_count = one ((tree_count == 0) && (cell_count == 0))
  where
    one : (b : Bool) → cond b 0 1 ≤ 1
    one true = omega arith
    one false = omega arith

levels-pass : (b : Bool) (o : Option BadFile) → first_of_all (unless b Lengths ∷ o ∷ []) ≡ None → b ≡ true
levels-pass true o h = refl
levels-pass false o h = cc

-- where the tests of the levels pass, the levels fit
pub levels-good : (height groups : ℕ) (tree cells : List Bool) (cell_count : ℕ) → fault_of_levels height groups tree cells cell_count ≡ None
    → levels_fit (height - 1) groups tree cell_count ≡ true
levels-good height groups tree cells cell_count h =
    levels-pass (levels_fit (height - 1) groups tree cell_count) (found_at ZeroGroup (zero_group 0 (tree ++ cells))) h

levels-found : (b : Bool) (found : Option ℕ) → first_of_all (unless b Lengths ∷ found_at ZeroGroup found ∷ []) ≡ None → found ≡ None
levels-found true None h = refl
levels-found true (Some at) h = cc
levels-found false found h = cc

-- and no group is without a set bit
pub levels-whole : (height groups : ℕ) (tree cells : List Bool) (cell_count : ℕ) → fault_of_levels height groups tree cells cell_count ≡ None
    → zero_group 0 (tree ++ cells) ≡ None
levels-whole height groups tree cells cell_count h =
    levels-found (levels_fit (height - 1) groups tree cell_count) (zero_group 0 (tree ++ cells)) h
