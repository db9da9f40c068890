-- The way from a word's home over all places: as many steps as there are places meet each one.
use Rattle.std.proofs.Common.{◌≡◌, ◌<◌, ◌≢◌, ◌+◌, ◌-◌, ◌%◌, ℕ, List, length, sym, ap, subst, ◌∙◌, inl, inr, arith, get_or}
use Rattle.std.proofs.Math.Nat.{mod-add-mod, add-mod_right, mod-eq_of_lt}
use Rattle.std.proofs.lemmas.Nat.{mod_below}
use Rattle.std.proofs.lemmas.Bool.{cases_lt}
use Rattle.rel_model.specs.Words.{home_sum, place_at, IsFullOfOthers}
use Rattle.pair_table.specs.Probe.{Passed}

-- the next place is one more step from the home
pub next_mod : (place h n : ℕ) (t : ℕ) → place ≡ (h + t) % n → (place + 1) % n ≡ (h + (t + 1)) % n
next_mod place h n t e = ap (λ (x : ℕ). (x + 1) % n) e ∙ mod-add-mod (h + t) n 1 ∙ ap (λ (x : ℕ). x % n) (let e2 : h + t + 1 ≡ h + (t + 1) = omega arith in e2)

-- a number is met within n steps in a ring of n
pub record IsMet (h n x : ℕ) : Type 0 where
  pub steps : ℕ
  pub few : steps < n
  pub there : (h + steps) % n ≡ x

-- each number below n is met
pub met : (h n x : ℕ) → x < n → IsMet h n x
met h n x l = elim (cases_lt x (h % n)) [
  | inl a ↦ record {
    steps = x + n - h % n;
    few = omega arith;
    there = sym (mod-add-mod h n (x + n - h % n)) ∙ ap (λ (y : ℕ). y % n) (let e : h % n + (x + n - h % n) ≡ x + n = (let b = mod_below h n (omega arith) in omega arith) in e) ∙ add-mod_right x n ∙ mod-eq_of_lt l;
  }
  | inr a ↦ record {
    steps = x - h % n;
    few = omega arith;
    there = sym (mod-add-mod h n (x - h % n)) ∙ ap (λ (y : ℕ). y % n) (let e : h % n + (x - h % n) ≡ x = omega arith in e) ∙ mod-eq_of_lt l;
  }
]

-- whoever passed as many places as there are passed all
pub all_passed : (words : List ℕ) (word : ℕ) → Passed words word (length words - 2) → IsFullOfOthers words word
all_passed words word p n a b =
    let m = met (home_sum word) (length words - 2) (n - 2) (omega arith) in
    let e : place_at (length words) word m.steps ≡ n = omega (arith, m.there) in
    subst (λ (x : ℕ). (get_or words x 0 ≢ 0) × (get_or words x 0 ≢ word)) e (p m.steps m.few)
