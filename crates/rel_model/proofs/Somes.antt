-- Whether a test passes at some number below n, by a number at which it does.
use Rattle.std.proofs.Common.{◌≡◌, ◌<◌, ◌≤◌, ◌&&◌, ◌||◌, eqb, zero, suc, ℕ, Bool, true, false, refl, sym, ap, ◌∙◌, inl, inr, arith}
use Rattle.std.proofs.lemmas.Bool.{cases_eq, or_cases, or_right, and_parts, and_from, eqb-true, eq-eqb, false≢true}
use Rattle.rel_model.specs.Cells.{some_below}

-- two truth values are one where each holds wherever the other does
pub same_truth : (a b : Bool) → (a ≡ true → b ≡ true) → (b ≡ true → a ≡ true) → a ≡ b
same_truth true b f g = sym (f refl)
same_truth false true f g = g refl
same_truth false false f g = refl

-- a truth value that does not hold
pub not_true : (a : Bool) → (a ≡ true → ⊥) → a ≡ false
not_true true f = absurd (f refl)
not_true false f = refl

-- a number below n at which a test passes
pub record Passes (n : ℕ) (t : ℕ → Bool) : Type 0 where
  pub at : ℕ
  pub within : at < n
  pub passes : t at ≡ true

pub some_from : (n : ℕ) (t : ℕ → Bool) (k : ℕ) → k < n → t k ≡ true → some_below n t ≡ true
some_from zero t k l h = absurd (omega (arith, l))
some_from (suc n) t k l h = elim (cases_eq k n) [
  | inl e ↦ ap (λ b. b || some_below n t) (ap t (sym e) ∙ h)
  | inr e ↦ or_right (t n) (some_below n t) (some_from n t k (omega arith) h)
]

pub some_passes : (n : ℕ) (t : ℕ → Bool) → some_below n t ≡ true → Passes n t
some_passes zero t h = absurd (false≢true h)
some_passes (suc n) t h = elim (or_cases _ _ h) [
  | inl e ↦ record { at = n; within = omega arith; passes = e }
  | inr e ↦ let p = some_passes n t e in let l = p.within in record { at = p.at; within = omega (arith, l); passes = p.passes }
]

pub some_none : (n : ℕ) (t : ℕ → Bool) → ((k : ℕ) → k < n → t k ≡ false) → some_below n t ≡ false
some_none n t f = not_true _ (λ h. let p = some_passes n t h in false≢true (sym (f p.at p.within) ∙ p.passes))

-- tests of which one passes wherever the other does
pub some_weaker : (m n : ℕ) (t u : ℕ → Bool) → ((k : ℕ) → k < m → t k ≡ true → (k < n) × (u k ≡ true)) → some_below m t ≡ true → some_below n u ≡ true
some_weaker m n t u f h = let p = some_passes m t h in let q = f p.at p.within p.passes in some_from n u p.at q.0 q.1

-- a test that passes nowhere from m on
pub some_beyond : (m n : ℕ) (t : ℕ → Bool) → m ≤ n → ((k : ℕ) → t k ≡ true → k < m) → some_below n t ≡ some_below m t
some_beyond m n t l f = same_truth _ _ (some_weaker n m t t (λ k b h. (f k h, h))) (some_weaker m n t t (λ k b h. (omega (arith, l, b), h)))

-- tests that agree below n
pub some_agree : (n : ℕ) (t u : ℕ → Bool) → ((k : ℕ) → k < n → t k ≡ u k) → some_below n t ≡ some_below n u
some_agree n t u f = same_truth _ _ (some_weaker n n t u (λ k b h. (b, sym (f k b) ∙ h))) (some_weaker n n u t (λ k b h. (b, f k b ∙ h)))

-- what passes either test
pub some_either : (n : ℕ) (t u : ℕ → Bool) → some_below n (λ k. t k || u k) ≡ (some_below n t || some_below n u)
some_either n t u = same_truth _ _
    (λ h. let p = some_passes n (λ k. t k || u k) h in elim (or_cases (t p.at) (u p.at) p.passes) [
      | inl e ↦ ap (λ b. b || some_below n u) (some_from n t p.at p.within e)
      | inr e ↦ or_right (some_below n t) _ (some_from n u p.at p.within e)
    ])
    (λ h. elim (or_cases (some_below n t) (some_below n u) h) [
      | inl e ↦ some_weaker n n t (λ k. t k || u k) (λ k b g. (b, ap (λ x. x || u k) g)) e
      | inr e ↦ some_weaker n n u (λ k. t k || u k) (λ k b g. (b, or_right (t k) (u k) g)) e
    ])

-- a test at one number alone
pub some_point : (n : ℕ) (b : Bool) (x : ℕ) (f : ℕ → Bool) → x < n → some_below n (λ k. (b && eqb x k) && f k) ≡ (b && f x)
some_point n b x f l = same_truth _ _
    (λ h. let p = some_passes n (λ k. (b && eqb x k) && f k) h in
    let q = and_parts _ _ p.passes in
    let r = and_parts _ _ q.0 in
    and_from b (f x) r.0 (ap f (eqb-true x p.at r.1) ∙ q.1))
    (λ h. let q = and_parts _ _ h in some_from n _ x l (and_from _ _ (and_from b (eqb x x) q.0 (eq-eqb x x refl)) q.1))
