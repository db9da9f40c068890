-- Which sizes are thin, and what is not made where none are.
use Rattle.std.proofs.Common.{◌≡◌, ◌≤◌, ◌⊎◌, ◌+◌, ◌-◌, ◌*◌, ◌^◌, ◌&&◌, ◌∙◌, min, max, cond, leb, ℕ, Bool, true, false, refl, ap, arith, inl, inr}
use Rattle.std.proofs.Math.Nat.{pow-le-pow_left}
use Rattle.std.proofs.lemmas.Bool.{cases_lt, and_parts, leb-true}
use Rattle.std.proofs.lemmas.Nat.{pow-add}
use Rattle.rel_model.specs.Relation.{size_limit}
use Rattle.rel_model.specs.Worker.{Worker, height_of, height_of_three}
use Rattle.rel_model.proofs.Heights.{height_of-covers, power_up}
use Rattle.rel_slices.specs.declared.thin.Value.{Value}
use Rattle.rel_slices.specs.declared.thin.Value.TheVariants.{Whole, Lines}
use Rattle.rel_slices.specs.Thin.{most_lines, ValueStands, value_rows, value_cols, HasForm}
use Rattle.rel_slices.specs.ValueRooms.{formed_room}
use Rattle.rel_values.specs.Values.{owed}

-- the shorter side is at most `most_lines`, and the longer one more than 256
pub record AreThin (m n : ℕ) : Type 0 where
  pub few : min m n ≤ most_lines
  pub long : 257 ≤ max m n

-- they are not
abbrev pub ArePlain : ℕ → ℕ → Type 0
ArePlain m n = min m n ≤ most_lines → max m n ≤ 256

-- two sizes are thin or plain, as their shorter side is short enough or not and their longer one is long enough or not
pub cases_thin : (m n : ℕ) → AreThin m n ⊎ ArePlain m n
cases_thin m n = elim (cases_lt most_lines (min m n)) [
  | inl a ↦ inr (λ b. absurd (omega (arith, a, b)))
  | inr a ↦ elim (cases_lt (max m n) 257) [
    | inl b ↦ inr (λ c. omega (arith, b))
    | inr b ↦ inl (record { few = omega (arith, a); long = omega (arith, b) })
  ]
]

-- of three sizes, in pairs
abbrev pub SomeThin : ℕ → ℕ → ℕ → Type 0
SomeThin k m n = AreThin k m ⊎ (AreThin m n ⊎ AreThin k n)

pub record AllPlain (k m n : ℕ) : Type 0 where
  pub first : ArePlain k m
  pub second : ArePlain m n
  pub both : ArePlain k n

pub cases_three : (k m n : ℕ) → SomeThin k m n ⊎ AllPlain k m n
cases_three k m n = elim (cases_thin k m) [
  | inl a ↦ inl (inl a)
  | inr a ↦ elim (cases_thin m n) [
    | inl b ↦ inl (inr (inl b))
    | inr b ↦ elim (cases_thin k n) [
      | inl c ↦ inl (inr (inr c))
      | inr c ↦ inr (record { first = a; second = b; both = c })
    ]
  ]
]

-- ---- none are thin
pub plain_formed : (least m n : ℕ) → ArePlain m n → formed_room least m n ≡ 0
plain_formed least m n p = none (leb m most_lines && leb 257 n) (leb n most_lines && leb 257 m) _ _
    (λ t. let q = and_parts (leb m most_lines) (leb 257 n) t in let a = leb-true m most_lines q.0 in let b = leb-true 257 n q.1 in let c = p (omega (arith, a)) in omega (arith, b, c))
    (λ t. let q = and_parts (leb n most_lines) (leb 257 m) t in let a = leb-true n most_lines q.0 in let b = leb-true 257 m q.1 in let c = p (omega (arith, a)) in omega (arith, b, c))
  where
    none : (a b : Bool) (x y : ℕ) → (a ≡ true → ⊥) → (b ≡ true → ⊥) → cond a x (cond b y 0) ≡ 0
    none true b x y f g = absurd (f refl)
    none false true x y f g = absurd (g refl)
    none false false x y f g = refl

pub plain_owed : (least : ℕ) (w : Worker) (v : Value) → ValueStands w v → HasForm v → ArePlain (value_rows v) (value_cols v) → owed least v ≡ 0
plain_owed least w (Whole r) s f p = refl
plain_owed least w (Lines t) s f p = absurd (by t.turned t.count t.other s.few f p)
  where
    by : (b : Bool) (c o : ℕ) → c ≤ most_lines → 257 ≤ o → ArePlain (cond b o c) (cond b c o) → ⊥
    by true c o few long p = let q = p (omega (arith, few)) in omega (arith, long, q)
    by false c o few long p = let q = p (omega (arith, few)) in omega (arith, long, q)

-- ---- some are
long_high : (m : ℕ) → m ≤ size_limit → 257 ≤ m → 9 ≤ height_of m
long_high m l a = elim (cases_lt (height_of m) 9) [
  | inl b ↦ absurd (let c = height_of-covers m l in let p = power_up (height_of m) 8 (omega (arith, b)) in omega (arith, a, c, p))
  | inr b ↦ b
]

pub thin_high : (m n h : ℕ) → m ≤ size_limit → n ≤ size_limit → AreThin m n → height_of m ≤ h → height_of n ≤ h → 9 ≤ h
thin_high m n h a b t c d = elim (cases_lt m 257) [
  | inl s ↦ (let l = t.long in let p = long_high n b (omega (arith, s, l)) in omega (arith, p, d))
  | inr s ↦ (let p = long_high m a s in omega (arith, p, c))
]

pub some_high : (k m n : ℕ) → k ≤ size_limit → m ≤ size_limit → n ≤ size_limit → SomeThin k m n → 9 ≤ height_of_three k m n
some_high k m n a b c t = elim t [
  | inl u ↦ thin_high k m (height_of_three k m n) a b u (omega arith) (omega arith)
  | inr v ↦ elim v [
    | inl u ↦ thin_high m n (height_of_three k m n) b c u (omega arith) (omega arith)
    | inr u ↦ thin_high k n (height_of_three k m n) a c u (omega arith) (omega arith)
  ]
]

-- three squares of such a height are no more than the cube
pub three_squares : (h : ℕ) → 9 ≤ h → 3 * 4 ^ h ≤ 8 ^ h
three_squares h l =
    let e : h ≡ h - 9 + 9 = omega (arith, l) in
    let a : 4 ^ h ≡ 4 ^ (h - 9) * 4 ^ 9 = ap (λ (x : ℕ). 4 ^ x) e ∙ pow-add 4 (h - 9) 9 in
    let b : 8 ^ h ≡ 8 ^ (h - 9) * 8 ^ 9 = ap (λ (x : ℕ). 8 ^ x) e ∙ pow-add 8 (h - 9) 9 in
    let c = pow-le-pow_left {n = 4} {m = 8} (omega arith) (h - 9) in
    omega (arith, a, b, c)
