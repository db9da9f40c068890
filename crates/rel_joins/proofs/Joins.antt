-- Two lists joined, pair by pair of the first.
-- 1. The pairs that a pair of the first list leads to are those of a row of the second (`mapped_among`).
-- 2. So joined pairs and those that the rest of the list leads to stay the same together (`joining_more`).
use Rattle.std.proofs.Common.{◌≡◌, ◌<◌, ◌≤◌, ◌+◌, ◌∙◌, ◌++◌, ◌&&◌, ◌||◌, eqb, ℕ, Bool, true, false, List, [], ◌∷◌, refl, sym, ap, subst, inl, inr, arith, map, length}
use Rattle.std.specs.List.{list_any, AllByRecursion}
use Rattle.std.proofs.lemmas.Bool.{false≢true, and_parts, and_from, or_cases, or_left, or_right, eqb-true, eq-eqb}
use Rattle.std.proofs.lemmas.List.{length-append, length-map}
use Rattle.std.proofs.lemmas.List.Folds.{list_any-append}
use Rattle.rel_model.specs.Listed.{is_among}
use Rattle.rel_joins.specs.Joins.{joined_limit, leads, AreJoined, Joining}

or_or : (a b c : Bool) → ((a || b) || c) ≡ (a || (b || c))
or_or true b c = refl
or_or false b c = refl

or_none : (a : Bool) → (a || false) ≡ a
or_none true = refl
or_none false = refl

and_or : (a b c : Bool) → ((a && b) || (a && c)) ≡ (a && (b || c))
and_or true b c = refl
and_or false b c = refl

and_none : (a : Bool) → false ≡ (a && false)
and_none true = refl
and_none false = refl

-- the pairs of a row, with another row
pub mapped_among : (x i k : ℕ) (row : List (ℕ × ℕ)) → is_among (map (λ q. (x, q.1)) row) i k ≡ (eqb x i && list_any (λ q. eqb q.1 k) row)
mapped_among x i k [] = and_none (eqb x i)
mapped_among x i k (q ∷ row) = ap (λ b. (eqb x i && eqb q.1 k) || b) (mapped_among x i k row) ∙ and_or (eqb x i) (eqb q.1 k) (list_any (λ q. eqb q.1 k) row)

pub joining_none : (middle : ℕ) (left right joined : List (ℕ × ℕ)) → AllByRecursion (λ p. p.1 < middle) left → joined ≡ [] → Joining middle left right left joined
joining_none middle left right joined ends e =
    subst (λ (ps : List (ℕ × ℕ)). Joining middle left right left ps) (sym e) record { among = λ i k. refl; ends = ends; few = omega arith }

pub next_end : {middle : ℕ} {left right rest joined later : List (ℕ × ℕ)} {p : ℕ × ℕ} → Joining middle left right rest joined → rest ≡ p ∷ later → p.1 < middle
next_end {middle} s e = let ends = subst (AllByRecursion (λ (p : ℕ × ℕ). p.1 < middle)) e s.ends in ends.0

-- What the next pair leads to is added to the joined pairs, and taken from what the rest leads to.
pub joining_more : {middle : ℕ} {left right rest joined later new : List (ℕ × ℕ)} (p : ℕ × ℕ) (row : List (ℕ × ℕ)) → Joining middle left right rest joined → rest ≡ p ∷ later
    → ((k : ℕ) → list_any (λ q. eqb q.1 k) row ≡ is_among right p.1 k) → new ≡ joined ++ map (λ q. (p.0, q.1)) row → length joined + length row ≤ joined_limit → Joining middle left right later new
joining_more {middle} {left} {right} {rest} {joined} {later} {new} p row s e found n l = record {
  among = λ i k.
      ap (λ (ps : List (ℕ × ℕ)). is_among ps i k || leads later right i k) n
      ∙ ap (λ b. b || leads later right i k) (list_any-append (λ q. eqb q.0 i && eqb q.1 k) joined (map (λ q. (p.0, q.1)) row)
      ∙ ap (λ b. is_among joined i k || b) (mapped_among p.0 i k row ∙ ap (λ b. eqb p.0 i && b) (found k)))
      ∙ or_or (is_among joined i k) (eqb p.0 i && is_among right p.1 k) (leads later right i k)
      ∙ ap (λ (ps : List (ℕ × ℕ)). is_among joined i k || leads ps right i k) (sym e)
      ∙ s.among i k;
  ends = let ends = subst (AllByRecursion (λ (p : ℕ × ℕ). p.1 < middle)) e s.ends in ends.1;
  few = let a = ap length n ∙ length-append joined (map (λ q. (p.0, q.1)) row) in let b = length-map {B = ℕ × ℕ} row (λ q. (p.0, q.1)) in omega (arith, a, b, l);
}

pub joining_all : {middle : ℕ} {left right rest joined : List (ℕ × ℕ)} → rest ≡ [] → Joining middle left right rest joined → AreJoined left right joined
joining_all {right = right} {joined = joined} e s i k =
    sym (ap (λ (ps : List (ℕ × ℕ)). is_among joined i k || leads ps right i k) e ∙ or_none (is_among joined i k)) ∙ s.among i k

-- ---- the middle of a join
pub record Led (left right : List (ℕ × ℕ)) (i k : ℕ) : Type 0 where
  pub at : ℕ
  pub first : is_among left i at ≡ true
  pub second : is_among right at k ≡ true

pub led : (left right : List (ℕ × ℕ)) (i k : ℕ) → leads left right i k ≡ true → Led left right i k
led [] right i k h = absurd (false≢true h)
led (p ∷ left) right i k h =
    elim (or_cases (eqb p.0 i && is_among right p.1 k) (leads left right i k) h) [
      | inl a ↦ let b = and_parts _ _ a in record { at = p.1; first = or_left (eqb p.0 i && eqb p.1 p.1) (is_among left i p.1) (and_from _ _ b.0 (eq-eqb p.1 p.1 refl)); second = b.1 }
      | inr a ↦ let r = led left right i k a in record { at = r.at; first = or_right (eqb p.0 i && eqb p.1 r.at) (is_among left i r.at) r.first; second = r.second }
    ]

pub leads_from : (left right : List (ℕ × ℕ)) (i j k : ℕ) → is_among left i j ≡ true → is_among right j k ≡ true → leads left right i k ≡ true
leads_from [] right i j k h g = absurd (false≢true h)
leads_from (p ∷ left) right i j k h g =
    elim (or_cases (eqb p.0 i && eqb p.1 j) (is_among left i j) h) [
      | inl a ↦ let b = and_parts _ _ a in or_left (eqb p.0 i && is_among right p.1 k) (leads left right i k) (and_from _ _ b.0 (subst (λ n. is_among right n k ≡ true) (sym (eqb-true p.1 j b.1)) g))
      | inr a ↦ or_right (eqb p.0 i && is_among right p.1 k) (leads left right i k) (leads_from left right i j k a g)
    ]

-- equal lists are joined alike
pub joined_same : {a b c x y z : List (ℕ × ℕ)} → a ≡ x → b ≡ y → z ≡ c → AreJoined a b c → AreJoined x y z
joined_same {a} {b} {c} {x} {y} {z} e f g h i k =
    ap (λ (ps : List (ℕ × ℕ)). is_among ps i k) g ∙ h i k ∙ ap (λ (ps : List (ℕ × ℕ)). leads ps b i k) e ∙ ap (λ (ps : List (ℕ × ℕ)). leads x ps i k) f
