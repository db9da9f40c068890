-- The relation of a list of distinct pairs has as many pairs at least as the list.
-- 1. Two tests that never both pass: what passes one of them is counted by both counts together.
-- 2. A pair of the grid is found there once at least.
-- 3. So by induction on the list: its first pair, and the pairs of its rest, in which the first is not.
use Rattle.std.proofs.Common.{◌≡◌, ◌==◌, ◌&&◌, ◌||◌, ◌+◌, ◌≤◌, ℕ, Bool, true, false, cond, List, [], ◌∷◌, length, refl, ap, ◌∙◌, arith}
use Rattle.std.specs.List.{filter, list_any}
use Rattle.std.proofs.lemmas.Bool.{false≢true, and_parts, eqb-true, both_ways}
use Rattle.std.proofs.lemmas.Bool.Decides.{nat_tests}
use Rattle.rel_model.specs.Relation.{grid, relation_of}
use Rattle.rel_model.specs.Listed.{AreWithin, is_among}
use Rattle.rel_model.proofs.Grid.{grid-member}

-- no pair is among those that follow
abbrev pub AreDistinct : List (ℕ × ℕ) → Type 0
AreDistinct [] = Unit {0}
AreDistinct (p ∷ ps) = (is_among ps p.0 p.1 ≡ false) × AreDistinct ps

either-one : (a b : Bool) (x : ℕ × ℕ) (us vs ws : List (ℕ × ℕ)) → (a ≡ true → b ≡ true → ⊥) → length us ≡ length vs + length ws
    → length (cond (a || b) (x ∷ us) us) ≡ length (cond a (x ∷ vs) vs) + length (cond b (x ∷ ws) ws)
either-one true true x us vs ws never h = absurd (never refl refl)
either-one true false x us vs ws never h = omega (arith, h)
either-one false true x us vs ws never h = omega (arith, h)
either-one false false x us vs ws never h = h

either-filter : (f g : ℕ × ℕ → Bool) → ((x : ℕ × ℕ) → f x ≡ true → g x ≡ true → ⊥) → (xs : List (ℕ × ℕ))
    → length (filter (λ x. f x || g x) xs) ≡ length (filter f xs) + length (filter g xs)
either-filter f g never [] = refl
either-filter f g never (x ∷ xs) =
    either-one (f x) (g x) x (filter (λ x. f x || g x) xs) (filter f xs) (filter g xs) (never x) (either-filter f g never xs)

some-one : (b : Bool) (x : ℕ × ℕ) (ys : List (ℕ × ℕ)) (rest : Bool) → (b || rest) ≡ true → (rest ≡ true → 1 ≤ length ys) → 1 ≤ length (cond b (x ∷ ys) ys)
some-one true x ys rest h more = omega arith
some-one false x ys rest h more = more h

some-filter : (f : ℕ × ℕ → Bool) (xs : List (ℕ × ℕ)) → list_any f xs ≡ true → 1 ≤ length (filter f xs)
some-filter f [] h = absurd (false≢true h)
some-filter f (x ∷ xs) h = some-one (f x) x (filter f xs) (list_any f xs) h (some-filter f xs)

-- equal tests find the same
any-agree : (f g : ℕ × ℕ → Bool) → ((x : ℕ × ℕ) → f x ≡ g x) → (xs : List (ℕ × ℕ)) → list_any f xs ≡ list_any g xs
any-agree f g h [] = refl
any-agree f g h (x ∷ xs) = ap (λ b. b || list_any f xs) (h x) ∙ ap (λ b. g x || b) (any-agree f g h xs)

same-number : (a b : ℕ) → (a == b) ≡ (b == a)
same-number a b = grind (arith, nat_tests)

-- the grid has as many of the listed pairs at least as the list is long, by induction: the first is there once at
-- least, and is not one of the others
length-among : (rows cols : ℕ) (ps : List (ℕ × ℕ)) → AreWithin rows cols ps → AreDistinct ps
    → length ps ≤ length (filter (λ q. is_among ps q.0 q.1) (grid rows cols))
length-among rows cols [] w d = omega arith
length-among rows cols (p ∷ ps) w d =
    let own : ℕ × ℕ → Bool = λ q. (p.0 == q.0) && (p.1 == q.1) in
    let others : ℕ × ℕ → Bool = λ q. is_among ps q.0 q.1 in
    let never : (q : ℕ × ℕ) → own q ≡ true → others q ≡ true → ⊥ = λ q a b. apart q a b in
    let sum = either-filter own others never (grid rows cols) in
    let one : 1 ≤ length (filter own (grid rows cols)) =
    some-filter own (grid rows cols)
    (any-agree own (λ q. (q.0 == p.0) && (q.1 == p.1)) (λ q. turned q) (grid rows cols) ∙ grid-member rows cols p.0 p.1 w.0.0 w.0.1) in
    let rest : length ps ≤ length (filter others (grid rows cols)) = length-among rows cols ps w.1 d.1 in
    omega (arith, sum, one, rest)
  where
    apart : (q : ℕ × ℕ) → ((p.0 == q.0) && (p.1 == q.1)) ≡ true → is_among ps q.0 q.1 ≡ true → ⊥
    apart q a b =
        let t = and_parts (p.0 == q.0) (p.1 == q.1) a in
        both_ways (is_among ps p.0 p.1) d.0
        (ap (λ i. is_among ps i p.1) (eqb-true p.0 q.0 t.0) ∙ ap (λ j. is_among ps q.0 j) (eqb-true p.1 q.1 t.1) ∙ b)

    turned : (q : ℕ × ℕ) → ((p.0 == q.0) && (p.1 == q.1)) ≡ ((q.0 == p.0) && (q.1 == p.1))
    turned q = ap (λ b. b && (p.1 == q.1)) (same-number p.0 q.0) ∙ ap (λ b. (q.0 == p.0) && b) (same-number p.1 q.1)

-- the relation of a list has as many pairs at least, where the list repeats none
pub length-relation_of : (rows cols : ℕ) (ps : List (ℕ × ℕ)) → AreWithin rows cols ps → AreDistinct ps
    → length ps ≤ length (relation_of rows cols (is_among ps)).pairs
unfolding relation_of
length-relation_of rows cols ps w d = length-among rows cols ps w d
