-- The tests of a quadrant by its numbers.
-- 1. The first number other than 0 tells the height (`first_height`).
-- 2. The tests are four truth values in a row (`unsound-…`, `sound`).
-- 3. With the look for equal quadrants they are those of the format (`bad_told`, `good_told`).
use Rattle.std.proofs.Common.{◌≡◌, ◌==◌, ◌||◌, ◌+◌, eqb, leb, ltb, suc, ℕ, Bool, true, false, not, cond, List, [], ◌∷◌, length, Option, Some, None, refl, sym, ap, ◌∙◌, arith}
use Rattle.std.specs.List.{list_any}
use Rattle.std.proofs.lemmas.Bool.{false≢true, eqb-true}
use Rattle.rel_model.specs.Relation.{size_height}
use Rattle.run_model.specs.SharedFiles.{Quadrant, numbers_of, parts_of, no_parts, height_at, height_over_parts, height_of_quadrant, same_quadrant, is_bad}
use Rattle.k2_parts.specs.Tests.{first_part, is_unsound, sound_height}

-- ---- the height
pick : (heights : List ℕ) (a b c d : ℕ) (x y z w : Bool) → (w ≡ true → d ≡ 0) →
    height_at heights (cond x (cond y (cond z d c) b) a) + 1
    ≡ height_over_parts heights (cond (not x) (a ∷ cond (not y) (b ∷ cond (not z) (c ∷ cond (not w) (d ∷ []) []) (cond (not w) (d ∷ []) [])) (cond (not z) (c ∷ cond (not w) (d ∷ []) []) (cond (not w) (d ∷ []) [])))
    (cond (not y) (b ∷ cond (not z) (c ∷ cond (not w) (d ∷ []) []) (cond (not w) (d ∷ []) [])) (cond (not z) (c ∷ cond (not w) (d ∷ []) []) (cond (not w) (d ∷ []) []))))
pick hs a b c d false y z w h = refl
pick hs a b c d true false z w h = refl
pick hs a b c d true true false w h = refl
pick hs a b c d true true true false h = refl
pick hs a b c d true true true true h = ap (λ n. height_at hs n + 1) (h refl)

-- the first number other than 0 tells it
pub first_height : (heights : List ℕ) (q : Quadrant) → height_at heights (first_part q) + 1 ≡ height_of_quadrant heights q
first_height hs q = pick hs q.nw q.ne q.sw q.se (eqb q.nw 0) (eqb q.ne 0) (eqb q.sw 0) (eqb q.se 0) (eqb-true q.se 0)

-- ---- four tests
abbrev four : Bool → Bool → Bool → Bool → ℕ → Option ℕ
four a b c d n = cond (a || (b || (c || d))) None (Some n)

four-1 : (a b c d : Bool) (n : ℕ) → a ≡ true → four a b c d n ≡ None
four-1 a b c d n x = ap (λ t. four t b c d n) x

four-2 : (a b c d : Bool) (n : ℕ) → a ≡ false → b ≡ true → four a b c d n ≡ None
four-2 a b c d n x y = ap (λ t. four t b c d n) x ∙ ap (λ t. four false t c d n) y

four-3 : (a b c d : Bool) (n : ℕ) → a ≡ false → b ≡ false → c ≡ true → four a b c d n ≡ None
four-3 a b c d n x y z = ap (λ t. four t b c d n) x ∙ (ap (λ t. four false t c d n) y ∙ ap (λ t. four false false t d n) z)

-- where none of the first three tests holds, the last one tells
four-4 : (a b c d e : Bool) (n : ℕ) → a ≡ false → b ≡ false → c ≡ false → d ≡ e → four a b c d n ≡ cond e None (Some n)
four-4 a b c d e n x y z w = ap (λ t. four t b c d n) x ∙ (ap (λ t. four false t c d n) y ∙ (ap (λ t. four false false t d n) z ∙ ap (λ t. four false false false t n) w))

-- whether a number other than 0 has another height
abbrev others : List ℕ → Quadrant → ℕ → Bool
others hs q h = list_any (λ m. not (height_at hs m + 1 == h)) (parts_of q)

abbrev over : List ℕ → Quadrant → Bool
over hs q = list_any (λ m. leb (length hs + 2) m) (numbers_of q)

abbrev high : List ℕ → Quadrant → Bool
high hs q = ltb size_height (height_of_quadrant hs q)

abbrev other : List ℕ → Quadrant → Bool
other hs q = others hs q (height_of_quadrant hs q)

module _ (hs : List ℕ) (q : Quadrant) where
  -- a quadrant with no number other than 0 is unsound by the first test
  pub unsound-empty : no_parts (parts_of q) ≡ true → sound_height hs q ≡ None
  unfolding sound_height
  unsound-empty x = four-1 (no_parts (parts_of q)) (over hs q) (other hs q) (high hs q) (height_of_quadrant hs q) x

  module _ (x : no_parts (parts_of q) ≡ false) where
    pub unsound-over : list_any (λ m. leb (length hs + 2) m) (numbers_of q) ≡ true → sound_height hs q ≡ None
    unfolding sound_height
    unsound-over y = four-2 (no_parts (parts_of q)) (over hs q) (other hs q) (high hs q) (height_of_quadrant hs q) x y

    module _ (y : list_any (λ m. leb (length hs + 2) m) (numbers_of q) ≡ false) where
      pub unsound-other : (h : ℕ) → h ≡ height_of_quadrant hs q → others hs q h ≡ true → sound_height hs q ≡ None
      unfolding sound_height
      unsound-other h e z = four-3 (no_parts (parts_of q)) (over hs q) (other hs q) (high hs q) (height_of_quadrant hs q) x y (ap (others hs q) (sym e) ∙ z)

      pub unsound-high : (h : ℕ) → h ≡ height_of_quadrant hs q → others hs q h ≡ false → ltb size_height (height_of_quadrant hs q) ≡ true → sound_height hs q ≡ None
      unfolding sound_height
      unsound-high h e z w = four-4 (no_parts (parts_of q)) (over hs q) (other hs q) (high hs q) true (height_of_quadrant hs q) x y (ap (others hs q) (sym e) ∙ z) w

      pub sound : (h : ℕ) → h ≡ height_of_quadrant hs q → others hs q h ≡ false → ltb size_height (height_of_quadrant hs q) ≡ false → sound_height hs q ≡ Some h
      unfolding sound_height
      sound h e z w = four-4 (no_parts (parts_of q)) (over hs q) (other hs q) (high hs q) false (height_of_quadrant hs q) x y (ap (others hs q) (sym e) ∙ z) w ∙ ap Some (sym e)

-- ---- with the look for equal quadrants
bad_four : (a b c d e : Bool) → (a || (b || (c || d))) ≡ true → (a || (b || (c || (d || e)))) ≡ true
bad_four true b c d e h = refl
bad_four false true c d e h = refl
bad_four false false true d e h = refl
bad_four false false false true e h = refl
bad_four false false false false e h = absurd (false≢true h)

good_four : (a b c d e : Bool) → (a || (b || (c || d))) ≡ false → (a || (b || (c || (d || e)))) ≡ e
good_four true b c d e h = absurd (false≢true (sym h))
good_four false true c d e h = absurd (false≢true (sym h))
good_four false false true d e h = absurd (false≢true (sym h))
good_four false false false true e h = absurd (false≢true (sym h))
good_four false false false false e h = refl

abbrev height_count : Option ℕ → ℕ
height_count None = 0
height_count (Some n) = suc n

told_none : (b : Bool) (n : ℕ) → cond b None (Some n) ≡ None → b ≡ true
told_none true n h = refl
told_none false n h = let e : suc n ≡ 0 = ap height_count h in absurd (omega (arith, e))

told_some : (b : Bool) (n h : ℕ) → cond b None (Some n) ≡ Some h → (b ≡ false) × (h ≡ n)
told_some true n h e = let f : 0 ≡ suc h = ap height_count e in absurd (omega (arith, f))
told_some false n h e = (refl, (let f : suc n ≡ suc h = ap height_count e in omega (arith, f)))

-- no height is told of a quadrant that is none by its numbers
pub bad_told : (hs : List ℕ) (earlier : List Quadrant) (q : Quadrant) → sound_height hs q ≡ None → is_bad (length hs + 2) earlier hs q ≡ true
unfolding sound_height
bad_told hs earlier q h = bad_four (no_parts (parts_of q)) (over hs q) (other hs q) (high hs q) (list_any (same_quadrant q) earlier) (told_none (is_unsound hs q) (height_of_quadrant hs q) h)

-- else its height is told, and it is none only if an earlier one has its numbers
pub good_told : (hs : List ℕ) (earlier : List Quadrant) (q : Quadrant) (h : ℕ) → sound_height hs q ≡ Some h →
    (is_bad (length hs + 2) earlier hs q ≡ list_any (same_quadrant q) earlier) × (h ≡ height_of_quadrant hs q)
unfolding sound_height
good_told hs earlier q h e =
    let p = told_some (is_unsound hs q) (height_of_quadrant hs q) h e in (good_four (no_parts (parts_of q)) (over hs q) (other hs q) (high hs q) (list_any (same_quadrant q) earlier) p.0, p.1)
