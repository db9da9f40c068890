-- What is known of listed quadrants none of which is bad.
-- 1. Square after square, its quarters have lower numbers, and its height is within the limit (`read_on`).
-- 2. Each is a number at its height, and its quarters are numbers of one height, 1 less (`sound_at`).
-- 3. So is each root, and each number has its own height (`number_height`, `number_below`).
use Rattle.std.proofs.Common.{◌≡◌, ◌≢◌, ◌<◌, ◌≤◌, ◌+◌, not, leb, ltb, cond, eqb, zero, suc, ℕ, Bool, true, false, List, [], ◌∷◌, ◌++◌, length, Option, Some, None, option_map, sym, ap, subst, ◌∙◌, inl, inr, arith, length-append}
use Rattle.std.specs.Prelude.{slice_get}
use Rattle.std.specs.List.{list_any}
use Rattle.std.proofs.lemmas.Bool.{cases_Bool, leb-false, ltb-false, or_parts}
use Rattle.std.proofs.lemmas.List.{length-map}
use Rattle.std.proofs.lemmas.Option.{slice_get_within, slice_get-map}
use Rattle.rel_model.specs.Relation.{size_height}
use Rattle.run_model.specs.SharedFiles.{Quadrant, numbers_of, parts_of, no_parts, height_at, height_of_quadrant, heights_behind, is_bad, first_bad, is_root}
use Rattle.run_model.proofs.SharedCells.{IsNumber}
use Rattle.run_model.proofs.SharedTable.{get_front, get_next, one_of_two, height_is, IsTable, table, table_height}
use Rattle.run_model.proofs.SharedBack.{root_number}
use Rattle.k2_parts.specs.declared.form.Quadrant.{Quadrant as LISTED}
use Rattle.k2_parts.specs.Told.{quadrant_told, quadrants_told, AreSound}

-- ---- square after square
-- the quarters of a square have numbers below its own
pub record AreBelow (n : ℕ) (q : Quadrant) : Type 0 where
  pub nw : q.nw < n
  pub ne : q.ne < n
  pub sw : q.sw < n
  pub se : q.se < n

abbrev get_count : Option Quadrant → ℕ
get_count None = 0
get_count (Some q) = 1

abbrev bad_count : Option ℕ → ℕ
bad_count None = 0
bad_count (Some n) = 1

behind_front : (heights : List ℕ) (qs : List Quadrant) (j h : ℕ) → slice_get heights j ≡ Some h → slice_get (heights_behind heights qs) j ≡ Some h
behind_front heights [] j h at = at
behind_front heights (q ∷ qs) j h at =
    behind_front (heights ++ height_of_quadrant heights q ∷ []) qs j h (get_front heights (height_of_quadrant heights q ∷ []) j h at)

pub behind_count : (heights : List ℕ) (qs : List Quadrant) → length (heights_behind heights qs) ≡ length heights + length qs
behind_count heights [] = omega arith
behind_count heights (q ∷ qs) =
    let more = behind_count (heights ++ height_of_quadrant heights q ∷ []) qs in
    let one = length-append heights (height_of_quadrant heights q ∷ []) in
    omega (arith, more, one)

all_four : (p : ℕ → Bool) (a b c d : ℕ) → list_any p (a ∷ b ∷ c ∷ d ∷ []) ≡ false → (p a ≡ false) × (p b ≡ false) × (p c ≡ false) × (p d ≡ false)
all_four p a b c d h =
    let x = or_parts (p a) (list_any p (b ∷ c ∷ d ∷ [])) h in
    let y = or_parts (p b) (list_any p (c ∷ d ∷ [])) x.1 in
    let z = or_parts (p c) (list_any p (d ∷ [])) y.1 in
    let w = or_parts (p d) false z.1 in
    (x.0, y.0, z.0, w.0)

-- one square that is not bad
not_bad : (n : ℕ) (earlier : List Quadrant) (heights : List ℕ) (q : Quadrant) → is_bad n earlier heights q ≡ false → AreBelow n q × (height_of_quadrant heights q ≤ size_height)
not_bad n earlier heights q good =
    let o1 = or_parts (no_parts (parts_of q)) _ good in
    let o2 = or_parts (list_any (λ m. leb n m) (numbers_of q)) _ o1.1 in
    let o3 = or_parts (list_any (λ m. not (eqb (height_at heights m + 1) (height_of_quadrant heights q))) (parts_of q)) _ o2.1 in
    let o4 = or_parts (ltb size_height (height_of_quadrant heights q)) _ o3.1 in
    let below = all_four (λ m. leb n m) q.nw q.ne q.sw q.se o2.0 in (
      record { nw = leb-false n q.nw below.0; ne = leb-false n q.ne below.1; sw = leb-false n q.sw below.2; se = leb-false n q.se below.3 },
      ltb-false size_height (height_of_quadrant heights q) o4.0,
    )

-- where no square is bad, each has quarters with lower numbers and a height within the limit, by induction: the first
-- passed the tests, and its height stands where those of the next ones are asked
read_on : (n : ℕ) (earlier qs : List Quadrant) (heights : List ℕ) → first_bad n earlier heights qs ≡ None → (j : ℕ) (q : Quadrant) → slice_get qs j ≡ Some q →
    AreBelow (n + j) q × ((h : ℕ) × (slice_get (heights_behind heights qs) (length heights + j) ≡ Some h) × (h ≤ size_height))
read_on n earlier [] heights none j q at = let e : 0 ≡ 1 = ap get_count at in absurd (omega (arith, e))
read_on n earlier (x ∷ qs) heights none zero q at =
    elim (cases_Bool (is_bad n earlier heights x)) [
      | inl bad ↦ let e : 1 ≡ 0 = ap bad_count (sym (ap (λ b. cond b (Some n) (first_bad (n + 1) (earlier ++ x ∷ []) (heights ++ height_of_quadrant heights x ∷ []) qs)) bad) ∙ none) in absurd (omega (arith, e))
      | inr good ↦
          let top = height_of_quadrant heights x in
          let r = not_bad n earlier heights x good in
          let here : slice_get (heights_behind (heights ++ top ∷ []) qs) (length heights + 0) ≡ Some top =
          behind_front (heights ++ top ∷ []) qs (length heights + 0) top (ap (slice_get (heights ++ top ∷ [])) (plus_none (length heights)) ∙ get_next heights top []) in
          (subst (AreBelow (n + 0)) (one_of_two x q at) (subst (λ m. AreBelow m x) (sym (plus_none n)) r.0), (top, here, r.1))
    ]
  where
    plus_none : (n : ℕ) → n + 0 ≡ n
    plus_none n = omega arith
read_on n earlier (x ∷ qs) heights none (suc j) q at =
    elim (cases_Bool (is_bad n earlier heights x)) [
      | inl bad ↦ let e : 1 ≡ 0 = ap bad_count (sym (ap (λ b. cond b (Some n) (first_bad (n + 1) (earlier ++ x ∷ []) (heights ++ height_of_quadrant heights x ∷ []) qs)) bad) ∙ none) in absurd (omega (arith, e))
      | inr good ↦
          let heights2 : List ℕ = heights ++ height_of_quadrant heights x ∷ [] in
          let rest = sym (ap (λ b. cond b (Some n) (first_bad (n + 1) (earlier ++ x ∷ []) heights2 qs)) good) ∙ none in
          let r = read_on (n + 1) (earlier ++ x ∷ []) qs heights2 rest j q at in
          let place : length heights2 + j ≡ length heights + suc j = later (length heights) (length heights2) j (length-append heights (height_of_quadrant heights x ∷ [])) in (
            subst (λ m. AreBelow m q) (moved n j) r.0,
            (r.1.0, ap (slice_get (heights_behind heights2 qs)) (sym place) ∙ r.1.1, r.1.2),
          )
    ]
  where
    moved : (n j : ℕ) → (n + 1) + j ≡ n + suc j
    moved n j = omega arith

    later : (l m j : ℕ) → m ≡ l + 1 → m + j ≡ l + suc j
    later l m j e = omega (arith, e)

-- ---- sound quadrants
-- the listed square of a place: its quarters have lower numbers, and are numbers of one height, 1 less than its own
pub record IsSoundAt (quads : List Quadrant) (heights : List ℕ) (k : ℕ) (q : Quadrant) : Type 0 where
  pub below : ℕ
  pub height : slice_get heights k ≡ Some (suc below)
  pub high : height_at heights (k + 2) ≡ suc below
  pub low : suc below ≤ size_height
  pub some : no_parts (parts_of q) ≡ false
  pub less : AreBelow (k + 2) q
  pub nw : IsNumber quads below q.nw
  pub ne : IsNumber quads below q.ne
  pub sw : IsNumber quads below q.sw
  pub se : IsNumber quads below q.se
  pub self : IsNumber quads (suc below) (k + 2)

abbrev sound_by : (quads : List Quadrant) (k : ℕ) (q : Quadrant) → slice_get quads k ≡ Some q → (b : ℕ) → IsNumber quads (suc b) (k + 2) → Type 0
sound_by quads k q at b is = (no_parts (parts_of q) ≡ false) × IsNumber quads b q.nw × IsNumber quads b q.ne × IsNumber quads b q.sw × IsNumber quads b q.se

taken_apart : (quads : List Quadrant) (k : ℕ) (q : Quadrant) (at : slice_get quads k ≡ Some q) (b : ℕ) (is : IsNumber quads (suc b) (k + 2)) → sound_by quads k q at b is
taken_apart quads k q at b (inl e) = absurd (omega (arith, e))
taken_apart quads k q at b (inr (j, p, is, there, some, nw, ne, sw, se)) =
    let here : j ≡ k = omega (arith, is) in
    let same : p ≡ q = one_of_two p q (sym there ∙ (ap (slice_get quads) here ∙ at)) in (
      subst (λ z. no_parts (parts_of z) ≡ false) same some,
      subst (λ z. IsNumber quads b z.nw) same nw,
      subst (λ z. IsNumber quads b z.ne) same ne,
      subst (λ z. IsNumber quads b z.sw) same sw,
      subst (λ z. IsNumber quads b z.se) same se,
    )

same_get : (h k : ℕ) → Some h ≡ Some k → h ≡ k
same_get h k e = one_of_two h k e

-- of numbers, without a bad one
pub told_at : (quads : List Quadrant) → first_bad 2 [] [] quads ≡ None → (k : ℕ) (q : Quadrant) → slice_get quads k ≡ Some q → IsSoundAt quads (heights_behind [] quads) k q
told_at quads none k q at =
    let t = table quads none in
    let s = t.stand k (slice_get_within quads k q at) in
    let r = read_on 2 [] quads [] none k q at in
    let p = taken_apart quads k q at s.0 s.2 in
    let place : 0 + k ≡ k = omega arith in
    let number : 2 + k ≡ k + 2 = omega arith in
    let same : suc s.0 ≡ r.1.0 = same_get (suc s.0) r.1.0 (sym s.1 ∙ (ap (slice_get (heights_behind [] quads)) (sym place) ∙ r.1.1)) in
    record {
      below = s.0;
      height = s.1;
      high = height_is quads (heights_behind [] quads) k (suc s.0) s.1;
      low = subst (λ h. h ≤ size_height) (sym same) r.1.2;
      some = p.0;
      less = subst (λ n. AreBelow n q) number r.0;
      nw = p.1;
      ne = p.2;
      sw = p.3;
      se = p.4;
      self = s.2;
    }

module _ (quads : List LISTED) (heights : List ℕ) (s : AreSound quads heights) where
  -- the heights are those of a table of run_model
  pub sound_table : IsTable (quadrants_told quads) heights
  sound_table = subst (IsTable (quadrants_told quads)) (sym s.heights_are) (table (quadrants_told quads) s.none_bad)

  -- as many heights as quadrants
  pub sound_count : length heights ≡ length quads
  sound_count =
      ap length s.heights_are ∙ (behind_count [] (quadrants_told quads) ∙ (plus (length (quadrants_told quads)) ∙ length-map quads quadrant_told))
    where
      plus : (n : ℕ) → 0 + n ≡ n
      plus n = omega arith

  -- what is known of the quadrant of a place
  pub sound_at : (k : ℕ) (q : LISTED) → slice_get quads k ≡ Some q → IsSoundAt (quadrants_told quads) heights k (quadrant_told q)
  sound_at k q at =
      subst (λ hs. IsSoundAt (quadrants_told quads) hs k (quadrant_told q)) (sym s.heights_are)
      (told_at (quadrants_told quads) s.none_bad k (quadrant_told q) (slice_get-map quadrant_told quads k ∙ ap (option_map quadrant_told) at))

  -- a root of a height is a number of that height
  pub sound_root : (h n : ℕ) → is_root (quadrants_told quads) heights h n ≡ true → IsNumber (quadrants_told quads) h n
  sound_root h n is = root_number (quadrants_told quads) heights sound_table h n is

-- a number is 0, or has its height
pub number_height : (quads : List Quadrant) (heights : List ℕ) → IsTable quads heights → (h n : ℕ) → IsNumber quads h n → n ≢ 0 → height_at heights n ≡ h
number_height quads heights t zero n (inl e) other = absurd (other e)
number_height quads heights t zero n (inr e) other = ap (height_at heights) e
number_height quads heights t (suc h) n is other = table_height quads heights t h n is other

-- numbers are 0, 1 or listed
pub number_below : (quads : List Quadrant) (h n : ℕ) → IsNumber quads h n → n < length quads + 2
number_below quads zero n (inl e) = omega (arith, e)
number_below quads zero n (inr e) = omega (arith, e)
number_below quads (suc h) n (inl e) = omega (arith, e)
number_below quads (suc h) n (inr x) =
    let l = slice_get_within quads x.0 x.1 x.3 in
    let e : n ≡ x.0 + 2 = x.2 in
    omega (arith, l, e)
