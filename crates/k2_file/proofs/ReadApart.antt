-- The cells that are listed are distinct.
-- 1. Two submatrices of a side are apart where no place lies in both. A list is apart where each is apart from all that follow.
-- 2. The quarters of one submatrix are apart, and so are quarters of two that are apart, since a quarter lies in its whole.
-- 3. To choose keeps a list apart. So the cells of each level are apart, down to side 1, where apart is distinct.
use Rattle.std.proofs.Common.{◌≡◌, ◌==◌, ◌&&◌, ◌+◌, ◌^◌, ◌<◌, ◌≤◌, ℕ, zero, suc, Bool, true, false, List, [], ◌∷◌, ◌++◌, length, take, drop, refl, subst, arith}
use Rattle.std.specs.List.{AllByRecursion, flat_map}
use Rattle.std.proofs.lemmas.Bool.{and_parts, eqb-true, false_from_ne_true, or_from}
use Rattle.rel_model.specs.Listed.{is_among}
use Rattle.rel_model.proofs.Grid.{all-weaker, all-append}
use Rattle.run_model.specs.Files.{Corner, whole, quarters, chosen, cells_below}
use Rattle.k2_file.proofs.ReadCounting.{AreDistinct}

-- a place lies in the submatrix of this side
pub record LiesIn (side : ℕ) (p : Corner) (i j : ℕ) : Type 0 where
  pub south : p.0 ≤ i
  pub north : i < p.0 + side
  pub east : p.1 ≤ j
  -- west of where its columns end
  pub west : j < p.1 + side

-- no place lies in both
abbrev pub Apart : ℕ → Corner → Corner → Type 0
Apart side p q = (i j : ℕ) → LiesIn side p i j → LiesIn side q i j → ⊥

-- each place of the first, of this side, lies in the second, of twice the side
abbrev pub Covers : ℕ → Corner → Corner → Type 0
Covers side p q = (i j : ℕ) → LiesIn side q i j → LiesIn (side + side) p i j

-- each is apart from all that follow
abbrev pub AreApart : ℕ → List Corner → Type 0
AreApart side [] = Unit {0}
AreApart side (p ∷ ps) = AllByRecursion (Apart side p) ps × AreApart side ps

-- what holds of the quarters of each holds of the quarters of all
pub all-quarters : (P Q : Corner → Type 0) (side : ℕ) → ((p : Corner) → P p → AllByRecursion Q (quarters side p)) → (ps : List Corner)
    → AllByRecursion P ps → AllByRecursion Q (flat_map (quarters side) ps)
all-quarters P Q side f [] h = tt
all-quarters P Q side f (p ∷ ps) h = all-append Q (quarters side p) (flat_map (quarters side) ps) (f p h.0) (all-quarters P Q side f ps h.1)

-- what holds of all holds of the chosen ones
pub all-chosen : (P : Corner → Type 0) (ps : List Corner) (bits : List Bool) → AllByRecursion P ps → AllByRecursion P (chosen ps bits)
all-chosen P [] bits h = tt
all-chosen P (p ∷ ps) [] h = tt
all-chosen P (p ∷ ps) (true ∷ bits) h = (h.0, all-chosen P ps bits h.1)
all-chosen P (p ∷ ps) (false ∷ bits) h = all-chosen P ps bits h.1

pub covers-quarters : (side : ℕ) (p : Corner) → AllByRecursion (Covers side p) (quarters side p)
covers-quarters side p = (
  (λ i j (w : LiesIn side p i j). record { south = omega arith; north = omega arith; east = omega arith; west = omega arith }),
  (
    (λ i j (w : LiesIn side (p.0, p.1 + side) i j). record { south = omega arith; north = omega arith; east = omega arith; west = omega arith }),
    (
      (λ i j (w : LiesIn side (p.0 + side, p.1) i j). record { south = omega arith; north = omega arith; east = omega arith; west = omega arith }),
      ((λ i j (w : LiesIn side (p.0 + side, p.1 + side) i j). record { south = omega arith; north = omega arith; east = omega arith; west = omega arith }), tt),
    ),
  ),
)

apart-inside : (side : ℕ) (p q a b : Corner) → Apart (side + side) p q → Covers side p a → Covers side q b → Apart side a b
apart-inside side p q a b h x y = λ i j v w. h i j (x i j v) (y i j w)

-- a quarter of one is apart from the quarters of the other
apart-from : (side : ℕ) (p a : Corner) → Covers side p a → (q : Corner) → Apart (side + side) p q → AllByRecursion (Apart side a) (quarters side q)
apart-from side p a x q h = all-weaker (Covers side q) (Apart side a) (λ b y. apart-inside side p q a b h x y) (quarters side q) (covers-quarters side q)

-- the quarters of a submatrix are apart: between any two of them runs a middle line, and no place is on both sides
apart-own : (side : ℕ) (p : Corner) → AreApart side (quarters side p)
apart-own side p = (
  (
    (λ i j (v : LiesIn side p i j) (w : LiesIn side (p.0, p.1 + side) i j). absurd (omega arith)),
    (
      (λ i j (v : LiesIn side p i j) (w : LiesIn side (p.0 + side, p.1) i j). absurd (omega arith)),
      ((λ i j (v : LiesIn side p i j) (w : LiesIn side (p.0 + side, p.1 + side) i j). absurd (omega arith)), tt),
    ),
  ),
  (
    ((
      (λ i j (v : LiesIn side (p.0, p.1 + side) i j) (w : LiesIn side (p.0 + side, p.1) i j). absurd (omega arith)),
      ((λ i j (v : LiesIn side (p.0, p.1 + side) i j) (w : LiesIn side (p.0 + side, p.1 + side) i j). absurd (omega arith)), tt),
    )),
    (
      ((λ i j (v : LiesIn side (p.0 + side, p.1) i j) (w : LiesIn side (p.0 + side, p.1 + side) i j). absurd (omega arith)), tt),
      (tt, tt),
    ),
  ),
)

apart-append : (side : ℕ) (xs ys : List Corner) → AreApart side xs → AreApart side ys → AllByRecursion (λ x. AllByRecursion (Apart side x) ys) xs
    → AreApart side (xs ++ ys)
apart-append side [] ys a b c = b
apart-append side (x ∷ xs) ys a b c = (all-append (Apart side x) xs ys a.0 c.0, apart-append side xs ys a.1 b c.1)

pub apart-quarters : (side : ℕ) (ps : List Corner) → AreApart (side + side) ps → AreApart side (flat_map (quarters side) ps)
apart-quarters side [] h = tt
apart-quarters side (p ∷ ps) h =
    apart-append side (quarters side p) (flat_map (quarters side) ps) (apart-own side p) (apart-quarters side ps h.1)
    (all-weaker (Covers side p) (λ a. AllByRecursion (Apart side a) (flat_map (quarters side) ps))
    (λ a x. all-quarters (Apart (side + side) p) (Apart side a) side (apart-from side p a x) ps h.0)
    (quarters side p) (covers-quarters side p))

pub apart-chosen : (side : ℕ) (ps : List Corner) (bits : List Bool) → AreApart side ps → AreApart side (chosen ps bits)
apart-chosen side [] bits h = tt
apart-chosen side (p ∷ ps) [] h = tt
apart-chosen side (p ∷ ps) (true ∷ bits) h = (all-chosen (Apart side p) ps bits h.0, apart-chosen side ps bits h.1)
apart-chosen side (p ∷ ps) (false ∷ bits) h = apart-chosen side ps bits h.1

pub two-halves : (k : ℕ) → 2 ^ suc k ≡ 2 ^ k + 2 ^ k
two-halves k = grind arith

apart-cells : (k : ℕ) (ps : List Corner) (bits : List Bool) → AreApart (2 ^ suc k) ps → AreApart 1 (cells_below k ps bits)
apart-cells zero ps bits h = apart-quarters 1 ps h
apart-cells (suc k) ps bits h =
    let qs = flat_map (quarters (2 ^ suc k)) ps in
    apart-cells k (chosen qs bits) (drop (length qs) bits)
    (apart-chosen (2 ^ suc k) qs bits (apart-quarters (2 ^ suc k) ps (subst (λ s. AreApart s ps) (two-halves (suc k)) h)))

apart-one : (p : Corner) (qs : List Corner) → AllByRecursion (Apart 1 p) qs → is_among qs p.0 p.1 ≡ false
apart-one p [] h = refl
apart-one p (q ∷ qs) h = or_from ((q.0 == p.0) && (q.1 == p.1)) (is_among qs p.0 p.1) (false_from_ne_true ((q.0 == p.0) && (q.1 == p.1)) other) (apart-one p qs h.1)
  where
    other : ((q.0 == p.0) && (q.1 == p.1)) ≡ true → ⊥
    other t =
        let e = and_parts (q.0 == p.0) (q.1 == p.1) t in
        let r = eqb-true q.0 p.0 e.0 in
        let c = eqb-true q.1 p.1 e.1 in
        h.0 p.0 p.1 (record { south = omega arith; north = omega arith; east = omega arith; west = omega arith })
        (record { south = omega arith; north = omega arith; east = omega arith; west = omega arith })

distinct-apart : (ps : List Corner) → AreApart 1 ps → AreDistinct ps
distinct-apart [] h = tt
distinct-apart (p ∷ ps) h = (apart-one p ps h.0, distinct-apart ps h.1)

pub apart-whole : (side groups : ℕ) → AreApart side (take groups whole)
apart-whole side zero = tt
apart-whole side (suc zero) = (tt, tt)
apart-whole side (suc (suc groups)) = (tt, tt)

-- the cells that are chosen below the whole matrix are distinct
pub distinct-cells : (k groups : ℕ) (tree cells : List Bool) → AreDistinct (chosen (cells_below k (take groups whole) tree) cells)
distinct-cells k groups tree cells =
    distinct-apart (chosen (cells_below k (take groups whole) tree) cells)
    (apart-chosen 1 (cells_below k (take groups whole) tree) cells (apart-cells k (take groups whole) tree (apart-whole (2 ^ suc k) groups)))
