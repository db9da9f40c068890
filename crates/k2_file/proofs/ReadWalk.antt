-- The walk from the whole matrix to its cells, level by level.
-- 1. At each level so many submatrices stand as the level has groups, so the bits of their quarters are there.
-- 2. They lie in the greatest square, so no corner is out of range.
-- 3. The cells below them are those below the whole matrix.
use Rattle.std.proofs.Common.{◌≡◌, ◌==◌, ◌&&◌, ◌+◌, ◌*◌, ◌^◌, ◌<◌, ◌≤◌, ℕ, zero, suc, Bool, true, false, cond, not, leb, ltb, Some, None, inl, inr, List, [], ◌∷◌, ◌++◌, length, take, drop, get_or, refl, sym, ap, ◌∙◌, subst, arith, append_assoc}
use Rattle.std.specs.List.{AllByRecursion, flat_map}
use Rattle.std.proofs.lemmas.List.{append-nil, length-drop, drop-drop, drop_more, drop_all}
use Rattle.std.proofs.lemmas.Bool.{and_parts, leb-true, ltb-true, eqb-true, cases_Bool}
use Rattle.std.proofs.Math.Nat.{pow-le-pow_right}
use Rattle.rel_model.proofs.Grid.{all-weaker}
use Rattle.rel_model.specs.Listed.{AreWithin}
use Rattle.run_model.specs.Files.{Corner, whole, quarters, chosen, ones, no_bits, levels_fit, cells_below, cell_outside}
use Rattle.k2_file.specs.Told.{AreInside}
use Rattle.k2_file.proofs.ReadApart.{all-quarters, all-chosen, two-halves}

pub length-quarters : (side : ℕ) (ps : List Corner) → length (flat_map (quarters side) ps) ≡ 4 * length ps
length-quarters side [] = refl
length-quarters side (p ∷ ps) = let h = length-quarters side ps in omega (arith, h)

-- so many are chosen as bits are set
pub length-chosen : (ps : List Corner) (bits : List Bool) → length (chosen ps bits) ≡ ones (take (length ps) bits)
length-chosen [] bits = refl
length-chosen (p ∷ ps) [] = refl
length-chosen (p ∷ ps) (true ∷ bits) = let h = length-chosen ps bits in omega (arith, h)
length-chosen (p ∷ ps) (false ∷ bits) = let h = length-chosen ps bits in omega (arith, h)

inside-quarters : (side : ℕ) (ps : List Corner) → AreInside (side + side) ps → AreInside side (flat_map (quarters side) ps)
inside-quarters side ps h =
    all-quarters (λ p. (p.0 + (side + side) ≤ 2 ^ 24) × (p.1 + (side + side) ≤ 2 ^ 24)) (λ p. (p.0 + side ≤ 2 ^ 24) × (p.1 + side ≤ 2 ^ 24)) side
    (λ p w. one p w.0 w.1) ps h
  where
    one : (p : Corner) → p.0 + (side + side) ≤ 2 ^ 24 → p.1 + (side + side) ≤ 2 ^ 24
        → AllByRecursion (λ q. (q.0 + side ≤ 2 ^ 24) × (q.1 + side ≤ 2 ^ 24)) (quarters side p)
    one p a b = ((omega arith, omega arith), ((omega arith, omega arith), ((omega arith, omega arith), ((omega arith, omega arith), tt))))

pub inside-weaker : (less more : ℕ) (ps : List Corner) → less ≤ more → AreInside more ps → AreInside less ps
inside-weaker less more ps l h =
    all-weaker (λ p. (p.0 + more ≤ 2 ^ 24) × (p.1 + more ≤ 2 ^ 24)) (λ p. (p.0 + less ≤ 2 ^ 24) × (p.1 + less ≤ 2 ^ 24))
    (λ p w. lower p w.0 w.1) ps h
  where
    lower : (p : Corner) → p.0 + more ≤ 2 ^ 24 → p.1 + more ≤ 2 ^ 24 → (p.0 + less ≤ 2 ^ 24) × (p.1 + less ≤ 2 ^ 24)
    lower p a b = (omega arith, omega arith)

inside-whole : (k groups : ℕ) → k < 24 → AreInside (2 ^ suc k) (take groups whole)
inside-whole k zero l = tt
inside-whole k (suc zero) l = let h : 2 ^ suc k ≤ 2 ^ 24 = pow-le-pow_right {n = 2} (omega arith) {i = suc k} {j = 24} (omega arith) in ((omega arith, omega arith), tt)
inside-whole k (suc (suc n)) l = let h : 2 ^ suc k ≤ 2 ^ 24 = pow-le-pow_right {n = 2} (omega arith) {i = suc k} {j = 24} (omega arith) in ((omega arith, omega arith), tt)

pub length-whole : (groups : ℕ) → groups ≤ 1 → length (take groups whole) ≡ groups
length-whole zero l = refl
length-whole (suc zero) l = refl
length-whole (suc (suc n)) l = absurd (omega arith)

-- submatrices of side 2 ^ (k + 1) stand, with their bits from a place on, and these are the cells in the end
pub record IsWalk (cells : List Corner) (cell_count : ℕ) (xs : List Bool) (k : ℕ) (ps : List Corner) (from : ℕ) : Type 0 where
  pub same : cells_below k ps (drop from xs) ≡ cells
  pub fits : levels_fit k (length ps) (drop from xs) cell_count ≡ true
  pub inside : AreInside (2 ^ suc k) ps
  pub within : from ≤ length xs

pub walk-none : (k groups cell_count : ℕ) (xs : List Bool) → k < 24 → groups ≤ 1 → levels_fit k groups xs cell_count ≡ true
    → IsWalk (cells_below k (take groups whole) xs) cell_count xs k (take groups whole) 0
walk-none k groups cell_count xs l one fit = record {
  same = refl;
  fits = ap (λ (n : ℕ). levels_fit k n xs cell_count) (length-whole groups one) ∙ fit;
  inside = inside-whole k groups l;
  within = omega arith;
}

-- the bits of the quarters are there
pub walk-room : (cells : List Corner) (cell_count : ℕ) (xs : List Bool) (k : ℕ) (ps : List Corner) (from : ℕ) → IsWalk cells cell_count xs (suc k) ps from
    → from + 4 * length ps ≤ length xs
walk-room cells cell_count xs k ps from w =
    let n = 4 * length ps in
    let t = and_parts (leb n (length (drop from xs))) (levels_fit k (ones (take n (drop from xs))) (drop n (drop from xs)) cell_count) w.fits in
    omega (arith, leb-true n (length (drop from xs)) t.0, length-drop from xs, w.within)

-- the next level
pub walk-more : (cells : List Corner) (cell_count : ℕ) (xs : List Bool) (k : ℕ) (ps next : List Corner) (from : ℕ) → IsWalk cells cell_count xs (suc k) ps from
    → next ≡ chosen (flat_map (quarters (2 ^ suc k)) ps) (drop from xs) → IsWalk cells cell_count xs k next (from + 4 * length ps)
walk-more cells cell_count xs k ps next from w e =
    let n = 4 * length ps in
    let qs = flat_map (quarters (2 ^ suc k)) ps in
    let ys = drop from xs in
    let t = and_parts (leb n (length ys)) (levels_fit k (ones (take n ys)) (drop n ys) cell_count) w.fits in
    let many = length-quarters (2 ^ suc k) ps in
    let behind : drop n ys ≡ drop (from + n) xs = drop-drop n from xs in
    let count : length next ≡ ones (take n ys) = ap length e ∙ length-chosen qs ys ∙ ap (λ (m : ℕ). ones (take m ys)) many in
    record {
      same = ap (λ zs. cells_below k zs (drop (from + n) xs)) e ∙ ap (λ zs. cells_below k (chosen qs ys) zs) (sym behind)
          ∙ ap (λ (m : ℕ). cells_below k (chosen qs ys) (drop m ys)) (sym many) ∙ w.same;
      fits = ap (λ (m : ℕ). levels_fit k m (drop (from + n) xs) cell_count) count ∙ ap (λ zs. levels_fit k (ones (take n ys)) zs cell_count) (sym behind) ∙ t.1;
      inside = subst (λ zs. AreInside (2 ^ suc k) zs) (sym e)
          (all-chosen (λ p. (p.0 + 2 ^ suc k ≤ 2 ^ 24) × (p.1 + 2 ^ suc k ≤ 2 ^ 24)) qs ys
          (inside-quarters (2 ^ suc k) ps (subst (λ s. AreInside s ps) (two-halves (suc k)) w.inside)));
      within = walk-room cells cell_count xs k ps from w;
    }

-- the same by a level that is not 0
pub walk-bits : (cells : List Corner) (cell_count : ℕ) (xs : List Bool) (k : ℕ) (ps : List Corner) (from : ℕ) → IsWalk cells cell_count xs k ps from → 0 < k
    → from + 4 * length ps ≤ length xs
walk-bits cells cell_count xs zero ps from w l = absurd (omega arith)
walk-bits cells cell_count xs (suc k) ps from w l = walk-room cells cell_count xs k ps from w

pub walk-next : (cells : List Corner) (cell_count : ℕ) (xs : List Bool) (k j : ℕ) (ps next : List Corner) (from : ℕ) → IsWalk cells cell_count xs k ps from → k ≡ suc j
    → next ≡ chosen (flat_map (quarters (2 ^ k)) ps) (drop from xs) → IsWalk cells cell_count xs j next (from + 4 * length ps)
walk-next cells cell_count xs k j ps next from w e h =
    walk-more cells cell_count xs j ps next from (subst (λ (n : ℕ). IsWalk cells cell_count xs n ps from) e w)
    (h ∙ ap (λ (n : ℕ). chosen (flat_map (quarters (2 ^ n)) ps) (drop from xs)) e)

-- the quarters lie in the greatest square
pub walk-inside : (cells : List Corner) (cell_count : ℕ) (xs : List Bool) (k : ℕ) (ps : List Corner) (from : ℕ) → IsWalk cells cell_count xs k ps from → AreInside (2 ^ k) ps
walk-inside cells cell_count xs k ps from w = inside-weaker (2 ^ k) (2 ^ suc k) ps (omega (arith, two-halves k)) w.inside

pub walk-cell : (cells : List Corner) (cell_count : ℕ) (xs : List Bool) (k : ℕ) (ps : List Corner) (from : ℕ) → IsWalk cells cell_count xs k ps from → k ≡ 0 → AreInside 1 ps
walk-cell cells cell_count xs k ps from w e = subst (λ (n : ℕ). AreInside (2 ^ n) ps) e (walk-inside cells cell_count xs k ps from w)

pub walk-start : (k groups cell_count : ℕ) (xs : List Bool) (cells ps : List Corner) → k < 24 → groups ≤ 1 → levels_fit k groups xs cell_count ≡ true
    → cells ≡ cells_below k (take groups whole) xs → ps ≡ take groups whole → IsWalk cells cell_count xs k ps 0
walk-start k groups cell_count xs cells ps l one fit c e =
    subst (λ zs. IsWalk cells cell_count xs k zs 0) (sym e)
    (subst (λ cs. IsWalk cs cell_count xs k (take groups whole) 0) (sym c) (walk-none k groups cell_count xs l one fit))

-- the corner at a place
pub inside-at : (side : ℕ) (ps : List Corner) (i : ℕ) (d : Corner) → AreInside side ps → i < length ps → ((get_or ps i d).0 + side ≤ 2 ^ 24) × ((get_or ps i d).1 + side ≤ 2 ^ 24)
inside-at side [] i d h l = absurd (omega arith)
inside-at side (p ∷ ps) zero d h l = h.0
inside-at side (p ∷ ps) (suc i) d h l = inside-at side ps i d h.1 (omega arith)

-- below the last level the cells are the quarters
pub walk-cells : (cells : List Corner) (cell_count : ℕ) (xs : List Bool) (k : ℕ) (ps : List Corner) (from : ℕ) → IsWalk cells cell_count xs k ps from → k ≡ 0
    → flat_map (quarters 1) ps ≡ cells
walk-cells cells cell_count xs k ps from w e = (subst (λ (n : ℕ). IsWalk cells cell_count xs n ps from) e w).same

walk-sum : (cells : List Corner) (cell_count : ℕ) (xs : List Bool) (ps : List Corner) (from : ℕ) → IsWalk cells cell_count xs 0 ps from
    → length (flat_map (quarters 1) ps) ≡ cell_count
walk-sum cells cell_count xs ps from w =
    let t = and_parts (no_bits (drop from xs)) (cell_count == 4 * length ps) w.fits in
    length-quarters 1 ps ∙ sym (eqb-true cell_count (4 * length ps) t.1)

pub walk-count : (cells : List Corner) (cell_count : ℕ) (xs : List Bool) (k : ℕ) (ps : List Corner) (from : ℕ) → IsWalk cells cell_count xs k ps from → k ≡ 0
    → length (flat_map (quarters 1) ps) ≡ cell_count
walk-count cells cell_count xs k ps from w e = walk-sum cells cell_count xs ps from (subst (λ (n : ℕ). IsWalk cells cell_count xs n ps from) e w)

-- ---- one element more
-- of the quarters
pub quarters-more : (side : ℕ) (ps : List Corner) (i : ℕ) (d : Corner) → i < length ps
    → flat_map (quarters side) (take (i + 1) ps) ≡ flat_map (quarters side) (take i ps) ++ quarters side (get_or ps i d)
quarters-more side [] i d l = absurd (omega arith)
quarters-more side (p ∷ ps) zero d l = refl
quarters-more side (p ∷ ps) (suc i) d l =
    let more : suc i + 1 ≡ suc (i + 1) = omega arith in
    ap (λ (n : ℕ). flat_map (quarters side) (take n (p ∷ ps))) more
    ∙ ap (λ zs. quarters side p ++ zs) (quarters-more side ps i d (omega arith))
    ∙ sym (append_assoc (quarters side p) (flat_map (quarters side) (take i ps)) (quarters side (get_or ps i d)))

-- of the chosen ones
chosen-step : (ps : List Corner) (xs : List Bool) (i from : ℕ) (d : Corner) → i < length ps → from + i < length xs
    → chosen (drop i ps) (drop (from + i) xs)
    ≡ cond (get_or xs (from + i) false) (get_or ps i d ∷ chosen (drop (i + 1) ps) (drop (from + (i + 1)) xs)) (chosen (drop (i + 1) ps) (drop (from + (i + 1)) xs))
chosen-step ps xs i from d l m =
    let e : from + i + 1 ≡ from + (i + 1) = omega arith in
    ap (λ zs. chosen zs (drop (from + i) xs)) (drop_more ps i d l)
    ∙ ap (λ zs. chosen (get_or ps i d ∷ drop (i + 1) ps) zs) (drop_more xs (from + i) false m ∙ ap (λ (n : ℕ). get_or xs (from + i) false ∷ drop n xs) e)

-- what is chosen so far, and what is still to choose
pub record IsChosen (ps : List Corner) (xs : List Bool) (from i : ℕ) (out : List Corner) : Type 0 where
  pub same : out ++ chosen (drop i ps) (drop (from + i) xs) ≡ chosen ps (drop from xs)

pub chosen-none : (ps : List Corner) (xs : List Bool) (from : ℕ) → IsChosen ps xs from 0 []
chosen-none ps xs from = let e : from + 0 ≡ from = omega arith in record { same = ap (λ (n : ℕ). chosen ps (drop n xs)) e }

chosen-one : (b : Bool) (p : Corner) (out rest : List Corner) → (out ++ cond b (p ∷ []) []) ++ rest ≡ out ++ cond b (p ∷ rest) rest
chosen-one true p out rest = append_assoc out (p ∷ []) rest
chosen-one false p out rest = ap (λ zs. zs ++ rest) (append-nil out)

pub chosen-more : (ps : List Corner) (xs : List Bool) (from i : ℕ) (out more : List Corner) (d : Corner) (b : Bool) → IsChosen ps xs from i out → i < length ps → from + i < length xs
    → b ≡ get_or xs (from + i) false → more ≡ out ++ cond b (get_or ps i d ∷ []) [] → IsChosen ps xs from (i + 1) more
chosen-more ps xs from i out more d b w l m t e =
    let rest = chosen (drop (i + 1) ps) (drop (from + (i + 1)) xs) in
    let p = get_or ps i d in
    record {
      same = ap (λ zs. zs ++ rest) e ∙ chosen-one b p out rest ∙ ap (λ c. out ++ cond c (p ∷ rest) rest) t
          ∙ ap (λ zs. out ++ zs) (sym (chosen-step ps xs i from d l m)) ∙ w.same;
    }

pub chosen-all : (ps : List Corner) (xs : List Bool) (from i : ℕ) (out : List Corner) → IsChosen ps xs from i out → length ps ≤ i → out ≡ chosen ps (drop from xs)
chosen-all ps xs from i out w l =
    sym (append-nil out) ∙ sym (ap (λ zs. out ++ chosen zs (drop (from + i) xs)) (drop_all i ps l)) ∙ w.same

-- ---- cells outside
outside-step : (rows cols at : ℕ) (ps : List Corner) (xs : List Bool) (i : ℕ) (d : Corner) → i < length ps → i < length xs
    → cell_outside rows cols (at + i) (drop i ps) (drop i xs)
    ≡ cond (get_or xs i false && not (ltb (get_or ps i d).0 rows && ltb (get_or ps i d).1 cols)) (Some (at + i)) (cell_outside rows cols (at + (i + 1)) (drop (i + 1) ps) (drop (i + 1) xs))
outside-step rows cols at ps xs i d l m =
    let e : at + i + 1 ≡ at + (i + 1) = omega arith in
    let p = get_or ps i d in
    let b = get_or xs i false in
    ap (λ zs. cell_outside rows cols (at + i) zs (drop i xs)) (drop_more ps i d l)
    ∙ ap (λ zs. cell_outside rows cols (at + i) (p ∷ drop (i + 1) ps) zs) (drop_more xs i false m)
    ∙ ap (λ (n : ℕ). cond (b && not (ltb p.0 rows && ltb p.1 cols)) (Some (at + i)) (cell_outside rows cols n (drop (i + 1) ps) (drop (i + 1) xs))) e

-- the cells so far are not outside, or not set
pub record NoneOutside (rows cols at : ℕ) (ps : List Corner) (xs : List Bool) (i : ℕ) : Type 0 where
  pub same : cell_outside rows cols at ps xs ≡ cell_outside rows cols (at + i) (drop i ps) (drop i xs)

pub outside-none : (rows cols at : ℕ) (ps : List Corner) (xs : List Bool) → NoneOutside rows cols at ps xs 0
outside-none rows cols at ps xs = let e : at + 0 ≡ at = omega arith in record { same = ap (λ (n : ℕ). cell_outside rows cols n ps xs) (sym e) }

pub outside-more : (rows cols at : ℕ) (ps : List Corner) (xs : List Bool) (i : ℕ) (d : Corner) (b : Bool) → NoneOutside rows cols at ps xs i → i < length ps → i < length xs
    → b ≡ get_or xs i false → false ≡ (b && not (ltb (get_or ps i d).0 rows && ltb (get_or ps i d).1 cols)) → NoneOutside rows cols at ps xs (i + 1)
outside-more rows cols at ps xs i d b w l m s t =
    let p = get_or ps i d in
    let rest = cell_outside rows cols (at + (i + 1)) (drop (i + 1) ps) (drop (i + 1) xs) in
    record {
      same = w.same ∙ outside-step rows cols at ps xs i d l m
          ∙ ap (λ c. cond c (Some (at + i)) rest) (ap (λ c. c && not (ltb p.0 rows && ltb p.1 cols)) (sym s) ∙ sym t);
    }

pub outside-here : (rows cols at : ℕ) (ps : List Corner) (xs : List Bool) (i : ℕ) (d : Corner) → NoneOutside rows cols at ps xs i → i < length ps → i < length xs
    → (get_or xs i false && not (ltb (get_or ps i d).0 rows && ltb (get_or ps i d).1 cols)) ≡ true → cell_outside rows cols at ps xs ≡ Some (at + i)
outside-here rows cols at ps xs i d w l m t =
    w.same ∙ outside-step rows cols at ps xs i d l m ∙ ap (λ b. cond b (Some (at + i)) (cell_outside rows cols (at + (i + 1)) (drop (i + 1) ps) (drop (i + 1) xs))) t

pub outside-all : (rows cols at : ℕ) (ps : List Corner) (xs : List Bool) (i : ℕ) → NoneOutside rows cols at ps xs i → length ps ≤ i → cell_outside rows cols at ps xs ≡ None
outside-all rows cols at ps xs i w l = w.same ∙ ap (λ zs. cell_outside rows cols (at + i) zs (drop i xs)) (drop_all i ps l)

-- where none is outside, the chosen cells lie within the sizes
pub within-chosen : (rows cols at : ℕ) (ps : List Corner) (xs : List Bool) → cell_outside rows cols at ps xs ≡ None → AreWithin rows cols (chosen ps xs)
within-chosen rows cols at [] xs h = tt
within-chosen rows cols at (p ∷ ps) [] h = tt
within-chosen rows cols at (p ∷ ps) (true ∷ xs) h =
    elim (cases_Bool (ltb p.0 rows && ltb p.1 cols)) [
      | inl t ↦ (let k = and_parts (ltb p.0 rows) (ltb p.1 cols) t in (
        (ltb-true p.0 rows k.0, ltb-true p.1 cols k.1),
        within-chosen rows cols (at + 1) ps xs (sym (ap (λ b. cond (not b) (Some at) (cell_outside rows cols (at + 1) ps xs)) t) ∙ h),
      ))
      | inr t ↦ (let bad : Some at ≡ None = sym (ap (λ b. cond (not b) (Some at) (cell_outside rows cols (at + 1) ps xs)) t) ∙ h in cc)
    ]
within-chosen rows cols at (p ∷ ps) (false ∷ xs) h = within-chosen rows cols (at + 1) ps xs h
