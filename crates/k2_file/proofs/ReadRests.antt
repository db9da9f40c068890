-- What is read depth first, with a place a level, is what the levels tell.
-- 1. To choose among submatrices one behind the other is to choose among the first, and among the others by the bits behind theirs.
-- 2. So, level by level, the pairs below submatrices one behind the other are the pairs below the first, and those below the others by the rests behind theirs.
-- 3. Places that move on by a group at each set bit therefore come, square by square, where each level's order has them.
use Rattle.std.proofs.Common.{◌≡◌, ◌||◌, ◌+◌, ◌*◌, ◌^◌, ◌≤◌, ℕ, zero, suc, Bool, true, false, cond, Some, None, List, [], ◌∷◌, ◌++◌, length, take, drop, refl, sym, ap, ◌∙◌, subst, arith}
use Rattle.std.specs.List.{flat_map}
use Rattle.std.proofs.lemmas.List.{drop-drop}
use Rattle.std.proofs.lemmas.List.Concat.{flat_map-append}
use Rattle.run_model.specs.Files.{Corner, quarters, chosen, ones, zero_group, number_of_bit}
use Rattle.k2_file.specs.Rests.{behind, pairs_below, count_below, AreGroups, AreThere}
use Rattle.k2_file.proofs.ReadGroups.{ones-both}
use Rattle.k2_file.proofs.ReadWalk.{length-quarters, length-chosen}

-- ---- parts one behind the other
pub chosen-append : (ps qs : List Corner) (bits : List Bool) → chosen (ps ++ qs) bits ≡ chosen ps bits ++ chosen qs (drop (length ps) bits)
chosen-append [] qs bits = refl
chosen-append (p ∷ ps) [] [] = refl
chosen-append (p ∷ ps) (q ∷ qs) [] = refl
chosen-append (p ∷ ps) qs (true ∷ bits) = ap (λ rs. p ∷ rs) (chosen-append ps qs bits)
chosen-append (p ∷ ps) qs (false ∷ bits) = chosen-append ps qs bits

pub length-behind : (n : ℕ) (rests : List (List Bool)) → length (behind n rests) ≡ length rests
length-behind n [] = refl
length-behind n (bits ∷ rests) = let h = length-behind (ones (take (4 * n) bits)) rests in omega (arith, h)

-- the pairs below submatrices one behind the other are those below the first and those below the others, by induction
-- on the levels: at each one the first take their groups, and the others go on behind these
pub pairs-append : (ps qs : List Corner) (rests : List (List Bool)) → pairs_below (ps ++ qs) rests ≡ pairs_below ps rests ++ pairs_below qs (behind (length ps) rests)
pairs-append ps qs [] = refl
pairs-append ps qs (bits ∷ rests) =
    let f : Corner → List Corner = quarters (2 ^ length rests) in
    let four = length-quarters (2 ^ length rests) ps in
    let next = chosen (flat_map f ps) bits in
    let many : length next ≡ ones (take (4 * length ps) bits) = length-chosen (flat_map f ps) bits ∙ ap (λ (n : ℕ). ones (take n bits)) four in
    let low = behind (ones (take (4 * length ps) bits)) rests in
    ap (λ rs. pairs_below (chosen rs bits) rests) (flat_map-append f ps qs)
    ∙ ap (λ rs. pairs_below rs rests) (chosen-append (flat_map f ps) (flat_map f qs) bits)
    ∙ pairs-append next (chosen (flat_map f qs) (drop (length (flat_map f ps)) bits)) rests
    ∙ ap (λ (n : ℕ). pairs_below next rests ++ pairs_below (chosen (flat_map f qs) (drop (length (flat_map f ps)) bits)) (behind n rests)) many
    ∙ ap (λ (n : ℕ). pairs_below next rests ++ pairs_below (chosen (flat_map f qs) (drop n bits)) low) four
    ∙ ap (λ (n : ℕ). pairs_below next rests ++ pairs_below (chosen (flat_map (quarters (2 ^ n)) qs) (drop (4 * length ps) bits)) low) (sym (length-behind (ones (take (4 * length ps) bits)) rests))

pub length-pairs : (ps : List Corner) (rests : List (List Bool)) → length (pairs_below ps rests) ≡ count_below (length ps) rests
length-pairs ps [] = refl
length-pairs ps (bits ∷ rests) =
    let qs = flat_map (quarters (2 ^ length rests)) ps in
    length-pairs (chosen qs bits) rests
    ∙ ap (λ (n : ℕ). count_below n rests) (length-chosen qs bits ∙ ap (λ (n : ℕ). ones (take n bits)) (length-quarters (2 ^ length rests) ps))

-- ---- numbers of groups
pub ones-four : (n m : ℕ) (bits : List Bool) → ones (take (4 * (n + m)) bits) ≡ ones (take (4 * n) bits) + ones (take (4 * m) (drop (4 * n) bits))
ones-four n m bits = let e : 4 * (n + m) ≡ 4 * n + 4 * m = omega arith in ap (λ (k : ℕ). ones (take k bits)) e ∙ ones-both (4 * n) (4 * m) bits

pub behind-add : (n m : ℕ) (rests : List (List Bool)) → behind (n + m) rests ≡ behind m (behind n rests)
behind-add n m [] = refl
behind-add n m (bits ∷ rests) =
    let e : 4 * (n + m) ≡ 4 * n + 4 * m = omega arith in
    let a : drop (4 * (n + m)) bits ≡ drop (4 * m) (drop (4 * n) bits) = ap (λ (k : ℕ). drop k bits) e ∙ sym (drop-drop (4 * m) (4 * n) bits) in
    let b : behind (ones (take (4 * (n + m)) bits)) rests ≡ behind (ones (take (4 * m) (drop (4 * n) bits))) (behind (ones (take (4 * n) bits)) rests) =
    ap (λ (k : ℕ). behind k rests) (ones-four n m bits) ∙ behind-add (ones (take (4 * n) bits)) (ones (take (4 * m) (drop (4 * n) bits))) rests in
    ap (λ xs. xs ∷ behind (ones (take (4 * (n + m)) bits)) rests) a ∙ ap (λ xss. drop (4 * m) (drop (4 * n) bits) ∷ xss) b

pub count-add : (n m : ℕ) (rests : List (List Bool)) → count_below (n + m) rests ≡ count_below n rests + count_below m (behind n rests)
count-add n m [] = refl
count-add n m (bits ∷ rests) =
    ap (λ (k : ℕ). count_below k rests) (ones-four n m bits) ∙ count-add (ones (take (4 * n) bits)) (ones (take (4 * m) (drop (4 * n) bits))) rests

-- ---- groups that are there
four-more : (n : ℕ) → 4 * suc n ≡ suc (suc (suc (suc (4 * n))))
four-more n = omega arith

pub groups-split : (n m : ℕ) (bits : List Bool) → AreGroups (n + m) bits → AreGroups n bits × AreGroups m (drop (4 * n) bits)
groups-split zero m bits h = let e : 0 + m ≡ m = omega arith in (tt, subst (λ (k : ℕ). AreGroups k bits) e h)
groups-split (suc n) m (a ∷ b ∷ c ∷ d ∷ bits) h =
    let e : suc n + m ≡ suc (n + m) = omega arith in
    let g = subst (λ (k : ℕ). AreGroups k (a ∷ b ∷ c ∷ d ∷ bits)) e h in
    let r = groups-split n m bits g.1 in
    ((g.0, r.0), subst (λ (k : ℕ). AreGroups m (drop k (a ∷ b ∷ c ∷ d ∷ bits))) (sym (four-more n)) r.1)
groups-split (suc n) m [] h = absurd (let e : suc n + m ≡ suc (n + m) = omega arith in subst (λ (k : ℕ). AreGroups k []) e h)
groups-split (suc n) m (a ∷ []) h = absurd (let e : suc n + m ≡ suc (n + m) = omega arith in subst (λ (k : ℕ). AreGroups k (a ∷ [])) e h)
groups-split (suc n) m (a ∷ b ∷ []) h = absurd (let e : suc n + m ≡ suc (n + m) = omega arith in subst (λ (k : ℕ). AreGroups k (a ∷ b ∷ [])) e h)
groups-split (suc n) m (a ∷ b ∷ c ∷ []) h = absurd (let e : suc n + m ≡ suc (n + m) = omega arith in subst (λ (k : ℕ). AreGroups k (a ∷ b ∷ c ∷ [])) e h)

pub there-split : (n m : ℕ) (rests : List (List Bool)) → AreThere (n + m) rests → AreThere n rests × AreThere m (behind n rests)
there-split n m [] h = (tt, tt)
there-split n m (bits ∷ rests) h =
    let g = groups-split n m bits h.0 in
    let r = there-split (ones (take (4 * n) bits)) (ones (take (4 * m) (drop (4 * n) bits))) rests (subst (λ (k : ℕ). AreThere k rests) (ones-four n m bits) h.1) in
    ((g.0, r.0), (g.1, r.1))

one-set : (a b c d : Bool) → (a || (b || (c || d))) ≡ true → 1 ≤ number_of_bit a + (number_of_bit b + (number_of_bit c + number_of_bit d))
one-set true b c d h = omega arith
one-set false true c d h = omega arith
one-set false false true d h = omega arith
one-set false false false true h = omega arith
one-set false false false false h = cc

-- groups that have a set bit each have as many set bits at least as there are groups, by induction
groups-ones : (n : ℕ) (bits : List Bool) → AreGroups n bits → n ≤ ones (take (4 * n) bits)
groups-ones zero bits h = omega arith
groups-ones (suc n) (a ∷ b ∷ c ∷ d ∷ bits) h =
    let r = groups-ones n bits h.1 in
    let s = one-set a b c d h.0 in
    let e : ones (take (4 * suc n) (a ∷ b ∷ c ∷ d ∷ bits)) ≡ number_of_bit a + (number_of_bit b + (number_of_bit c + (number_of_bit d + ones (take (4 * n) bits)))) =
    ap (λ (k : ℕ). ones (take k (a ∷ b ∷ c ∷ d ∷ bits))) (four-more n) in
    omega (arith, r, s, e)
groups-ones (suc n) [] h = absurd h
groups-ones (suc n) (a ∷ []) h = absurd h
groups-ones (suc n) (a ∷ b ∷ []) h = absurd h
groups-ones (suc n) (a ∷ b ∷ c ∷ []) h = absurd h

-- below so many submatrices are as many pairs at least
pub count-some : (n : ℕ) (rests : List (List Bool)) → AreThere n rests → n ≤ count_below n rests
count-some n [] h = omega arith
count-some n (bits ∷ rests) h = let a = groups-ones n bits h.0 in let b = count-some (ones (take (4 * n) bits)) rests h.1 in omega (arith, a, b)

pub groups-long : (n : ℕ) (bits : List Bool) → AreGroups n bits → 4 * n ≤ length bits
groups-long zero bits h = omega arith
groups-long (suc n) (a ∷ b ∷ c ∷ d ∷ bits) h = let r = groups-long n bits h.1 in omega (arith, r)
groups-long (suc n) [] h = absurd h
groups-long (suc n) (a ∷ []) h = absurd h
groups-long (suc n) (a ∷ b ∷ []) h = absurd h
groups-long (suc n) (a ∷ b ∷ c ∷ []) h = absurd h

-- no group without a set bit is found, so each has one
pub groups-none : (n at : ℕ) (bits : List Bool) → zero_group at bits ≡ None → 4 * n ≤ length bits → AreGroups n bits
groups-none zero at bits h l = tt
groups-none (suc n) at (a ∷ b ∷ c ∷ d ∷ bits) h l = one a b c d (λ e. groups-none n (at + 4) bits e (omega arith)) h
  where
    one : (a b c d : Bool) → (zero_group (at + 4) bits ≡ None → AreGroups n bits) → cond (a || (b || (c || d))) (zero_group (at + 4) bits) (Some at) ≡ None
        → ((a || (b || (c || d))) ≡ true) × AreGroups n bits
    one true b c d f h = (refl, f h)
    one false true c d f h = (refl, f h)
    one false false true d f h = (refl, f h)
    one false false false true f h = (refl, f h)
    one false false false false f h = cc
groups-none (suc n) at [] h l = absurd (omega arith)
groups-none (suc n) at (a ∷ []) h l = absurd (omega arith)
groups-none (suc n) at (a ∷ b ∷ []) h l = absurd (omega arith)
groups-none (suc n) at (a ∷ b ∷ c ∷ []) h l = absurd (omega arith)

-- the groups at the front of a list are those of its front
pub groups-front : (n : ℕ) (xs ys : List Bool) → AreGroups n (xs ++ ys) → 4 * n ≤ length xs → AreGroups n xs
groups-front zero xs ys h l = tt
groups-front (suc n) (a ∷ b ∷ c ∷ d ∷ xs) ys h l = (h.0, groups-front n xs ys h.1 (omega arith))
groups-front (suc n) [] ys h l = absurd (omega arith)
groups-front (suc n) (a ∷ []) ys h l = absurd (omega arith)
groups-front (suc n) (a ∷ b ∷ []) ys h l = absurd (omega arith)
groups-front (suc n) (a ∷ b ∷ c ∷ []) ys h l = absurd (omega arith)
