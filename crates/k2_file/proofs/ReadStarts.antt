-- Where the levels of a tree begin: from there on each level has the groups that it owes, and the pairs below are those that the file tells.
use Rattle.std.proofs.Common.{◌≡◌, ◌==◌, ◌&&◌, ◌+◌, ◌-◌, ◌*◌, ◌^◌, ◌<◌, ◌≤◌, leb, ltb, not, ℕ, zero, suc, Bool, true, false, cond, Some, None, List, [], ◌∷◌, ◌++◌, length, take, drop, set, replicate, append_assoc, refl, sym, ap, ◌∙◌, subst, arith}
use Rattle.std.specs.List.{flat_map, AllByRecursion}
use Rattle.std.proofs.lemmas.List.{length-append, length-drop, length-set, drop-drop}
use Rattle.std.proofs.lemmas.Grind.{common_steps}
use Rattle.std.proofs.lemmas.Bool.Decides.{nat_tests}
use Rattle.std.proofs.lemmas.Bool.{and_parts, leb-true, lt-ltb, eqb-true, false≢true}
use Rattle.rel_model.specs.Listed.{AreWithin}
use Rattle.rel_model.proofs.Grid.{all-weaker}
use Rattle.run_model.specs.Files.{Corner, whole, quarters, chosen, ones, no_bits, levels_fit, zero_group, cells_below, cell_outside}
use Rattle.k2_file.specs.Rests.{pairs_below, AreGroups, AreThere, rests_at, starts_of}
use Rattle.k2_file.proofs.ReadApart.{all-quarters, all-chosen, two-halves}
use Rattle.k2_file.proofs.ReadRests.{groups-split, groups-none, groups-front}
use Rattle.k2_file.proofs.ReadWalk.{length-quarters, length-chosen}

pub length-starts : (k n from : ℕ) (tree : List Bool) → length (starts_of k n from tree) ≡ suc k
length-starts zero n from tree = refl
length-starts (suc k) n from tree = let h = length-starts k (ones (take (4 * n) (drop (4 * from) tree))) (from + n) tree in omega (arith, h)

pub length-rests : (tree cells : List Bool) (places : List ℕ) → length (rests_at tree cells places) ≡ length places
length-rests tree cells [] = refl
length-rests tree cells (at ∷ places) = let h = length-rests tree cells places in omega (arith, h)

some-level : (k : ℕ) → (suc k == 0) ≡ false
some-level k = grind (arith, nat_tests)

-- the rests of a level above the cells
pub rests-above : (tree cells : List Bool) (k n from : ℕ) → rests_at tree cells (starts_of (suc k) n from tree)
    ≡ drop (4 * from) tree ∷ rests_at tree cells (starts_of k (ones (take (4 * n) (drop (4 * from) tree))) (from + n) tree)
rests-above tree cells k n from =
    let below = starts_of k (ones (take (4 * n) (drop (4 * from) tree))) (from + n) tree in
    ap (λ (m : ℕ). drop (4 * from) (cond (m == 0) cells tree) ∷ rests_at tree cells below) (length-starts k (ones (take (4 * n) (drop (4 * from) tree))) (from + n) tree)
    ∙ ap (λ b. drop (4 * from) (cond b cells tree) ∷ rests_at tree cells below) (some-level k)

pub moved-on : (from n : ℕ) (tree : List Bool) → drop (4 * (from + n)) tree ≡ drop (4 * n) (drop (4 * from) tree)
moved-on from n tree = let e : 4 * (from + n) ≡ 4 * from + 4 * n = omega arith in ap (λ (k : ℕ). drop k tree) e ∙ sym (drop-drop (4 * n) (4 * from) tree)

-- the pairs below
pub starts-pairs : (tree cells : List Bool) (k from : ℕ) (ps : List Corner)
    → pairs_below ps (rests_at tree cells (starts_of k (length ps) from tree)) ≡ chosen (cells_below k ps (drop (4 * from) tree)) cells
starts-pairs tree cells zero from ps = refl
starts-pairs tree cells (suc k) from ps =
    let n = length ps in
    let bits = drop (4 * from) tree in
    let m = ones (take (4 * n) bits) in
    let below = starts_of k m (from + n) tree in
    let qs = flat_map (quarters (2 ^ suc k)) ps in
    let next = chosen qs bits in
    let four = length-quarters (2 ^ suc k) ps in
    let many : m ≡ length next = sym (length-chosen qs bits ∙ ap (λ (x : ℕ). ones (take x bits)) four) in
    let high : length (rests_at tree cells below) ≡ suc k = length-rests tree cells below ∙ length-starts k m (from + n) tree in
    ap (pairs_below ps) (rests-above tree cells k n from)
    ∙ ap (λ (x : ℕ). pairs_below (chosen (flat_map (quarters (2 ^ x)) ps) bits) (rests_at tree cells below)) high
    ∙ ap (λ (x : ℕ). pairs_below next (rests_at tree cells (starts_of k x (from + n) tree))) many
    ∙ starts-pairs tree cells k (from + n) next
    ∙ ap (λ ys. chosen (cells_below k next ys) cells) (moved-on from n tree ∙ ap (λ (x : ℕ). drop x bits) (sym four))

no_bits-end : (from : ℕ) (tree : List Bool) → from ≤ length tree → no_bits (drop from tree) ≡ true → from ≡ length tree
no_bits-end from tree l h = let e = none (drop from tree) h in omega (arith, length-drop from tree, e, l)
  where
    none : (xs : List Bool) → no_bits xs ≡ true → length xs ≡ 0
    none [] h = refl
    none (x ∷ xs) h = absurd (false≢true h)

drop-front : (xs ys : List Bool) → drop (length xs) (xs ++ ys) ≡ ys
drop-front [] ys = refl
drop-front (x ∷ xs) ys = drop-front xs ys

-- the groups are there
pub starts-there : (tree cells : List Bool) (k n from : ℕ) → zero_group 0 (tree ++ cells) ≡ None → 4 * from ≤ length tree
    → levels_fit k n (drop (4 * from) tree) (length cells) ≡ true → AreThere n (rests_at tree cells (starts_of k n from tree))
starts-there tree cells zero n from z l h =
    let t = and_parts (no_bits (drop (4 * from) tree)) (length cells == 4 * n) h in
    let end : 4 * from ≡ length tree = no_bits-end (4 * from) tree l t.0 in
    let many : length cells ≡ 4 * n = eqb-true (length cells) (4 * n) t.1 in
    let all : AreGroups (from + n) (tree ++ cells) = groups-none (from + n) 0 (tree ++ cells) z (omega (arith, end, many, length-append tree cells)) in
    let own = groups-split from n (tree ++ cells) all in
    let same : drop (4 * from) (tree ++ cells) ≡ cells = ap (λ (x : ℕ). drop x (tree ++ cells)) end ∙ drop-front tree cells in
    (subst (λ ys. AreGroups n ys) same own.1, tt)
starts-there tree cells (suc k) n from z l h =
    let bits = drop (4 * from) tree in
    let t = and_parts (leb (4 * n) (length bits)) (levels_fit k (ones (take (4 * n) bits)) (drop (4 * n) bits) (length cells)) h in
    let room : 4 * n ≤ length bits = leb-true (4 * n) (length bits) t.0 in
    let within : 4 * (from + n) ≤ length tree = omega (arith, room, l, length-drop (4 * from) tree) in
    let all : AreGroups (from + n) (tree ++ cells) = groups-none (from + n) 0 (tree ++ cells) z (omega (arith, within, length-append tree cells)) in
    let own = groups-split from n tree (groups-front (from + n) tree cells all within) in
    let fit = ap (λ ys. levels_fit k (ones (take (4 * n) bits)) ys (length cells)) (moved-on from n tree) ∙ t.1 in
    subst (AreThere n) (sym (rests-above tree cells k n from))
    ((own.1, starts-there tree cells k (ones (take (4 * n) bits)) (from + n) z within fit))

-- the pairs lie within their submatrices
pub pairs-within : (rows cols : ℕ) (rests : List (List Bool)) (ps : List Corner)
    → AllByRecursion (λ p. (p.0 + 2 ^ length rests ≤ rows) × (p.1 + 2 ^ length rests ≤ cols)) ps → AreWithin rows cols (pairs_below ps rests)
pairs-within rows cols [] ps h =
    all-weaker (λ p. (p.0 + 1 ≤ rows) × (p.1 + 1 ≤ cols)) (λ p. (p.0 < rows) × (p.1 < cols)) (λ p w. lower p w.0 w.1) ps h
  where
    lower : (p : Corner) → p.0 + 1 ≤ rows → p.1 + 1 ≤ cols → (p.0 < rows) × (p.1 < cols)
    lower p a b = (omega arith, omega arith)
pairs-within rows cols (bits ∷ rests) ps h =
    let k = length rests in
    let side = 2 ^ k in
    pairs-within rows cols rests (chosen (flat_map (quarters side) ps) bits)
    (all-chosen (λ p. (p.0 + side ≤ rows) × (p.1 + side ≤ cols)) (flat_map (quarters side) ps) bits
    (all-quarters (λ p. (p.0 + 2 ^ suc k ≤ rows) × (p.1 + 2 ^ suc k ≤ cols)) (λ p. (p.0 + side ≤ rows) × (p.1 + side ≤ cols)) side
    (λ p w. one side p (two-halves k) w.0 w.1) ps h))
  where
    one : (side : ℕ) (p : Corner) → 2 ^ suc (length rests) ≡ side + side → p.0 + 2 ^ suc (length rests) ≤ rows → p.1 + 2 ^ suc (length rests) ≤ cols
        → AllByRecursion (λ q. (q.0 + side ≤ rows) × (q.1 + side ≤ cols)) (quarters side p)
    one side p e a b = ((omega arith, omega arith), ((omega arith, omega arith), ((omega arith, omega arith), ((omega arith, omega arith), tt))))

-- ---- cells of a square whose sizes are its side
quartered-within : (rows cols k : ℕ) (ps : List Corner) → AllByRecursion (λ p. (p.0 + 2 ^ suc k ≤ rows) × (p.1 + 2 ^ suc k ≤ cols)) ps
    → AllByRecursion (λ p. (p.0 + 2 ^ k ≤ rows) × (p.1 + 2 ^ k ≤ cols)) (flat_map (quarters (2 ^ k)) ps)
quartered-within rows cols k ps h =
    all-quarters (λ p. (p.0 + 2 ^ suc k ≤ rows) × (p.1 + 2 ^ suc k ≤ cols)) (λ p. (p.0 + 2 ^ k ≤ rows) × (p.1 + 2 ^ k ≤ cols)) (2 ^ k)
    (λ p w. one p (two-halves k) w.0 w.1) ps h
  where
    one : (p : Corner) → 2 ^ suc k ≡ 2 ^ k + 2 ^ k → p.0 + 2 ^ suc k ≤ rows → p.1 + 2 ^ suc k ≤ cols
        → AllByRecursion (λ q. (q.0 + 2 ^ k ≤ rows) × (q.1 + 2 ^ k ≤ cols)) (quarters (2 ^ k) p)
    one p e a b = ((omega arith, omega arith), ((omega arith, omega arith), ((omega arith, omega arith), ((omega arith, omega arith), tt))))

-- where submatrices lie within the sizes so do their cells, by induction on the levels: a quarter lies in its whole
cells-within : (rows cols k : ℕ) (ps : List Corner) (bits : List Bool) → AllByRecursion (λ p. (p.0 + 2 ^ suc k ≤ rows) × (p.1 + 2 ^ suc k ≤ cols)) ps
    → AreWithin rows cols (cells_below k ps bits)
cells-within rows cols zero ps bits h =
    all-weaker (λ p. (p.0 + 1 ≤ rows) × (p.1 + 1 ≤ cols)) (λ p. (p.0 < rows) × (p.1 < cols)) (λ p w. lower p w.0 w.1) (flat_map (quarters 1) ps)
    (quartered-within rows cols 0 ps h)
  where
    lower : (p : Corner) → p.0 + 1 ≤ rows → p.1 + 1 ≤ cols → (p.0 < rows) × (p.1 < cols)
    lower p a b = (omega arith, omega arith)
cells-within rows cols (suc k) ps bits h =
    let qs = flat_map (quarters (2 ^ suc k)) ps in
    cells-within rows cols k (chosen qs bits) (drop (length qs) bits)
    (all-chosen (λ p. (p.0 + 2 ^ suc k ≤ rows) × (p.1 + 2 ^ suc k ≤ cols)) qs bits (quartered-within rows cols (suc k) ps h))

none-outside : (rows cols at : ℕ) (ps : List Corner) (bits : List Bool) → AreWithin rows cols ps → cell_outside rows cols at ps bits ≡ None
none-outside rows cols at [] bits h = refl
none-outside rows cols at (p ∷ ps) [] h = refl
none-outside rows cols at (p ∷ ps) (b ∷ bits) h =
    let s = lt-ltb p.0 rows h.0.0 in
    let t = lt-ltb p.1 cols h.0.1 in
    passed b (ltb p.0 rows) (ltb p.1 cols) s t ∙ none-outside rows cols (at + 1) ps bits h.1
  where
    passed : (b s t : Bool) → s ≡ true → t ≡ true → cond (b && not (s && t)) (Some at) (cell_outside rows cols (at + 1) ps bits) ≡ cell_outside rows cols (at + 1) ps bits
    passed true s t p q = rw (p, q) refl
    passed false s t p q = refl

-- where the sizes are at least the side, no cell is outside
pub square-inside : (rows cols at k groups : ℕ) (tree cells : List Bool) → 2 ^ suc k ≤ rows → 2 ^ suc k ≤ cols
    → cell_outside rows cols at (cells_below k (take groups whole) tree) cells ≡ None
square-inside rows cols at k groups tree cells a b =
    none-outside rows cols at (cells_below k (take groups whole) tree) cells (cells-within rows cols k (take groups whole) tree (start groups))
  where
    start : (n : ℕ) → AllByRecursion (λ p. (p.0 + 2 ^ suc k ≤ rows) × (p.1 + 2 ^ suc k ≤ cols)) (take n whole)
    start zero = tt
    start (suc zero) = ((omega arith, omega arith), tt)
    start (suc (suc n)) = ((omega arith, omega arith), tt)

-- ---- the places where the levels begin, one level after another
-- the places of the levels so far stand, the others are 0, and those that are left follow
pub record AreStarts (tree : List Bool) (cell_count height first level : ℕ) (places : List ℕ) (groups from : ℕ) : Type 0 where
  pub many : length places ≡ 24
  pub low : 1 ≤ level
  pub same : take (level - 1) places ++ starts_of (height - level) groups from tree ≡ starts_of (height - 1) first 0 tree
  pub zeros : drop (level - 1) places ≡ replicate (25 - level) 0
  pub fit : levels_fit (height - level) groups (drop (4 * from) tree) cell_count ≡ true
  pub within : 4 * from ≤ length tree

pub starts-none : (tree : List Bool) (cell_count height first : ℕ) → levels_fit (height - 1) first tree cell_count ≡ true
    → AreStarts tree cell_count height first 1 (replicate 24 0) first 0
starts-none tree cell_count height first h = record { many = refl; low = omega arith; same = refl; zeros = refl; fit = h; within = omega arith }

-- the bits of the next level are there
pub starts-room : (tree : List Bool) (cell_count height first level : ℕ) (places : List ℕ) (groups from : ℕ) → AreStarts tree cell_count height first level places groups from
    → level < height → 4 * from + 4 * groups ≤ length tree
starts-room tree cell_count height first level places groups from w l =
    let bits = drop (4 * from) tree in
    let one : height - level ≡ suc (height - (level + 1)) = omega (arith, l) in
    let h = subst (λ (k : ℕ). levels_fit k groups bits cell_count ≡ true) one w.fit in
    let t = and_parts (leb (4 * groups) (length bits)) (levels_fit (height - (level + 1)) (ones (take (4 * groups) bits)) (drop (4 * groups) bits) cell_count) h in
    omega (arith, leb-true (4 * groups) (length bits) t.0, length-drop (4 * from) tree, w.within)

take-next : (n : ℕ) (xs : List ℕ) (x : ℕ) → n < length xs → take (n + 1) (set xs n x) ≡ take n xs ++ x ∷ []
take-next n xs x l = grind (arith, common_steps)

drop-next : (n m : ℕ) (xs : List ℕ) (x : ℕ) → drop n xs ≡ replicate (suc m) 0 → n < length xs → drop (n + 1) (set xs n x) ≡ replicate m 0
drop-next zero m (y ∷ xs) x h l = cc
drop-next zero m [] x h l = absurd (omega (arith, l))
drop-next (suc n) m (y ∷ xs) x h l =
    let e : suc n + 1 ≡ suc (n + 1) = omega arith in
    ap (λ (k : ℕ). drop k (set (y ∷ xs) (suc n) x)) e ∙ drop-next n m xs x h (omega (arith, l))
drop-next (suc n) m [] x h l = absurd (omega (arith, l))

-- one level more stands at its place: its bits are there, and the next level has a group for each set bit and begins
-- behind them
pub starts-more : (tree : List Bool) (cell_count height first level : ℕ) (places : List ℕ) (groups from : ℕ) → AreStarts tree cell_count height first level places groups from
    → level < height → height ≤ 24
    → AreStarts tree cell_count height first (level + 1) (set places (level - 1) from) (ones (take (4 * groups) (drop (4 * from) tree))) (from + groups)
starts-more tree cell_count height first level places groups from w l top =
    let bits = drop (4 * from) tree in
    let n = level - 1 in
    let one : height - level ≡ suc (height - (level + 1)) = omega (arith, l) in
    let h = subst (λ (k : ℕ). levels_fit k groups bits cell_count ≡ true) one w.fit in
    let t = and_parts (leb (4 * groups) (length bits)) (levels_fit (height - (level + 1)) (ones (take (4 * groups) bits)) (drop (4 * groups) bits) cell_count) h in
    let next : level + 1 - 1 ≡ n + 1 = omega (arith, w.low) in
    let at : n < length places = omega (arith, w.many, w.low, l, top) in
    let fewer : 25 - level ≡ suc (25 - (level + 1)) = omega (arith, l, top) in
    let below = starts_of (height - (level + 1)) (ones (take (4 * groups) bits)) (from + groups) tree in
    record {
      many = length-set places n from ∙ w.many;
      low = omega arith;
      same = ap (λ (k : ℕ). take k (set places n from) ++ below) next ∙ ap (λ ys. ys ++ below) (take-next n places from at)
          ∙ append_assoc (take n places) (from ∷ []) below ∙ ap (λ (k : ℕ). take n places ++ starts_of k groups from tree) (sym one) ∙ w.same;
      zeros = ap (λ (k : ℕ). drop k (set places n from)) next ∙ drop-next n (25 - (level + 1)) places from (w.zeros ∙ ap (λ (k : ℕ). replicate k 0) fewer) at;
      fit = ap (λ ys. levels_fit (height - (level + 1)) (ones (take (4 * groups) bits)) ys cell_count) (moved-on from groups tree) ∙ t.1;
      within = omega (arith, leb-true (4 * groups) (length bits) t.0, length-drop (4 * from) tree, w.within);
    }

take-last : (n m : ℕ) (xs : List ℕ) → drop n xs ≡ replicate (suc m) 0 → take (n + 1) xs ≡ take n xs ++ 0 ∷ []
take-last zero m [] h = cc
take-last zero m (x ∷ xs) h = cc
take-last (suc n) m [] h = cc
take-last (suc n) m (x ∷ xs) h =
    let e : suc n + 1 ≡ suc (n + 1) = omega arith in ap (λ (k : ℕ). take k (x ∷ xs)) e ∙ ap (λ ys. x ∷ ys) (take-last n m xs h)

pub starts-all : (tree : List Bool) (cell_count height first level : ℕ) (places : List ℕ) (groups from : ℕ) → AreStarts tree cell_count height first level places groups from
    → level ≡ height → height ≤ 24 → take height places ≡ starts_of (height - 1) first 0 tree
starts-all tree cell_count height first level places groups from w e top =
    let n = level - 1 in
    let next : height ≡ n + 1 = omega (arith, e, w.low) in
    let none : height - level ≡ 0 = omega (arith, e) in
    let fewer : 25 - level ≡ suc (24 - level) = omega (arith, e, top) in
    ap (λ (k : ℕ). take k places) next ∙ take-last n (24 - level) places (w.zeros ∙ ap (λ (k : ℕ). replicate k 0) fewer)
    ∙ ap (λ (k : ℕ). take n places ++ starts_of k groups from tree) (sym none) ∙ w.same
