-- The marks of a row: of two rows side by side, of a row of a matrix, and one more.
use Rattle.std.proofs.Common.{◌≡◌, ◌==◌, ◌&&◌, ◌*◌, ltb, inl, inr, ◌<◌, ◌≤◌, ◌+◌, ◌-◌, ◌^◌, ◌∙◌, ℕ, Bool, cond, zero, suc, List, [], ◌∷◌, ◌++◌, min, map, refl, sym, ap, arith, append_assoc}
use Rattle.std.specs.List.{range_with_len}
use Rattle.std.proofs.lemmas.List.{append-nil}
use Rattle.std.proofs.Math.Nat.{pow-suc, pow-le-pow_right}
use Rattle.std.proofs.lemmas.List.FromFn.{map-range_with_len_more}
use Rattle.std.proofs.lemmas.Bool.{lt-ltb, le-ltb, cases_lt}
use Rattle.std.specs.Int.{bit_at}
use Rattle.rel_model.specs.Cells.{Cells, bits_cells}
use Rattle.rel_model.specs.Trees.{beside, quartered}
use Rattle.rv_print.specs.Marks.{mark, marks}

-- rows that agree have the same marks
pub marks-agree : (f g : ℕ → Bool) (n : ℕ) → ((j : ℕ) → j < n → f j ≡ g j) → marks f n ≡ marks g n
marks-agree f g zero h = refl
marks-agree f g (suc n) h =
    ap (λ xs. xs ++ mark (f n) ∷ []) (marks-agree f g n (λ j l. h j (omega (arith, l)))) ∙ ap (λ b. marks g n ++ mark b ∷ []) (h n (omega arith))

-- the marks of one cell more
pub marks-more : (f : ℕ → Bool) (n x : ℕ) (old now new : List ℕ) → x ≡ mark (f n) → new ≡ now ++ x ∷ [] → now ≡ old ++ marks f n → new ≡ old ++ marks f (n + 1)
marks-more f n x old now new e h k =
    let more : suc n ≡ n + 1 = omega arith in
    h ∙ ap (λ zs. zs ++ x ∷ []) k ∙ append_assoc old (marks f n) (x ∷ []) ∙ ap (λ (m : ℕ). old ++ (marks f n ++ m ∷ [])) e ∙ ap (λ (m : ℕ). old ++ marks f m) more

-- the mark of a cell of a leaf
pub bits-mark : (side bits row j x : ℕ) → row < side → j < side → x ≡ mark (bit_at bits (side * row + j) == 1) → x ≡ mark (bits_cells side bits row j)
bits-mark side bits row j x l k e =
    e ∙ ap (λ b. mark (b && (bit_at bits (side * row + j) == 1))) (sym (lt-ltb j side k))
    ∙ ap (λ b. mark (b && (ltb j side && (bit_at bits (side * row + j) == 1)))) (sym (lt-ltb row side l))

-- the marks of a row of a matrix
pub marks-row : (f : ℕ → Bool) (n : ℕ) → marks f n ≡ map (λ j. mark (f j)) (range_with_len 0 n)
marks-row f zero = refl
marks-row f (suc n) =
    let more : n + 1 ≡ suc n = omega arith in
    ap (λ xs. xs ++ mark (f n) ∷ []) (marks-row f n) ∙ sym (map-range_with_len_more (λ j. mark (f j)) 0 n n (omega arith))
    ∙ ap (λ (k : ℕ). map (λ j. mark (f j)) (range_with_len 0 k)) more

-- the marks of one row and then of another
pub marks-append : (f g h : ℕ → Bool) (m k : ℕ) → ((j : ℕ) → j < m → h j ≡ f j) → ((j : ℕ) → j < k → h (m + j) ≡ g j) → marks h (m + k) ≡ marks f m ++ marks g k
marks-append f g h m zero a b = let same : m + 0 ≡ m = omega arith in ap (marks h) same ∙ marks-agree h f m a ∙ sym (append-nil (marks f m))
marks-append f g h m (suc k) a b =
    let more : m + suc k ≡ suc (m + k) = omega arith in
    ap (marks h) more ∙ ap (λ xs. xs ++ mark (h (m + k)) ∷ []) (marks-append f g h m k a (λ j l. b j (omega (arith, l))))
    ∙ ap (λ c. (marks f m ++ marks g k) ++ mark c ∷ []) (b k (omega arith))
    ∙ append_assoc (marks f m) (marks g k) (mark (g k) ∷ [])

-- where the first of two rows has n cells at least, only its own count
pub marks-beside : (f g : Cells) (m n row : ℕ) → marks (beside m f g row) n ≡ marks (f row) (min n m) ++ marks (g row) (n - m)
marks-beside f g m n row =
    elim (cases_lt m n) [
      | inl l ↦ (let all : min n m ≡ m = omega (arith, l) in let sum : n ≡ m + (n - m) = omega (arith, l) in
          ap (marks (beside m f g row)) sum ∙ marks-append (f row) (g row) (beside m f g row) m (n - m) west (λ j k. east j)
          ∙ ap (λ (k : ℕ). marks (f row) k ++ marks (g row) (n - m)) (sym all))
      | inr l ↦ (let few : min n m ≡ n = omega (arith, l) in let none : n - m ≡ 0 = omega (arith, l) in
          marks-agree (beside m f g row) (f row) n (λ j k. west j (omega (arith, k, l))) ∙ sym (append-nil (marks (f row) n))
          ∙ ap (λ (k : ℕ). marks (f row) n ++ marks (g row) k) (sym none) ∙ ap (λ (k : ℕ). marks (f row) k ++ marks (g row) (n - m)) (sym few))
    ]
  where
    west : (j : ℕ) → j < m → beside m f g row j ≡ f row j
    west j l = ap (λ b. cond b (f row j) (g row (j - m))) (lt-ltb j m l)

    east : (j : ℕ) → beside m f g row (m + j) ≡ g row j
    east j =
        let k : m + j - m ≡ j = omega arith in
        ap (λ b. cond b (f row (m + j)) (g row (m + j - m))) (le-ltb (m + j) m (omega arith)) ∙ ap (g row) k

-- a row of four quads is one of the northern or of the southern two
pub row-north : (m : ℕ) (a b c d : Cells) (row : ℕ) → row < m → quartered m a b c d row ≡ beside m a b row
row-north m a b c d row l = ap (λ t j. cond t (cond (ltb j m) (a row j) (b row (j - m))) (cond (ltb j m) (c (row - m) j) (d (row - m) (j - m)))) (lt-ltb row m l)

pub row-south : (m : ℕ) (a b c d : Cells) (row : ℕ) → m ≤ row → quartered m a b c d row ≡ beside m c d (row - m)
row-south m a b c d row l = ap (λ t j. cond t (cond (ltb j m) (a row j) (b row (j - m))) (cond (ltb j m) (c (row - m) j) (d (row - m) (j - m)))) (le-ltb row m l)

-- both parts of a row, where a side and two counts are those
pub two-halves : (f g : Cells) (m row cols half cut rest : ℕ) → half ≡ m → cut ≡ min cols half → rest ≡ cols - half → marks (f row) cut ++ marks (g row) rest ≡ marks (beside m f g row) cols
two-halves f g m row cols half cut rest h c r =
    let few : cut ≡ min cols m = omega (arith, h, c) in
    let more : rest ≡ cols - m = omega (arith, h, r) in
    ap (λ (k : ℕ). marks (f row) k ++ marks (g row) rest) few ∙ ap (λ (k : ℕ). marks (f row) (min cols m) ++ marks (g row) k) more ∙ sym (marks-beside f g m cols row)

-- the side of a quad is twice that of its quarters
pub twice-side : (h n : ℕ) → n + 1 ≡ h → 2 ^ h ≡ 2 ^ n + 2 ^ n
twice-side h n e =
    let more : h ≡ suc n = omega (arith, e) in
    let twice = pow-suc 2 n in
    ap (λ (k : ℕ). 2 ^ k) more ∙ omega (arith, twice)

-- the side of a leaf
pub leaf-side : (h least s : ℕ) → h ≡ least → least ≤ 3 → s ≡ 2 ^ h → s ≤ 8
leaf-side h least s e l k = let p = pow-le-pow_right {n = 2} (omega arith) {i = h} {j = 3} (omega arith) in omega (arith, p, k)
