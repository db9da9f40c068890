-- A byte written into a matrix marks a pair. The idea: a write falls into one row, and there onto one mark; rows and
-- marks before it, and those after it, are as they were.
use Rattle.std.proofs.Common.{◌≡◌, ◌≢◌, ◌==◌, ◌&&◌, ◌||◌, ◌<◌, ◌+◌, ◌-◌, ◌*◌, ◌∙◌, ◌⊎◌, inl, inr, ℕ, Bool, true, false, zero, suc, List, [], ◌∷◌, ◌++◌, length, take, get_or, refl, sym, ap, arith, append_assoc}
use Rattle.std.proofs.Math.ListN.{set}
use Rattle.std.proofs.Math.Seq.{take-suc}
use Rattle.std.proofs.Math.Nat.{mul-le-mul_right}
use Rattle.std.specs.List.{range_with_len, flat_map}
use Rattle.std.proofs.lemmas.List.{length-append, set_at, set-append_left, set-append_right}
use Rattle.std.proofs.lemmas.List.Folds.{list_any-append}
use Rattle.std.proofs.lemmas.Bool.{cases_lt}
use Rattle.std.proofs.lemmas.Bool.Decides.{nat_tests}
use Rattle.rel_model.specs.Relation.{Relation, has}
use Rattle.rel_model.specs.Listed.{AreWithin}
use Rattle.run_model.specs.Texts.{row_text, rows_text}
use Rattle.rv_print.specs.Marks.{mark, marks}
use Rattle.rv_print.specs.Listed.{with_pairs}
use Rattle.rv_print.proofs.Lines.{lines_more}
use Rattle.rv_print.proofs.Marking.{marks-agree, marks-row}

pub length-marks : (f : ℕ → Bool) (n : ℕ) → length (marks f n) ≡ n
length-marks f zero = refl
length-marks f (suc n) = length-append (marks f n) (mark (f n) ∷ []) ∙ (let here = length-marks f n in omega (arith, here))

-- a mark is set: the others are the same
pub set-marks : (f g : ℕ → Bool) (n j : ℕ) → j < n → ((k : ℕ) → k ≢ j → g k ≡ f k) → g j ≡ true → set (marks f n) j 49 ≡ marks g n
set-marks f g zero j l same is = absurd (omega (arith, l))
set-marks f g (suc n) j l same is =
    elim (cases_lt j n) [
      | inl k ↦
          set-append_left (marks f n) (mark (f n) ∷ []) j 49 (let long = length-marks f n in omega (arith, long, k))
          ∙ ap (λ xs. xs ++ mark (f n) ∷ []) (set-marks f g n j k same is)
          ∙ ap (λ b. marks g n ++ mark b ∷ []) (sym (same n (λ e. omega (arith, e, k))))
      | inr k ↦ (let here : j ≡ n = omega (arith, l, k) in
          set_at (marks f n) (mark (f n)) [] 49 j (length-marks f n ∙ sym here)
          ∙ ap (λ xs. xs ++ 49 ∷ []) (marks-agree f g n (λ i m. sym (same i (λ e. omega (arith, e, m, here)))))
          ∙ ap (λ b. marks g n ++ mark b ∷ []) (sym is ∙ ap g here))
    ]

-- the length of rows of one length
pub length-rows : (T : ℕ → List ℕ) (w n : ℕ) → ((i : ℕ) → length (T i) ≡ w) → length (flat_map T (range_with_len 0 n)) ≡ n * w
length-rows T w zero long = omega arith
length-rows T w (suc n) long =
    let more : suc n ≡ n + 1 = omega arith in
    let times : n * w + w ≡ suc n * w = grind arith in
    let before = length-rows T w n long in
    let last = long n in
    ap (λ (k : ℕ). length (flat_map T (range_with_len 0 k))) more ∙ ap length (lines_more T n)
    ∙ length-append (flat_map T (range_with_len 0 n)) (T n) ∙ omega (arith, before, last, times)

-- A byte of a row is set: the other rows are the same.
pub set-rows : (T U : ℕ → List ℕ) (w i j n : ℕ) → i < n → j < w → ((k : ℕ) → length (T k) ≡ w) → ((k : ℕ) → k ≢ i → U k ≡ T k) → set (T i) j 49 ≡ U i
    → set (flat_map T (range_with_len 0 n)) (i * w + j) 49 ≡ flat_map U (range_with_len 0 n)
set-rows T U w i j zero l m long same here = absurd (omega (arith, l))
set-rows T U w i j (suc n) l m long same here =
    let more : suc n ≡ n + 1 = omega arith in
    let before = length-rows T w n long in
    ap (λ (k : ℕ). set (flat_map T (range_with_len 0 k)) (i * w + j) 49) more ∙ ap (λ xs. set xs (i * w + j) 49) (lines_more T n)
    ∙ elim (cases_lt i n) [
      | inl k ↦
          set-append_left (flat_map T (range_with_len 0 n)) (T n) (i * w + j) 49 (in_rows w i j n _ k m before)
          ∙ ap (λ xs. xs ++ T n) (set-rows T U w i j n k m long same here)
          ∙ ap (λ xs. flat_map U (range_with_len 0 n) ++ xs) (sym (same n (λ e. omega (arith, e, k))))
      | inr k ↦ (let last : i ≡ n = omega (arith, l, k) in
          let start : length (flat_map T (range_with_len 0 n)) ≡ i * w = before ∙ ap (λ (k : ℕ). k * w) (sym last) in
          let rest : i * w + j - i * w ≡ j = omega arith in
          set-append_right (flat_map T (range_with_len 0 n)) (T n) (i * w) (i * w + j) 49 start (omega arith)
          ∙ ap (λ (k : ℕ). flat_map T (range_with_len 0 n) ++ set (T n) k 49) rest
          ∙ ap (λ (k : ℕ). flat_map T (range_with_len 0 n) ++ set (T k) j 49) (sym last)
          ∙ ap (λ xs. flat_map T (range_with_len 0 n) ++ xs) (here ∙ ap U last)
          ∙ ap (λ xs. xs ++ U n) (rows-agree T U n (λ k m. sym (same k (λ e. omega (arith, e, m, last))))))
    ] ∙ sym (lines_more U n) ∙ ap (λ (k : ℕ). flat_map U (range_with_len 0 k)) (sym more)
  where
    in_rows : (w i j n x : ℕ) → i < n → j < w → x ≡ n * w → i * w + j < x
    in_rows w i j n x l m e =
        let least = mul-le-mul_right w l in
        let times : suc i * w ≡ i * w + w = grind arith in
        omega (arith, least, times, m, e)

    rows-agree : (T U : ℕ → List ℕ) (n : ℕ) → ((k : ℕ) → k < n → T k ≡ U k) → flat_map T (range_with_len 0 n) ≡ flat_map U (range_with_len 0 n)
    rows-agree T U zero h = refl
    rows-agree T U (suc n) h =
        let more : suc n ≡ n + 1 = omega arith in
        ap (λ (k : ℕ). flat_map T (range_with_len 0 k)) more ∙ lines_more T n
        ∙ ap (λ xs. xs ++ T n) (rows-agree T U n (λ k l. h k (omega (arith, l)))) ∙ ap (λ xs. flat_map U (range_with_len 0 n) ++ xs) (h n (omega arith))
        ∙ sym (lines_more U n) ∙ ap (λ (k : ℕ). flat_map U (range_with_len 0 k)) (sym more)

row-marks : (r : Relation) (i : ℕ) → row_text r i ≡ marks (has r i) r.cols ++ 10 ∷ []
unfolding row_text
row-marks r i = ap (λ xs. xs ++ 10 ∷ []) (sym (marks-row (has r i) r.cols))

length-row : (r : Relation) (i : ℕ) → length (row_text r i) ≡ r.cols + 1
length-row r i = ap length (row-marks r i) ∙ length-append (marks (has r i) r.cols) (10 ∷ []) ∙ (let long = length-marks (has r i) r.cols in omega (arith, long))

-- the bytes of the lines of a matrix
pub length-text : (r : Relation) → length (rows_text r) ≡ r.rows * (r.cols + 1)
unfolding rows_text
length-text r = length-rows (row_text r) (r.cols + 1) r.rows (length-row r)

-- A pair is marked: the relation with it is written.
set-text : (m n i j : ℕ) (ps qs : List (ℕ × ℕ)) → i < m → j < n
    → ((a b : ℕ) → (a ≢ i) ⊎ (b ≢ j) → has (with_pairs m n qs) a b ≡ has (with_pairs m n ps) a b) → has (with_pairs m n qs) i j ≡ true
    → set (rows_text (with_pairs m n ps)) (i * (n + 1) + j) 49 ≡ rows_text (with_pairs m n qs)
unfolding rows_text
set-text m n i j ps qs l k same is =
    let r = with_pairs m n ps in
    let s = with_pairs m n qs in
    set-rows (row_text r) (row_text s) (n + 1) i j m l (omega (arith, k)) (length-row r)
    (λ a d. row-marks s a ∙ ap (λ xs. xs ++ 10 ∷ []) (marks-agree (has s a) (has r a) n (λ b h. same a b (inl d))) ∙ sym (row-marks r a))
    (ap (λ xs. set xs j 49) (row-marks r i)
    ∙ set-append_left (marks (has r i) n) (10 ∷ []) j 49 (let long = length-marks (has r i) n in omega (arith, long, k))
    ∙ ap (λ xs. xs ++ 10 ∷ []) (set-marks (has r i) (has s i) n j k (λ b d. same i b (inr d)) is) ∙ sym (row-marks s i))

yes : (x : ℕ) → (x == x) ≡ true
yes x = let e : x ≡ x = refl in grind (arith, nat_tests, e)

no : (x a : ℕ) → a ≢ x → (x == a) ≡ false
no x a e = grind (arith, nat_tests, e)

or_nothing : (b : Bool) → (b || false) ≡ b
or_nothing true = refl
or_nothing false = refl

or_all : (b : Bool) → (b || true) ≡ true
or_all true = refl
or_all false = refl

and_nothing : (b : Bool) → (b && false) ≡ false
and_nothing true = refl
and_nothing false = refl

-- one pair more
has-more : (m n : ℕ) (ps : List (ℕ × ℕ)) (p : ℕ × ℕ) (a b : ℕ) → has (with_pairs m n (ps ++ p ∷ [])) a b ≡ (has (with_pairs m n ps) a b || ((p.0 == a) && (p.1 == b)))
has-more m n ps p a b = list_any-append (λ q. (q.0 == a) && (q.1 == b)) ps (p ∷ []) ∙ ap (λ x. has (with_pairs m n ps) a b || x) (or_nothing ((p.0 == a) && (p.1 == b)))

-- The k-th pair is marked.
pub set-pair : (m n k : ℕ) (ps : List (ℕ × ℕ)) (d : ℕ × ℕ) → k < length ps → (get_or ps k d).0 < m → (get_or ps k d).1 < n
    → set (rows_text (with_pairs m n (take k ps))) ((get_or ps k d).0 * (n + 1) + (get_or ps k d).1) 49 ≡ rows_text (with_pairs m n (take (k + 1) ps))
set-pair m n k ps d l row col =
    let p = get_or ps k d in
    let more : suc k ≡ k + 1 = omega arith in
    set-text m n p.0 p.1 (take k ps) (take k ps ++ p ∷ []) row col (other p) (here p)
    ∙ ap (λ xs. rows_text (with_pairs m n xs)) (sym (take-suc ps k d l)) ∙ ap (λ (c : ℕ). rows_text (with_pairs m n (take c ps))) more
  where
    other : (p : ℕ × ℕ) (a b : ℕ) → (a ≢ p.0) ⊎ (b ≢ p.1) → has (with_pairs m n (take k ps ++ p ∷ [])) a b ≡ has (with_pairs m n (take k ps)) a b
    other p a b (inl e) =
        has-more m n (take k ps) p a b ∙ ap (λ x. has (with_pairs m n (take k ps)) a b || (x && (p.1 == b))) (no p.0 a e) ∙ or_nothing (has (with_pairs m n (take k ps)) a b)
    other p a b (inr e) =
        has-more m n (take k ps) p a b ∙ ap (λ x. has (with_pairs m n (take k ps)) a b || ((p.0 == a) && x)) (no p.1 b e)
        ∙ ap (λ x. has (with_pairs m n (take k ps)) a b || x) (and_nothing (p.0 == a)) ∙ or_nothing (has (with_pairs m n (take k ps)) a b)

    here : (p : ℕ × ℕ) → has (with_pairs m n (take k ps ++ p ∷ [])) p.0 p.1 ≡ true
    here p =
        has-more m n (take k ps) p p.0 p.1 ∙ ap (λ x. has (with_pairs m n (take k ps)) p.0 p.1 || (x && (p.1 == p.1))) (yes p.0)
        ∙ ap (λ x. has (with_pairs m n (take k ps)) p.0 p.1 || x) (yes p.1) ∙ or_all (has (with_pairs m n (take k ps)) p.0 p.1)

-- the row of a relation without pairs
pub blank-row : (m n i : ℕ) → row_text (with_pairs m n []) i ≡ marks (λ j. false) n ++ 10 ∷ []
blank-row m n i = row-marks (with_pairs m n []) i

-- one line more without a pair
pub blank-more : (m n k : ℕ) (old now mid new : List ℕ) → now ≡ old ++ flat_map (row_text (with_pairs m n [])) (range_with_len 0 k)
    → mid ≡ now ++ marks (λ j. false) n → new ≡ mid ++ 10 ∷ [] → new ≡ old ++ flat_map (row_text (with_pairs m n [])) (range_with_len 0 (k + 1))
blank-more m n k old now mid new h e f =
    let T = row_text (with_pairs m n []) in
    let L = flat_map T (range_with_len 0 k) in
    let M = marks (λ j. false) n in
    f ∙ ap (λ xs. xs ++ 10 ∷ []) (e ∙ ap (λ xs. xs ++ M) h ∙ append_assoc old L M) ∙ append_assoc old (L ++ M) (10 ∷ [])
    ∙ ap (λ xs. old ++ xs) (append_assoc L M (10 ∷ []) ∙ ap (λ xs. L ++ xs) (sym (blank-row m n k)) ∙ sym (lines_more T k))

-- each of listed pairs lies within the sizes
pub within-at : (m n : ℕ) (ps : List (ℕ × ℕ)) (k : ℕ) (d : ℕ × ℕ) → k < length ps → AreWithin m n ps → ((get_or ps k d).0 < m) × ((get_or ps k d).1 < n)
within-at m n [] k d l w = absurd (omega (arith, l))
within-at m n (p ∷ ps) zero d l w = w.0
within-at m n (p ∷ ps) (suc k) d l w = within-at m n ps k d (omega (arith, l)) w.1

-- the cell of a pair is one of the bytes
pub place-inside : (m n k : ℕ) (ps : List (ℕ × ℕ)) (d : ℕ × ℕ) (cells : List ℕ) (place : ℕ) → k < length ps → AreWithin m n ps
    → cells ≡ rows_text (with_pairs m n (take k ps)) → place ≡ (get_or ps k d).0 * (n + 1) + (get_or ps k d).1 → place < length cells
place-inside m n k ps d cells place l w e f =
    let p = within-at m n ps k d l w in
    let least = mul-le-mul_right (n + 1) p.0 in
    let long = ap length e ∙ length-text (with_pairs m n (take k ps)) in
    let times : suc (get_or ps k d).0 * (n + 1) ≡ (get_or ps k d).0 * (n + 1) + (n + 1) = grind arith in
    omega (arith, least, times, p.1, f, long)

-- the k-th pair is marked at its place
pub place-marked : (m n k : ℕ) (ps : List (ℕ × ℕ)) (d : ℕ × ℕ) (cells : List ℕ) (place : ℕ) → k < length ps → AreWithin m n ps
    → cells ≡ rows_text (with_pairs m n (take k ps)) → place ≡ (get_or ps k d).0 * (n + 1) + (get_or ps k d).1
    → set cells place 49 ≡ rows_text (with_pairs m n (take (k + 1) ps))
place-marked m n k ps d cells place l w e f =
    let p = within-at m n ps k d l w in
    ap (λ xs. set xs place 49) e ∙ ap (λ (x : ℕ). set (rows_text (with_pairs m n (take k ps))) x 49) f ∙ set-pair m n k ps d l p.0 p.1
