-- Tables of joined rows, and a composition by them, four rows at a time: the method of the four Russians (Arlazarov,
-- Dinic, Kronrod and Faradzhev 1970).
-- 1. Four bits of a word are a number below 16, and that number is the entry that joins the rows of these bits.
-- 2. An entry is that without the first of its bits, joined with the row of this bit: so each is made by one before it.
-- 3. Sixteen entries, one of each table, join all rows that the 64 bits of a word pick.
-- 4. The words of each row of the first square one after another add up to the composition.
use Rattle.std.proofs.Common.{◌≡◌, ◌<◌, ◌≤◌, ◌+◌, ◌-◌, ◌*◌, ◌/◌, ◌%◌, ◌^◌, ◌&&◌, ◌||◌, min, eqb, ℕ, Bool, true, false, List, length, refl, sym, ap, subst, ◌∙◌, inl, inr, arith, get_or, set, bit_and}
use Rattle.std.specs.Int.{bit_at}
use Rattle.std.proofs.lemmas.Bool.{false≢true, cases_lt, cases_eq, and_left}
use Rattle.std.proofs.lemmas.Nat.{and_le_r}
use Rattle.std.proofs.lemmas.Nat.Bits.{bit_at-zero, bit_at_above, bit_at_and, bit_at_ones, bit_at-lt}
use Rattle.std.proofs.lemmas.List.{length-set, get_or-set_same, get_or-set_other, get_or_default}
use Rattle.rel_model.specs.Cells.{some_below, cells_union, cells_compose}
use Rattle.rel_model.proofs.Somes.{some_none, some_agree}
use Rattle.leaf_block.proofs.Bits.{bit-shr}
use Rattle.leaf_block.proofs.Sets.{same_cells}
use Rattle.bit_rows.specs.declared.row.Row.{Row}
use Rattle.bit_rows.specs.Rows.{has_bit, row_has, no_row, rows_cells, IsSplit, picks}
use Rattle.bit_rows.specs.Tables.{IsFourOf, picks_first, AreTables, word_product}
use Rattle.bit_rows.proofs.Rows.{row_has-0, row_has-1, row_has-2, row_has-3, row_has-none, rows_cells-past, some_split, some_taken}
use Rattle.bit_rows.proofs.Places.{no_bit}

or_false : (a : Bool) → a ≡ (a || false)
or_false true = refl
or_false false = refl

or_assoc : (a b c : Bool) → ((a || b) || c) ≡ (a || (b || c))
or_assoc true b c = refl
or_assoc false b c = refl

-- ---- four bits
pub four_of_word : (w from : ℕ) → IsFourOf w from (bit_and (w / 2 ^ from) 15)
four_of_word w from = record {
  small = (let l = and_le_r (w / 2 ^ from) 15 in omega arith);
  bits = λ k l. ap (λ (v : ℕ). eqb v 1)
      (bit_at_and (w / 2 ^ from) 15 k
      ∙ ap (λ (v : ℕ). min (bit_at (w / 2 ^ from) k) v) (bit_at_ones 4 k l)
      ∙ one_less (bit_at (w / 2 ^ from) k) (bit_at-lt (w / 2 ^ from) k)
      ∙ bit-shr w from k);
}
  where
    one_less : (x : ℕ) → x < 2 → min x 1 ≡ x
    one_less x l = omega arith

pub split_below : (m k rest : ℕ) → m < 16 → IsSplit m k rest → k < 4
split_below m k rest l s = elim (cases_lt k 4) [
  | inl b ↦ b
  | inr b ↦ absurd (false≢true (sym (no_bit m k (bit_at_above m 4 k (omega arith) b)) ∙ s.here))
]

-- ---- entries
pub picks_first-none : (n : ℕ) (rows : List Row) (from w j : ℕ) → w ≡ 0 → picks_first n rows from w j ≡ false
unfolding picks_first
picks_first-none n rows from w j e = some_none n (λ k. has_bit w k && rows_cells rows (from + k) j)
    (λ k l. and_left (has_bit w k) (rows_cells rows (from + k) j) (ap (λ (v : ℕ). has_bit v k) e ∙ no_bit 0 k (bit_at-zero k)))

pub picks_first-split : (n : ℕ) (rows : List Row) (from w k rest j : ℕ) → k < n → n ≤ 64 → IsSplit w k rest
    → picks_first n rows from w j ≡ (rows_cells rows (from + k) j || picks_first n rows from rest j)
unfolding picks_first
picks_first-split n rows from w k rest j b m s =
    let t : ℕ → Bool = λ i. has_bit w i && rows_cells rows (from + i) j in
    let u : ℕ → Bool = λ i. has_bit rest i && rows_cells rows (from + i) j in
    some_taken n k t u b
    (λ i l d. ap (λ (x : Bool). x && rows_cells rows (from + i) j) (s.others i (omega arith) d))
    (ap (λ (x : Bool). x && rows_cells rows (from + k) j) s.gone)
    ∙ ap (λ (x : Bool). (x && rows_cells rows (from + k) j) || some_below n u) s.here

-- the entry of no row
pub entry_none : (rows : List Row) (from m j : ℕ) (r : Row) → m ≡ 0 → r ≡ no_row → row_has r j ≡ picks_first 4 rows from m j
entry_none rows from m j r e z = ap (λ (x : Row). row_has x j) z ∙ row_has-none j ∙ sym (picks_first-none 4 rows from m j e)

-- an entry by one before it
pub entry_more : (rows tables : List Row) (from e m k rest : ℕ) (r c d : Row) → e < 256 → length tables ≡ 256 → from + 64 ≤ length rows → AreTables rows from tables e
    → m ≡ e % 16 → k < 4 → IsSplit m k rest
    → ((j : ℕ) → row_has r j ≡ (row_has (get_or rows (from + 4 * (e / 16) + k) c) j || row_has (get_or tables (e - m + rest) d) j))
    → (j : ℕ) → row_has r j ≡ picks_first 4 rows (from + 4 * (e / 16)) (e % 16) j
entry_more rows tables from e m k rest r c d l n o t y b s f j =
    let v = s.smaller in
    let p : from + 4 * (e / 16) + k < length rows = omega arith in
    let q : e - m + rest < length tables = omega arith in
    let i : e - m + rest < e = omega arith in
    let g : (e - m + rest) / 16 ≡ e / 16 = omega arith in
    let h : (e - m + rest) % 16 ≡ rest = omega arith in
    f j
    ∙ ap (λ (x : Row). row_has x j || row_has (get_or tables (e - m + rest) d) j) (get_or_default rows (from + 4 * (e / 16) + k) c no_row p)
    ∙ ap (λ (x : Row). rows_cells rows (from + 4 * (e / 16) + k) j || row_has x j) (get_or_default tables (e - m + rest) d no_row q)
    ∙ ap (λ (x : Bool). rows_cells rows (from + 4 * (e / 16) + k) j || x)
    (t (e - m + rest) j i
    ∙ ap (λ (x : ℕ). picks_first 4 rows (from + 4 * x) ((e - m + rest) % 16) j) g
    ∙ ap (λ (x : ℕ). picks_first 4 rows (from + 4 * (e / 16)) x j) h)
    ∙ sym (picks_first-split 4 rows (from + 4 * (e / 16)) m k rest j b (omega arith) s)
    ∙ ap (λ (x : ℕ). picks_first 4 rows (from + 4 * (e / 16)) x j) y

-- ---- the tables, made entry by entry
pub record AreFilled (rows : List Row) (from : ℕ) (tables : List Row) (n : ℕ) : Type 0 where
  pub len : length tables ≡ 256
  pub entries : AreTables rows from tables n

pub filled_none : (rows : List Row) (from : ℕ) (tables : List Row) → length tables ≡ 256 → AreFilled rows from tables 0
filled_none rows from tables l = record { len = l; entries = λ e j h. absurd (omega arith) }

pub filled_more : (rows : List Row) (from : ℕ) (tables : List Row) (n : ℕ) (r : Row) → n < 256 → AreFilled rows from tables n
    → ((j : ℕ) → row_has r j ≡ picks_first 4 rows (from + 4 * (n / 16)) (n % 16) j) → AreFilled rows from (set tables n r) (n + 1)
filled_more rows from tables n r l s f = record {
  len = length-set tables n r ∙ s.len;
  entries = λ e j h. elim (cases_eq e n) [
    | inl q ↦ (let i : n < length tables = (let a = s.len in omega arith) in
        subst (λ (x : ℕ). rows_cells (set tables n r) x j ≡ picks_first 4 rows (from + 4 * (x / 16)) (x % 16) j) (sym q)
        (ap (λ (x : Row). row_has x j) (get_or-set_same tables n r no_row i) ∙ f j))
    | inr d ↦ ap (λ (x : Row). row_has x j) (get_or-set_other tables n e r no_row d) ∙ s.entries e j (omega arith)
  ];
}

pub filled_all : (rows : List Row) (from : ℕ) (tables : List Row) (n : ℕ) → 256 ≤ n → AreFilled rows from tables n → AreTables rows from tables 256
filled_all rows from tables n l s e j h = s.entries e j (omega arith)

-- ---- the rows of a word, four bits at a time
pub picks_first-start : (rows : List Row) (from w j n : ℕ) → n ≡ 0 → picks_first n rows from w j ≡ false
unfolding picks_first
picks_first-start rows from w j n e = ap (λ (m : ℕ). some_below m (λ k. has_bit w k && rows_cells rows (from + k) j)) e

pub picks_first-all : (rows : List Row) (from w j : ℕ) → picks_first 64 rows from w j ≡ picks rows from w j
unfolding picks picks_first
picks_first-all rows from w j = refl

-- four more bits of a word pick four more rows: the or over 4 * g + 4 bits splits after the first 4 * g
pub picks_first-more : (rows : List Row) (from w g m j : ℕ) → IsFourOf w (4 * g) m
    → picks_first (4 * (g + 1)) rows from w j ≡ (picks_first (4 * g) rows from w j || picks_first 4 rows (from + 4 * g) m j)
unfolding picks_first
picks_first-more rows from w g m j s =
    let t : ℕ → Bool = λ k. has_bit w k && rows_cells rows (from + k) j in
    let u : ℕ → Bool = λ k. has_bit m k && rows_cells rows (from + 4 * g + k) j in
    let e : 4 * (g + 1) ≡ 4 * g + 4 = omega arith in
    ap (λ (n : ℕ). some_below n t) e
    ∙ some_split (4 * g) 4 t
    ∙ ap (λ (x : Bool). some_below (4 * g) t || x) (some_agree 4 (λ k. t (4 * g + k)) u (λ k l.
    let a : from + (4 * g + k) ≡ from + 4 * g + k = omega arith in
    ap (λ (x : Bool). x && rows_cells rows (from + (4 * g + k)) j) (sym (s.bits k l))
    ∙ ap (λ (n : ℕ). has_bit m k && rows_cells rows n j) a))

pub looked_none : (rows : List Row) (from w j n : ℕ) (a : Bool) → n ≡ 0 → a ≡ (a || picks_first n rows from w j)
looked_none rows from w j n a e = or_false a ∙ ap (λ (x : Bool). a || x) (sym (picks_first-start rows from w j n e))

-- one more entry
pub looked_more : (rows tables : List Row) (from w g m : ℕ) (sum all next d : Row) → g < 16 → length tables ≡ 256 → AreTables rows from tables 256 → IsFourOf w (4 * g) m
    → ((j : ℕ) → row_has next j ≡ (row_has all j || row_has (get_or tables (16 * g + m) d) j))
    → ((j : ℕ) → row_has all j ≡ (row_has sum j || picks_first (4 * g) rows from w j))
    → (j : ℕ) → row_has next j ≡ (row_has sum j || picks_first (4 * (g + 1)) rows from w j)
looked_more rows tables from w g m sum all next d l n t s f i j =
    let b = s.small in
    let p : 16 * g + m < length tables = omega arith in
    let q : 16 * g + m < 256 = omega arith in
    let x : (16 * g + m) / 16 ≡ g = omega arith in
    let y : (16 * g + m) % 16 ≡ m = omega arith in
    f j
    ∙ ap (λ (r : Row). row_has all j || row_has r j) (get_or_default tables (16 * g + m) d no_row p)
    ∙ ap (λ (v : Bool). row_has all j || v)
    (t (16 * g + m) j q
    ∙ ap (λ (v : ℕ). picks_first 4 rows (from + 4 * v) ((16 * g + m) % 16) j) x
    ∙ ap (λ (v : ℕ). picks_first 4 rows (from + 4 * g) v j) y)
    ∙ ap (λ (v : Bool). v || picks_first 4 rows (from + 4 * g) m j) (i j)
    ∙ or_assoc (row_has sum j) _ _
    ∙ ap (λ (v : Bool). row_has sum j || v) (sym (picks_first-more rows from w g m j s))

pub looked_all : (rows : List Row) (from w j n : ℕ) (a b : Bool) → n ≡ 64 → a ≡ (b || picks_first n rows from w j) → a ≡ (b || picks rows from w j)
looked_all rows from w j n a b e h =
    h ∙ ap (λ (x : Bool). b || x) (ap (λ (m : ℕ). picks_first m rows from w j) e ∙ picks_first-all rows from w j)

-- ---- the words of a row
pub word_0 : (r : Row) (q : ℕ) → q ≡ 0 → (k : ℕ) → k < 64 → has_bit r.w0 k ≡ row_has r (64 * q + k)
word_0 r q e k l = let n : k ≡ 64 * q + k = omega arith in sym (row_has-0 r k l) ∙ ap (row_has r) n

pub word_1 : (r : Row) (q : ℕ) → q ≡ 1 → (k : ℕ) → k < 64 → has_bit r.w1 k ≡ row_has r (64 * q + k)
word_1 r q e k l = let n : 64 + k ≡ 64 * q + k = omega arith in sym (row_has-1 r k l) ∙ ap (row_has r) n

pub word_2 : (r : Row) (q : ℕ) → q ≡ 2 → (k : ℕ) → k < 64 → has_bit r.w2 k ≡ row_has r (64 * q + k)
word_2 r q e k l = let n : 128 + k ≡ 64 * q + k = omega arith in sym (row_has-2 r k l) ∙ ap (row_has r) n

pub word_3 : (r : Row) (q : ℕ) → q ≡ 3 → (k : ℕ) → k < 64 → has_bit r.w3 k ≡ row_has r (64 * q + k)
word_3 r q e k l = let n : 192 + k ≡ 64 * q + k = omega arith in sym (row_has-3 r k l) ∙ ap (row_has r) n

-- what a word of a row picks is its part of the composition
pub picks-word : (a b : List Row) (q i w j : ℕ) (d : Row) → i < length a → ((k : ℕ) → k < 64 → has_bit w k ≡ row_has (get_or a i d) (64 * q + k))
    → picks b (64 * q) w j ≡ word_product a b q i j
unfolding picks word_product
picks-word a b q i w j d l f =
    some_agree 64 (λ k. has_bit w k && rows_cells b (64 * q + k) j) (λ k. rows_cells a i (64 * q + k) && rows_cells b (64 * q + k) j)
    (λ k h. ap (λ (x : Bool). x && rows_cells b (64 * q + k) j) (f k h ∙ ap (λ (r : Row). row_has r (64 * q + k)) (get_or_default a i d no_row l)))

pub word_product-past : (a b : List Row) (q i j : ℕ) → length a ≤ i → word_product a b q i j ≡ false
unfolding word_product
word_product-past a b q i j l = some_none 64 (λ k. rows_cells a i (64 * q + k) && rows_cells b (64 * q + k) j)
    (λ k h. and_left (rows_cells a i (64 * q + k)) _ (rows_cells-past a i (64 * q + k) l))

-- ---- rows to which the part of one word is added
-- the first i rows have the part added, and the others are as they were
pub record AreWordAdded (old a b : List Row) (q : ℕ) (new : List Row) (i : ℕ) : Type 0 where
  pub len : length new ≡ 256
  pub below : (k j : ℕ) → k < i → rows_cells new k j ≡ (rows_cells old k j || word_product a b q k j)
  pub above : (k : ℕ) → i ≤ k → get_or new k no_row ≡ get_or old k no_row

pub word_none : (old a b : List Row) (q : ℕ) → length old ≡ 256 → AreWordAdded old a b q old 0
word_none old a b q e = record { len = e; below = λ k j h. absurd (omega arith); above = λ k h. refl }

-- one row more has the product of word q added: row i is replaced, and all others are as they were
pub word_more : (old a b : List Row) (q : ℕ) (new : List Row) (i w : ℕ) (r d e : Row) → i < 256 → length a ≡ 256 → AreWordAdded old a b q new i
    → ((k : ℕ) → k < 64 → has_bit w k ≡ row_has (get_or a i e) (64 * q + k))
    → ((j : ℕ) → row_has r j ≡ (row_has (get_or new i d) j || picks b (64 * q) w j)) → AreWordAdded old a b q (set new i r) (i + 1)
word_more old a b q new i w r d e l m s g f =
    let n : i < length new = (let x = s.len in omega arith) in
    let o : i < length a = omega arith in
    record {
      len = length-set new i r ∙ s.len;
      below = λ k j h. elim (cases_eq k i) [
        | inl y ↦ subst (λ (x : ℕ). rows_cells (set new i r) x j ≡ (rows_cells old x j || word_product a b q x j)) (sym y)
            (ap (λ (x : Row). row_has x j) (get_or-set_same new i r no_row n) ∙ f j
            ∙ ap (λ (x : Row). row_has x j || picks b (64 * q) w j) (get_or_default new i d no_row n ∙ s.above i (omega arith))
            ∙ ap (λ (x : Bool). rows_cells old i j || x) (picks-word a b q i w j e o g))
        | inr y ↦ ap (λ (x : Row). row_has x j) (get_or-set_other new i k r no_row y) ∙ s.below k j (omega arith)
      ];
      above = λ k h. get_or-set_other new i k r no_row (λ y. omega arith) ∙ s.above k (omega arith);
    }

-- after 256 rows each row has the product added: those past the end are empty on both sides
pub word_all : (old a b : List Row) (q : ℕ) (new : List Row) (i : ℕ) → length old ≡ 256 → length a ≡ 256 → 256 ≤ i → AreWordAdded old a b q new i
    → (k j : ℕ) → rows_cells new k j ≡ (rows_cells old k j || word_product a b q k j)
word_all old a b q new i m n l s k j = elim (cases_lt k 256) [
  | inl h ↦ s.below k j (omega arith)
  | inr h ↦ rows_cells-past new k j (let x = s.len in omega arith)
      ∙ sym (or_both (rows_cells-past old k j (omega arith)) (word_product-past a b q k j (omega arith)))
]
  where
    or_both : {x y : Bool} → x ≡ false → y ≡ false → (x || y) ≡ false
    or_both p q = rw (p, q) refl

-- ---- the words one after another
pub record AreWordsAdded (old a b new tables : List Row) (q : ℕ) : Type 0 where
  pub len : length new ≡ 256
  pub tables_len : length tables ≡ 256
  pub cells : (i j : ℕ) → rows_cells new i j ≡ (rows_cells old i j || cells_compose (64 * q) (rows_cells a) (rows_cells b) i j)

pub words_none : (old a b tables : List Row) → length old ≡ 256 → length tables ≡ 256 → AreWordsAdded old a b old tables 0
words_none old a b tables l m = record { len = l; tables_len = m; cells = λ i j. or_false (rows_cells old i j) }

-- the middle elements of one word more
compose-more : (a b : List Row) (q i j : ℕ) → cells_compose (64 * (q + 1)) (rows_cells a) (rows_cells b) i j
    ≡ (cells_compose (64 * q) (rows_cells a) (rows_cells b) i j || word_product a b q i j)
unfolding word_product
compose-more a b q i j =
    let t : ℕ → Bool = λ k. rows_cells a i k && rows_cells b k j in
    let e : 64 * (q + 1) ≡ 64 * q + 64 = omega arith in
    ap (λ (n : ℕ). some_below n t) e ∙ some_split (64 * q) 64 t

pub words_more : (old a b new next tables tables_next : List Row) (q : ℕ) → length next ≡ 256 → length tables_next ≡ 256 → AreWordsAdded old a b new tables q
    → ((i j : ℕ) → rows_cells next i j ≡ (rows_cells new i j || word_product a b q i j)) → AreWordsAdded old a b next tables_next (q + 1)
words_more old a b new next tables tables_next q l m s f = record {
  len = l;
  tables_len = m;
  cells = λ i j. f i j
      ∙ ap (λ (x : Bool). x || word_product a b q i j) (s.cells i j)
      ∙ or_assoc (rows_cells old i j) _ _
      ∙ ap (λ (x : Bool). rows_cells old i j || x) (sym (compose-more a b q i j));
}

pub words_all : (old a b new tables : List Row) (q : ℕ) → length b ≡ 256 → q ≡ 4 → AreWordsAdded old a b new tables q
    → rows_cells new ≡ cells_union (rows_cells old) (cells_compose (length b) (rows_cells a) (rows_cells b))
words_all old a b new tables q l e s =
    let n : 64 * q ≡ length b = omega arith in
    same_cells _ _ (λ i j. s.cells i j ∙ ap (λ (m : ℕ). rows_cells old i j || cells_compose m (rows_cells a) (rows_cells b) i j) n)
