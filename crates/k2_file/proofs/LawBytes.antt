-- Bytes without a fault are those of their relation.
-- 1. Where no test fails, each test passes.
-- 2. So the bits of the file are those of the tree of its relation.
-- 3. And the header's bytes are those of its numbers, and the others those of the bits.
use Rattle.std.proofs.Common.{◌≡◌, ◌+◌, ◌-◌, ◌*◌, ◌^◌, ◌<◌, ◌≤◌, ℕ, zero, suc, Bool, true, false, cond, List, [], ◌∷◌, ◌++◌, length, take, drop, get_or, codes, Option, Some, None, refl, sym, ap, ◌∙◌, arith}
use Rattle.std.specs.List.{AllByRecursion, list_any}
use Rattle.std.specs.Int.{w32, w64, to_be_bytes, from_be_bytes}
use Rattle.std.proofs.lemmas.Bool.{leb-true, eqb-true}
use Rattle.std.proofs.lemmas.Slice.Eq.{bytes_eq-Decides}
use Rattle.std.proofs.lemmas.Nat.{be_bytes_4, be_bytes_8}
use Rattle.std.proofs.lemmas.List.{length-take-le, length-drop, take_all, drop_more}
use Rattle.std.proofs.Math.Seq.{take-add}
use Rattle.lang_model.specs.Missing.{first_of_both}
use Rattle.rel_model.specs.Relation.{Relation}
use Rattle.rel_model.specs.Listed.{AreWithin}
use Rattle.run_model.specs.declared.outcome.BadFile.{BadFile}
use Rattle.run_model.specs.declared.outcome.BadFile.TheVariants.{Lengths, ZeroGroup, Outside}
use Rattle.run_model.specs.Files.{Corner, whole, meets, inner_bits, cell_bits, tree_part, cell_part, file_height, first_groups, packed, bytes_for, part, header_length, fields, ones, levels_fit, zero_group, chosen, cells_below, cells_told, cell_outside, unless, found_at, first_of_all, k2, k2_fault, k2_relation}
use Rattle.k2_file.specs.Told.{groups_of, header_fault, outside_fault, end_fault, end_of, pairs_told}
use Rattle.k2_file.proofs.ReadFaults.{level_fault, fault-parts}
use Rattle.k2_file.proofs.ReadHeader.{five, five-header, rows-is, cols-is, height-is, tree_count-is, cell_count-is}
use Rattle.k2_file.proofs.ReadListed.{two, two-end, tree-is, cells-is, rows-of, cols-of}
use Rattle.k2_file.proofs.ReadBits.{length-unpacked}
use Rattle.k2_file.proofs.ReadLevels.{groups-few}
use Rattle.k2_file.proofs.ReadWalk.{within-chosen}
use Rattle.k2_file.proofs.ReadApart.{apart-whole}
use Rattle.k2_file.proofs.LawBits.{packed-take}
use Rattle.k2_file.proofs.LawTree.{level, lies}
use Rattle.k2_file.proofs.LawBack.{in_cells}
use Rattle.k2_file.proofs.LawClimb.{Back, back, any-relation}
use Rattle.k2_file.proofs.LawFile.{head, deep, k2-parts, tree-part, cell-part}

-- ---- where no test fails, each passes
both-none : (a b : Option BadFile) → first_of_both a b ≡ None → (a ≡ None) × (b ≡ None)
both-none None b h = (refl, h)
both-none (Some x) b h = (h, cc)

five-back : (a b c d e : Bool) → five a b c d e ≡ None → (a ≡ true) × (b ≡ true) × (c ≡ true) × (d ≡ true) × (e ≡ true)
unfolding five
five-back true true true true true h = (refl, refl, refl, refl, refl)
five-back true true true true false h = cc
five-back true true true false e h = cc
five-back true true false d e h = cc
five-back true false c d e h = cc
five-back false b c d e h = cc

two-back : (a b c : Bool) → two a b c ≡ None → (a ≡ true) × (b ≡ true) × (c ≡ true)
unfolding two
two-back true true true h = (refl, refl, refl)
two-back true true false h = cc
two-back true false c h = cc
two-back false b c h = cc

found-back : (z : Option ℕ) → found_at ZeroGroup z ≡ None → z ≡ None
found-back None h = refl
found-back (Some at) h = cc

outside-back : (z : Option ℕ) → found_at Outside z ≡ None → z ≡ None
outside-back None h = refl
outside-back (Some at) h = cc

levels-back : (t : Bool) (z : Option ℕ) → first_of_all (unless t Lengths ∷ found_at ZeroGroup z ∷ []) ≡ None → (t ≡ true) × (z ≡ None)
levels-back true z h = (refl, found-back z (both-none (found_at ZeroGroup z) None h).0)
levels-back false z h = cc

-- what passes
record Passes (bytes : List ℕ) : Type 0 where
  long : 29 ≤ length bytes
  name : take 4 bytes ≡ codes "RVK1"
  high : (fields bytes).height ≡ file_height (fields bytes).rows (fields bytes).cols
  fit : levels_fit ((fields bytes).height - 1) (groups_of (fields bytes).tree_count (fields bytes).cell_count) (take (fields bytes).tree_count (fields bytes).tree) (fields bytes).cell_count ≡ true
  groups : zero_group 0 (take (fields bytes).tree_count (fields bytes).tree ++ take (fields bytes).cell_count (fields bytes).cells) ≡ None
  inside : cell_outside (fields bytes).rows (fields bytes).cols (fields bytes).tree_count (cells_told (fields bytes)) (take (fields bytes).cell_count (fields bytes).cells) ≡ None
  tree_end : ones (drop (fields bytes).tree_count (fields bytes).tree) ≡ 0
  cell_end : ones (drop (fields bytes).cell_count (fields bytes).cells) ≡ 0
  end : length bytes ≡ end_of bytes

-- bytes without a fault pass each test: none of the groups of tests has a fault, and so no test of a group
passes : (bytes : List ℕ) → k2_fault bytes ≡ None → Passes bytes
unfolding level_fault outside_fault
passes bytes h =
    let f = fields bytes in
    let a = both-none (header_fault bytes) (first_of_both (level_fault bytes) (first_of_both (outside_fault bytes) (end_fault bytes))) (sym (fault-parts bytes) ∙ h) in
    let b = both-none (level_fault bytes) (first_of_both (outside_fault bytes) (end_fault bytes)) a.1 in
    let c = both-none (outside_fault bytes) (end_fault bytes) b.1 in
    let t = five-back _ _ _ _ _ (sym (five-header bytes) ∙ a.0) in
    let u = levels-back (levels_fit (f.height - 1) (first_groups f) (take f.tree_count f.tree) f.cell_count) (zero_group 0 (take f.tree_count f.tree ++ take f.cell_count f.cells)) b.0 in
    let v = two-back _ _ _ (sym (two-end bytes) ∙ c.1) in
    record {
      long = leb-true 29 (length bytes) t.0;
      name = (bytes_eq-Decides (take 4 bytes) (codes "RVK1")).0 t.1;
      high = eqb-true f.height (file_height f.rows f.cols) t.3;
      fit = u.0;
      groups = u.1;
      inside = outside-back _ c.0;
      tree_end = eqb-true _ 0 v.0;
      cell_end = eqb-true _ 0 v.1;
      end = eqb-true (length bytes) (end_of bytes) v.2;
    }

-- ---- the tree of the relation
no-cells : (k : ℕ) (T L : List Bool) → chosen (cells_below k [] T) L ≡ []
no-cells zero T L = refl
no-cells (suc k) T L = no-cells k T L

length-few : (n : ℕ) → n ≤ 1 → length (take n whole) ≡ n
length-few zero l = refl
length-few (suc zero) l = refl
length-few (suc (suc n)) l = absurd (omega (arith, l))

-- the first level is the whole matrix exactly where it has a cell
level-whole : (r : Relation) (S : List Corner) (same : (side : ℕ) (p : Corner) → meets r side p ≡ in_cells S side p) (k n : ℕ) (T L : List Bool) → n ≤ 1
    → S ≡ chosen (cells_below k (take n whole) T) L → Back r S k (take n whole) T L → level r k whole ≡ take n whole
level-whole r S same k zero T L l e b =
    ap (λ t. cond {A = List Corner} t ((0, 0) ∷ []) []) (same (2 ^ suc k) (0, 0) ∙ ap (λ xs. list_any (lies (2 ^ suc k) (0, 0)) xs) (e ∙ no-cells k T L))
level-whole r S same k (suc zero) T L l e b = ap (λ t. cond {A = List Corner} t ((0, 0) ∷ []) []) (same (2 ^ suc k) (0, 0) ∙ b.have.0)
level-whole r S same k (suc (suc n)) T L l e b = absurd (omega (arith, l))

-- ---- bytes of parts
small-take : (n : ℕ) (xs : List ℕ) → AllByRecursion (λ b. b < 256) xs → AllByRecursion (λ b. b < 256) (take n xs)
small-take zero xs h = tt
small-take (suc n) [] h = tt
small-take (suc n) (x ∷ xs) h = (h.0, small-take n xs h.1)

small-drop : (n : ℕ) (xs : List ℕ) → AllByRecursion (λ b. b < 256) xs → AllByRecursion (λ b. b < 256) (drop n xs)
small-drop zero xs h = h
small-drop (suc n) [] h = tt
small-drop (suc n) (x ∷ xs) h = small-drop n xs h.1

small-part : (bytes : List ℕ) (at n : ℕ) → AllByRecursion (λ b. b < 256) bytes → AllByRecursion (λ b. b < 256) (part bytes at n)
small-part bytes at n h = small-take n (drop at bytes) (small-drop at bytes h)

small-at : (xs : List ℕ) → AllByRecursion (λ b. b < 256) xs → (i : ℕ) → get_or xs i 0 < 256
small-at [] h i = omega arith
small-at (x ∷ xs) h zero = h.0
small-at (x ∷ xs) h (suc i) = small-at xs h.1 i

length-part : (bytes : List ℕ) (at n : ℕ) → at + n ≤ length bytes → length (part bytes at n) ≡ n
length-part bytes at n l = length-take-le n (drop at bytes) (omega (arith, l, length-drop at bytes))

module _ (bytes : List ℕ) (small : AllByRecursion (λ b. b < 256) bytes) (none : k2_fault bytes ≡ None) where
  within : AreWithin (fields bytes).rows (fields bytes).cols (pairs_told bytes)
  unfolding pairs_told
  within =
      let f = fields bytes in within-chosen f.rows f.cols f.tree_count (cells_told f) (take f.cell_count f.cells) (passes bytes none).inside

  same-cells : (side : ℕ) (p : Corner) → meets (k2_relation bytes) side p ≡ in_cells (pairs_told bytes) side p
  unfolding k2_relation pairs_told
  same-cells side p =
      let f = fields bytes in any-relation f.rows f.cols (chosen (cells_told f) (take f.cell_count f.cells)) within (lies side p)

  few-cells : (fields bytes).cell_count ≤ 8 * length (part bytes (header_length + bytes_for (fields bytes).tree_count) (bytes_for (fields bytes).cell_count))
  few-cells =
      let f = fields bytes in
      let n = length-part bytes (header_length + bytes_for f.tree_count) (bytes_for f.cell_count) (omega (arith, (passes bytes none).end)) in
      omega (arith, n)

  few-tree : (fields bytes).tree_count ≤ 8 * length (part bytes header_length (bytes_for (fields bytes).tree_count))
  few-tree =
      let f = fields bytes in
      let n = length-part bytes header_length (bytes_for f.tree_count) (omega (arith, (passes bytes none).end)) in
      omega (arith, n)

  length-tree : length (take (fields bytes).tree_count (fields bytes).tree) ≡ (fields bytes).tree_count
  length-tree =
      let f = fields bytes in
      length-take-le f.tree_count f.tree (omega (arith, few-tree, ap length (tree-is bytes), length-unpacked (part bytes header_length (bytes_for f.tree_count))))

  length-cells : length (take (fields bytes).cell_count (fields bytes).cells) ≡ (fields bytes).cell_count
  length-cells =
      let f = fields bytes in
      length-take-le f.cell_count f.cells
      (omega (arith, few-cells, ap length (cells-is bytes), length-unpacked (part bytes (header_length + bytes_for f.tree_count) (bytes_for f.cell_count))))

  -- the bits of the file, from below
  is-back : Back (k2_relation bytes) (pairs_told bytes) ((fields bytes).height - 1) (take (groups_of (fields bytes).tree_count (fields bytes).cell_count) whole)
      (take (fields bytes).tree_count (fields bytes).tree) (take (fields bytes).cell_count (fields bytes).cells)
  unfolding pairs_told cells_told
  is-back =
      let f = fields bytes in
      let w = passes bytes none in
      let groups = groups_of f.tree_count f.cell_count in
      let k = f.height - 1 in
      let T = take f.tree_count f.tree in
      let L = take f.cell_count f.cells in
      let fit : levels_fit k (length (take groups whole)) T (length L) ≡ true =
      ap (λ (n : ℕ). levels_fit k n T (length L)) (length-few groups (groups-few f.tree_count f.cell_count)) ∙ ap (λ (n : ℕ). levels_fit k groups T n) length-cells ∙ w.fit in
      back (k2_relation bytes) (chosen (cells_told f) L) same-cells k (take groups whole) T L 0 (apart-whole (2 ^ suc k) groups) fit w.groups refl

  deep-is : deep (k2_relation bytes) ≡ (fields bytes).height - 1
  deep-is =
      ap (λ (n : ℕ). file_height n (k2_relation bytes).cols - 1) (rows-of bytes) ∙ ap (λ (n : ℕ). file_height (fields bytes).rows n - 1) (cols-of bytes)
      ∙ ap (λ (n : ℕ). n - 1) (sym (passes bytes none).high)

  first-level : level (k2_relation bytes) ((fields bytes).height - 1) whole ≡ take (groups_of (fields bytes).tree_count (fields bytes).cell_count) whole
  unfolding pairs_told cells_told
  first-level =
      let f = fields bytes in
      level-whole (k2_relation bytes) (chosen (cells_told f) (take f.cell_count f.cells)) same-cells (f.height - 1) (groups_of f.tree_count f.cell_count) (take f.tree_count f.tree)
      (take f.cell_count f.cells) (groups-few f.tree_count f.cell_count) refl is-back

  tree-same : tree_part (k2_relation bytes) ≡ take (fields bytes).tree_count (fields bytes).tree
  tree-same = tree-part (k2_relation bytes) ∙ ap (λ (n : ℕ). inner_bits (k2_relation bytes) n whole) deep-is ∙ is-back.tree whole first-level

  cells-same : cell_part (k2_relation bytes) ≡ take (fields bytes).cell_count (fields bytes).cells
  cells-same = cell-part (k2_relation bytes) ∙ ap (λ (n : ℕ). cell_bits (k2_relation bytes) n whole) deep-is ∙ is-back.cells whole first-level

  -- the bytes of the bits
  tree-bytes : packed 0 0 (tree_part (k2_relation bytes)) ≡ part bytes header_length (bytes_for (fields bytes).tree_count)
  tree-bytes =
      let f = fields bytes in
      let p = part bytes header_length (bytes_for f.tree_count) in
      ap (packed 0 0) (tree-same ∙ ap (take f.tree_count) (tree-is bytes))
      ∙ packed-take p f.tree_count (small-part bytes header_length (bytes_for f.tree_count) small)
      (length-part bytes header_length (bytes_for f.tree_count) (omega (arith, (passes bytes none).end)))
      (ap (λ xs. ones (drop f.tree_count xs)) (sym (tree-is bytes)) ∙ (passes bytes none).tree_end)

  cell-bytes : packed 0 0 (cell_part (k2_relation bytes)) ≡ part bytes (header_length + bytes_for (fields bytes).tree_count) (bytes_for (fields bytes).cell_count)
  cell-bytes =
      let f = fields bytes in
      let at = header_length + bytes_for f.tree_count in
      let p = part bytes at (bytes_for f.cell_count) in
      ap (packed 0 0) (cells-same ∙ ap (take f.cell_count) (cells-is bytes))
      ∙ packed-take p f.cell_count (small-part bytes at (bytes_for f.cell_count) small)
      (length-part bytes at (bytes_for f.cell_count) (omega (arith, (passes bytes none).end)))
      (ap (λ xs. ones (drop f.cell_count xs)) (sym (cells-is bytes)) ∙ (passes bytes none).cell_end)

  -- the bytes of the header
  one-byte : (n : ℕ) → n < length bytes → take 1 (drop n bytes) ≡ get_or bytes n 0 ∷ []
  one-byte n l = ap (take 1) (drop_more bytes n 0 l)

  -- the six fields of the header are those of the file: each field is the number in its bytes, and is written as these
  head-same : head (k2_relation bytes) ≡ take 29 bytes
  unfolding head
  head-same =
      let f = fields bytes in
      let w = passes bytes none in
      let q = k2_relation bytes in
      let l = w.long in
      let four : (at : ℕ) → at + 4 ≤ 29 → (n : ℕ) → n ≡ from_be_bytes w32 (part bytes at 4) → to_be_bytes w32 n ≡ part bytes at 4 =
      λ at m n e. be_bytes_4 (part bytes at 4) n (length-part bytes at 4 (omega (arith, m, l))) (small-at (part bytes at 4) (small-part bytes at 4 small)) e in
      let eight : (at : ℕ) → at + 8 ≤ 29 → (n : ℕ) → n ≡ from_be_bytes w64 (part bytes at 8) → to_be_bytes w64 n ≡ part bytes at 8 =
      λ at m n e. be_bytes_8 (part bytes at 8) n (length-part bytes at 8 (omega (arith, m, l))) (small-at (part bytes at 8) (small-part bytes at 8 small)) e in
      let rows : to_be_bytes w32 q.rows ≡ part bytes 4 4 = four 4 (omega arith) q.rows (rows-of bytes ∙ rows-is bytes) in
      let cols : to_be_bytes w32 q.cols ≡ part bytes 8 4 = four 8 (omega arith) q.cols (cols-of bytes ∙ cols-is bytes) in
      let high : file_height q.rows q.cols ≡ get_or bytes 12 0 =
      ap (λ (n : ℕ). file_height n q.cols) (rows-of bytes) ∙ ap (λ (n : ℕ). file_height f.rows n) (cols-of bytes) ∙ sym w.high ∙ height-is bytes in
      let tree : to_be_bytes w64 (length (tree_part q)) ≡ part bytes 13 8 =
      eight 13 (omega arith) (length (tree_part q)) (ap length tree-same ∙ length-tree ∙ tree_count-is bytes) in
      let cells : to_be_bytes w64 (length (cell_part q)) ≡ part bytes 21 8 =
      eight 21 (omega arith) (length (cell_part q)) (ap length cells-same ∙ length-cells ∙ cell_count-is bytes) in
      let byte : file_height q.rows q.cols ∷ [] ≡ part bytes 12 1 = ap (λ (n : ℕ). n ∷ []) high ∙ sym (one-byte 12 (omega (arith, l))) in
      same-six (codes "RVK1") (to_be_bytes w32 q.rows) (to_be_bytes w32 q.cols) (file_height q.rows q.cols ∷ []) (to_be_bytes w64 (length (tree_part q))) (to_be_bytes w64 (length (cell_part q)))
      (sym w.name) rows cols byte tree cells
    where
      same-six : (a b c d e g : List ℕ) → a ≡ take 4 bytes → b ≡ part bytes 4 4 → c ≡ part bytes 8 4 → d ≡ part bytes 12 1 → e ≡ part bytes 13 8 → g ≡ part bytes 21 8
          → a ++ b ++ c ++ d ++ e ++ g ≡ take 29 bytes
      same-six a b c d e g p q s t u v =
          ap (λ xs. xs ++ g) (ap (λ xs. xs ++ e) (ap (λ xs. xs ++ d) (ap (λ xs. xs ++ c) (ap (λ xs. xs ++ b) p ∙ ap (λ ys. take 4 bytes ++ ys) q ∙ sym (take-add 4 4 bytes))
          ∙ ap (λ ys. take 8 bytes ++ ys) s ∙ sym (take-add 8 4 bytes)) ∙ ap (λ ys. take 12 bytes ++ ys) t ∙ sym (take-add 12 1 bytes))
          ∙ ap (λ ys. take 13 bytes ++ ys) u ∙ sym (take-add 13 8 bytes)) ∙ ap (λ ys. take 21 bytes ++ ys) v ∙ sym (take-add 21 8 bytes)

  -- all of them
  pub bytes-same : k2 (k2_relation bytes) ≡ bytes
  bytes-same =
      let f = fields bytes in
      let q = k2_relation bytes in
      let m = bytes_for f.tree_count in
      let n = bytes_for f.cell_count in
      k2-parts q ∙ ap (λ xs. (xs ++ packed 0 0 (tree_part q)) ++ packed 0 0 (cell_part q)) head-same
      ∙ ap (λ xs. (take 29 bytes ++ xs) ++ packed 0 0 (cell_part q)) tree-bytes
      ∙ ap (λ xs. xs ++ packed 0 0 (cell_part q)) (sym (take-add 29 m bytes))
      ∙ ap (λ xs. take (29 + m) bytes ++ xs) cell-bytes ∙ sym (take-add (29 + m) n bytes)
      ∙ take_all (29 + m + n) bytes (omega (arith, (passes bytes none).end))
