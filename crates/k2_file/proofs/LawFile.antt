-- A relation's file has no fault and is read as the relation.
-- 1. Its first 29 bytes are the fields; the bytes of T and of L stand behind.
-- 2. So each field is the number that was written, and the bits are those of the tree.
-- 3. The tests pass, group by group, and the cells that are chosen are the relation's.
use Rattle.std.proofs.Common.{◌≡◌, ◌==◌, ◌&&◌, ◌+◌, ◌-◌, ◌^◌, ◌<◌, ◌≤◌, ℕ, suc, Bool, true, false, cond, List, [], ◌∷◌, ◌++◌, length, map, take, drop, codes, Option, None, refl, sym, ap, ◌∙◌, subst, arith}
use Rattle.std.specs.List.{filter}
use Rattle.std.specs.Int.{w32, w64, to_be_bytes}
use Rattle.std.proofs.lemmas.Bool.{eq-eqb}
use Rattle.std.proofs.lemmas.List.{length-append, take_at, drop_at, take_all, drop-drop, append-nil}
use Rattle.std.proofs.lemmas.Nat.{from_be_bytes-to_be_bytes_4, from_be_bytes-to_be_bytes_8}
use Rattle.rel_model.specs.Relation.{Relation, IsRelation, relation_of, size_limit}
use Rattle.rel_model.specs.Listed.{is_among}
use Rattle.lang_model.specs.Tokens.{same_text}
use Rattle.run_model.specs.declared.outcome.BadFile.TheVariants.{Lengths, ZeroGroup, Outside}
use Rattle.run_model.specs.Files.{Corner, whole, meets, inner_bits, cell_bits, tree_part, cell_part, file_height, packed, unpacked, bytes_for, part, header_length, fields, ones, levels_fit, zero_group, chosen, cells_below, cells_told, cell_outside, unless, found_at, first_of_all, k2, k2_fault, k2_relation}
use Rattle.k2_file.specs.Told.{groups_of, fault_of_levels, header_fault, outside_fault, end_fault, end_of}
use Rattle.k2_file.proofs.ReadFaults.{level_fault, fault-end}
use Rattle.k2_file.proofs.ReadHeader.{rows-is, cols-is, height-is, tree_count-is, cell_count-is, header-good, height-least, height-most}
use Rattle.k2_file.proofs.ReadLevels.{fit-few}
use Rattle.k2_file.proofs.ReadListed.{same-five, tree-is, cells-is, two-end, two-none}
use Rattle.k2_file.proofs.LawBits.{length-packed, ones-packed, take-packed}
use Rattle.k2_file.proofs.LawTree.{level, below, cell-bits, chosen-map, fit-tree, cells-tree, groups-tree}
use Rattle.k2_file.proofs.LawRelation.{outside-tree, relation-tree, height-rows, height-cols, cover-whole, groups-whole}

-- the header of a relation's file
unfoldable pub head : Relation → List ℕ
head r =
    codes "RVK1" ++ to_be_bytes w32 r.rows ++ to_be_bytes w32 r.cols ++ file_height r.rows r.cols ∷ []
    ++ to_be_bytes w64 (length (tree_part r)) ++ to_be_bytes w64 (length (cell_part r))

-- how far the levels of a relation's file go
abbrev pub deep : Relation → ℕ
deep r = file_height r.rows r.cols - 1

pub tree-part : (r : Relation) → tree_part r ≡ inner_bits r (deep r) whole
unfolding tree_part
tree-part r = refl

pub cell-part : (r : Relation) → cell_part r ≡ cell_bits r (deep r) whole
unfolding cell_part
cell-part r = refl

level-few : (b : Bool) → length {A = Corner} (cond b ((0, 0) ∷ []) []) ≤ 1
level-few true = omega arith
level-few false = omega arith

-- the tree has few bits
few-bits : (r : Relation) → length (tree_part r) + length (cell_part r) < 2 ^ 50
few-bits r =
    let h = fit-few (deep r) (length (level r (deep r) whole)) (inner_bits r (deep r) whole) (length (cell_bits r (deep r) whole)) (fit-tree r (deep r) whole)
    (omega (arith, height-least r.rows r.cols, height-most r.rows r.cols)) (level-few (meets r (2 ^ suc (deep r)) (0, 0))) in
    omega (arith, h, ap length (tree-part r), ap length (cell-part r))

-- ---- the parts of the file
pub k2-parts : (r : Relation) → k2 r ≡ (head r ++ packed 0 0 (tree_part r)) ++ packed 0 0 (cell_part r)
unfolding k2 head
k2-parts r = refl

length-head : (r : Relation) → length (head r) ≡ 29
unfolding head
length-head r = refl

length-file : (r : Relation) → length (k2 r) ≡ 29 + bytes_for (length (tree_part r)) + bytes_for (length (cell_part r))
length-file r =
    let p = packed 0 0 (tree_part r) in
    let q = packed 0 0 (cell_part r) in
    omega (arith, ap length (k2-parts r), length-append (head r ++ p) q, length-append (head r) p, length-head r, length-packed (tree_part r), length-packed (cell_part r))

drop-head : (r : Relation) → drop 29 (k2 r) ≡ packed 0 0 (tree_part r) ++ packed 0 0 (cell_part r)
unfolding k2
drop-head r = refl

name-is : (r : Relation) → same_text (take 4 (k2 r)) (codes "RVK1") ≡ true
unfolding k2
name-is r = refl

-- ---- the fields
rows-file : (r : Relation) → r.rows ≤ size_limit → (fields (k2 r)).rows ≡ r.rows
unfolding k2
rows-file r l = rows-is (k2 r) ∙ from_be_bytes-to_be_bytes_4 r.rows (omega (arith, l))

cols-file : (r : Relation) → r.cols ≤ size_limit → (fields (k2 r)).cols ≡ r.cols
unfolding k2
cols-file r l = cols-is (k2 r) ∙ from_be_bytes-to_be_bytes_4 r.cols (omega (arith, l))

height-file : (r : Relation) → (fields (k2 r)).height ≡ file_height r.rows r.cols
unfolding k2
height-file r = height-is (k2 r)

tree_count-file : (r : Relation) → (fields (k2 r)).tree_count ≡ length (tree_part r)
unfolding k2
tree_count-file r = tree_count-is (k2 r) ∙ from_be_bytes-to_be_bytes_8 (length (tree_part r)) (omega (arith, few-bits r))

cell_count-file : (r : Relation) → (fields (k2 r)).cell_count ≡ length (cell_part r)
unfolding k2
cell_count-file r = cell_count-is (k2 r) ∙ from_be_bytes-to_be_bytes_8 (length (cell_part r)) (omega (arith, few-bits r))

tree-file : (r : Relation) → (fields (k2 r)).tree ≡ unpacked (packed 0 0 (tree_part r))
tree-file r =
    let p = packed 0 0 (tree_part r) in
    let q = packed 0 0 (cell_part r) in
    tree-is (k2 r)
    ∙ ap unpacked (ap (λ (n : ℕ). part (k2 r) 29 (bytes_for n)) (tree_count-file r) ∙ ap (take (bytes_for (length (tree_part r)))) (drop-head r)
    ∙ take_at p q (bytes_for (length (tree_part r))) (length-packed (tree_part r)))

cells-file : (r : Relation) → (fields (k2 r)).cells ≡ unpacked (packed 0 0 (cell_part r))
cells-file r =
    let p = packed 0 0 (tree_part r) in
    let q = packed 0 0 (cell_part r) in
    let t = bytes_for (length (tree_part r)) in
    let l = bytes_for (length (cell_part r)) in
    cells-is (k2 r)
    ∙ ap unpacked (ap (λ (n : ℕ). part (k2 r) (29 + bytes_for n) (bytes_for (fields (k2 r)).cell_count)) (tree_count-file r)
    ∙ ap (λ (n : ℕ). part (k2 r) (29 + t) (bytes_for n)) (cell_count-file r)
    ∙ ap (take l) (sym (drop-drop t 29 (k2 r)) ∙ ap (drop t) (drop-head r) ∙ drop_at p q t (length-packed (tree_part r)))
    ∙ take_all l q (omega (arith, length-packed (cell_part r))))

tree-bits : (r : Relation) → take (fields (k2 r)).tree_count (fields (k2 r)).tree ≡ tree_part r
tree-bits r =
    ap (λ (n : ℕ). take n (fields (k2 r)).tree) (tree_count-file r) ∙ ap (take (length (tree_part r))) (tree-file r) ∙ take-packed (tree_part r)

cells-bits : (r : Relation) → take (fields (k2 r)).cell_count (fields (k2 r)).cells ≡ cell_part r
cells-bits r =
    ap (λ (n : ℕ). take n (fields (k2 r)).cells) (cell_count-file r) ∙ ap (take (length (cell_part r))) (cells-file r) ∙ take-packed (cell_part r)

-- ---- the tests
module _ (r : Relation) (v : IsRelation r) (a : r.rows ≤ size_limit) (b : r.cols ≤ size_limit) where
  end-file : end_of (k2 r) ≡ length (k2 r)
  end-file =
      ap (λ (n : ℕ). header_length + bytes_for n + bytes_for (fields (k2 r)).cell_count) (tree_count-file r)
      ∙ ap (λ (n : ℕ). header_length + bytes_for (length (tree_part r)) + bytes_for n) (cell_count-file r) ∙ sym (length-file r)

  header-file : header_fault (k2 r) ≡ None
  header-file =
      header-good (k2 r) (omega (arith, length-file r)) (name-is r) (omega (arith, rows-file r a, a)) (omega (arith, cols-file r b, b))
      (height-file r ∙ sym (ap (λ (n : ℕ). file_height n (fields (k2 r)).cols) (rows-file r a) ∙ ap (λ (n : ℕ). file_height r.rows n) (cols-file r b)))
      (omega (arith, end-file))

  -- the cells that the file tells of
  told-file : cells_told (fields (k2 r)) ≡ below r (deep r) whole
  unfolding cells_told
  told-file =
      let still : deep r ≡ deep r = refl in
      same-five (λ height t l xs ys. cells_below (height - 1) (take (groups_of t l) whole) xs) (height-file r) (tree_count-file r) (cell_count-file r) (tree-bits r) (cells-bits r)
      ∙ same-five (λ height t l xs ys. cells_below (deep r) (take (groups_of t l) whole) xs) still (ap length (tree-part r)) (ap length (cell-part r)) (tree-part r) (cell-part r)
      ∙ ap (λ cs. cells_below (deep r) cs (inner_bits r (deep r) whole)) (groups-whole r (deep r))
      ∙ cells-tree r (deep r) whole

  two-tests : (t : Bool) (z : Option ℕ) → t ≡ true → z ≡ None → first_of_all (unless t Lengths ∷ found_at ZeroGroup z ∷ []) ≡ None
  two-tests t z x y = ap (λ c. first_of_all (unless c Lengths ∷ found_at ZeroGroup z ∷ [])) x ∙ ap (λ o. first_of_all (unless true Lengths ∷ found_at ZeroGroup o ∷ [])) y

  level-length : take (groups_of (length (tree_part r)) (length (cell_part r))) whole ≡ level r (deep r) whole
  level-length =
      ap (λ xs. take (groups_of (length xs) (length (cell_part r))) whole) (tree-part r)
      ∙ ap (λ xs. take (groups_of (length (inner_bits r (deep r) whole)) (length xs)) whole) (cell-part r) ∙ groups-whole r (deep r)

  length-groups : (t : Bool) → length (take (cond t 0 1) whole) ≡ cond t 0 1
  length-groups true = refl
  length-groups false = refl

  -- the levels of the file have no fault: its bits are those of the tree, which fit and have a set bit in each group
  levels-file : level_fault (k2 r) ≡ None
  unfolding level_fault
  levels-file =
      let k = deep r in
      let T = inner_bits r k whole in
      let L = cell_bits r k whole in
      let groups = groups_of (length (tree_part r)) (length (cell_part r)) in
      let count : groups ≡ length (level r k whole) = sym (length-groups ((length (tree_part r) == 0) && (length (cell_part r) == 0))) ∙ ap length level-length in
      let fit : levels_fit k groups (tree_part r) (length (cell_part r)) ≡ true =
      ap (λ (n : ℕ). levels_fit k n (tree_part r) (length (cell_part r))) count
      ∙ ap (λ xs. levels_fit k (length (level r k whole)) xs (length (cell_part r))) (tree-part r)
      ∙ ap (λ xs. levels_fit k (length (level r k whole)) T (length xs)) (cell-part r) ∙ fit-tree r k whole in
      let none : zero_group 0 (tree_part r ++ cell_part r) ≡ None =
      ap (λ xs. zero_group 0 (xs ++ cell_part r)) (tree-part r) ∙ ap (λ xs. zero_group 0 (T ++ xs)) (cell-part r) ∙ groups-tree r k k whole whole in
      same-five (λ height t l xs ys. fault_of_levels height (groups_of t l) xs ys l) (height-file r) (tree_count-file r) (cell_count-file r) (tree-bits r) (cells-bits r)
      ∙ two-tests (levels_fit k groups (tree_part r) (length (cell_part r))) (zero_group 0 (tree_part r ++ cell_part r)) fit none

  cells-map : take (fields (k2 r)).cell_count (fields (k2 r)).cells ≡ map (meets r 1) (below r (deep r) whole)
  cells-map = cells-bits r ∙ cell-part r ∙ cell-bits r (deep r) whole

  outside-file : outside_fault (k2 r) ≡ None
  unfolding outside_fault
  outside-file =
      let f = fields (k2 r) in
      let cs = below r (deep r) whole in
      same-five (λ rows cols t xs ys. found_at Outside (cell_outside rows cols t (cells_told f) ys)) (rows-file r a) (cols-file r b) (tree_count-file r) (tree-bits r) cells-map
      ∙ ap (λ ps. found_at Outside (cell_outside r.rows r.cols (length (tree_part r)) ps (map (meets r 1) cs))) told-file
      ∙ ap (found_at Outside) (outside-tree r.rows r.cols r v.within cs (length (tree_part r)))

  end-good : end_fault (k2 r) ≡ None
  end-good =
      two-end (k2 r) ∙ two-none _ _ _
      (eq-eqb _ 0 (ap (λ (n : ℕ). ones (drop n (fields (k2 r)).tree)) (tree_count-file r) ∙ ap (λ xs. ones (drop (length (tree_part r)) xs)) (tree-file r) ∙ ones-packed (tree_part r)))
      (eq-eqb _ 0 (ap (λ (n : ℕ). ones (drop n (fields (k2 r)).cells)) (cell_count-file r) ∙ ap (λ xs. ones (drop (length (cell_part r)) xs)) (cells-file r) ∙ ones-packed (cell_part r)))
      (eq-eqb (length (k2 r)) (end_of (k2 r)) (sym end-file))

  pub fault-file : k2_fault (k2 r) ≡ None
  fault-file = fault-end (k2 r) header-file levels-file outside-file ∙ end-good

  -- the file is read as the relation: the cells that are chosen are those that have a pair, and they are the places of
  -- the pairs
  pub relation-file : k2_relation (k2 r) ≡ r
  unfolding k2_relation
  relation-file =
      let f = fields (k2 r) in
      let k = deep r in
      let cs = below r k whole in
      let one : suc k ≡ file_height r.rows r.cols = omega (arith, height-least r.rows r.cols) in
      let high : r.rows ≤ 2 ^ suc k = subst (λ (n : ℕ). r.rows ≤ 2 ^ n) (sym one) (height-rows r.rows r.cols a) in
      let wide : r.cols ≤ 2 ^ suc k = subst (λ (n : ℕ). r.cols ≤ 2 ^ n) (sym one) (height-cols r.rows r.cols b) in
      ap (λ ps. relation_of f.rows f.cols (is_among (chosen ps (take f.cell_count f.cells)))) told-file
      ∙ ap (λ xs. relation_of f.rows f.cols (is_among (chosen cs xs))) (cells-map ∙ sym (append-nil (map (meets r 1) cs)))
      ∙ ap (λ ps. relation_of f.rows f.cols (is_among ps)) (chosen-map (meets r 1) cs [])
      ∙ ap (λ (n : ℕ). relation_of n f.cols (is_among (filter (meets r 1) cs))) (rows-file r a)
      ∙ ap (λ (n : ℕ). relation_of r.rows n (is_among (filter (meets r 1) cs))) (cols-file r b)
      ∙ relation-tree r v cs (cover-whole r k v.within high wide)
