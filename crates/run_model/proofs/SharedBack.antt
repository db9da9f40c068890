-- Bytes without a fault are those of their list.
-- 1. Where no test fails, each passes: the listed squares stand at their heights, and each root is a number of its relation's
--    height whose cells lie within the sizes.
-- 2. So the pairs of a relation are those of its root's square, and the visits of the relations are those of the roots.
-- 3. These list the numbers from 2 on, so the squares of the list are the listed ones, in their order.
-- 4. And each part of the file is its bytes again.
use Rattle.std.proofs.Common.{◌≡◌, ◌≤◌, ◌+◌, ◌-◌, ◌*◌, ◌^◌, ◌&&◌, ◌||◌, leb, ltb, eqb, zero, suc, ℕ, Bool, true, false, List, [], ◌∷◌, ◌++◌, map, length, take, drop, codes, Option, Some, None, refl, sym, ap, subst, ◌∙◌, inl, inr, arith, append_assoc, append-nil}
use Rattle.std.specs.Prelude.{slice_index}
use Rattle.std.specs.List.{flat_map, AllByRecursion}
use Rattle.std.specs.Int.{w32, to_be_bytes}
use Rattle.std.specs.Cmp.Lexicographic as texts
use Rattle.std.proofs.lemmas.Bool.{cases_Bool, eqb-true, leb-true, ltb-true, and_parts}
use Rattle.std.proofs.lemmas.List.{length-take-le, length-drop, drop-drop, take-append-drop}
use Rattle.lang_model.specs.Missing.{first_of_both}
use Rattle.lang_model.specs.Tokens.{same_text}
use Rattle.rel_model.specs.Relation.{IsRelation, relation_of, size_limit}
use Rattle.rel_model.specs.Listed.{is_among}
use Rattle.rel_model.specs.Cells.{Cells}
use Rattle.rel_model.specs.Quarters.{LiesWithin}
use Rattle.rel_model.proofs.Pairs.{same_members}
use Rattle.rel_model.proofs.Relations.{IsRelation-relation_of, rows-relation_of, cols-relation_of, has-relation_of}
use Rattle.rel_model.proofs.Rooting.{same_within, lies_within-means}
use Rattle.run_model.specs.declared.outcome.BadFile.{BadFile}
use Rattle.run_model.specs.declared.outcome.BadFile.TheVariants.{Short, Magic, Sizes, Outside, Rest, Quad, Names as BAD_NAMES, Root, Order}
use Rattle.run_model.specs.Files.{file_height, part, unless, found_at}
use Rattle.run_model.specs.SharedFiles.{begins_shared, Quadrant, shared_header, quadrant_count, entry_count, entries_at, quadrants_of, height_at, heights_behind, first_bad, cells_told, NamedRoot, name_length, entry_length, entry_in, entries_in, entries_length, is_word, is_behind, is_root, entry_fault, entries_fault, entries_of, visit_number, visit_roots, first_out, shared_fault, relation_told, shared_relations}
use Rattle.run_model.specs.SharedBytes.{visit, visit_all, squares_of, entry_bytes, shared_file, quarter_bytes, number_in}
use Rattle.run_model.proofs.SharedCells.{among_within, among_pairs, IsNumber, cells_within}
use Rattle.run_model.proofs.SharedVisits.{pairs_at, visited, visited_listed}
use Rattle.run_model.proofs.SharedTable.{height_is, IsTable, table}
use Rattle.run_model.proofs.SharedBytes.{AreBytes, bytes_drop, number_bytes, part_drop, quadrant_bytes, quadrants_bytes, quadrants_count}
use Rattle.run_model.proofs.SharedOrder.{numbers_count, Once, visit_once, height, high, Listed, square, all_numbers, all_squares, exactly, number_is, all_bytes}

-- ---- tests that pass
abbrev fault_count : Option BadFile → ℕ
fault_count None = 0
fault_count (Some f) = 1

pub both_none : (a b : Option BadFile) → first_of_both a b ≡ None → (a ≡ None) × (b ≡ None)
both_none None b h = (refl, h)
both_none (Some x) b h = let e : 1 ≡ 0 = ap fault_count h in absurd (omega (arith, e))

passes : (b : Bool) (f : BadFile) → unless b f ≡ None → b ≡ true
passes true f h = refl
passes false f h = let e : 1 ≡ 0 = ap fault_count h in absurd (omega (arith, e))

not_found : (f : ℕ → BadFile) (o : Option ℕ) → found_at f o ≡ None → o ≡ None
not_found f None h = refl
not_found f (Some at) h = let e : 1 ≡ 0 = ap fault_count h in absurd (omega (arith, e))

-- ---- pairs within sizes and within a square
pub cut_pairs : (rows cols side : ℕ) (f : Cells) → LiesWithin rows cols f → LiesWithin side side f → (relation_of rows cols f).pairs ≡ (relation_of side side f).pairs
cut_pairs rows cols side f v w =
    same_members (relation_of rows cols f).pairs (relation_of side side f).pairs (IsRelation-relation_of rows cols f).increasing (IsRelation-relation_of side side f).increasing
    (λ q. (λ i. (among_cut i) q.0 q.1) ∙ sym (λ i. (among_pairs side f w i) q.0 q.1))
  where
    as_relation : relation_of rows cols f ≡ record { rows = rows; cols = cols; pairs = (relation_of rows cols f).pairs }
    as_relation = λ i. record { rows = rows-relation_of rows cols f i; cols = cols-relation_of rows cols f i; pairs = (relation_of rows cols f).pairs }

    among_cut : is_among (relation_of rows cols f).pairs ≡ f
    among_cut =
        same_within rows cols (is_among (relation_of rows cols f).pairs) f
        (among_within rows cols (relation_of rows cols f).pairs (subst IsRelation as_relation (IsRelation-relation_of rows cols f))) v
        (λ i j a b. has-relation_of rows cols f i j a b)

-- a file's height is not 0
pub some_height : (rows cols : ℕ) → (h : ℕ) × (file_height rows cols ≡ suc h)
unfolding file_height
some_height rows cols = (file_height rows cols - 1, omega arith)

-- ---- named relations
module _ (quads : List Quadrant) (heights : List ℕ) (t : IsTable quads heights) where
  -- what the tests say of a named relation
  pub record IsEntry (e : NamedRoot) : Type 0 where
    pub number : IsNumber quads (file_height e.rows e.cols) e.root
    pub inside : LiesWithin e.rows e.cols (cells_told quads (file_height e.rows e.cols) e.root)

  -- a root that passes its test is a number at its relation's height: it is 0, or one of the listed squares, which
  -- stand at their heights in the table
  pub root_number : (h n : ℕ) → is_root quads heights h n ≡ true → IsNumber quads h n
  root_number h n is = elim (cases_Bool (eqb n 0)) [
    | inl z ↦ subst (IsNumber quads h) (sym (eqb-true n 0 z)) (none h)
    | inr f ↦
        let p = and_parts (leb 2 n && ltb n (length quads + 2)) (eqb (height_at heights n) h) (sym (ap (λ b. b || ((leb 2 n && ltb n (length quads + 2)) && eqb (height_at heights n) h)) f) ∙ is) in
        let q = and_parts (leb 2 n) (ltb n (length quads + 2)) p.0 in
        let low = leb-true 2 n q.0 in
        let up = ltb-true n (length quads + 2) q.1 in
        let two : (n - 2) + 2 ≡ n = omega (arith, low) in
        let s = t.stand (n - 2) (omega (arith, low, up)) in
        let same : suc s.0 ≡ h = sym (height_is quads heights (n - 2) (suc s.0) s.1) ∙ (ap (height_at heights) two ∙ eqb-true (height_at heights n) h p.1) in
        subst (λ z. IsNumber quads z n) same (subst (IsNumber quads (suc s.0)) two s.2)
  ]
    where
      none : (h : ℕ) → IsNumber quads h 0
      none zero = inl refl
      none (suc h) = inl refl

  -- the first named relation of bytes that passes its tests
  entry_passes : (at : ℕ) (earlier : Option (List ℕ)) (xs : List ℕ) → entry_fault quads heights at earlier xs ≡ None →
      (1 ≤ length xs) × (entry_length xs ≤ length xs) × IsEntry (entry_in xs)
  unfolding entry_fault
  entry_passes at earlier xs none =
      let e = entry_in xs in
      let h = file_height e.rows e.cols in
      let r1 = both_none (unless (leb 1 (length xs)) Short) _ none in
      let r2 = both_none (unless (leb 1 (name_length xs) && leb (name_length xs) 64) (BAD_NAMES at)) _ r1.1 in
      let r3 = both_none (unless (leb (entry_length xs) (length xs)) Short) _ r2.1 in
      let r4 = both_none (unless (is_word e.name && is_behind earlier e.name) (BAD_NAMES at)) _ r3.1 in
      let r5 = both_none (unless (leb e.rows size_limit && leb e.cols size_limit) Sizes) _ r4.1 in
      let r6 = both_none (unless (is_root quads heights h e.root) (Root at)) _ r5.1 in
      let r7 = both_none _ None r6.1 in
      let w = cells_within quads h e.root in (
        leb-true 1 (length xs) (passes (leb 1 (length xs)) Short r1.0),
        leb-true (entry_length xs) (length xs) (passes (leb (entry_length xs) (length xs)) Short r3.0),
        record {
          number = root_number h e.root (passes (is_root quads heights h e.root) (Root at) r6.0);
          inside = lies_within-means (2 ^ h) e.rows e.cols (cells_told quads h e.root) (record { row = w.row; col = w.col }) (passes _ (Outside at) r7.0);
        },
      )

  entries_pass : (at : ℕ) (earlier : Option (List ℕ)) (k : ℕ) (xs : List ℕ) → entries_fault quads heights at earlier k xs ≡ None → AllByRecursion IsEntry (entries_in k xs)
  entries_pass at earlier zero xs none = tt
  entries_pass at earlier (suc k) xs none =
      let r = both_none (entry_fault quads heights at earlier xs) _ none in
      ((entry_passes at earlier xs r.0).2, entries_pass (at + 1) (Some (entry_in xs).name) k (drop (entry_length xs) xs) r.1)

  -- the pairs of a relation are those of its root's square
  entry_pairs : (e : NamedRoot) → IsEntry e → (relation_told quads e).1.pairs ≡ pairs_at quads (file_height e.rows e.cols) e.root
  entry_pairs e g =
      cut_pairs e.rows e.cols (2 ^ file_height e.rows e.cols) (cells_told quads (file_height e.rows e.cols) e.root) g.inside (cells_within quads (file_height e.rows e.cols) e.root)

  entry_height : (e : NamedRoot) → file_height (relation_told quads e).1.rows (relation_told quads e).1.cols ≡ file_height e.rows e.cols
  entry_height e =
      let f = cells_told quads (file_height e.rows e.cols) e.root in λ i. file_height (rows-relation_of e.rows e.cols f i) (cols-relation_of e.rows e.cols f i)

  -- ---- visits
  pub roots_listed : (ns : List ℕ) (es : List NamedRoot) → AllByRecursion IsEntry es → AllByRecursion (Listed quads heights t) ns → AllByRecursion (Listed quads heights t) (visit_roots quads ns es)
  roots_listed ns [] g l = l
  roots_listed ns (e ∷ es) g l =
      roots_listed (visit_number quads (file_height e.rows e.cols) e.root ns) es g.1
      (visited_listed quads t.distinct (height quads heights t) (high quads heights t) (file_height e.rows e.cols) e.root g.0.number ns l)

  roots_once : (ns : List ℕ) (es : List NamedRoot) → Once ns → Once (visit_roots quads ns es)
  roots_once ns [] o = o
  roots_once ns (e ∷ es) o =
      roots_once (visit_number quads (file_height e.rows e.cols) e.root ns) es (visit_once quads (file_height e.rows e.cols) e.root ns o)

  pub roots_visited : (ns : List ℕ) (es : List NamedRoot) → AllByRecursion IsEntry es → AllByRecursion (Listed quads heights t) ns →
      visit_all (map (square quads heights t) ns) (map (relation_told quads) es) ≡ map (square quads heights t) (visit_roots quads ns es)
  roots_visited ns [] g l = refl
  roots_visited ns (e ∷ es) g l =
      ap (λ list. visit_all list (map (relation_told quads) es))
      ((λ i. visit (entry_height e i) (entry_pairs e g.0 i) (map (square quads heights t) ns))
      ∙ visited quads t.distinct (height quads heights t) (high quads heights t) (file_height e.rows e.cols) e.root g.0.number ns l)
      ∙ roots_visited (visit_number quads (file_height e.rows e.cols) e.root ns) es g.1
      (visited_listed quads t.distinct (height quads heights t) (high quads heights t) (file_height e.rows e.cols) e.root g.0.number ns l)

  pub squares_are : (es : List NamedRoot) → AllByRecursion IsEntry es → first_out 2 (length quads) (visit_roots quads [] es) ≡ None →
      squares_of (map (relation_told quads) es) ≡ all_squares quads heights t
  unfolding squares_of
  squares_are es g o =
      roots_visited [] es g tt
      ∙ ap (map (square quads heights t)) (exactly quads heights t (visit_roots quads [] es) (roots_once [] es tt) (roots_listed [] es g tt) o)

  -- ---- bytes of named relations
  abbrev entry_text : NamedRoot → List ℕ
  entry_text e = length e.name ∷ (e.name ++ to_be_bytes w32 e.rows ++ to_be_bytes w32 e.cols ++ to_be_bytes w32 e.root)

  entry_told : (e : NamedRoot) → IsEntry e → entry_bytes (all_squares quads heights t) (relation_told quads e) ≡ entry_text e
  entry_told e g =
      let f = cells_told quads (file_height e.rows e.cols) e.root in
      λ i. length e.name
      ∷ (e.name ++ to_be_bytes w32 (rows-relation_of e.rows e.cols f i) ++ to_be_bytes w32 (cols-relation_of e.rows e.cols f i)
      ++ to_be_bytes w32 (((λ j. number_in (all_squares quads heights t) (entry_height e j) (entry_pairs e g j)) ∙ number_is quads heights t (file_height e.rows e.cols) e.root g.number) i))

  first_byte : (xs : List ℕ) → 1 ≤ length xs → slice_index xs 0 ∷ drop 1 xs ≡ xs
  first_byte [] l = absurd (omega (arith, l))
  first_byte (x ∷ xs) l = refl

  -- the name, the sizes and the root of a relation are its bytes again: cut off one behind the
  -- other, they leave what follows
  entry_back : (xs : List ℕ) → AreBytes xs → 1 ≤ length xs → entry_length xs ≤ length xs → entry_text (entry_in xs) ++ drop (entry_length xs) xs ≡ xs
  entry_back xs b one long =
      let l = name_length xs in
      let m = length-drop 1 xs in
      let long' : 1 + l + 12 ≤ length xs = long in
      let name : length (take l (drop 1 xs)) ≡ l = length-take-le l (drop 1 xs) (omega (arith, m, long')) in
      let rows = number_bytes xs (1 + l) b (omega (arith, long')) in
      let cols = number_bytes xs (1 + l + 4) b (omega (arith, long')) in
      let root = number_bytes xs (1 + l + 8) b (omega (arith, long')) in
      let tail : drop (entry_length xs) xs ≡ drop ((1 + l + 8) + 4) xs = ap (λ n. drop n xs) (twelve l) in
      (λ i. name i ∷ ((((take l (drop 1 xs) ++ rows i) ++ cols i) ++ root i) ++ tail i))
      ∙ (ap (λ ys. l ∷ ys)
      (append_assoc ((take l (drop 1 xs) ++ part xs (1 + l) 4) ++ part xs (1 + l + 4) 4) (part xs (1 + l + 8) 4) (drop ((1 + l + 8) + 4) xs)
      ∙ (ap (λ ys. ((take l (drop 1 xs) ++ part xs (1 + l) 4) ++ part xs (1 + l + 4) 4) ++ ys) (part_drop xs (1 + l + 8) 4 ∙ ap (λ n. drop n xs) (eight l))
      ∙ (append_assoc (take l (drop 1 xs) ++ part xs (1 + l) 4) (part xs (1 + l + 4) 4) (drop ((1 + l + 4) + 4) xs)
      ∙ (ap (λ ys. (take l (drop 1 xs) ++ part xs (1 + l) 4) ++ ys) (part_drop xs (1 + l + 4) 4)
      ∙ (append_assoc (take l (drop 1 xs)) (part xs (1 + l) 4) (drop ((1 + l) + 4) xs)
      ∙ (ap (λ ys. take l (drop 1 xs) ++ ys) (part_drop xs (1 + l) 4) ∙ part_drop xs 1 l))))))
      ∙ first_byte xs one)
    where
      twelve : (l : ℕ) → 1 + l + 12 ≡ (1 + l + 8) + 4
      twelve l = omega arith

      eight : (l : ℕ) → 1 + l + 8 ≡ (1 + l + 4) + 4
      eight l = omega arith

  -- by induction on the number of relations: the first one's bytes come back, and the rest follows behind them
  entries_back : (at : ℕ) (earlier : Option (List ℕ)) (k : ℕ) (xs : List ℕ) → AreBytes xs → entries_fault quads heights at earlier k xs ≡ None →
      flat_map (entry_bytes (all_squares quads heights t)) (map (relation_told quads) (entries_in k xs)) ++ drop (entries_length k xs) xs ≡ xs
  entries_back at earlier zero xs b none = refl
  entries_back at earlier (suc k) xs b none =
      let r = both_none (entry_fault quads heights at earlier xs) _ none in
      let p = entry_passes at earlier xs r.0 in
      let n = entry_length xs in
      let more = flat_map (entry_bytes (all_squares quads heights t)) (map (relation_told quads) (entries_in k (drop n xs))) in
      ap (λ ys. (ys ++ more) ++ drop (n + entries_length k (drop n xs)) xs) (entry_told (entry_in xs) p.2)
      ∙ (append_assoc (entry_text (entry_in xs)) more (drop (n + entries_length k (drop n xs)) xs)
      ∙ (ap (λ ys. entry_text (entry_in xs) ++ (more ++ ys)) (sym (drop-drop (entries_length k (drop n xs)) n xs))
      ∙ (ap (λ ys. entry_text (entry_in xs) ++ ys) (entries_back (at + 1) (Some (entry_in xs).name) k (drop n xs) (bytes_drop n xs b) r.1)
      ∙ entry_back xs b p.0 p.1)))

  -- how many there are
  entries_count : (k : ℕ) (xs : List ℕ) → length (map (relation_told quads) (entries_in k xs)) ≡ k
  entries_count zero xs = refl
  entries_count (suc k) xs = ap suc (entries_count k (drop (entry_length xs) xs))

-- ---- the whole file
abbrev no_bytes : List ℕ
no_bytes = []

drop_none : (n : ℕ) → drop n no_bytes ≡ no_bytes
drop_none zero = refl
drop_none (suc n) = refl

drop_all : (n : ℕ) (xs : List ℕ) → length xs ≡ n → drop n xs ≡ []
drop_all n [] e = drop_none n
drop_all zero (x ∷ xs) e = absurd (omega (arith, e))
drop_all (suc n) (x ∷ xs) e = drop_all n xs (omega (arith, e))

pub map_length : {A B : Type 0} (f : A → B) (xs : List A) → length (map f xs) ≡ length xs
map_length f [] = refl
map_length f (x ∷ xs) = ap suc (map_length f xs)

-- bytes that pass all tests are written again as they were: their squares are the listed ones in order, and so header,
-- squares and relations are each their own bytes
pub bytes_of_read : (bytes : List ℕ) → AreBytes bytes → shared_fault bytes ≡ None → shared_file (shared_relations bytes) ≡ bytes
unfolding shared_fault shared_file shared_relations begins_shared quadrants_of entries_of
bytes_of_read bytes b none =
    let q = quadrant_count bytes in
    let k = entry_count bytes in
    let quads = quadrants_of bytes in
    let heights = heights_behind [] quads in
    let rest = drop (entries_at bytes) bytes in
    let es = entries_of bytes in
    let r1 = both_none (unless (same_text (take 4 bytes) (codes "RVK2")) Magic) _ none in
    let r2 = both_none (unless (leb shared_header (length bytes)) Short) _ r1.1 in
    let r3 = both_none (unless (leb (entries_at bytes) (length bytes)) Short) _ r2.1 in
    let r4 = both_none (found_at Quad (first_bad 2 [] [] quads)) _ r3.1 in
    let r5 = both_none (entries_fault quads heights 0 None k rest) _ r4.1 in
    let r6 = both_none (found_at Order (first_out 2 q (visit_roots quads [] es))) _ r5.1 in
    let r7 = both_none (unless (eqb (length rest) (entries_length k rest)) Rest) None r6.1 in
    let magic : take 4 bytes ≡ codes "RVK2" = texts.same_text (take 4 bytes) (codes "RVK2") (sym (passes _ Magic r1.0)) in
    let head = leb-true 12 (length bytes) (passes _ Short r2.0) in
    let long : 12 + 16 * q ≤ length bytes = leb-true (entries_at bytes) (length bytes) (passes _ Short r3.0) in
    let t = table quads (not_found Quad (first_bad 2 [] [] quads) r4.0) in
    let count : length quads ≡ q = quadrants_count q (drop 12 bytes) in
    let good = entries_pass quads heights t 0 None k rest r5.0 in
    let order : first_out 2 (length quads) (visit_roots quads [] es) ≡ None =
    ap (λ n. first_out 2 n (visit_roots quads [] es)) count ∙ not_found Order (first_out 2 q (visit_roots quads [] es)) r6.0 in
    let squares = squares_are quads heights t es good order in
    let many : length (all_squares quads heights t) ≡ q = map_length (square quads heights t) (all_numbers quads heights t) ∙ (numbers_count 2 (length quads) ∙ count) in
    let list = map (relation_told quads) es in
    let end : flat_map (entry_bytes (all_squares quads heights t)) list ≡ rest =
    sym (append-nil (flat_map (entry_bytes (all_squares quads heights t)) list))
    ∙ (ap (λ ys. flat_map (entry_bytes (all_squares quads heights t)) list ++ ys) (sym (drop_all (entries_length k rest) rest (eqb-true (length rest) (entries_length k rest) (passes _ Rest r7.0))))
    ∙ entries_back quads heights t 0 None k rest (bytes_drop (entries_at bytes) bytes b) r5.0) in
    let back : flat_map quadrant_bytes quads ++ rest ≡ drop 12 bytes =
    ap (λ ys. flat_map quadrant_bytes quads ++ ys) (sym (drop-drop (16 * q) 12 bytes))
    ∙ quadrants_bytes q (drop 12 bytes) (bytes_drop 12 bytes b) (let m = length-drop 12 bytes in omega (arith, long, m)) in
    ap (λ sq. ((((codes "RVK2" ++ to_be_bytes w32 (length sq)) ++ to_be_bytes w32 (length list)) ++ flat_map (λ s. quarter_bytes sq s.height s.pairs) sq) ++ flat_map (entry_bytes sq) list)) squares
    ∙ ((λ i.
    (((sym magic i ++ (ap (to_be_bytes w32) many ∙ number_bytes bytes 4 b (omega (arith, head))) i)
    ++ (ap (to_be_bytes w32) (entries_count quads heights t k rest) ∙ number_bytes bytes 8 b (omega (arith, head))) i)
    ++ all_bytes quads heights t i) ++ end i)
    ∙ (append_assoc ((take 4 bytes ++ part bytes 4 4) ++ part bytes 8 4) (flat_map quadrant_bytes quads) rest
    ∙ (ap (λ ys. ((take 4 bytes ++ part bytes 4 4) ++ part bytes 8 4) ++ ys) back
    ∙ (append_assoc (take 4 bytes ++ part bytes 4 4) (part bytes 8 4) (drop 12 bytes)
    ∙ (ap (λ ys. (take 4 bytes ++ part bytes 4 4) ++ ys) (part_drop bytes 8 4)
    ∙ (append_assoc (take 4 bytes) (part bytes 4 4) (drop 8 bytes)
    ∙ (ap (λ ys. take 4 bytes ++ ys) (part_drop bytes 4 4) ∙ take-append-drop 4 bytes)))))))
